-- Laws of what specs/Lists.antt defines. Assumes nothing.
use mathlib.Core.Path.{◌≡◌, refl, sym, ap, ◌∙◌, subst}
use mathlib.Core.Logic.{◌≢◌, inl, inr, ⊎_elim, by_cases}
use mathlib.Core.List.{List}
use mathlib.Core.Bool.{Bool, true, false}
use Prim.Native.Nat.{ℕ, ◌+◌, ◌-◌, ◌*◌, ◌≤◌, ◌<◌, min}
use native.Mathlib.Omega.{arith}
use native.Mathlib.Decide.{dec_lt, ℕ_discrete}
use lib.ListN.{length, get_or, set}
use lib.Seq.{get_or-set_same, get_or-set_other}
use Rattle.std.proofs.Common.{take, drop, length-take, length-drop, get_or-take, get_or-drop}
use lib.Dec.{eqb}
use borrow.Author.Tests.{eqb-true, eq-eqb}
use Rattle.diagram.specs.Rows.{marked, carry, level_to, level_of}
use Rattle.layout.specs.Places.{BITS, LOW, HIGH, LEVEL}
use Rattle.layout.specs.View.{View}
use Rattle.layout.specs.Arrows.{is_row, row_of}
use Rattle.layout.proofs.Arrows.{no_row-leads}
use Rattle.rows.specs.Used.{rows_of}
use Rattle.rows.specs.Sound.{Good}
use Rattle.soundness.specs.Apart.{Half}
use Rattle.soundness.proofs.ApartLaws.{apart-not, half-past, half-here}
use Rattle.soundness.specs.Pairs.{Right, Puts}
use Rattle.soundness.proofs.PairsLaws.{seen_apart, right_puts}
use Rattle.soundness.proofs.Contained.{row_at}
use Rattle.soundness.specs.Lists.{Same, Among, ListApart, Listed, AllListed, Pushed, Told, KeptOne, left_out, put}
use Rattle.soundness.specs.Lists.{KeptOpen, StaysRight, Least, half_by, half_of, Halves, RefsListed}

-- words that are as they were
pub among_same : {list list' : List ℕ} {start stop stop' end a : ℕ} → Same list list' 0 end → stop ≤ end → stop ≤ stop'
    → Among list start stop a → Among list' start stop' a
among_same f h g p = let u = p.hi in
    record { at = p.at; lo = p.lo; hi = omega arith; is = f p.at (omega arith) (omega arith) ∙ p.is }

pub listed_same : {W : View} {l start stop : ℕ} (list list' : List ℕ) → Same list list' start stop → AllListed W l list start stop
    → AllListed W l list' start stop
listed_same list list' f p k lo hi = rw (f k lo hi) (p k lo hi)

pub apart-same : {s start stop b : ℕ} (W : View) (list list' : List ℕ) → Same list list' start stop → ListApart W s list start stop b
    → ListApart W s list' start stop b
apart-same W list list' f p k lo hi = rw (f k lo hi) (p k lo hi)

pub same_back : {start stop : ℕ} (list list' : List ℕ) → Same list list' start stop → Same list' list start stop
same_back list list' f k lo hi = sym (f k lo hi)

pub listed-from : {W : View} {l a : ℕ} → Listed W l a → Listed W 0 a
listed-from p = record { arrow = p.arrow; some = p.some; level = omega arith }

-- as `push` does it
pub pushed_not : {start stop a : ℕ} (list : List ℕ) → (a ≢ 0 → Among list start stop a) → Pushed list list start stop a stop
pushed_not list f = record {
  kept = λ k lo hi. refl;
  least = omega arith;
  most = omega arith;
  new = λ k lo hi. absurd (omega arith);
  stood = f;
}

pub pushed_new : {start stop a : ℕ} (list : List ℕ) → start ≤ stop → stop < length list → a ≢ 0
    → Pushed list (set list stop a) start stop a (stop + 1)
pushed_new {start} {stop} {a} list h g n = record {
  kept = λ k lo hi. get_or-set_other list stop k a 0 (λ e. omega arith);
  least = omega arith;
  most = omega arith;
  new = λ k lo hi. (n, let e : k ≡ stop = omega arith in rw e (get_or-set_same list stop a 0 g));
  stood = λ _. record { at = stop; lo = h; hi = omega arith; is = get_or-set_same list stop a 0 g };
}

-- arrows that are left out: none of none, and one more
pub kept-all : {s b start stop : ℕ} (memo list : List ℕ) → start ≤ stop → KeptOpen memo s b list list start stop stop
kept-all memo list h = record {
  least = h;
  most = omega arith;
  before = λ k lo hi. refl;
  after = λ k lo. refl;
  own = λ k lo hi. record { at = k; lo = lo; hi = hi; is = refl };
  all = λ k lo hi. inr (record { at = k; lo = lo; hi = hi; is = refl });
}

among-more : {list : List ℕ} {start stop a : ℕ} → Among list start stop a → Among list start (stop + 1) a
among-more p = let u = p.hi in record { at = p.at; lo = p.lo; hi = omega arith; is = p.is }

pub kept_more : {memo list₀ list list' : List ℕ} {s b start k m m' a : ℕ} → KeptOpen memo s b list₀ list start k m → start ≤ k
    → k < length list → a ≡ get_or list k 0 → KeptOne (Told memo s a b) list m a list' m' → KeptOpen memo s b list₀ list' start (k + 1) m'
kept_more {memo} {list₀} {list} {s = s} {b} {start} {k} {m} {a = a} p h g e (left_out t) =
    let n = p.most in
    let q : get_or list₀ k 0 ≡ a = sym (p.after k (omega arith)) ∙ sym e in
    record {
      least = p.least;
      most = omega arith;
      before = p.before;
      after = λ j lo. p.after j (omega arith);
      own = λ j lo hi. among-more (p.own j lo hi);
      all = λ j lo hi. by_cases (dec_lt j k) (λ u. p.all j lo u)
          (λ u. let z : j ≡ k = omega arith in inl (rw (z, q) t));
    }
kept_more {memo} {list₀} {list} {s = s} {b} {start} {k} {m} {a = a} p h g e put =
    let n = p.most in
    let n0 = p.least in
    let q : get_or list₀ k 0 ≡ a = sym (p.after k (omega arith)) ∙ sym e in
    let new : get_or (set list m a) m 0 ≡ a = get_or-set_same list m a 0 (omega arith) in
    let old : Same list (set list m a) 0 m = (λ j lo hi. get_or-set_other list m j a 0 (λ z. omega arith)) in
    record {
      least = omega arith;
      most = omega arith;
      before = λ j lo hi. old j lo (omega arith) ∙ p.before j lo hi;
      after = λ j lo. get_or-set_other list m j a 0 (λ z. omega arith) ∙ p.after j (omega arith);
      own = λ j lo hi. by_cases (dec_lt j m)
          (λ u. rw (old j (omega arith) u) (among-more (p.own j lo u)))
          (λ u. let z : j ≡ m = omega arith in rw (z, new) (record { at = k; lo = h; hi = omega arith; is = q }));
      all = λ j lo hi. by_cases (dec_lt j k)
          (λ u. ⊎_elim (λ t. inl t) (λ t. inr (among_same old (omega arith) (omega arith) t)) (p.all j lo u))
          (λ u. let z : j ≡ k = omega arith in inr (rw (z, q) (record { at = m; lo = n0; hi = omega arith; is = new })));
    }

pub kept-done : {memo list list' : List ℕ} {s b start k stop m : ℕ} → KeptOpen memo s b list list' start k m → k ≤ stop → stop ≤ k
    → KeptOpen memo s b list list' start stop m
kept-done {memo} {list} {list'} {s} {b} {start} {k} {stop} {m} p h g =
    let z : k ≡ stop = omega arith in subst (λ (x : ℕ). KeptOpen memo s b list list' start x m) z p

pub kept-listed : {W : View} {l s b start stop r : ℕ} {memo list list' : List ℕ} → KeptOpen memo s b list list' start stop r
    → AllListed W l list start stop → AllListed W l list' start r
kept-listed p f k lo hi = let q = p.own k lo hi in rw (sym q.is) (f q.at q.lo q.hi)

-- a kept list is apart from b where the whole is, and only then
module _ (W : View) {s b start stop r : ℕ} {memo list list' : List ℕ} (p : KeptOpen memo s b list list' start stop r) where
  pub kept-forth : ListApart W s list start stop b → ListApart W s list' start r b
  kept-forth f k lo hi = let q = p.own k lo hi in rw (sym q.is) (f q.at q.lo q.hi)

  pub kept_back : Right (2 * W.header BITS) (rows_of W) s memo → ListApart W s list' start r b → ListApart W s list start stop b
  kept_back x f k lo hi = ⊎_elim
      (λ t. ⊎_elim (λ e. apart-not (2 * W.header BITS) (rows_of W) e.0 e.1) (λ e. seen_apart x e) t)
      (λ q. rw (sym q.is) (f q.at q.lo q.hi))
      (p.all k lo hi)

-- remembered pairs
pub stays-none : {start stop b : ℕ} (list memo : List ℕ) → StaysRight list start stop b memo memo
stays-none list memo = record { right = λ m rows s f r. r }

pub stays-more : {list memo memo₁ memo₂ : List ℕ} {start stop k a b : ℕ} → StaysRight list start stop b memo memo₁ → start ≤ k → k < stop
    → a ≡ get_or list k 0 → Puts memo₁ memo₂ a b → StaysRight list start stop b memo memo₂
stays-more {list} {k = k} p lo hi e u =
    record { right = λ m rows s f r. right_puts (p.right m rows s f r) (rw e (f k lo hi)) u }

-- the least level
pub least-none : {W : View} {list : List ℕ} {start top : ℕ} → Least W list start start top top
least-none = record { most = omega arith; each = λ k lo hi. absurd (omega arith); low = λ l h f. h }

pub least_more : {W : View} {list : List ℕ} {start k top r r' a : ℕ} → Least W list start k top r → start ≤ k → a ≡ get_or list k 0
    → r' ≡ min r (level_of (2 * W.header BITS) (rows_of W) a) → Least W list start (k + 1) top r'
least_more {W} {list} {start} {k} {top} {r} {r'} {a} p h e q =
    let n = p.most in
    let e' : level_of (2 * W.header BITS) (rows_of W) (get_or list k 0) ≡ level_of (2 * W.header BITS) (rows_of W) a =
    ap (level_of (2 * W.header BITS) (rows_of W)) (sym e) in
    record {
      most = omega arith;
      each = λ j lo hi. by_cases (dec_lt j k)
          (λ u. let z = p.each j lo u in omega arith)
          (λ u. let z : k ≡ j = omega arith in
          subst (λ (x : ℕ). r' ≤ level_of (2 * W.header BITS) (rows_of W) (get_or list x 0)) z (omega arith));
      low = λ l g f.
          let z = p.low l g (λ j lo hi. f j lo (omega arith)) in
          let y = (f k h (omega arith)).level in
          omega arith;
    }

pub least-done : {W : View} {list : List ℕ} {start k stop top r : ℕ} → Least W list start k top r → k ≤ stop → stop ≤ k
    → Least W list start stop top r
least-done {W} {list} {start} {k} {stop} {top} {r} p h g =
    let z : k ≡ stop = omega arith in subst (λ (x : ℕ). Least W list start x top r) z p

-- the level of everything is past all others
pub lesser-all : {l a : ℕ} (W : View) → a ≡ 1 → l ≤ 2 * W.header BITS → l ≡ min l (level_of (2 * W.header BITS) (rows_of W) a)
lesser-all {l} {a} W e h =
    let z : level_of (2 * W.header BITS) (rows_of W) a ≡ 2 * W.header BITS = ap (level_of (2 * W.header BITS) (rows_of W)) e in omega arith

-- a half of an arrow
pub half-stays : (W : View) (l k a : ℕ) → is_row a ≡ false → half_of W l k a ≡ a
unfolding half_of
half-stays W l k a e =
    ap (λ (x : Bool). half_by x (eqb (W.cell (row_of a) LEVEL) l) (carry (marked a) (W.cell (row_of a) k)) a) e

pub half-other : (W : View) (l k a : ℕ) → is_row a ≡ true → W.cell (row_of a) LEVEL ≢ l → half_of W l k a ≡ a
unfolding half_of
half-other W l k a e n =
    ap (λ (x : Bool). half_by x (eqb (W.cell (row_of a) LEVEL) l) (carry (marked a) (W.cell (row_of a) k)) a) e
    ∙ ap (λ (x : Bool). half_by true x (carry (marked a) (W.cell (row_of a) k)) a) (by (eqb (W.cell (row_of a) LEVEL) l) refl)
  where
    by : (x : Bool) → eqb (W.cell (row_of a) LEVEL) l ≡ x → eqb (W.cell (row_of a) LEVEL) l ≡ false
    by true q = absurd (n (eqb-true _ _ q))
    by false q = q

pub half_at : (W : View) (l k a : ℕ) → is_row a ≡ true → W.cell (row_of a) LEVEL ≡ l
    → half_of W l k a ≡ carry (marked a) (W.cell (row_of a) k)
unfolding half_of
half_at W l k a e q =
    ap (λ (x : Bool). half_by x (eqb (W.cell (row_of a) LEVEL) l) (carry (marked a) (W.cell (row_of a) k)) a) e
    ∙ ap (λ (x : Bool). half_by true x (carry (marked a) (W.cell (row_of a) k)) a) (eq-eqb _ _ q)

-- as `half` reads it
pub half-read-other : {l i x : ℕ} (W : View) (k a : ℕ) → is_row a ≡ true → i ≡ row_of a → x ≡ W.cell i LEVEL → x ≢ l → a ≡ half_of W l k a
half-read-other {l} W k a e f g n =
    sym (half-other W l k a e (λ q. n (g ∙ ap (λ (j : ℕ). W.cell j LEVEL) f ∙ q)))

pub half-read : {l i x y r : ℕ} (W : View) (k a : ℕ) → is_row a ≡ true → i ≡ row_of a → x ≡ W.cell i LEVEL → x ≡ l → y ≡ W.cell i k
    → r ≡ carry (marked a) y → r ≡ half_of W l k a
half-read {l} W k a e f g h u v =
    v ∙ ap (carry (marked a)) (u ∙ ap (λ (j : ℕ). W.cell j k) f)
    ∙ sym (half_at W l k a e (ap (λ (j : ℕ). W.cell j LEVEL) (sym f) ∙ sym g ∙ h))

pub half_is : {W : View} {l a : ℕ} → Good W → l < 2 * W.header BITS → Listed W l a
    → Half (2 * W.header BITS) (rows_of W) 0 l a (half_of W l LOW a) (half_of W l HIGH a)
half_is {W} {l} {a} g h p = by (is_row a) refl
  where
    by : (x : Bool) → is_row a ≡ x → Half (2 * W.header BITS) (rows_of W) 0 l a (half_of W l LOW a) (half_of W l HIGH a)
    by false e =
        let z : level_of (2 * W.header BITS) (rows_of W) a ≡ 2 * W.header BITS =
        ap (level_to (2 * W.header BITS) (rows_of W)) (no_row-leads a e) in
        rw (half-stays W l LOW a e, half-stays W l HIGH a e) (half-past g.rows 0 l a p.arrow (omega arith))
    by true e =
        let r = row_at W a g p.arrow e in
        let z = r.level in
        let y = p.level in
        by_cases (ℕ_discrete (W.cell (row_of a) LEVEL) l)
        (λ q. rw (half_at W l LOW a e q, half_at W l HIGH a e q)
        (half-here g.rows 0 l a (row_of a) r.leads r.used (omega arith)))
        (λ n. rw (half-other W l LOW a e n, half-other W l HIGH a e n)
        (half-past g.rows 0 l a p.arrow (omega arith)))

-- the halves of a list: of none, and of one more
pub halves-none : {W : View} {l k start into end : ℕ} (list : List ℕ) → Halves W l k list list start start into end end
halves-none list = record {
  kept = λ j lo hi. refl;
  least = omega arith;
  most = omega arith;
  new = λ j lo hi. absurd (omega arith);
  stood = λ i lo hi. absurd (omega arith);
}

pub halves-more : {W : View} {l k start i into end stop stop' a h : ℕ} {list₀ list list' : List ℕ}
    → Halves W l k list₀ list start i into end stop → start ≤ i → i < end → a ≡ get_or list i 0 → h ≡ half_of W l k a
    → Pushed list list' into stop h stop' → Halves W l k list₀ list' start (i + 1) into end stop'
halves-more {W} {l} {k} {start} {i} {into} {end} {stop} {stop'} {a} {h} {list₀} {list} {list'} p lt u e f q =
    let n = p.least in
    let n1 = p.most in
    let m = q.least in
    let m1 = q.most in
    let z : h ≡ half_of W l k (get_or list₀ i 0) = f ∙ ap (half_of W l k) (e ∙ p.kept i (omega arith) u) in
    record {
      kept = λ j lo hi. q.kept j lo (omega arith) ∙ p.kept j lo hi;
      least = omega arith;
      most = omega arith;
      new = λ j lo hi. by_cases (dec_lt j stop)
          (λ y. let w = p.new j lo y in let o = w.1 in rw (q.kept j (omega arith) y) (
            w.0,
            record { at = o.at; lo = o.lo; hi = (let x = o.hi in omega arith); is = o.is },
          ))
          (λ y. let w = q.new j (omega arith) hi in rw w.1 (w.0, record { at = i; lo = lt; hi = omega arith; is = z }));
      stood = λ j lo hi. by_cases (dec_lt j i)
          (λ y d. among_same q.kept (omega arith) m (p.stood j lo y d))
          (λ y. let x : i ≡ j = omega arith in
          subst (λ (t : ℕ). t ≢ 0 → Among list' into stop' t) (z ∙ ap (λ (t : ℕ). half_of W l k (get_or list₀ t 0)) x) q.stood);
    }

pub halves-listed : {W : View} {l k start i into end r stop : ℕ} {list list' : List ℕ} → Halves W l k list list' start i into end r
    → AllListed W l list start stop → start ≤ i → i < stop → stop ≤ end → Listed W 0 (get_or list' i 0)
halves-listed {i = i} p f lo hi h = rw (p.kept i (omega arith) (omega arith)) (listed-from (f i lo hi))

pub halves-done : {W : View} {l k start i stop into end r : ℕ} {list list' : List ℕ} → Halves W l k list list' start i into end r
    → i ≤ stop → stop ≤ i → Halves W l k list list' start stop into end r
halves-done {W} {l} {k} {start} {i} {stop} {into} {end} {r} {list} {list'} p h g =
    let z : i ≡ stop = omega arith in subst (λ (x : ℕ). Halves W l k list list' start x into end r) z p

-- the arrows of roots: of none, and of one more
pub refs-none : {start : ℕ} (head : ℕ → ℕ) (list : List ℕ) → RefsListed head list start start 0
refs-none head list =
    record { most = omega arith; own = λ k hi. absurd (omega arith); all = λ h lo hi. absurd (omega arith) }

pub refs-more : {start k r r' x : ℕ} {list list' : List ℕ} (head : ℕ → ℕ) → RefsListed head list start k r → start ≤ k → x ≡ head k
    → Pushed list list' 0 r (x - 1) r' → RefsListed head list' start (k + 1) r'
refs-more {start} {k} {r} {r'} {x} {list} {list'} head p lt e q =
    let n = p.most in
    let m = q.least in
    let m1 = q.most in
    record {
      most = omega arith;
      own = λ j hi. by_cases (dec_lt j r)
          (λ y. let w = p.own j y in let o = w.1 in rw (q.kept j (omega arith) y) (
            w.0,
            record { at = o.at; lo = o.lo; hi = (let u = o.hi in omega arith); is = o.is },
          ))
          (λ y. let w = q.new j (omega arith) hi in
          let w0 = w.0 in
          rw w.1 (w.0, record { at = k; lo = lt; hi = omega arith; is = omega arith }));
      all = λ h lo hi. by_cases (dec_lt h k)
          (λ y d. among_same q.kept (omega arith) m (p.all h lo y d))
          (λ y. let u : k ≡ h = omega arith in
          subst (λ (t : ℕ). t - 1 ≢ 0 → Among list' 0 r' (t - 1)) (e ∙ ap head u) q.stood);
    }

pub refs-done : {start k stop r : ℕ} {list : List ℕ} (head : ℕ → ℕ) → RefsListed head list start k r → k ≤ stop → stop ≤ k
    → RefsListed head list start stop r
refs-done {start} {k} {stop} {r} {list} head p h g =
    let z : k ≡ stop = omega arith in subst (λ (x : ℕ). RefsListed head list start x r) z p

-- an element of a part of a list
pub part-at : {i : ℕ} (from to : ℕ) (list : List ℕ) → i < length (take (to - from) (drop from list)) → (from + i < to)
    × (get_or (take (to - from) (drop from list)) i 0 ≡ get_or list (from + i) 0)
part-at {i} from to list h =
    let z = length-take (to - from) (drop from list) in
    let l : i < to - from = omega arith in
    (omega arith, get_or-take (to - from) (drop from list) i 0 l ∙ get_or-drop from list i 0)

-- its length
pub part-size : {from to : ℕ} (list : List ℕ) → from ≤ to → to ≤ length list → from + length (take (to - from) (drop from list)) ≡ to
part-size {from} {to} list h l =
    let z = length-take (to - from) (drop from list) in
    let y = length-drop from list in omega arith
