-- Laws of what specs/Contained.antt defines. Assumes nothing.
use mathlib.Core.Path.{◌≡◌, refl, sym, ap, ◌∙◌, subst, fun_ext}
use mathlib.Core.Logic.{◌≢◌, by_cases}
use mathlib.Core.List.Memᴰ.{head as here}
use mathlib.Core.List.{List, [], ◌∷◌}
use mathlib.Core.Bool.{Bool, true, false, not, true≢false}
use Prim.Native.Nat.{ℕ, suc, ◌+◌, ◌-◌, ◌*◌, ◌≤◌, ◌<◌, min}
use native.Mathlib.Omega.{arith}
use native.Mathlib.Decide.{dec_lt, ℕ_discrete}
use lib.ListN.{length, replicate, length-replicate}
use Rattle.diagram.specs.Level.{Val, upd}
use Rattle.diagram.proofs.Level.{upd_same, upd_other}
use Rattle.diagram.specs.Rows.{Rows, marked, Leads, flip, carry, Arrow, level_of, den}
use Rattle.diagram.proofs.Rows.{leads-used, leads-level, carry_arrow}
use Rattle.diagram.proofs.Den.{den-flip}
use Rattle.diagram.proofs.Canon.{not-false}
use Rattle.diagram.specs.Steps.{shift_f}
use Rattle.diagram.specs.Even.{ReadsOn, even}
use Rattle.diagram.proofs.Even.{reads_levels}
use Rattle.diagram.specs.Reach.{Reach}
use Rattle.diagram.proofs.Reach.{reached_root}
use Rattle.layout.specs.Places.{BITS, USED, VALID, FIRST_REGISTER, FIRST_RELATION, ROOTS_END, LOW, HIGH, LEVEL}
use Rattle.layout.specs.View.{View}
use Rattle.layout.specs.Arrows.{is_row, row_of}
use Rattle.layout.proofs.Arrows.{row_is, row-yes}
use Rattle.rows.specs.Used.{rows_of}
use Rattle.rows.specs.Says.{Says, holds, fails}
use Rattle.rows.proofs.Says.{says_map}
use Rattle.rows.specs.Within.{den_of, valid_of, Within}
use Rattle.rows.specs.Sound.{Good, EvenSets}
use Rattle.soundness.specs.Apart.{lift, Apart, Half}
use Rattle.soundness.proofs.ApartLaws.{lift-none, half-past, half-here}
use Rattle.rows.specs.Roots.{Ref}
use Rattle.rows.proofs.Roots.{ref-arrow}
use Rattle.soundness.specs.Tables.{SETS, Known, Sets}
use Rattle.soundness.proofs.TablesLaws.{known-none, sets-none}
use Rattle.soundness.specs.Contained.{AllApart, Lists, Asks, Against, Tells, Deep, RootsPre, RefsPre, PassPre, Halved}

-- a row that an arrow leads to
pub record RowAt (W : View) (a : ℕ) : Type 0 where
  pub leads : Leads a (row_of a)
  pub used : (rows_of W).used (row_of a) ≡ true
  pub row : row_of a < W.rows
  pub level : level_of (2 * W.header BITS) (rows_of W) a ≡ W.cell (row_of a) LEVEL
  pub shallow : W.cell (row_of a) LEVEL < 2 * W.header BITS

pub row_at : (W : View) (a : ℕ) → Good W → Arrow (rows_of W) a → is_row a ≡ true → RowAt W a
row_at W a f u t =
    let l = row_is a t in
    let o = leads-used (rows_of W) a (row_of a) l u in
    record {
      leads = l;
      used = o;
      row = f.rows.bounded (row_of a) o;
      level = leads-level (2 * W.header BITS) (rows_of W) a (row_of a) l;
      shallow = (f.rows.ok (row_of a) o).shallow;
    }

pub is_row_lem : (a : ℕ) → a ≢ 0 → a ≢ 1 → is_row a ≡ true
is_row_lem a n k = row-yes a (omega arith)

-- halves as `halve` gives them
module _ {W : View} (f : Good W) {s l a own other lo hi : ℕ} (r : RowAt W a) (u : Arrow (rows_of W) a)
    (e : own ≡ W.cell (row_of a) LEVEL + s)
    (h : Halved (rows_of W) a own other lo hi) (q : l ≡ min own other) where
  pub half_of_lem : Half (2 * W.header BITS) (rows_of W) s l a lo hi
  half_of_lem = by_cases (dec_lt other own)
      (λ g. let p = h.past g in let z = r.level in rw (p.0, p.1) (half-past f.rows s l a u (omega arith)))
      (λ g. let p = h.here (omega arith) in rw (p.0, p.1) (half-here f.rows s l a (row_of a) r.leads r.used (omega arith)))

-- a half of a set of states reads even levels too
module _ {m s l b b0 b1 : ℕ} {rows : Rows} (x : Half m rows s l b b0 b1) (r : ReadsOn even (den m rows b)) where
  abbrev put : Bool → Val → Val
  put c v = lift s (upd (λ k. v (k - s)) l c)

  back : (v : Val) → lift s (λ k. v (k - s)) ≡ v
  back v = fun_ext (λ k. ap v (let z : (k + s) - s ≡ k = omega arith in z))

  put_same : (c : Bool) (v w : Val) → ((k : ℕ) → even k ≡ true → v k ≡ w k) → (k : ℕ) → even k ≡ true → put c v k ≡ put c w k
  put_same c v w h k e = by_cases (ℕ_discrete (k + s) l)
      (λ q. subst (λ (j : ℕ). upd (λ i. v (i - s)) l c j ≡ upd (λ i. w (i - s)) l c j) (sym q)
      (upd_same (λ i. v (i - s)) l c ∙ sym (upd_same (λ i. w (i - s)) l c)))
      (λ n. let z : (k + s) - s ≡ k = omega arith in
      upd_other (λ i. v (i - s)) l c (k + s) n ∙ ap v z ∙ h k e ∙ ap w (sym z) ∙ sym (upd_other (λ i. w (i - s)) l c (k + s) n))

  pub low_reads : ReadsOn even (den m rows b0)
  low_reads v w h =
      ap (den m rows b0) (sym (back v)) ∙ sym (x.low-is (λ k. v (k - s))) ∙ r (put false v) (put false w) (put_same false v w h)
      ∙ x.low-is (λ k. w (k - s)) ∙ ap (den m rows b0) (back w)

  pub high_reads : ReadsOn even (den m rows b1)
  high_reads v w h =
      ap (den m rows b1) (sym (back v)) ∙ sym (x.high_is (λ k. v (k - s))) ∙ r (put true v) (put true w) (put_same true v w h)
      ∙ x.high_is (λ k. w (k - s)) ∙ ap (den m rows b1) (back w)

-- lists of the same lengths with right tables
pub lists-on : {W : View} {s base : ℕ} {xs ys xs' ys' : List ℕ} → Lists W s base xs ys → length xs' ≡ length xs → length ys' ≡ length ys
    → Known W base s 0 xs' → Sets W base s ys' → Lists W s base xs' ys'
lists-on l ex ey f g = record {
  last = l.last;
  room = let r = l.room in let r0 = r.0 in let r1 = r.1 in (omega arith, ey ∙ r1);
  first = f;
  second = g;
}

pub asks-on : {W : View} {s base : ℕ} {memo memo' xs ys xs' ys' : List ℕ} {P : Type 0} {r : Bool} → Asks W s base memo xs ys
    → length memo' ≡ length memo → length xs' ≡ length xs
    → length ys' ≡ length ys → Tells W s base memo' xs' ys' P r → Asks W s base memo' xs' ys'
asks-on k e ex ey t =
    record {
      good = k.good;
      shift = k.shift;
      size = e ∙ k.size;
      right = t.right;
      lists = lists-on k.lists ex ey t.first t.second;
    }

-- an answer with the pairs and tables as they were, and one by tables
pub told : {W : View} {s base : ℕ} {memo xs ys : List ℕ} {P : Type 0} {r : Bool} → Asks W s base memo xs ys → Says P r
    → Tells W s base memo xs ys P r
told k p = record { says = p; right = k.right; first = k.lists.first; second = k.lists.second }

-- the level as `deep` and `top_of` read it
pub level-read : {i l : ℕ} (W : View) (b : ℕ) → Good W → Arrow (rows_of W) b → is_row b ≡ true → i ≡ row_of b → l ≡ W.cell i LEVEL
    → l ≡ level_of (2 * W.header BITS) (rows_of W) b
level-read W b g u t e f = f ∙ ap (λ (k : ℕ). W.cell k LEVEL) e ∙ sym (row_at W b g u t).level

pub deep-yes : {base l : ℕ} (W : View) (b : ℕ) → l ≡ level_of (2 * W.header BITS) (rows_of W) b → base ≤ l → Says (Deep W base b) true
deep-yes W b e h = holds (record { level = omega arith })

pub deep-no : {base l : ℕ} (W : View) (b : ℕ) → l ≡ level_of (2 * W.header BITS) (rows_of W) b → l < base → Says (Deep W base b) false
deep-no W b e h = fails (λ d. let z = d.level in omega arith)

-- tables of V's arrows, none yet, beside those of rows
pub lists-new : {W : View} {s start stop b base : ℕ} {xs : List ℕ} → RefsPre W s start stop b xs → base ≡ 2 * W.header BITS - 10
    → Lists W s base xs (replicate SETS 0)
lists-new {W} {s} {xs = xs} p e = record {
  last = e;
  room = (p.room, length-replicate {A = ℕ} SETS 0);
  first = rw e p.first;
  second = sets-none SETS W;
}

-- a list of zeros has no wrong table of a row
pub refs-asked : {W : View} {s start stop b : ℕ} (n : ℕ) → RootsPre W s start stop b → W.header USED ≤ n
    → RefsPre W s start stop b (replicate n 0)
refs-asked {W} n p h =
    record { roots = p; room = let z = length-replicate {A = ℕ} n 0 in omega arith; first = known-none n W }

-- an arrow with even levels only, and NOT of it
pub against_of : (W : View) (v : ℕ) → Arrow (rows_of W) v → ((i : ℕ) → Reach (rows_of W) (v ∷ []) i → even ((rows_of W).level i) ≡ true)
    → Against W v
against_of W v u e =
    record {
      arrow = u;
      reads = reads_levels (rows_of W) even (v ∷ []) e (2 * W.header BITS) v (reached_root (rows_of W) (v ∷ []) v (here refl));
    }

-- V's, where its root is no 0
pub against-root : (W : View) → W.header VALID ≢ 0 → ((h : ℕ) → VALID ≤ h → h < ROOTS_END → Ref (rows_of W) (W.header h)) → EvenSets W
    → Against W (valid_of W)
against-root W n u e = against_of W (valid_of W) (ref-arrow (rows_of W) (W.header VALID) n (u VALID (omega arith) (omega arith)))
    (e VALID (omega arith) (omega arith) (valid_of W) (let z : W.header VALID ≡ suc (valid_of W) = omega arith in z))

pub against-not : (W : View) (v : ℕ) → Against W v → Against W (flip v)
against-not W v g = record {
  arrow = carry_arrow (rows_of W) true v g.arrow;
  reads =
      λ x y h. den-flip (2 * W.header BITS) (rows_of W) v x ∙ ap not (g.reads x y h) ∙ sym (den-flip (2 * W.header BITS) (rows_of W) v y);
}

-- what each of the two passes asks, for NOT V
pub roots-not : {W : View} {v s start : ℕ} → PassPre W v → s ≤ 1 → FIRST_REGISTER ≤ start → start ≤ ROOTS_END
    → RootsPre W s start ROOTS_END (flip v)
roots-not {W} {v} p h lo hi = record {
  good = p.good;
  shift = h;
  against = against-not W v p.against;
  order = hi;
  some = omega arith;
  within = omega arith;
  refs = λ k a b. p.refs k (omega arith) b;
}

-- as `halve` gives them
pub halved_here : {own other i x y lo hi : ℕ} (W : View) (a : ℕ) → own ≤ other → i ≡ row_of a → x ≡ W.cell i LOW → y ≡ W.cell i HIGH
    → lo ≡ carry (marked a) x → hi ≡ carry (marked a) y → Halved (rows_of W) a own other lo hi
halved_here W a h e ex ey el eh = record {
  here = λ _. (
    el ∙ ap (carry (marked a)) (ex ∙ ap (λ (k : ℕ). W.cell k LOW) e),
    eh ∙ ap (carry (marked a)) (ey ∙ ap (λ (k : ℕ). W.cell k HIGH) e),
  );
  past = λ g. absurd (omega arith);
}

-- within V is apart from NOT V
module _ (W : View) (v a : ℕ) where
  pub apart-within : Apart (2 * W.header BITS) (rows_of W) 0 a (flip v) → (x : Val) → den_of W a x ≡ true → den_of W v x ≡ true
  apart-within p x g =
      not-false _ (λ e. p.none x g (ap (den_of W (flip v)) (lift-none x) ∙ den-flip (2 * W.header BITS) (rows_of W) v x ∙ ap not e))

  pub within-apart : ((x : Val) → den_of W a x ≡ true → den_of W v x ≡ true) → Apart (2 * W.header BITS) (rows_of W) 0 a (flip v)
  within-apart f =
      record {
        none = λ x g h. true≢false
            (sym h ∙ ap (den_of W (flip v)) (lift-none x) ∙ den-flip (2 * W.header BITS) (rows_of W) v x ∙ ap not (f x g));
      }

  one_up : (x : Val) → lift 1 x ≡ (λ l. x (suc l))
  one_up x = fun_ext λ l. ap x (let e : l + 1 ≡ suc l = omega arith in e)

  pub apart-shifted : Apart (2 * W.header BITS) (rows_of W) 1 a (flip v) → (x : Val) → den_of W a x ≡ true → shift_f (den_of W v) x ≡ true
  apart-shifted p x g =
      not-false _
      (λ e. p.none x g (ap (den_of W (flip v)) (one_up x) ∙ den-flip (2 * W.header BITS) (rows_of W) v (λ l. x (suc l)) ∙ ap not e))

  pub shifted-apart : ((x : Val) → den_of W a x ≡ true → shift_f (den_of W v) x ≡ true) → Apart (2 * W.header BITS) (rows_of W) 1 a (flip v)
  shifted-apart f =
      record {
        none = λ x g h. true≢false
            (sym h ∙ ap (den_of W (flip v)) (one_up x) ∙ den-flip (2 * W.header BITS) (rows_of W) v (λ l. x (suc l)) ∙ ap not (f x g));
      }

-- the two passes decide it
module _ (W : View) (v : ℕ) where
  pub within_of : AllApart W 0 FIRST_REGISTER ROOTS_END (flip v) → AllApart W 1 FIRST_RELATION ROOTS_END (flip v) → Within W v
  within_of p q =
      record { roots = λ h lo hi a e. apart-within W v a (p h lo hi a e); shifted = λ h lo hi a e. apart-shifted W v a (q h lo hi a e) }

  pub of_roots : Within W v → AllApart W 0 FIRST_REGISTER ROOTS_END (flip v)
  of_roots w h lo hi a e = within-apart W v a (w.roots h lo hi a e)

  pub of_shifted : Within W v → AllApart W 1 FIRST_RELATION ROOTS_END (flip v)
  of_shifted w h lo hi a e = shifted-apart W v a (w.shifted h lo hi a e)

  pub both_tell : {r : Bool} → Says (AllApart W 0 FIRST_REGISTER ROOTS_END (flip v) × AllApart W 1 FIRST_RELATION ROOTS_END (flip v)) r
      → Says (Within W v) r
  both_tell = says_map (λ q. within_of q.0 q.1) (λ q. (of_roots q, of_shifted q))
