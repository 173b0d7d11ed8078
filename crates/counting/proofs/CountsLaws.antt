-- Laws of what specs/Counts.antt defines. Assumes nothing.
use mathlib.Core.Path.{◌≡◌, refl, sym, ap, ◌∙◌, subst}
use mathlib.Core.Logic.{inl, inr, ⊎_elim, by_cases}
use mathlib.Core.List.Memᴰ.{append_cases}
use mathlib.Core.List.Memᴰ.{append_left}
use mathlib.Core.List.{List, Memᴰ as Mem}
use mathlib.Core.List.Memᴰ.{append_right}
use Prim.Native.Nat.{ℕ, zero, suc, ◌+◌, ◌*◌, ◌/◌, ◌%◌, ◌^◌, ◌≤◌, ◌<◌}
use native.Mathlib.Decide.{dec_lt}
use native.Mathlib.Omega.{arith}
use native.Mathlib.Nat.{zero-div}
use borrow.Author.Tests.{eqb-true}
use lib.ListN.{length, get_or, set, take, length-set, get_or-eq_default}
use lib.Dec.{eqb}
use lib.Seq.{length-take-le, take-set-le, take-take, get_or-take}
use Rattle.diagram.specs.Rows.{target, Arrow, Extends}
use Rattle.diagram.proofs.Count.{pigeonhole}
use Rattle.diagram.specs.Reach.{Reach}
use Rattle.diagram.proofs.Reach.{ReachedTo, reached_root, reached_low, reached_high, reach-on, reach-used, one-root}
use Rattle.diagram.specs.Keep.{Keeps}
use Rattle.diagram.proofs.Keep.{keeps_reach, keeps_reach_back, reach-within, extends_keeps}
use Rattle.diagram.specs.Sizes.{Reaches, Outside}
use Rattle.diagram.proofs.Sizes.{reaches_need, reaches_keeps, reaches_more}
use Rattle.layout.specs.Places.{MAX_ROWS}
use Rattle.layout.specs.View.{View}
use Rattle.rows.specs.Used.{rows_of}
use Rattle.rows.specs.Bits.{MARK_WORDS, is_on, On}
use Rattle.rows.specs.Mark.{Base, OnTo, OnArrow, Closed}
use Rattle.rows.proofs.MarkLaws.{on_arrow_le, closed-reach}
use Rattle.rows.specs.Sound.{Sound}
use Rattle.rows.specs.Filled.{filled}
use Rattle.rows.proofs.Filled.{filled-arrow}
use Rattle.collect.specs.Lent.{live}
use Rattle.operations.specs.Work.{OpFrame}
use Rattle.steps.proofs.Steps.{filled-same}
use Rattle.counting.specs.News.{MarksNew, ListNew}
use Rattle.counting.specs.Sizes.{SIZES, place_of, Remembered, put_size}
use Rattle.counting.proofs.Sizes.{remembered_none, remembered_extends, remembered_put}
use Rattle.counting.specs.Counts.{COUNT_WORDS, NUMBER, marks_of, need_of, BaseOf, CountsOf, LiveMarked, Beside, Emptied, MarkRoom}

-- so the number is what registers and relations need
pub number-need : {W : View} {c : List ℕ} → Sound W → BaseOf W c → get_or c NUMBER 0 ≡ need_of W (filled W)
number-need s p = reaches_need s.good.rows (filled-arrow s) p.number

-- rows that are reached are no more than a table may have
pub reaches_le : {W : View} {roots : List ℕ} {n : ℕ} → Sound W → ((a : ℕ) → Mem a roots → Arrow (rows_of W) a) → Reaches (rows_of W) roots n
    → n ≤ MAX_ROWS
reaches_le {W} {roots} s arrows r =
    let l = pigeonhole W.rows r.list r.once (λ i h. s.good.rows.bounded i (reach-used s.good.rows arrows (r.only i h))) in
    let e = r.count in
    let z = s.good.sizes.N-max in
    omega (arith, l, e, z)

pub number-le : {W : View} {c : List ℕ} → Sound W → BaseOf W c → get_or c NUMBER 0 ≤ MAX_ROWS
number-le s p = reaches_le s (filled-arrow s) p.number

-- a mark, as it is read from all the words
pub mark-read : (c : List ℕ) (i : ℕ) → i < MAX_ROWS → is_on (marks_of c) i ≡ is_on c i
unfolding marks_of is_on
mark-read c i l = ap (λ (w : ℕ). eqb (w / 2 ^ (i % 32) % 2) 1) (get_or-take MARK_WORDS c (i / 32) 0 (omega arith))

-- the base stays right while registers and relations stay, with what they reach
pub base_keeps : {W X : View} {c : List ℕ} → OpFrame W X → Keeps (rows_of W) (rows_of X) (filled W) → BaseOf W c → BaseOf X c
base_keeps {W} {X} {c} f k p =
    let e : filled W ≡ filled X = sym (filled-same f) in
    record {
      size = p.size;
      only = λ i o. subst (λ (xs : List ℕ). Reach (rows_of X) xs i) e (keeps_reach k (p.only i o));
      all = λ i r. p.all i (keeps_reach_back k (subst (λ (xs : List ℕ). Reach (rows_of X) xs i) (sym e) r));
      number = subst (λ (xs : List ℕ). Reaches (rows_of X) xs (get_or c NUMBER 0)) e (reaches_keeps k p.number);
    }

-- all of it while rows are only added
pub counts_extends : {W X : View} {c : List ℕ} → Sound W → OpFrame W X → Extends (rows_of W) (rows_of X) → CountsOf W c → CountsOf X c
counts_extends {W} {X} {c} s f e p = record {
  base = base_keeps f (extends_keeps s.good.rows (filled-arrow s) e) p.base;
  sizes =
      subst (λ (xs : List ℕ). Remembered (rows_of X) xs c) (sym (filled-same f))
      (remembered_extends s.good.rows e (filled-arrow s) p.sizes);
}

pub base-beside : {W : View} {c d : List ℕ} → Beside c d → BaseOf W c → BaseOf W d
unfolding marks_of
base-beside {W} {c} {d} b p =
    let marks : take MARK_WORDS d
    ≡ take MARK_WORDS c = sym (take-take MARK_WORDS SIZES d (omega arith)) ∙ ap (take MARK_WORDS) b.first
    ∙ take-take MARK_WORDS SIZES c (omega arith) in
    let number : get_or d NUMBER 0 ≡ get_or c NUMBER 0 =
    sym (get_or-take SIZES d NUMBER 0 (omega arith)) ∙ ap (λ (xs : List ℕ). get_or xs NUMBER 0) b.first
    ∙ get_or-take SIZES c NUMBER 0 (omega arith)
    in
    record {
      size = b.size ∙ p.size;
      only = λ i o. p.only i (subst (λ (xs : List ℕ). On xs i) marks o);
      all = λ i r. subst (λ (xs : List ℕ). On xs i) (sym marks) (p.all i r);
      number = subst (λ (x : ℕ). Reaches (rows_of W) (filled W) x) (sym number) p.number;
    }

-- one size is remembered
beside-set : (c : List ℕ) (k v : ℕ) → SIZES ≤ k → Beside c (set c k v)
beside-set c k v l = record { size = length-set c k v; first = take-set-le SIZES c k v l }

beside_trans : {c d e : List ℕ} → Beside c d → Beside d e → Beside c e
beside_trans p q = record { size = q.size ∙ p.size; first = q.first ∙ p.first }

pub counts-put : {W : View} {c : List ℕ} (a k : ℕ) → Arrow (rows_of W) a → Outside (rows_of W) (filled W) a k → CountsOf W c
    → CountsOf W (put_size c a k)
counts-put {c = c} a k u o p = record {
  base = base-beside
      (beside_trans (beside-set c (place_of a) (a / 2) (omega arith))
      (beside-set (set c (place_of a) (a / 2)) (place_of a + 1) k (omega arith))) p.base;
  sizes = remembered_put c a k (let e = p.base.size in omega (arith, e)) u o p.sizes;
}

-- all sizes are forgotten: what is left of the base, and nothing beside
pub emptied-counts : {W : View} {c d : List ℕ} → Emptied c d COUNT_WORDS → BaseOf W c → CountsOf W d
emptied-counts {W} {c} {d} z p =
    let b = base-beside z.beside p in
    record {
      base = b;
      sizes =
          remembered_none
          (λ k l. by_cases (dec_lt k COUNT_WORDS) (z.zeros k l) (λ n. get_or-eq_default d 0 (let e = b.size in omega (arith, e))));
    }

-- few words are enough for few rows, all of them for any table; and what marking asks then
pub few-room : {N : ℕ} → N ≤ 4096 → MarkRoom N 128
few-room l = record { enough = l; most = omega arith }

pub all_room : {W : View} → Sound W → MarkRoom W.rows MARK_WORDS
all_room s = record { enough = s.good.sizes.N-max; most = omega arith }

pub room-base : {W : View} {k : ℕ} → Sound W → MarkRoom W.rows k → Base W k
room-base s r = record { words = s.good.sizes.room; rows = s.good.rows; room = r.enough }

-- marks of exactly the rows that registers and relations reach
pub record BaseMarked (W : View) (m : List ℕ) : Type 0 where
  pub only : (i : ℕ) → On m i → Reach (rows_of W) (filled W) i
  pub all : (i : ℕ) → Reach (rows_of W) (filled W) i → On m i

-- a mark within the words that were copied, and one beyond them
mark_copied : (c : List ℕ) (k i : ℕ) → k ≤ MARK_WORDS → i < 32 * k → is_on (take k c) i ≡ is_on (marks_of c) i
unfolding marks_of is_on
mark_copied c k i h l =
    ap (λ (w : ℕ). eqb (w / 2 ^ (i % 32) % 2) 1)
    (get_or-take k c (i / 32) 0 (omega arith) ∙ sym (get_or-take MARK_WORDS c (i / 32) 0 (omega arith)))

mark-beyond : (m : List ℕ) (i : ℕ) → 32 * length m ≤ i → On m i → ⊥
unfolding is_on
mark-beyond m i l o =
    let e : get_or m (i / 32) 0 / 2 ^ (i % 32) % 2
    ≡ 0 = ap (λ (x : ℕ). x / 2 ^ (i % 32) % 2) (get_or-eq_default m 0 (omega arith))
    ∙ ap (λ (x : ℕ). x % 2) (zero-div (2 ^ (i % 32))) in
    let f : get_or m (i / 32) 0 / 2 ^ (i % 32) % 2 ≡ 1 = eqb-true _ _ o in
    absurd (omega (arith, e, f))

-- the words that are copied have a mark of each row
pub base_copied : {W : View} {c m : List ℕ} {k : ℕ} → Sound W → BaseOf W c → MarkRoom W.rows k → m ≡ take k c → BaseMarked W m
base_copied {W} {c} {m} {k} s p r e = rw e (record {
  only = λ i o. by_cases (dec_lt i (32 * k))
      (λ l. p.only i (sym (mark_copied c k i r.most l) ∙ o))
      (λ n. absurd
      (mark-beyond (take k c) i
      (let e = p.size in let h = r.most in let z = length-take-le k c (omega (arith, e, h)) in omega (arith, n, z)) o));
  all = λ i q.
      let l = s.good.rows.bounded i (reach-used s.good.rows (filled-arrow s) q) in
      mark_copied c k i r.most (let n = r.enough in omega (arith, l, n)) ∙ p.all i q;
})

-- such marks are closed: what they reach is marked
module _ {W : View} {m₀ : List ℕ} (p : BaseMarked W m₀) where
  on_reached : (k : ℕ) → ReachedTo (rows_of W) (filled W) k → OnTo m₀ k
  on_reached zero r = tt
  on_reached (suc i) r = p.all i r

  base-closed : Closed (rows_of W) m₀
  base-closed = record {
    low = λ i o. on_reached (target ((rows_of W).low i)) (reached_low (rows_of W) (filled W) (p.only i o) ((rows_of W).low i) refl);
    high = λ i o. on_reached (target ((rows_of W).high i)) (reached_high (rows_of W) (filled W) (p.only i o) ((rows_of W).high i) refl);
  }

  base_on : (a : ℕ) → Mem a (filled W) → OnArrow m₀ a
  base_on a h = on_reached (target a) (reached_root (rows_of W) (filled W) a h)

  -- marking from further arrows marks and counts what they and the base reach
  pub live-marked : {m : List ℕ} {xs : List ℕ} {b n : ℕ} → Reaches (rows_of W) (filled W) b → ListNew (rows_of W) m₀ m xs n
      → LiveMarked W xs m (b + n)
  live-marked {m} {xs} {b} {n} c q =
      let rows = rows_of W in
      let reached : (i : ℕ) → On m i → Reach rows (live W xs) i = λ i o.
      ⊎_elim (λ b. reach-within (λ a j e h. append_left xs h) (p.only i b))
      (λ t. reach-on (reached_root rows (live W xs) t.0 (append_right (filled W) t.1)) t.2) (q.marks.only i o)
      in
      let marked : (i : ℕ) → Reach rows (live W xs) i → On m i = λ i r.
      closed-reach (q.marks.closed base-closed)
      (λ a h. ⊎_elim (λ f. on_arrow_le m₀ m q.marks.kept a (base_on a f)) (λ t. q.marks.has a t) (append_cases (filled W) h)) r
      in
      let number = subst (λ (k : ℕ). Reaches rows (live W xs) (b + k)) q.news.count
      (reaches_more q.news.rows (λ a h. append_left xs h) q.news.once
      (λ i h. reached i (q.news.marked i h))
      (λ i h r. q.news.unmarked i h (p.all i r))
      (λ i r. ⊎_elim (λ o. inl (p.only i o)) (λ h. inr h) (q.news.all i (marked i r)))
      c)
      in
      record { number = number; only = reached; all = marked }

  -- and marking from one arrow, what it reaches beside the base
  pub outside-counted : {m : List ℕ} {a n : ℕ} → MarksNew (rows_of W) m₀ m a n → Outside (rows_of W) (filled W) a n
  outside-counted {a = a} {n} q = record {
    rest = q.news.rows;
    all = λ i r.
        ⊎_elim (λ o. inl (p.only i o)) (λ h. inr h)
        (q.news.all i (closed-reach (q.marks.closed base-closed) (one-root (OnArrow _) q.marks.has) r));
    counted = let l = q.news.count in omega (arith, l);
  }
