-- Laws of what specs/Levels.antt defines. Assumes nothing.
use mathlib.Core.Path.{◌≡◌, refl, sym, ap, ◌∙◌}
use mathlib.Core.Logic.{by_cases}
use mathlib.Core.Bool.{Bool, true, false, cond}
use mathlib.Core.List.{List}
use Prim.Native.Nat.{ℕ, zero, suc, ◌+◌, ◌-◌, ◌*◌, ◌≤◌, ◌<◌}
use native.Mathlib.Decide.{ℕ_discrete}
use native.Mathlib.Omega.{arith}
use lib.Dec.{eqb}
use lib.ListN.{length, get_or, set}
use lib.Seq.{get_or-set_same, get_or-set_other}
use borrow.Author.Tests.{eq-eqb, ne_eqb}
use Rattle.diagram.specs.Tally.{sum_to}
use Rattle.diagram.proofs.Tally.{sum-split}
use Rattle.diagram.specs.Survey.{bump}
use Rattle.diagram.specs.Left.{bound}
use Rattle.stages.specs.Levels.{MOST, count_of, Levels, OneMore, AllWithin}

pub one_more : (d : List ℕ) (l : ℕ) → l < length d → OneMore d (set d l (get_or d l 0 + 1)) l
unfolding bump
one_more d l h = record {
  each = λ k. by_cases (ℕ_discrete l k)
      (λ e. rw (← e, eq-eqb l l refl)
      (get_or-set_same d l (get_or d l 0 + 1) 0 h ∙ (let q : get_or d l 0 + 1 ≡ suc (get_or d l 0) = omega arith in q)))
      (λ n. rw (ne_eqb l k n) (get_or-set_other d l k (get_or d l 0 + 1) 0 (λ e. n (sym e))));
}

-- a count and one more are at most one more
pub one-more-le : {d e : List ℕ} {l n : ℕ} → OneMore d e l → ((k : ℕ) → count_of d k ≤ n) → (k : ℕ) → count_of e k ≤ suc n
unfolding bump
one-more-le {d} {l = l} {n = n} o h k = rw (o.each k) (go (eqb l k) (h k))
  where
    go : (b : Bool) → count_of d k ≤ n → cond b (suc (count_of d k)) (count_of d k) ≤ suc n
    go true x = omega (arith, x)
    go false x = omega (arith, x)

-- sums of counts: none, one more, and two more
pub sum-none : (h : ℕ → ℕ) → 0 ≡ sum_to h 0
unfolding sum_to
sum-none h = refl

pub sum-next : {s : ℕ} (h : ℕ → ℕ) (k : ℕ) → s ≡ sum_to h k → s + h k ≡ sum_to h (k + 1)
unfolding sum_to
sum-next {s} h k e = let q : k + 1 ≡ suc k = omega arith in rw q (omega (arith, e))

pub sum_done : {s : ℕ} (h : ℕ → ℕ) (j k : ℕ) → s ≡ sum_to h j → j ≤ k → k ≤ j → s ≡ sum_to h k
sum_done h j k e a b = let q : j ≡ k = omega (arith, a, b) in e ∙ ap (sum_to h) q

sum-two : {s : ℕ} (h : ℕ → ℕ) (k l : ℕ) → s ≡ sum_to h k → l ≡ k + 1 + 1 → s + h k + h (k + 1) ≡ sum_to h l
sum-two h k l e q = rw q (sum-next h (k + 1) (sum-next h k e))

-- of a few levels they are small
pub sum-le : (h : ℕ → ℕ) (n k : ℕ) → ((l : ℕ) → h l ≤ n) → sum_to h k ≤ k * n
unfolding sum_to
sum-le h n zero f = omega arith
sum-le h n (suc k) f = let i = sum-le h n k f in let e = f k in omega (arith, i, e)

-- the first j of them are looked at: the sums that their next one takes
pub record Looking (m live : ℕ) (above added : List ℕ) (most j below past : ℕ) : Type 0 where
  pub below-is : below ≡ sum_to (count_of above) (2 * j + 1)
  pub past_is : past ≡ sum_to (count_of added) (2 * j + 2)
  pub fits : AllWithin m live (count_of above) (count_of added) j most

pub looking_none : (m live : ℕ) (above added : List ℕ) (most : ℕ)
    → Looking m live above added most 0 (get_or above 0 0) (get_or added 0 0 + get_or added 1 0)
looking_none m live above added most = record {
  below-is = let e = sum-next {s = 0} (count_of above) 0 (sum-none (count_of above)) in omega (arith, e);
  past_is = let e = sum-two {s = 0} (count_of added) 0 2 (sum-none (count_of added)) refl in omega (arith, e);
  fits = λ j l. absurd (omega (arith, l));
}

-- they are small
pub looking_small : {m live most j below past : ℕ} {above added : List ℕ} → Levels above → Levels added → j ≤ 16
    → Looking m live above added most j below past
    → (below ≤ 5000000) × (past ≤ 5000000)
looking_small {j = j} {above = above} {added = added} a d l k =
    let x = sum-le (count_of above) MOST (2 * j + 1) a.few in
    let y = sum-le (count_of added) MOST (2 * j + 2) d.few in
    (omega (arith, x, l, k.below-is), omega (arith, y, l, k.past_is))

module _ {m live most j below past all : ℕ} {above added : List ℕ} (k : Looking m live above added most j below past)
    (e : all ≡ live + sum_to (count_of added) m) (l : 2 * j + 2 ≤ m) where
  next-below : below + get_or above (2 * j + 1) 0 + get_or above (2 * j + 2) 0 ≡ sum_to (count_of above) (2 * (j + 1) + 1)
  next-below =
      let q : 2 * j + 1 + 1 ≡ 2 * j + 2 = omega arith in
      ap (λ (x : ℕ). below + get_or above (2 * j + 1) 0 + get_or above x 0) (sym q)
      ∙ sum-two (count_of above) (2 * j + 1) (2 * (j + 1) + 1) k.below-is (omega arith)

  next_past : past + (get_or added (2 * j + 2) 0 + get_or added (2 * j + 3) 0) ≡ sum_to (count_of added) (2 * (j + 1) + 2)
  next_past =
      let q : 2 * j + 2 + 1 ≡ 2 * j + 3 = omega arith in
      let t = sum-two (count_of added) (2 * j + 2) (2 * (j + 1) + 2) k.past_is (omega arith) in
      omega (arith, ap (λ (x : ℕ). get_or added x 0) q, t)

  -- what is compared is the next one's bound, with the same on both sides
  next-bound : bound m live (count_of above) (count_of added) j + past
      ≡ all + below + (below + get_or above (2 * j + 1) 0 + get_or above (2 * j + 2) 0)
  next-bound =
      let a = next-below in
      let x : suc (2 * j) ≡ 2 * j + 1 = omega arith in
      let y : suc (2 * suc j) ≡ 2 * (j + 1) + 1 = omega arith in
      let z : 2 * suc j ≡ 2 * j + 2 = omega arith in
      let s = sum-split (count_of added) (2 * suc j) (m - 2 * suc j) m (omega (arith, l)) in
      omega (
        arith,
        a,
        s,
        e,
        k.below-is,
        k.past_is,
        ap (sum_to (count_of above)) x,
        ap (sum_to (count_of above)) y,
        ap (sum_to (count_of added)) z,
      )

  pub looking_next : all + below + (below + get_or above (2 * j + 1) 0 + get_or above (2 * j + 2) 0) ≤ most + past
      → Looking m live above added most (j + 1) (below + get_or above (2 * j + 1) 0 + get_or above (2 * j + 2) 0)
      (past + (get_or added (2 * j + 2) 0 + get_or added (2 * j + 3) 0))
  looking_next h = record {
    below-is = next-below;
    past_is = next_past;
    fits = λ i q. by_cases (ℕ_discrete i j)
        (λ r. rw r (let b = next-bound in omega (arith, b, h)))
        (λ n. k.fits i (omega (arith, n, q)));
  }

  pub looking_over : {left : ℕ} → j < left → most + past < all + below + (below + get_or above (2 * j + 1) 0 + get_or above (2 * j + 2) 0)
      → AllWithin m live (count_of above) (count_of added) left most → ⊥
  looking_over q h f = let b = next-bound in let x = f j q in omega (arith, b, h, x)

pub looking_done : {m live most j left below past : ℕ} {above added : List ℕ} → left ≤ j → Looking m live above added most j below past
    → AllWithin m live (count_of above) (count_of added) left most
looking_done l k i q = k.fits i (omega (arith, l, q))
