-- The least number that passes a test; the least next state in a set. Assumes nothing.
use mathlib.Core.Path.{◌≡◌, refl, sym, ap₂, subst}
use mathlib.Core.Bool.{Bool, true, false, cond, ◌&&◌}
use mathlib.Core.List.{List}
use Prim.Native.Nat.{ℕ, zero, suc, ◌≤◌, ◌<◌}
use native.Mathlib.Nat.{lt_of_not-le}
use native.Mathlib.Omega.{arith}
use lib.Dec.{T}
use Rattle.mucalculus.specs.Sets.{mem}
use Rattle.mucalculus.proofs.Sets.{and_in, and_out}
use Rattle.mucalculus.specs.Form.{Pairs}
use Rattle.mucalculus.specs.Means.{pair}
use Rattle.paths.specs.Runs.{first_of, toward}

-- it is at most k
pub first-le : (k : ℕ) (q : ℕ → Bool) → first_of k q ≤ k
first-le zero q = omega arith
first-le (suc k) q = go (q zero) (first-le k (λ i. q (suc i)))
  where
    go : (b : Bool) → first_of k (λ i. q (suc i)) ≤ k → cond b zero (suc (first_of k (λ i. q (suc i)))) ≤ suc k
    go true l = omega arith
    go false l = omega arith

-- below k, it passes
pub first_found : (k : ℕ) (q : ℕ → Bool) → first_of k q < k → T (q (first_of k q))
first_found zero q l = absurd (omega arith)
first_found (suc k) q l = go (q zero) refl (first_found k (λ i. q (suc i))) l
  where
    go : (b : Bool) → q zero ≡ b → (first_of k (λ i. q (suc i)) < k → T (q (suc (first_of k (λ i. q (suc i))))))
        → cond b zero (suc (first_of k (λ i. q (suc i)))) < suc k → T (q (cond b zero (suc (first_of k (λ i. q (suc i))))))
    go true e below h = subst T (sym e) tt
    go false e below h = below (omega arith)

-- nothing below it passes
pub first-least : (k : ℕ) (q : ℕ → Bool) (i : ℕ) → i < k → T (q i) → first_of k q ≤ i
first-least zero q i l t = absurd (omega arith)
first-least (suc k) q i l t = go (q zero) refl (λ i l t. first-least k (λ j. q (suc j)) i l t) i l t
  where
    go : (b : Bool) → q zero ≡ b → ((i : ℕ) → i < k → T (q (suc i)) → first_of k (λ i. q (suc i)) ≤ i) → (i : ℕ) → i < suc k → T (q i)
        → cond b zero (suc (first_of k (λ i. q (suc i)))) ≤ i
    go true e below i l t = omega arith
    go false e below zero l t = absurd (subst T e t)
    go false e below (suc i) l t = let r = below i (omega arith) t in omega arith

-- what is below k, passes and has nothing below it that does, is it
pub first-is : (k : ℕ) (q : ℕ → Bool) (i : ℕ) → i < k → T (q i) → ((j : ℕ) → j < i → q j ≡ false) → first_of k q ≡ i
first-is k q i l t h =
    let a = first-least k q i l t in
    let b : i < suc (first_of k q) = lt_of_not-le (λ s. subst T (h (first_of k q) s) (first_found k q (omega arith))) in
    omega arith

-- where nothing passes, it is k
pub first-none : (k : ℕ) (q : ℕ → Bool) → ((j : ℕ) → j < k → q j ≡ false) → first_of k q ≡ k
first-none k q h =
    let a = first-le k q in
    let b : k < suc (first_of k q) = lt_of_not-le (λ s. subst T (h (first_of k q) s) (first_found k q s)) in
    omega arith

-- tests that agree below k have the same
pub first-same : (k : ℕ) (q r : ℕ → Bool) → ((i : ℕ) → i < k → q i ≡ r i) → first_of k q ≡ first_of k r
first-same zero q r h = refl
first-same (suc k) q r h =
    ap₂ (λ (b : Bool) (m : ℕ). cond b zero (suc m)) (h zero (omega arith))
    (first-same k (λ i. q (suc i)) (λ i. r (suc i)) (λ i l. h (suc i) (omega arith)))

-- ---- the least next state

-- t is a next state of s in X
pub record Onto (k : ℕ) (R : Pairs) (X : List Bool) (s t : ℕ) : Type 0 where
  pub state : t < k
  pub next : T (pair R s t)
  pub inside : T (mem X t)

module _ {k : ℕ} {R : Pairs} {X : List Bool} {s t : ℕ} (h : Onto k R X s t) where
  -- where there is one, none is less than the one that is taken
  pub toward-least : toward k R X s ≤ t
  toward-least = first-least k (λ t. pair R s t && mem X t) t h.state (and_in (pair R s t) _ h.next h.inside)

  pub toward-is : Onto k R X s (toward k R X s)
  toward-is =
      let b : toward k R X s < k = let l = toward-least in omega (arith, l, h.state) in
      let w = and_out (pair R s (toward k R X s)) _ (first_found k (λ t. pair R s t && mem X t) b) in
      record { state = b; next = w.0; inside = w.1 }
