-- Laws of what specs/Columns.antt defines. Assumes nothing.
use mathlib.Core.Path.{◌≡◌, refl, fun_ext}
use mathlib.Core.Bool.{Bool, true, false, cond}
use Prim.Native.Nat.{ℕ, ◌+◌, ◌≤◌, ◌<◌}
use native.Mathlib.Omega.{arith}
use lib.Dec.{ltb, eqb}
use borrow.Author.Tests.{ltb-true, ltb-false, lt-ltb, le-ltb, eqb-true, eqb-false}
use Rattle.layout.specs.View.{upd}

-- f with its values below k replaced by those of g
unfoldable pub over : ℕ → (ℕ → ℕ) → (ℕ → ℕ) → ℕ → ℕ
over k g f j = cond (ltb j k) (g j) (f j)

module _ (g f : ℕ → ℕ) where
  pub over_none : f ≡ over 0 g f
  unfolding over
  over_none = fun_ext (λ j. rw (le-ltb j 0 (omega arith)))

  pub over-more : (k : ℕ) → upd (over k g f) k (g k) ≡ over (k + 1) g f
  unfolding over
  over-more k = fun_ext (λ j. go j (eqb j k) refl (ltb j k) refl)
    where
      go : (j : ℕ) (b : Bool) → eqb j k ≡ b → (c : Bool) → ltb j k ≡ c
          → cond b (g k) (cond c (g j) (f j)) ≡ cond (ltb j (k + 1)) (g j) (f j)
      go j true e c q = let z : j ≡ k = eqb-true j k e in rw (z, lt-ltb k (k + 1) (omega arith))
      go j false e true q = let l : j < k = ltb-true j k q in rw (lt-ltb j (k + 1) (omega arith))
      go j false e false q = let l : k ≤ j = ltb-false j k q in let n = eqb-false j k e in rw (le-ltb j (k + 1) (omega arith))

  pub over-all : (k : ℕ) → ((j : ℕ) → k ≤ j → f j ≡ g j) → over k g f ≡ g
  unfolding over
  over-all k h = fun_ext (λ j. go j (ltb j k) refl)
    where
      go : (j : ℕ) (c : Bool) → ltb j k ≡ c → cond c (g j) (f j) ≡ g j
      go j true q = refl
      go j false q = h j (ltb-false j k q)
