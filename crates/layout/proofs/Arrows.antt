-- Laws of what specs/Arrows.antt defines. Assumes nothing.
use mathlib.Core.Path.{◌≡◌, refl, sym, ap, ◌∙◌}
use mathlib.Core.Bool.{Bool, true, false, true≢false}
use Prim.Native.Nat.{ℕ, zero, suc, ◌/◌, ◌≤◌, ◌<◌}
use native.Mathlib.Omega.{arith}
use Rattle.layout.specs.Arrows.{is_row, row_of, flip_arrow, carry_arrow}

pub row-yes : (a : ℕ) → 2 ≤ a → is_row a ≡ true
unfolding is_row
row-yes zero h = absurd (omega arith)
row-yes (suc zero) h = absurd (omega arith)
row-yes (suc (suc i)) h = refl

pub row-no : (a : ℕ) → a < 2 → is_row a ≡ false
unfolding is_row
row-no zero h = refl
row-no (suc zero) h = refl
row-no (suc (suc i)) h = absurd (omega arith)

-- an arrow that leads to a row leads to one more than none
pub row_is : (a : ℕ) → is_row a ≡ true → a / 2 ≡ suc (row_of a)
unfolding is_row row_of
row_is zero e = absurd (true≢false (sym e))
row_is (suc zero) e = absurd (true≢false (sym e))
row_is (suc (suc i)) e = omega arith

pub row_of-leads : (a i : ℕ) → a / 2 ≡ suc i → row_of a ≡ i
unfolding row_of
row_of-leads a i e = omega arith

pub is_row-leads : (a i : ℕ) → a / 2 ≡ suc i → is_row a ≡ true
is_row-leads a i e = row-yes a (omega arith)

pub no_row : (a : ℕ) → is_row a ≡ false → a < 2
unfolding is_row
no_row zero e = omega arith
no_row (suc zero) e = omega arith
no_row (suc (suc i)) e = absurd (true≢false e)

pub no_row-leads : (a : ℕ) → is_row a ≡ false → a / 2 ≡ 0
no_row-leads a e = let h = no_row a e in omega arith

-- what is carried, by a test of the mark
pub carry-yes : {t b : Bool} {r : ℕ} (a : ℕ) → t ≡ b → t ≡ true → r ≡ flip_arrow a → r ≡ carry_arrow b a
carry-yes a e t q = q ∙ ap (λ (x : Bool). carry_arrow x a) (sym t ∙ e)

pub carry-no : {t b : Bool} (a : ℕ) → t ≡ b → t ≡ false → a ≡ carry_arrow b a
carry-no a e t = ap (λ (x : Bool). carry_arrow x a) (sym t ∙ e)
