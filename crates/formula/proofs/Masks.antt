-- Sets of variables as words, bit P for P: what OR, XOR and the test of one bit do to them. Assumes nothing.
use mathlib.Core.Path.{◌≡◌, refl, sym, ap, ap₂, ◌∙◌}
use mathlib.Core.Bool.{Bool, true, false, not, ◌&&◌, ◌||◌, cond}
use mathlib.Core.List.{List, ◌∷◌}
use Prim.Native.Nat.{ℕ, zero, suc, ◌+◌, ◌*◌, ◌/◌, ◌%◌, ◌^◌, ◌<◌}
use native.Mathlib.Nat.{pow-suc, div-one}
use native.Mathlib.Omega.{arith}
use lib.Arith.{digits_div, digits_mod}
use lib.Bits.{bit_or, bit_xor, or_block, xor_block, or_shr, or_mod, or_zero_r, xor_zero_r}
use lib.Dec.{eqb, eqb-zero-suc, eqb-suc-zero, eqb-suc-suc}
use lib.ListN.{get_or, set}
use Rattle.mucalculus.specs.Means.{bit}
use Rattle.mucalculus.proofs.Means.{bit-half}
use Rattle.formula.specs.Scans.{bits, mask}

bit-last : (s : ℕ) → bit 0 s ≡ eqb (s % 2) 1
bit-last s = ap (λ (q : ℕ). eqb (q % 2) 1) (div-one s)

-- the word of the variable P + 1 by its half
power_half : (P : ℕ) → 2 ^ suc P / 2 ≡ 2 ^ P
power_half P = omega (arith, pow-suc 2 P)

power_last : (P : ℕ) → 2 ^ suc P % 2 ≡ 0
power_last P = omega (arith, pow-suc 2 P)

-- ---- the open variables, as a list

pub bits-has : (k w P : ℕ) → P < k → get_or (bits k w) P false ≡ bit P w
unfolding bits
bits-has zero w P h = absurd (omega arith)
bits-has (suc k) w zero h = sym (bit-last w)
bits-has (suc k) w (suc P) h = bits-has k (w / 2) P (omega arith) ∙ sym (bit-half P w)

or-one : (x : ℕ) → x < 2 → bit_or x 1 ≡ 1
or-one zero h = refl
or-one (suc zero) h = refl
or-one (suc (suc x)) h = absurd (omega arith)

-- one more is open
pub bits_with : (k w P : ℕ) → P < k → set (bits k w) P true ≡ bits k (bit_or w (2 ^ P))
unfolding bits
bits_with zero w P h = absurd (omega arith)
bits_with (suc k) w zero h =
    sym (ap₂ (λ (x y : ℕ). eqb x 1 ∷ bits k y) (or_mod w 1 1 ∙ or-one (w % 2) (omega arith)) (or_shr w 1 1 ∙ or_zero_r (w / 2)))
bits_with (suc k) w (suc P) h =
    ap (λ (l : List Bool). eqb (w % 2) 1 ∷ l) (bits_with k (w / 2) P (omega arith))
    ∙ sym (ap₂ (λ (x y : ℕ). eqb x 1 ∷ bits k y) (or_mod w (2 ^ suc P) 1 ∙ ap (bit_or (w % 2)) (power_last P) ∙ or_zero_r (w % 2))
    (or_shr w (2 ^ suc P) 1 ∙ ap (bit_or (w / 2)) (power_half P)))

-- ---- the free variables, as a function

abbrev digit : Bool → ℕ
digit b = cond b 1 0

digit_lt : (b : Bool) → digit b < 2
digit_lt true = omega arith
digit_lt false = omega arith

digit_is : (b : Bool) → eqb (digit b) 1 ≡ b
digit_is true = refl
digit_is false = refl

pub mask-same : (k : ℕ) {h g : ℕ → Bool} → ((P : ℕ) → h P ≡ g P) → mask k h ≡ mask k g
unfolding mask
mask-same zero e = refl
mask-same (suc k) e = ap₂ (λ (x : ℕ) (b : Bool). x * 2 + digit b) (mask-same k (λ P. e (suc P))) (e 0)

mask-none : (k : ℕ) → mask k (λ P. false) ≡ 0
unfolding mask
mask-none zero = refl
mask-none (suc k) = ap (λ (x : ℕ). x * 2 + 0) (mask-none k)

pub mask-has : (k : ℕ) (h : ℕ → Bool) (P : ℕ) → P < k → bit P (mask k h) ≡ h P
unfolding mask
mask-has zero h P l = absurd (omega arith)
mask-has (suc k) h zero l =
    bit-last (mask (suc k) h) ∙ ap (λ (x : ℕ). eqb x 1) (digits_mod (mask k (λ P. h (suc P))) (digit_lt (h 0))) ∙ digit_is (h 0)
mask-has (suc k) h (suc P) l =
    bit-half P (mask (suc k) h) ∙ ap (bit P) (digits_div (mask k (λ Q. h (suc Q))) (digit_lt (h 0)))
    ∙ mask-has k (λ Q. h (suc Q)) P (omega arith)

pub mask-or : (k : ℕ) (h g : ℕ → Bool) → bit_or (mask k h) (mask k g) ≡ mask k (λ P. h P || g P)
unfolding mask
mask-or zero h g = refl
mask-or (suc k) h g =
    or_block 1 (mask k (λ P. h (suc P))) (mask k (λ P. g (suc P))) (digit (h 0)) (digit (g 0)) (digit_lt (h 0)) (digit_lt (g 0))
    ∙ ap₂ (λ (x y : ℕ). x * 2 + y) (mask-or k (λ P. h (suc P)) (λ P. g (suc P))) (each (h 0) (g 0))
  where
    each : (b c : Bool) → bit_or (digit b) (digit c) ≡ digit (b || c)
    each true true = refl
    each true false = refl
    each false true = refl
    each false false = refl

-- P alone
pub mask_one : (k P : ℕ) → P < k → 2 ^ P ≡ mask k (λ Q. eqb P Q)
unfolding mask
mask_one zero P h = absurd (omega arith)
mask_one (suc k) zero h = sym (ap (λ (x : ℕ). x * 2 + 1) (mask-same k (λ Q. eqb-zero-suc Q) ∙ mask-none k))
mask_one (suc k) (suc P) h =
    omega (arith, pow-suc 2 P)
    ∙ ap₂ (λ (x : ℕ) (b : Bool). x * 2 + digit b) (mask_one k P (omega arith) ∙ mask-same k (λ Q. sym (eqb-suc-suc P Q)))
    (sym (eqb-suc-zero P))

-- all but P, which is one of them
pub mask-without : (k : ℕ) (h : ℕ → Bool) (P : ℕ) → P < k → h P ≡ true → bit_xor (mask k h) (2 ^ P) ≡ mask k (λ Q. not (eqb P Q) && h Q)
unfolding mask
mask-without zero h P l e = absurd (omega arith)
mask-without (suc k) h zero l e =
    ap (λ (b : Bool). bit_xor (mask k (λ Q. h (suc Q)) * 2 + digit b) 1) e
    ∙ xor_block 1 (mask k (λ Q. h (suc Q))) 0 1 1 (omega arith) (omega arith)
    ∙ ap (λ (x : ℕ). x * 2 + 0)
    (xor_zero_r (mask k (λ Q. h (suc Q))) ∙ mask-same k (λ Q. sym (ap (λ (b : Bool). not b && h (suc Q)) (eqb-zero-suc Q))))
mask-without (suc k) h (suc P) l e =
    ap (λ (x : ℕ). bit_xor (mask k (λ Q. h (suc Q)) * 2 + digit (h 0)) x) (pow-suc 2 P ∙ omega arith)
    ∙ xor_block 1 (mask k (λ Q. h (suc Q))) (2 ^ P) (digit (h 0)) 0 (digit_lt (h 0)) (omega arith)
    ∙ ap₂ (λ (x y : ℕ). x * 2 + y)
    (mask-without k (λ Q. h (suc Q)) P (omega arith) e
    ∙ mask-same k (λ Q. sym (ap (λ (b : Bool). not b && h (suc Q)) (eqb-suc-suc P Q))))
    (xor_zero_r (digit (h 0)) ∙ sym (ap (λ (b : Bool). digit (not b && h 0)) (eqb-suc-zero P)))
