-- The bits of words: of AND, OR and XOR, of the low six bits, and of constants. Assumes nothing.
use mathlib.Core.Path.{◌≡◌, refl, sym, ap, ◌∙◌, subst}
use mathlib.Core.Logic.{◌≢◌, by_cases}
use mathlib.Core.Bool.{Bool, true, false, not, cond, ◌&&◌, ◌||◌, true≢false}
use Prim.Native.Nat.{ℕ, zero, suc, ◌+◌, ◌-◌, ◌*◌, ◌/◌, ◌%◌, ◌^◌, ◌≤◌, ◌<◌, min, max}
use native.Mathlib.Decide.{ℕ_discrete}
use native.Mathlib.Omega.{arith}
use lib.Bits.{bit_and, bit_or, bit_xor, differ, and_step, or_step, xor_step, and_shr, or_shr, xor_shr}
use lib.Dec.{eqb}
use lib.Pow.{shr-shr}
use Rattle.mucalculus.specs.Means.{bit}
use Rattle.coin_masks.specs.Masks.{column_of}

-- one of two bits and not the other
abbrev pub either : Bool → Bool → Bool
either true y = not y
either false y = y

last : (x q t : ℕ) → x ≡ q * 2 + t → t < 2 → x % 2 ≡ t
last x q t e h = omega arith

-- an operation on bits, by its step and what it makes of two bits
module _ (op g : ℕ → ℕ → ℕ) (h : Bool → Bool → Bool) (step : (a b : ℕ) → op a b ≡ op (a / 2) (b / 2) * 2 + g (a % 2) (b % 2))
    (shr : (a b k : ℕ) → op a b / 2 ^ k ≡ op (a / 2 ^ k) (b / 2 ^ k))
    (cells : (x y : ℕ) → x < 2 → y < 2 → (g x y < 2) × (eqb (g x y) 1 ≡ h (eqb x 1) (eqb y 1))) where
  bit_op : (k a b : ℕ) → bit k (op a b) ≡ h (bit k a) (bit k b)
  bit_op k a b =
      let x : ℕ = a / 2 ^ k in
      let y : ℕ = b / 2 ^ k in
      let c = cells (x % 2) (y % 2) (omega arith) (omega arith) in
      let e : op x y % 2 ≡ g (x % 2) (y % 2) = last (op x y) (op (x / 2) (y / 2)) (g (x % 2) (y % 2)) (step x y) c.0 in
      ap (λ (z : ℕ). eqb (z % 2) 1) (shr a b k) ∙ ap (λ (z : ℕ). eqb z 1) e ∙ c.1

min-cells : (x y : ℕ) → x < 2 → y < 2 → (min x y < 2) × (eqb (min x y) 1 ≡ eqb x 1 && eqb y 1)
min-cells zero zero h k = (omega arith, refl)
min-cells zero (suc zero) h k = (omega arith, refl)
min-cells (suc zero) zero h k = (omega arith, refl)
min-cells (suc zero) (suc zero) h k = (omega arith, refl)
min-cells (suc (suc x)) y h k = absurd (omega arith)
min-cells zero (suc (suc y)) h k = absurd (omega arith)
min-cells (suc zero) (suc (suc y)) h k = absurd (omega arith)

max-cells : (x y : ℕ) → x < 2 → y < 2 → (max x y < 2) × (eqb (max x y) 1 ≡ eqb x 1 || eqb y 1)
max-cells zero zero h k = (omega arith, refl)
max-cells zero (suc zero) h k = (omega arith, refl)
max-cells (suc zero) zero h k = (omega arith, refl)
max-cells (suc zero) (suc zero) h k = (omega arith, refl)
max-cells (suc (suc x)) y h k = absurd (omega arith)
max-cells zero (suc (suc y)) h k = absurd (omega arith)
max-cells (suc zero) (suc (suc y)) h k = absurd (omega arith)

differ-cells : (x y : ℕ) → x < 2 → y < 2 → (differ x y < 2) × (eqb (differ x y) 1 ≡ either (eqb x 1) (eqb y 1))
differ-cells zero zero h k = (omega arith, refl)
differ-cells zero (suc zero) h k = (omega arith, refl)
differ-cells (suc zero) zero h k = (omega arith, refl)
differ-cells (suc zero) (suc zero) h k = (omega arith, refl)
differ-cells (suc (suc x)) y h k = absurd (omega arith)
differ-cells zero (suc (suc y)) h k = absurd (omega arith)
differ-cells (suc zero) (suc (suc y)) h k = absurd (omega arith)

pub bit-and : (k a b : ℕ) → bit k (bit_and a b) ≡ bit k a && bit k b
bit-and = bit_op bit_and min ◌&&◌ and_step and_shr min-cells

pub bit-or : (k a b : ℕ) → bit k (bit_or a b) ≡ bit k a || bit k b
bit-or = bit_op bit_or max ◌||◌ or_step or_shr max-cells

pub bit_xor_lem : (k a b : ℕ) → bit k (bit_xor a b) ≡ either (bit k a) (bit k b)
bit_xor_lem = bit_op bit_xor differ either xor_step xor_shr differ-cells

-- a bit above `low`
pub bit-above : (low p s : ℕ) → low ≤ p → bit p s ≡ bit (p - low) (s / 2 ^ low)
bit-above low p s h =
    let e : p ≡ low + (p - low) = omega arith in
    ap (λ (x : ℕ). eqb (s / 2 ^ x % 2) 1) e ∙ ap (λ (x : ℕ). eqb (x % 2) 1) (sym (shr-shr s low (p - low)))

-- ---- constants, by trying all cells

same : Bool → Bool → Bool
same true y = y
same false y = not y

same-eq : (x y : Bool) → same x y ≡ true → x ≡ y
unfolding same
same-eq true true e = refl
same-eq true false e = absurd (true≢false (sym e))
same-eq false true e = absurd (true≢false (sym e))
same-eq false false e = refl

agrees : ℕ → (ℕ → Bool) → (ℕ → Bool) → Bool
agrees zero f g = true
agrees (suc n) f g = cond (same (f n) (g n)) (agrees n f g) false

agrees_at : (n : ℕ) (f g : ℕ → Bool) → agrees n f g ≡ true → (k : ℕ) → k < n → f k ≡ g k
unfolding agrees
agrees_at zero f g e k h = absurd (omega arith)
agrees_at (suc n) f g e k h = go (same (f n) (g n)) refl e (λ r l. agrees_at n f g r k l)
  where
    go : (b : Bool) → same (f n) (g n) ≡ b → cond b (agrees n f g) false ≡ true → (agrees n f g ≡ true → k < n → f k ≡ g k) → f k ≡ g k
    go true q r i = by_cases (ℕ_discrete k n)
        (λ z. subst (λ (x : ℕ). f x ≡ g x) (sym z) (same-eq (f n) (g n) q))
        (λ z. i r (omega arith))
    go false q r i = absurd (true≢false (sym r))

pub bit-all : (j : ℕ) → j < 64 → bit j 18_446_744_073_709_551_615 ≡ true
unfolding agrees same
bit-all = agrees_at 64 (λ j. bit j 18_446_744_073_709_551_615) (λ j. true) refl

pub column-has : (k : ℕ) → k < 6 → (j : ℕ) → j < 64 → bit j (column_of k) ≡ bit k j
unfolding agrees same
column-has zero l = agrees_at 64 (λ j. bit j (column_of 0)) (λ j. bit 0 j) refl
column-has (suc zero) l = agrees_at 64 (λ j. bit j (column_of 1)) (λ j. bit 1 j) refl
column-has (suc (suc zero)) l = agrees_at 64 (λ j. bit j (column_of 2)) (λ j. bit 2 j) refl
column-has (suc (suc (suc zero))) l = agrees_at 64 (λ j. bit j (column_of 3)) (λ j. bit 3 j) refl
column-has (suc (suc (suc (suc zero)))) l = agrees_at 64 (λ j. bit j (column_of 4)) (λ j. bit 4 j) refl
column-has (suc (suc (suc (suc (suc zero))))) l = agrees_at 64 (λ j. bit j (column_of 5)) (λ j. bit 5 j) refl
column-has (suc (suc (suc (suc (suc (suc k)))))) l = absurd (omega arith)

pub column-past : (k : ℕ) → k ≢ 0 → k ≢ 1 → k ≢ 2 → k ≢ 3 → k ≢ 4 → 18_446_744_069_414_584_320 ≡ column_of k
column-past zero a b c d e = absurd (a refl)
column-past (suc zero) a b c d e = absurd (b refl)
column-past (suc (suc zero)) a b c d e = absurd (c refl)
column-past (suc (suc (suc zero))) a b c d e = absurd (d refl)
column-past (suc (suc (suc (suc zero)))) a b c d e = absurd (e refl)
column-past (suc (suc (suc (suc (suc k))))) a b c d e = refl

-- one of two words by a column: XOR of the first with what differs there
choose-cell : (c x y : Bool) → either x (either x y && c) ≡ cond c y x
choose-cell true true true = refl
choose-cell true true false = refl
choose-cell true false true = refl
choose-cell true false false = refl
choose-cell false true true = refl
choose-cell false true false = refl
choose-cell false false true = refl
choose-cell false false false = refl

pub bit-choose : (k low high j : ℕ) → k < 6 → j < 64
    → bit j (bit_xor low (bit_and (bit_xor low high) (column_of k))) ≡ cond (bit k j) (bit j high) (bit j low)
bit-choose k low high j l h =
    bit_xor_lem j low (bit_and (bit_xor low high) (column_of k))
    ∙ ap (λ (z : Bool). either (bit j low) z)
    (bit-and j (bit_xor low high) (column_of k) ∙ ap (λ (z : Bool). z && bit j (column_of k)) (bit_xor_lem j low high)
    ∙ ap (λ (z : Bool). either (bit j low) (bit j high) && z) (column-has k l j h))
    ∙ choose-cell (bit k j) (bit j low) (bit j high)
