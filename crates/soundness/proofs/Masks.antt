-- Laws of what specs/Masks.antt defines. Assumes nothing.
use mathlib.Core.Path.{◌≡◌, refl, sym, ap, ◌∙◌, subst}
use mathlib.Core.Logic.{◌≢◌, by_cases}
use mathlib.Core.Bool.{Bool, true, false, not, cond, ◌&&◌, ◌||◌, true≢false}
use Prim.Native.Nat.{ℕ, zero, suc, ◌+◌, ◌-◌, ◌*◌, ◌/◌, ◌%◌, ◌^◌, ◌<◌, ◌≤◌, min, max}
use native.Mathlib.Nat.{pow-suc}
use native.Mathlib.Omega.{arith}
use native.Mathlib.Decide.{ℕ_discrete}
use lib.Bits.{bit_and, bit_or, and_step, or_step, and_shr, or_shr}
use lib.Pow.{shr-shr, field, mod-mod-pow, high, low}
use lib.Dec.{eqb}
use borrow.Author.Tests.{eq-eqb}
use Rattle.soundness.specs.Masks.{has, low_mask, high_mask, swapped, bit_of}

pub low-past : (q : ℕ) → q ≢ 0 → q ≢ 1 → q ≢ 2 → q ≢ 3 → q ≢ 4 → 18446744073709551615 ≡ low_mask q
low-past zero a b c d e = absurd (a refl)
low-past (suc zero) a b c d e = absurd (b refl)
low-past (suc (suc zero)) a b c d e = absurd (c refl)
low-past (suc (suc (suc zero))) a b c d e = absurd (d refl)
low-past (suc (suc (suc (suc zero)))) a b c d e = absurd (e refl)
low-past (suc (suc (suc (suc (suc q))))) a b c d e = refl

pub high-past : (q : ℕ) → q ≢ 0 → q ≢ 1 → q ≢ 2 → q ≢ 3 → q ≢ 4 → 18446744073709551615 ≡ high_mask q
high-past zero a b c d e = absurd (a refl)
high-past (suc zero) a b c d e = absurd (b refl)
high-past (suc (suc zero)) a b c d e = absurd (c refl)
high-past (suc (suc (suc zero))) a b c d e = absurd (d refl)
high-past (suc (suc (suc (suc zero)))) a b c d e = absurd (e refl)
high-past (suc (suc (suc (suc (suc q))))) a b c d e = refl

bit-two : (x q t : ℕ) → x ≡ q * 2 + t → t < 2 → x % 2 ≡ t
bit-two x q t e h = omega arith

min-has : (x y : ℕ) → x < 2 → y < 2 → eqb (min x y) 1 ≡ eqb x 1 && eqb y 1
min-has zero zero h k = refl
min-has zero (suc zero) h k = refl
min-has (suc zero) zero h k = refl
min-has (suc zero) (suc zero) h k = refl
min-has (suc (suc x)) y h k = absurd (omega arith)
min-has zero (suc (suc y)) h k = absurd (omega arith)
min-has (suc zero) (suc (suc y)) h k = absurd (omega arith)

max-has : (x y : ℕ) → x < 2 → y < 2 → eqb (max x y) 1 ≡ eqb x 1 || eqb y 1
max-has zero zero h k = refl
max-has zero (suc zero) h k = refl
max-has (suc zero) zero h k = refl
max-has (suc zero) (suc zero) h k = refl
max-has (suc (suc x)) y h k = absurd (omega arith)
max-has zero (suc (suc y)) h k = absurd (omega arith)
max-has (suc zero) (suc (suc y)) h k = absurd (omega arith)

pub has-and : (a b k : ℕ) → has (bit_and a b) k ≡ has a k && has b k
has-and a b k =
    let x : ℕ = a / 2 ^ k in
    let y : ℕ = b / 2 ^ k in
    let e : bit_and x y % 2
    ≡ min (x % 2) (y % 2) = bit-two (bit_and x y) (bit_and (x / 2) (y / 2)) (min (x % 2) (y % 2)) (and_step x y) (omega arith) in
    ap (λ (z : ℕ). eqb (z % 2) 1) (and_shr a b k) ∙ ap (λ (z : ℕ). eqb z 1) e ∙ min-has (x % 2) (y % 2) (omega arith) (omega arith)

pub has-or : (a b k : ℕ) → has (bit_or a b) k ≡ has a k || has b k
has-or a b k =
    let x : ℕ = a / 2 ^ k in
    let y : ℕ = b / 2 ^ k in
    let e : bit_or x y % 2
    ≡ max (x % 2) (y % 2) = bit-two (bit_or x y) (bit_or (x / 2) (y / 2)) (max (x % 2) (y % 2)) (or_step x y) (omega arith) in
    ap (λ (z : ℕ). eqb (z % 2) 1) (or_shr a b k) ∙ ap (λ (z : ℕ). eqb z 1) e ∙ max-has (x % 2) (y % 2) (omega arith) (omega arith)

-- the low half has the low bits
pub has-low : (w k : ℕ) → k < 32 → has (w % 4294967296) k ≡ has w k
has-low w k h =
    let j : ℕ = 31 - k in
    let e : (suc j) + k ≡ 32 = omega arith in
    let f : w % 4294967296 / 2 ^ k
    ≡ w / 2 ^ k % 2 ^ suc j = subst (λ (x : ℕ). w % 2 ^ x / 2 ^ k ≡ w / 2 ^ k % 2 ^ suc j) e (field w (suc j) k) in
    let z : j + 1 ≡ suc j = omega arith in
    let g : w / 2 ^ k % 2 ^ suc j % 2
    ≡ w / 2 ^ k % 2 = subst (λ (x : ℕ). w / 2 ^ k % 2 ^ x % 2 ≡ w / 2 ^ k % 2) z (mod-mod-pow (w / 2 ^ k) j 1) in
    ap (λ (x : ℕ). eqb (x % 2) 1) f ∙ ap (λ (x : ℕ). eqb x 1) g

pub has-swapped-low : (w k : ℕ) → k < 32 → has (swapped w) k ≡ has w (32 + k)
has-swapped-low w k h =
    let x : ℕ = w / 4294967296 % 4294967296 in
    let e : swapped w % 4294967296 ≡ x = low (w % 4294967296) 32 {lo = x} (omega arith) in
    sym (has-low (swapped w) k h) ∙ ap (λ (z : ℕ). has z k) e ∙ has-low (w / 4294967296) k h
    ∙ ap (λ (z : ℕ). eqb (z % 2) 1) (shr-shr w 32 k)

pub has-swapped-high : (w k : ℕ) → k < 32 → has (swapped w) (32 + k) ≡ has w k
has-swapped-high w k h =
    let x : ℕ = w / 4294967296 % 4294967296 in
    let e : swapped w / 4294967296 ≡ w % 4294967296 = high (w % 4294967296) 32 {lo = x} (omega arith) in
    ap (λ (z : ℕ). eqb (z % 2) 1) (sym (shr-shr (swapped w) 32 k)) ∙ ap (λ (z : ℕ). has z k) e ∙ has-low w k h

-- a number that is not 0 has a bit
pub some-bit : (n w : ℕ) → w < 2 ^ n → w ≢ 0 → (k : ℕ) × (k < n) × (has w k ≡ true)
some-bit zero w h z = let q : 2 ^ 0 ≡ 1 = refl in absurd (omega arith)
some-bit (suc n) w h z = by_cases (ℕ_discrete (w % 2) 1)
    (λ e. (0, omega arith, eq-eqb _ _ (let f : w / 1 % 2 ≡ w % 2 = omega arith in f ∙ e)))
    (λ e.
    let q : 2 ^ suc n ≡ 2 ^ n * 2 = pow-suc 2 n in
    let p = some-bit n (w / 2) (omega arith) (omega arith) in (
      suc p.0,
      (let l = p.1 in omega arith),
      ap (λ (x : ℕ). eqb (x % 2) 1)
          (sym (shr-shr w 1 p.0 ∙ ap (λ (x : ℕ). w / 2 ^ x) (let y : 1 + p.0 ≡ suc p.0 = omega arith in y))) ∙ p.2,
    ))

-- two functions agree on the first n numbers
same : Bool → Bool → Bool
same true y = y
same false y = not y

same-eq : (x y : Bool) → same x y ≡ true → x ≡ y
unfolding same
same-eq true true e = refl
same-eq true false e = absurd (true≢false (sym e))
same-eq false true e = absurd (true≢false (sym e))
same-eq false false e = refl

agrees : ℕ → (ℕ → Bool) → (ℕ → Bool) → Bool
agrees zero f g = true
agrees (suc n) f g = cond (same (f n) (g n)) (agrees n f g) false

agrees_at : (n : ℕ) (f g : ℕ → Bool) → agrees n f g ≡ true → (k : ℕ) → k < n → f k ≡ g k
unfolding agrees
agrees_at zero f g e k h = absurd (omega arith)
agrees_at (suc n) f g e k h = go (same (f n) (g n)) refl e (λ r l. agrees_at n f g r k l)
  where
    go : (b : Bool) → same (f n) (g n) ≡ b → cond b (agrees n f g) false ≡ true → (agrees n f g ≡ true → k < n → f k ≡ g k) → f k ≡ g k
    go true q r i = by_cases (ℕ_discrete k n)
        (λ z. subst (λ (x : ℕ). f x ≡ g x) (sym z) (same-eq (f n) (g n) q))
        (λ z. i r (omega arith))
    go false q r i = absurd (true≢false (sym r))

-- what the masks have, by trying all 32 cells
pub low_mask_lem : (q : ℕ) (side : Bool) → q < 5 → (c : ℕ) → c < 32 → has (low_mask q) (bit_of side c) ≡ not (has c q)
unfolding agrees same
low_mask_lem zero false l = agrees_at 32 (λ c. has (low_mask 0) c) (λ c. not (has c 0)) refl
low_mask_lem zero true l = agrees_at 32 (λ c. has (low_mask 0) (32 + c)) (λ c. not (has c 0)) refl
low_mask_lem (suc zero) false l = agrees_at 32 (λ c. has (low_mask 1) c) (λ c. not (has c 1)) refl
low_mask_lem (suc zero) true l = agrees_at 32 (λ c. has (low_mask 1) (32 + c)) (λ c. not (has c 1)) refl
low_mask_lem (suc (suc zero)) false l = agrees_at 32 (λ c. has (low_mask 2) c) (λ c. not (has c 2)) refl
low_mask_lem (suc (suc zero)) true l = agrees_at 32 (λ c. has (low_mask 2) (32 + c)) (λ c. not (has c 2)) refl
low_mask_lem (suc (suc (suc zero))) false l = agrees_at 32 (λ c. has (low_mask 3) c) (λ c. not (has c 3)) refl
low_mask_lem (suc (suc (suc zero))) true l = agrees_at 32 (λ c. has (low_mask 3) (32 + c)) (λ c. not (has c 3)) refl
low_mask_lem (suc (suc (suc (suc zero)))) false l = agrees_at 32 (λ c. has (low_mask 4) c) (λ c. not (has c 4)) refl
low_mask_lem (suc (suc (suc (suc zero)))) true l = agrees_at 32 (λ c. has (low_mask 4) (32 + c)) (λ c. not (has c 4)) refl
low_mask_lem (suc (suc (suc (suc (suc q))))) side l = absurd (omega arith)

pub high_mask_lem : (q : ℕ) (side : Bool) → q < 5 → (c : ℕ) → c < 32 → has (high_mask q) (bit_of side c) ≡ has c q
unfolding agrees same
high_mask_lem zero false l = agrees_at 32 (λ c. has (high_mask 0) c) (λ c. has c 0) refl
high_mask_lem zero true l = agrees_at 32 (λ c. has (high_mask 0) (32 + c)) (λ c. has c 0) refl
high_mask_lem (suc zero) false l = agrees_at 32 (λ c. has (high_mask 1) c) (λ c. has c 1) refl
high_mask_lem (suc zero) true l = agrees_at 32 (λ c. has (high_mask 1) (32 + c)) (λ c. has c 1) refl
high_mask_lem (suc (suc zero)) false l = agrees_at 32 (λ c. has (high_mask 2) c) (λ c. has c 2) refl
high_mask_lem (suc (suc zero)) true l = agrees_at 32 (λ c. has (high_mask 2) (32 + c)) (λ c. has c 2) refl
high_mask_lem (suc (suc (suc zero))) false l = agrees_at 32 (λ c. has (high_mask 3) c) (λ c. has c 3) refl
high_mask_lem (suc (suc (suc zero))) true l = agrees_at 32 (λ c. has (high_mask 3) (32 + c)) (λ c. has c 3) refl
high_mask_lem (suc (suc (suc (suc zero)))) false l = agrees_at 32 (λ c. has (high_mask 4) c) (λ c. has c 4) refl
high_mask_lem (suc (suc (suc (suc zero)))) true l = agrees_at 32 (λ c. has (high_mask 4) (32 + c)) (λ c. has c 4) refl
high_mask_lem (suc (suc (suc (suc (suc q))))) side l = absurd (omega arith)

all_ones : (side : Bool) (c : ℕ) → c < 32 → has 18446744073709551615 (bit_of side c) ≡ true
unfolding agrees same
all_ones false = agrees_at 32 (λ c. has 18446744073709551615 c) (λ c. true) refl
all_ones true = agrees_at 32 (λ c. has 18446744073709551615 (32 + c)) (λ c. true) refl

pub low_mask-past : (q : ℕ) (side : Bool) → 5 ≤ q → (c : ℕ) → c < 32 → has (low_mask q) (bit_of side c) ≡ true
low_mask-past zero side l c h = absurd (omega arith)
low_mask-past (suc zero) side l c h = absurd (omega arith)
low_mask-past (suc (suc zero)) side l c h = absurd (omega arith)
low_mask-past (suc (suc (suc zero))) side l c h = absurd (omega arith)
low_mask-past (suc (suc (suc (suc zero)))) side l c h = absurd (omega arith)
low_mask-past (suc (suc (suc (suc (suc q))))) side l c h = all_ones side c h

pub high_mask-past : (q : ℕ) (side : Bool) → 5 ≤ q → (c : ℕ) → c < 32 → has (high_mask q) (bit_of side c) ≡ true
high_mask-past zero side l c h = absurd (omega arith)
high_mask-past (suc zero) side l c h = absurd (omega arith)
high_mask-past (suc (suc zero)) side l c h = absurd (omega arith)
high_mask-past (suc (suc (suc zero))) side l c h = absurd (omega arith)
high_mask-past (suc (suc (suc (suc zero)))) side l c h = absurd (omega arith)
high_mask-past (suc (suc (suc (suc (suc q))))) side l c h = all_ones side c h

-- the words of nothing and of everything
abbrev pub NOTHING_CELLS : ℕ
NOTHING_CELLS = 18446744069414584320

abbrev pub ALL_CELLS : ℕ
ALL_CELLS = 4294967295

pub nothing-low : (c : ℕ) → c < 32 → has NOTHING_CELLS c ≡ false
unfolding agrees same
nothing-low = agrees_at 32 (λ c. has NOTHING_CELLS c) (λ c. false) refl

pub nothing-high : (c : ℕ) → c < 32 → has NOTHING_CELLS (32 + c) ≡ true
unfolding agrees same
nothing-high = agrees_at 32 (λ c. has NOTHING_CELLS (32 + c)) (λ c. true) refl

pub all-low : (c : ℕ) → c < 32 → has ALL_CELLS c ≡ true
unfolding agrees same
all-low = agrees_at 32 (λ c. has ALL_CELLS c) (λ c. true) refl

pub all-high : (c : ℕ) → c < 32 → has ALL_CELLS (32 + c) ≡ false
unfolding agrees same
all-high = agrees_at 32 (λ c. has ALL_CELLS (32 + c)) (λ c. false) refl
