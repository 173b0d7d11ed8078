-- Laws of what specs/Bits.antt defines. Assumes nothing.
use mathlib.Core.Path.{◌≡◌, refl, ap, sym, ◌∙◌, subst}
use mathlib.Core.Logic.{◌≢◌, by_cases}
use mathlib.Core.List.{List}
use Prim.Native.Nat.{ℕ, zero, suc, ◌+◌, ◌-◌, ◌*◌, ◌/◌, ◌%◌, ◌^◌, ◌<◌, max}
use native.Mathlib.Nat.{le_refl, zero-max, one-mul, pow-suc, mul-mod_left, div-eq_of_lt, zero-div, max_comm}
use native.Mathlib.Omega.{arith}
use native.Mathlib.Decide.{ℕ_discrete, dec_lt}
use lib.Bits.{bit_or, or_step, or_shr}
use lib.Dec.{eqb}
use lib.ListN.{length, get_or, set, replicate}
use lib.Pow.{pow-add, pow-lt, shl-shr, shl_exact}
use lib.Seq.{get_or-set_same, get_or-set_other}
use borrow.Author.Tests.{eq-eqb, eqb-true}
use Rattle.rows.specs.Bits.{bit, is_on, On, Sets}

max-one : (x y : ℕ) → x < 2 → y ≡ 1 → max x y ≡ 1
max-one zero y h e = rw e refl
max-one (suc zero) y h e = rw e refl
max-one (suc (suc x)) y h e = absurd (omega arith)

max_none : (x y : ℕ) → y ≡ 0 → max x y ≡ x
max_none x y e = rw e (max_comm x 0 ∙ zero-max x)

last : (x q t u : ℕ) → x ≡ q * 2 + t → t ≡ u → u < 2 → x % 2 ≡ u
last x q t u e f h = omega arith

or-one : (a b : ℕ) → b % 2 ≡ 1 → bit_or a b % 2 ≡ 1
or-one a b h =
    last (bit_or a b) (bit_or (a / 2) (b / 2)) (max (a % 2) (b % 2)) 1 (or_step a b) (max-one (a % 2) (b % 2) (omega arith) h) (omega arith)

or-none : (a b : ℕ) → b % 2 ≡ 0 → bit_or a b % 2 ≡ a % 2
or-none a b h =
    last (bit_or a b) (bit_or (a / 2) (b / 2)) (max (a % 2) (b % 2)) (a % 2) (or_step a b) (max_none (a % 2) (b % 2) h) (omega arith)

-- a power of two has one bit
power_above : (d k : ℕ) → bit (1 * 2 ^ (suc d + k)) k ≡ 0
power_above d k =
    ap (λ (x : ℕ). x / 2 ^ k % 2) (one-mul (2 ^ (suc d + k)) ∙ pow-add 2 (suc d) k)
    ∙ ap (λ (x : ℕ). x % 2) (shl-shr (2 ^ suc d) k) ∙ ap (λ (x : ℕ). x % 2) (pow-suc 2 d) ∙ mul-mod_left (2 ^ d) 2

power_other : (k j : ℕ) → j ≢ k → bit (1 * 2 ^ k) j ≡ 0
power_other k j n = by_cases (dec_lt j k)
    (λ l. let e : k ≡ suc (k - suc j) + j = omega arith in subst (λ (x : ℕ). bit (1 * 2 ^ x) j ≡ 0) (sym e) (power_above (k - suc j) j))
    (λ h. let l : k < j = omega arith in ap (λ (x : ℕ). x / 2 ^ j % 2) (one-mul (2 ^ k)) ∙ ap (λ (x : ℕ). x % 2) (div-eq_of_lt (pow-lt l)))

bit-set : (w k : ℕ) → bit (bit_or w (1 * 2 ^ k)) k ≡ 1
bit-set w k = ap (λ (x : ℕ). x % 2) (or_shr w (1 * 2 ^ k) k) ∙ or-one (w / 2 ^ k) (1 * 2 ^ k / 2 ^ k) (ap (λ (x : ℕ). x % 2) (shl-shr 1 k))

bit_kept : (w k j : ℕ) → j ≢ k → bit (bit_or w (1 * 2 ^ k)) j ≡ bit w j
bit_kept w k j n = ap (λ (x : ℕ). x % 2) (or_shr w (1 * 2 ^ k) j) ∙ or-none (w / 2 ^ j) (1 * 2 ^ k / 2 ^ j) (power_other k j n)

-- the word of row i with its bit set
sets-to : (m : List ℕ) (i v : ℕ) → i / 32 < length m → v ≡ bit_or (get_or m (i / 32) 0) (1 * 2 ^ (i % 32)) → Sets m (set m (i / 32) v) i
unfolding is_on
sets-to m i v h e = record {
  has = eq-eqb _ _ (ap (λ (x : ℕ). bit x (i % 32)) same ∙ bit-set (get_or m (i / 32) 0) (i % 32));
  other = λ j n. by_cases (ℕ_discrete (j / 32) (i / 32))
      (λ q. let d : j % 32 ≢ i % 32 = λ p. n (omega arith) in
      ap (λ (x : ℕ). eqb (bit (get_or (set m (i / 32) v) x 0) (j % 32)) 1) q
      ∙ ap (λ (x : ℕ). eqb (bit x (j % 32)) 1) same
      ∙ ap (λ (x : ℕ). eqb x 1) (bit_kept (get_or m (i / 32) 0) (i % 32) (j % 32) d)
      ∙ ap (λ (x : ℕ). eqb (bit (get_or m x 0) (j % 32)) 1) (sym q))
      (λ d. ap (λ (x : ℕ). eqb (bit x (j % 32)) 1) (get_or-set_other m (i / 32) (j / 32) v 0 d));
}
  where
    same : get_or (set m (i / 32) v) (i / 32) 0 ≡ bit_or (get_or m (i / 32) 0) (1 * 2 ^ (i % 32))
    same = get_or-set_same m (i / 32) v 0 h ∙ e

-- as `set_mark` writes it
pub sets : (m : List ℕ) (i : ℕ) → i < 32 * length m → Sets m (set m (i / 32) (bit_or (get_or m (i / 32) 0) (1 * 2 ^ (i % 32) % 2 ^ 32))) i
sets m i h = sets-to m i _ (omega arith) (ap (bit_or (get_or m (i / 32) 0)) (shl_exact 1 (i % 32) 32 (le_refl 2) (omega arith)))

pub zeros : (n k : ℕ) → ◌≡◌ {A = ℕ} (get_or (replicate n 0) k 0) 0
zeros zero k = refl
zeros (suc n) zero = refl
zeros (suc n) (suc k) = zeros n k

-- nothing is marked in a list of zeros
pub no-marks : (n i : ℕ) → On (replicate n 0) i → ⊥
unfolding is_on
no-marks n i o =
    let e : bit (get_or (replicate n 0) (i / 32) 0) (i % 32)
    ≡ 0 = ap (λ (x : ℕ). bit x (i % 32)) (zeros n (i / 32)) ∙ ap (λ (x : ℕ). x % 2) (zero-div (2 ^ (i % 32))) in
    let f : bit (get_or (replicate n 0) (i / 32) 0) (i % 32) ≡ 1 = eqb-true _ _ o in
    absurd (omega (arith, e, f))
