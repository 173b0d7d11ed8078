-- Nodes, the states with some lower bits: their halves and numbers; states as lower bits and six others. Assumes nothing.
use mathlib.Core.Path.{◌≡◌, refl, sym, ap, ◌∙◌}
use mathlib.Core.Logic.{◌≢◌, by_cases}
use mathlib.Core.Bool.{Bool, true, false, true≢false}
use Prim.Native.Nat.{ℕ, suc, ◌+◌, ◌-◌, ◌*◌, ◌/◌, ◌%◌, ◌^◌, ◌≤◌, ◌<◌}
use native.Mathlib.Nat.{one-mul, mod-lt, mod-eq_of_lt, pow-suc}
use native.Mathlib.Decide.{ℕ_discrete, dec_lt}
use native.Mathlib.Omega.{arith}
use lib.Dec.{eqb}
use lib.Pow.{pow-add, pow_mono, pow-lt, pow_pos, mod-pow-add, shl_exact, shl_lt, shl-shr, shr_lt, split, high, low}
use Rattle.mucalculus.specs.Means.{bit}
use Rattle.coin_search.specs.Notes.{LowBits}

-- ---- the two halves of a node

pub power_next : (p : ℕ) → 2 ^ (p + 1) ≡ 2 * 2 ^ p
power_next p = let e : p + 1 ≡ suc p = omega arith in ap (λ (x : ℕ). 2 ^ x) e ∙ (let q = pow-suc 2 p in omega arith)

-- bit p and the lower ones
lower-next : (u p : ℕ) → u % 2 ^ (p + 1) ≡ (u / 2 ^ p % 2) * 2 ^ p + u % 2 ^ p
lower-next u p = let e : p + 1 ≡ 1 + p = omega arith in ap (λ (x : ℕ). u % 2 ^ x) e ∙ mod-pow-add u 1 p

module _ (u p : ℕ) where
  bit-set : bit p u ≡ true → u / 2 ^ p % 2 ≡ 1
  bit-set e = by_cases (ℕ_discrete (u / 2 ^ p % 2) 1) (λ q. q) (λ n. absurd (true≢false (sym e ∙ off n)))
    where
      off : (u / 2 ^ p % 2 ≢ 1) → bit p u ≡ false
      off n = let z : u / 2 ^ p % 2 ≡ 0 = omega arith in ap (λ (x : ℕ). eqb x 1) z

  bit-clear : bit p u ≡ false → u / 2 ^ p % 2 ≡ 0
  bit-clear e = by_cases (ℕ_discrete (u / 2 ^ p % 2) 1) (λ q. absurd (true≢false (ap (λ (x : ℕ). eqb x 1) (sym q) ∙ e))) (λ n. omega arith)

  low-is : bit p u ≡ false → u % 2 ^ (p + 1) ≡ u % 2 ^ p
  low-is b = lower-next u p ∙ ap (λ (x : ℕ). x * 2 ^ p + u % 2 ^ p) (bit-clear b) ∙ (let z : 0 * 2 ^ p ≡ 0 = omega arith in omega arith)

  high_is : bit p u ≡ true → u % 2 ^ (p + 1) ≡ u % 2 ^ p + 2 ^ p
  high_is b =
      lower-next u p ∙ ap (λ (x : ℕ). x * 2 ^ p + u % 2 ^ p) (bit-set b) ∙ (let z : 1 * 2 ^ p ≡ 2 ^ p = one-mul (2 ^ p) in omega arith)

  rest_below : u % 2 ^ p < 2 ^ p
  rest_below = mod-lt u (pow_pos p)

  -- the states of the two halves, and which half a state is in
  pub low_in : {s : ℕ} → u % 2 ^ p ≡ s → bit p u ≡ false → u % 2 ^ (p + 1) ≡ s
  low_in e b = low-is b ∙ e

  pub high_in : {s : ℕ} → u % 2 ^ p ≡ s → bit p u ≡ true → u % 2 ^ (p + 1) ≡ s + 2 ^ p
  high_in e b = let q = high_is b in omega arith

  pub low_out : {s : ℕ} → s < 2 ^ p → u % 2 ^ (p + 1) ≡ s → (u % 2 ^ p ≡ s) × (bit p u ≡ false)
  low_out {s} l e = go (bit p u) refl
    where
      go : (b : Bool) → bit p u ≡ b → (u % 2 ^ p ≡ s) × (b ≡ false)
      go true h = let q = high_is h in absurd (omega arith)
      go false h = let q = low-is h in (omega arith, refl)

  pub high_out : {s : ℕ} → s < 2 ^ p → u % 2 ^ (p + 1) ≡ s + 2 ^ p → (u % 2 ^ p ≡ s) × (bit p u ≡ true)
  high_out {s} l e = go (bit p u) refl
    where
      go : (b : Bool) → bit p u ≡ b → (u % 2 ^ p ≡ s) × (b ≡ true)
      go true h = let q = high_is h in (omega arith, refl)
      go false h = let q = low-is h in let r = rest_below in absurd (omega arith)

-- the shift that gives 2^p
pub power_is : (p : ℕ) → p ≤ 16 → 1 * 2 ^ p % 4_294_967_296 ≡ 2 ^ p
power_is p l =
    let most : 2 ^ p ≤ 2 ^ 16 = pow_mono {i = p} {j = 16} l in
    let e : 1 * 2 ^ p ≡ 2 ^ p = one-mul (2 ^ p) in
    let small : 2 ^ p % 4_294_967_296 ≡ 2 ^ p = mod-eq_of_lt (omega arith) in
    ap (λ (x : ℕ). x % 4_294_967_296) e ∙ small

-- a node's number says how many bits, and which
node-bits : (p q s t : ℕ) → s < 2 ^ p → t < 2 ^ q → s + 2 ^ p ≡ t + 2 ^ q → p < q → ⊥
node-bits p q s t l k e h =
    let m : 2 ^ (p + 1) ≤ 2 ^ q = pow_mono (omega arith) in
    let d = power_next p in
    omega arith

pub node-same : (p q s t : ℕ) → s < 2 ^ p → t < 2 ^ q → s + 2 ^ p ≡ t + 2 ^ q → p ≡ q
node-same p q s t l k e = by_cases (dec_lt p q) (λ h. absurd (node-bits p q s t l k e h))
    (λ n. by_cases (dec_lt q p) (λ h. absurd (node-bits q p t s k l (sym e) h)) (λ m. omega arith))

-- a node's number is small
module _ (p s : ℕ) (l : s < 2 ^ p) where
  pub node-below : {k : ℕ} → p < k → s + 2 ^ p < 2 ^ k
  node-below {k} h = let m : 2 ^ (p + 1) ≤ 2 ^ k = pow_mono (omega arith) in let d = power_next p in omega arith

  pub node-few : p ≤ 10 → s + 2 ^ p < 2_048
  node-few h = node-below {k = 11} (omega arith)

  pub node-fewer : p < 10 → s + 2 ^ p < 1_024
  node-fewer h = node-below {k = 10} h

  -- as it is made
  pub node-is : p ≤ 16 → s + 1 * 2 ^ p % 4_294_967_296 ≡ s + 2 ^ p
  node-is h = ap (λ (y : ℕ). s + y) (power_is p h)

-- ---- words and bits of states

-- 2^j has bit j only
pub bit_power : (j l : ℕ) → bit l (2 ^ j) ≡ true → l ≡ j
bit_power j l h = by_cases (dec_lt l j) less (λ a. by_cases (dec_lt j l) more (λ b. omega arith))
  where
    off : (x : ℕ) → x % 2 ≡ 0 → eqb (x % 2) 1 ≡ true → l ≡ j
    off x e t = absurd (true≢false (sym t ∙ ap (λ (y : ℕ). eqb y 1) e))

    less : l < j → l ≡ j
    less k =
        let d : suc (j - suc l) + l ≡ j = omega arith in
        let e : 2 ^ j ≡ 2 ^ suc (j - suc l) * 2 ^ l = ap (λ (y : ℕ). 2 ^ y) (sym d) ∙ pow-add 2 (suc (j - suc l)) l in
        let q : 2 ^ j / 2 ^ l ≡ 2 ^ suc (j - suc l) = ap (λ (y : ℕ). y / 2 ^ l) e ∙ shl-shr (2 ^ suc (j - suc l)) l in
        let c : suc (j - suc l) ≡ 1 + (j - suc l) = omega arith in
        let r : 2 ^ suc (j - suc l) ≡ 2 * 2 ^ (j - suc l) = ap (λ (y : ℕ). 2 ^ y) c ∙ pow-add 2 1 (j - suc l) in
        off (2 ^ j / 2 ^ l) (omega arith) h

    more : j < l → l ≡ j
    more k =
        let m : 2 ^ j < 2 ^ (0 + l) = pow-lt (let z : 0 + l ≡ l = omega arith in omega arith) in
        let q : 2 ^ j / 2 ^ l < 2 ^ 0 = shr_lt 0 l m in
        off (2 ^ j / 2 ^ l) (let z : 2 ^ 0 ≡ 1 = refl in omega arith) h

-- the shift that gives it
pub power_wide : (j : ℕ) → j < 64 → 1 * 2 ^ j % 18_446_744_073_709_551_616 ≡ 2 ^ j
power_wide j l =
    let m : 2 ^ j < 2 ^ 64 = pow-lt {i = j} {j = 64} l in
    let e : 1 * 2 ^ j ≡ 2 ^ j = one-mul (2 ^ j) in
    let small : 2 ^ j % 18_446_744_073_709_551_616 ≡ 2 ^ j = mod-eq_of_lt (omega arith) in
    ap (λ (x : ℕ). x % 18_446_744_073_709_551_616) e ∙ small

module _ {n k : ℕ} (b : LowBits n k) where
  -- a state's bit in a word
  pub few_words : 2 ^ k ≤ 1_024
  few_words = pow_mono {i = k} {j = 10} b.small

  pub state-bit : (u : ℕ) → u < 2 ^ n → u / 2 ^ k < 64
  state-bit u l =
      let m : 2 ^ n ≤ 2 ^ (6 + k) = pow_mono (let w = b.wide in omega arith) in
      shr_lt 6 k (omega arith)

  -- the shift that makes a state of a word and a bit
  pub shift_is : (j : ℕ) → j < 64 → j * 2 ^ k % 4_294_967_296 ≡ j * 2 ^ k
  shift_is j l = shl_exact {a = j} 6 k 32 l (let s = b.small in omega arith)

  pub state-small : (i j : ℕ) → i < 2 ^ k → j < 64 → i + j * 2 ^ k < 131_072
  state-small i j li lj =
      let f = few_words in
      let m : j * 2 ^ k < 2 ^ (6 + k) = shl_lt {a = j} 6 k lj in
      let t : 2 ^ (6 + k) ≤ 2 ^ 16 = pow_mono {i = 6 + k} {j = 16} (let s = b.small in omega arith) in
      omega arith

-- the state of bit j of word i
module _ (k i j : ℕ) (l : i < 2 ^ k) where
  turned : i + j * 2 ^ k ≡ j * 2 ^ k + i
  turned = omega arith

  pub state_word : (i + j * 2 ^ k) % 2 ^ k ≡ i
  state_word = ap (λ (y : ℕ). y % 2 ^ k) turned ∙ low j k l

  pub state-place : (i + j * 2 ^ k) / 2 ^ k ≡ j
  state-place = ap (λ (y : ℕ). y / 2 ^ k) turned ∙ high j k l

pub state_of : (k u : ℕ) {i j : ℕ} → u % 2 ^ k ≡ i → u / 2 ^ k ≡ j → u ≡ i + j * 2 ^ k
state_of k u {i} {j} a b =
    let e = split u k in
    let f : u / 2 ^ k * 2 ^ k ≡ j * 2 ^ k = ap (λ (y : ℕ). y * 2 ^ k) b in
    omega arith
