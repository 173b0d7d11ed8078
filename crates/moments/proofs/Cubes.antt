-- The states that fit an entry are a cube: bit by bit, from the lowest on. Assumes nothing.
use mathlib.Core.Path.{◌≡◌, refl, sym, ap, ap₂, ◌∙◌, fun_ext}
use mathlib.Core.Logic.{by_cases}
use mathlib.Core.Bool.{Bool, true, false, not, ◌&&◌, ◌||◌}
use Prim.Native.Nat.{ℕ, zero, suc, ◌+◌, ◌*◌, ◌/◌, ◌%◌, ◌^◌, min, max}
use native.Mathlib.Nat.{div-one, pow-succ', div-div-eq-div-mul}
use native.Mathlib.Decide.{ℕ_discrete}
use native.Mathlib.Omega.{arith}
use lib.Bits.{bit_and, bit_or, bit_xor, differ, and_step, or_step, xor_step}
use lib.Dec.{eqb, eqb→eq, eqb_refl}
use Rattle.mucalculus.specs.Means.{bit}
use Rattle.diagram.specs.Level.{Val}
use Rattle.diagram.proofs.Level.{T_true, T_false}
use Rattle.book.specs.States.{one, now_of}
use Rattle.book.specs.Bridge.{fn_of}
use Rattle.book.proofs.Bridge.{fn_of-table}
use Rattle.cubes.specs.Cube.{literal, cube_from}
use Rattle.cubes.proofs.CubeLaws.{cube-shift}
use Rattle.logs.specs.Runs.{Moment, fits, fits_both, fitting}
use Rattle.moments.specs.Moment.{Joins, entry_f}

-- ---- digits

-- tests of the same fact
eqb_iff : (a b c d : ℕ) → (a ≡ b → c ≡ d) → (c ≡ d → a ≡ b) → eqb a b ≡ eqb c d
eqb_iff a b c d f g =
    by_cases (ℕ_discrete a b) (λ e. same_true a b e ∙ sym (same_true c d (f e)))
    (λ n. same_false a b n ∙ sym (same_false c d (λ e. n (g e))))
  where
    same_true : (a b : ℕ) → a ≡ b → eqb a b ≡ true
    same_true a b e = T_true (eqb a b) (rw e (eqb_refl b))

    same_false : (a b : ℕ) → (a ≡ b → ⊥) → eqb a b ≡ false
    same_false a b n = T_false (eqb a b) (λ t. n (eqb→eq a b t))

-- a number's lowest digit is its lowest bit
digit : (k : ℕ) → k % 2 ≡ one (bit 0 k)
digit k = go (k % 2) refl
  where
    low : (a : ℕ) → k % 2 ≡ a → bit 0 k ≡ eqb a 1
    low a e = ap (λ (q : ℕ). eqb (q % 2) 1) (div-one k) ∙ ap (λ (x : ℕ). eqb x 1) e

    go : (a : ℕ) → k % 2 ≡ a → k % 2 ≡ one (bit 0 k)
    go zero e = e ∙ ap one (sym (low zero e))
    go (suc zero) e = e ∙ ap one (sym (low (suc zero) e))
    go (suc (suc a)) e = absurd (omega (arith, e))

-- the lowest bit of a digit and twice a number
bit_of : (x : ℕ) (b : Bool) → bit 0 (x * 2 + one b) ≡ b
bit_of x true = ap (λ (q : ℕ). eqb (q % 2) 1) (div-one (x * 2 + 1)) ∙ T_true (eqb ((x * 2 + 1) % 2) 1) (let e : (x * 2 + 1) % 2 ≡ 1 =
    omega arith in rw e tt)
bit_of x false = ap (λ (q : ℕ). eqb (q % 2) 1) (div-one (x * 2 + 0)) ∙ T_false (eqb ((x * 2 + 0) % 2) 1) (λ t. let e = eqb→eq ((x * 2 +
    0) % 2) 1 t in absurd (omega (arith, e)))

half_of_lem : (x : ℕ) (b : Bool) → (x * 2 + one b) / 2 ≡ x
half_of_lem x true = omega arith
half_of_lem x false = omega arith

-- two numbers are the same where digits and halves are
eqb_split : (x : ℕ) (b : Bool) (w : ℕ) → eqb (x * 2 + one b) w ≡ (eqb x (w / 2) && eqb (one b) (one (bit 0 w)))
eqb_split x b w = go b (bit 0 w) (digit w)
  where
    right : (p : Bool) → (p && true) ≡ p
    right true = refl
    right false = refl

    never : (p : Bool) → (p && false) ≡ false
    never true = refl
    never false = refl

    no : (a c : ℕ) → (a ≡ c → ⊥) → eqb a c ≡ false
    no a c n = T_false (eqb a c) (λ t. n (eqb→eq a c t))

    go : (b c : Bool) → w % 2 ≡ one c → eqb (x * 2 + one b) w ≡ (eqb x (w / 2) && eqb (one b) (one c))
    go true true e = eqb_iff (x * 2 + 1) w x (w / 2) (λ q. omega (arith, q)) (λ q. omega (arith, q, e)) ∙ sym (right (eqb x (w / 2)))
    go false false e = eqb_iff (x * 2 + 0) w x (w / 2) (λ q. omega (arith, q)) (λ q. omega (arith, q, e)) ∙ sym (right (eqb x (w / 2)))
    go true false e = no (x * 2 + 1) w (λ q. absurd (omega (arith, q, e))) ∙ sym (never (eqb x (w / 2)))
    go false true e = no (x * 2 + 0) w (λ q. absurd (omega (arith, q, e))) ∙ sym (never (eqb x (w / 2)))

-- ---- the operations on digits

-- the bits differ
abbrev xor : Bool → Bool → Bool
xor true b = not b
xor false b = b

min_digit : (a b : Bool) → min (one a) (one b) ≡ one (a && b)
min_digit true true = refl
min_digit true false = refl
min_digit false true = refl
min_digit false false = refl

max_digit : (a b : Bool) → max (one a) (one b) ≡ one (a || b)
max_digit true true = refl
max_digit true false = refl
max_digit false true = refl
max_digit false false = refl

differ_digit : (a b : Bool) → differ (one a) (one b) ≡ one (xor a b)
differ_digit true true = refl
differ_digit true false = refl
differ_digit false true = refl
differ_digit false false = refl

pub and_parts : (a b : ℕ) → bit_and a b ≡ bit_and (a / 2) (b / 2) * 2 + one (bit 0 a && bit 0 b)
and_parts a b =
    and_step a b
    ∙ ap (λ (c : ℕ). bit_and (a / 2) (b / 2) * 2 + c) (ap₂ min (digit a) (digit b) ∙ min_digit (bit 0 a) (bit 0 b))

pub or_parts : (a b : ℕ) → bit_or a b ≡ bit_or (a / 2) (b / 2) * 2 + one (bit 0 a || bit 0 b)
or_parts a b =
    or_step a b ∙ ap (λ (c : ℕ). bit_or (a / 2) (b / 2) * 2 + c) (ap₂ max (digit a) (digit b) ∙ max_digit (bit 0 a) (bit 0 b))

xor_parts : (a b : ℕ) → bit_xor a b ≡ bit_xor (a / 2) (b / 2) * 2 + one (xor (bit 0 a) (bit 0 b))
xor_parts a b =
    xor_step a b ∙ ap (λ (c : ℕ). bit_xor (a / 2) (b / 2) * 2 + c) (ap₂ differ (digit a) (digit b) ∙ differ_digit (bit 0 a) (bit 0 b))

pub and-half : (a b : ℕ) → bit_and a b / 2 ≡ bit_and (a / 2) (b / 2)
and-half a b = ap (λ (x : ℕ). x / 2) (and_parts a b) ∙ half_of_lem (bit_and (a / 2) (b / 2)) (bit 0 a && bit 0 b)

pub and-bit : (a b : ℕ) → bit 0 (bit_and a b) ≡ (bit 0 a && bit 0 b)
and-bit a b = ap (bit 0) (and_parts a b) ∙ bit_of (bit_and (a / 2) (b / 2)) (bit 0 a && bit 0 b)

pub or-half : (a b : ℕ) → bit_or a b / 2 ≡ bit_or (a / 2) (b / 2)
or-half a b = ap (λ (x : ℕ). x / 2) (or_parts a b) ∙ half_of_lem (bit_or (a / 2) (b / 2)) (bit 0 a || bit 0 b)

pub or-bit : (a b : ℕ) → bit 0 (bit_or a b) ≡ (bit 0 a || bit 0 b)
or-bit a b = ap (bit 0) (or_parts a b) ∙ bit_of (bit_or (a / 2) (b / 2)) (bit 0 a || bit 0 b)

xor_half : (a b : ℕ) → bit_xor a b / 2 ≡ bit_xor (a / 2) (b / 2)
xor_half a b = ap (λ (x : ℕ). x / 2) (xor_parts a b) ∙ half_of_lem (bit_xor (a / 2) (b / 2)) (xor (bit 0 a) (bit 0 b))

xor_bit : (a b : ℕ) → bit 0 (bit_xor a b) ≡ xor (bit 0 a) (bit 0 b)
xor_bit a b = ap (bit 0) (xor_parts a b) ∙ bit_of (bit_xor (a / 2) (b / 2)) (xor (bit 0 a) (bit 0 b))

-- ---- one bit of a state

-- of one entry: its mask has p, its value q, the state b
entry-bit : (p q b : Bool) → eqb (one (b && p)) (one q) ≡ literal q (xor p q) b
entry-bit true true true = refl
entry-bit true true false = refl
entry-bit true false true = refl
entry-bit true false false = refl
entry-bit false true true = refl
entry-bit false true false = refl
entry-bit false false true = refl
entry-bit false false false = refl

-- one entry and the bits after the first
fits-split : (mask value : ℕ) (b : Bool) (s : ℕ)
    → fits mask value (one b + 2 * s) ≡ (fits (mask / 2) (value / 2) s && literal (bit 0 value) (xor (bit 0 mask) (bit 0 value)) b)
fits-split mask value b s =
    let t = one b + 2 * s in
    let h : t / 2 ≡ s = half b in
    let e : bit_and t mask ≡ bit_and s (mask / 2) * 2 + one (b && bit 0 mask) =
    and_parts t mask ∙ ap₂ (λ (x : ℕ) (c : Bool). bit_and x (mask / 2) * 2 + one (c && bit 0 mask)) h (low b) in
    ap (λ (x : ℕ). eqb x value) e ∙ eqb_split (bit_and s (mask / 2)) (b && bit 0 mask) value
    ∙ ap (λ (x : Bool). eqb (bit_and s (mask / 2)) (value / 2) && x) (entry-bit (bit 0 mask) (bit 0 value) b)
  where
    half : (b : Bool) → (one b + 2 * s) / 2 ≡ s
    half true = omega arith
    half false = omega arith

    low : (b : Bool) → bit 0 (one b + 2 * s) ≡ b
    low b = let e : one b + 2 * s ≡ s * 2 + one b = omega arith in ap (bit 0) e ∙ bit_of s b

-- ---- all bits

pub fits-cube : (n m v : ℕ) (u : Val) → fits m v (now_of n u) ≡ (eqb (v / 2 ^ n) 0 && cube_from n 0 v (bit_xor m v) u)
unfolding now_of
fits-cube zero m v u =
    eqb_iff 0 v (v / 1) 0 (λ e. div-one v ∙ sym e) (λ e. sym e ∙ div-one v) ∙ sym (keep (eqb (v / 1) 0))
  where
    keep : (b : Bool) → (b && true) ≡ b
    keep true = refl
    keep false = refl
fits-cube (suc n) m v u =
    let Z = bit_xor m v in
    let d : v / 2 ^ suc n ≡ v / 2 / 2 ^ n = ap (λ (x : ℕ). v / x) (pow-succ' 2 n) ∙ sym (div-div-eq-div-mul v 2 (2 ^ n)) in
    let c : cube_from n 1 v Z u ≡ cube_from n 0 (v / 2) (bit_xor (m / 2) (v / 2)) (λ l. u (suc (suc l))) =
    cube-shift n 0 v Z u ∙ ap (λ (y : ℕ). cube_from n 0 (v / 2) y (λ l. u (suc (suc l)))) (xor_half m v) in
    let b = ap (λ (y : Bool). literal (bit 0 v) y (u 0)) (sym (xor_bit m v)) in
    fits-split m v (u 0) (now_of n (λ l. u (suc (suc l))))
    ∙ ap₂ ◌&&◌ (fits-cube n (m / 2) (v / 2) (λ l. u (suc (suc l)))) b
    ∙ back (eqb (v / 2 / 2 ^ n) 0) _ (literal (bit 0 v) (bit 0 Z) (u 0))
    ∙ ap₂ (λ (x : ℕ) (y : Bool). eqb x 0 && (literal (bit 0 v) (bit 0 Z) (u 0) && y)) (sym d) (sym c)
  where
    back : (e c l : Bool) → ((e && c) && l) ≡ (e && (l && c))
    back true true true = refl
    back true true false = refl
    back true false true = refl
    back true false false = refl
    back false c l = refl

-- the states that fit both entries, as a function of levels
pub fitting-cube : (n : ℕ) (m : Moment) {mask value : ℕ} → Joins m mask value → fn_of n (fitting (2 ^ n) m) ≡ entry_f (2 * n) mask value
fitting-cube n m {mask} {value} a =
    fn_of-table n (fits_both m) ∙ fun_ext (λ u. sym (a.same (now_of n u)) ∙ fits-cube n mask value u ∙ same n twice u)
  where
    same : (k : ℕ) → k ≡ 2 * n / 2 → (u : Val)
        → (eqb (value / 2 ^ k) 0 && cube_from k 0 value (bit_xor mask value) u)
        ≡ (eqb (value / 2 ^ (2 * n / 2)) 0 && cube_from (2 * n / 2) 0 value (bit_xor mask value) u)
    same k e u = rw e refl

    twice : n ≡ 2 * n / 2
    twice = omega arith
