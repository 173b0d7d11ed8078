-- Laws of what specs/States.antt defines. Assumes nothing.
use mathlib.Core.Path.{◌≡◌, refl, sym, ap, ap₂, ◌∙◌}
use mathlib.Core.Bool.{Bool, true, false, true≢false}
use Prim.Native.Nat.{ℕ, zero, suc, ◌+◌, ◌*◌, ◌/◌, ◌%◌, ◌^◌, ◌<◌}
use native.Mathlib.Nat.{pow-suc, div-one}
use native.Mathlib.Omega.{arith}
use lib.Dec.{eqb, eqb→eq, eqb_refl}
use Rattle.mucalculus.specs.Means.{bit}
use Rattle.mucalculus.proofs.Means.{bit-half}
use Rattle.diagram.specs.Level.{Val}
use Rattle.diagram.proofs.Level.{T_true, T_false}
use Rattle.book.specs.States.{one, now_of, next_of, pair_val}

-- ---- bits of a number

-- a test of numbers that are equal or not
eqb_same : (a b : ℕ) → a ≡ b → eqb a b ≡ true
eqb_same a b e = T_true (eqb a b) (rw e (eqb_refl b))

eqb_apart : (a b : ℕ) → (a ≡ b → ⊥) → eqb a b ≡ false
eqb_apart a b h = T_false (eqb a b) (λ t. h (eqb→eq a b t))

-- the lowest bit of b + 2 x is b
bit-low : (b : Bool) (x : ℕ) → bit 0 (one b + 2 * x) ≡ b
bit-low true x = ap (λ (q : ℕ). eqb (q % 2) 1) (div-one (1 + 2 * x)) ∙ eqb_same ((1 + 2 * x) % 2) 1 (omega arith)
bit-low false x = ap (λ (q : ℕ). eqb (q % 2) 1) (div-one (0 + 2 * x)) ∙ eqb_apart ((0 + 2 * x) % 2) 1 (omega arith)

half-low : (b : Bool) (x : ℕ) → (one b + 2 * x) / 2 ≡ x
half-low true x = omega arith
half-low false x = omega arith

-- a number is its lowest bit and twice its half
one_bit : (s : ℕ) → one (bit 0 s) ≡ s % 2
one_bit s = go (bit 0 s) refl
  where
    low : bit 0 s ≡ eqb (s % 2) 1
    low = ap (λ (q : ℕ). eqb (q % 2) 1) (div-one s)

    go : (b : Bool) → bit 0 s ≡ b → one b ≡ s % 2
    go true e = sym (eqb→eq (s % 2) 1 (rw (← low, e) tt))
    go false e =
        let odd : s % 2 ≡ 1 → ⊥ = λ h. true≢false (sym (eqb_same (s % 2) 1 h) ∙ sym low ∙ e) in
        omega arith

-- ---- valuations and states

pub now_of-lt : (n : ℕ) (v : Val) → now_of n v < 2 ^ n
unfolding now_of
now_of-lt zero v = omega arith
now_of-lt (suc n) v = go (v 0) (now_of-lt n (λ l. v (suc (suc l))))
  where
    go : (b : Bool) → now_of n (λ l. v (suc (suc l))) < 2 ^ n → one b + 2 * now_of n (λ l. v (suc (suc l))) < 2 ^ suc n
    go true h = omega (arith, pow-suc 2 n)
    go false h = omega (arith, pow-suc 2 n)

-- only the levels 2p, p < n, count
pub now_of_cong : (n : ℕ) (v w : Val) → ((p : ℕ) → p < n → v (2 * p) ≡ w (2 * p)) → now_of n v ≡ now_of n w
unfolding now_of
now_of_cong zero v w h = refl
now_of_cong (suc n) v w h =
    ap₂ (λ (b : Bool) (x : ℕ). one b + 2 * x) (h 0 (omega arith))
    (now_of_cong n _ _ (λ p l. ap v (twice p) ∙ h (suc p) (omega arith) ∙ sym (ap w (twice p))))
  where
    twice : (p : ℕ) → suc (suc (2 * p)) ≡ 2 * suc p
    twice p = omega arith

-- bit p of the state is level 2p
pub now_of-bit : (n : ℕ) (v : Val) (p : ℕ) → p < n → bit p (now_of n v) ≡ v (2 * p)
unfolding now_of
now_of-bit zero v p h = absurd (omega arith)
now_of-bit (suc n) v zero h = bit-low (v 0) _
now_of-bit (suc n) v (suc p) h =
    bit-half p _ ∙ ap (bit p) (half-low (v 0) _) ∙ now_of-bit n (λ l. v (suc (suc l))) p (omega arith) ∙ ap v (omega arith)

-- a state is made by its bits
pub now_of-state : (n : ℕ) (v : Val) (s : ℕ) → s < 2 ^ n → ((p : ℕ) → p < n → v (2 * p) ≡ bit p s) → now_of n v ≡ s
unfolding now_of
now_of-state zero v s l h = omega arith
now_of-state (suc n) v s l h =
    let lowest = ap one (h 0 (omega arith)) ∙ one_bit s in
    let rest = now_of-state n (λ k. v (suc (suc k))) (s / 2) (omega (arith, pow-suc 2 n))
    (λ p g. ap v (omega arith) ∙ h (suc p) (omega arith) ∙ bit-half p s) in
    omega arith

pub pair_val-now : (p s t : ℕ) → pair_val s t (2 * p) ≡ bit p s
unfolding pair_val
pair_val-now zero s t = refl
pair_val-now (suc p) s t = ap (pair_val s t) (twice p) ∙ pair_val-now p (s / 2) (t / 2) ∙ sym (bit-half p s)
  where
    twice : (p : ℕ) → 2 * suc p ≡ suc (suc (2 * p))
    twice p = omega arith

pub pair_val-next : (p s t : ℕ) → pair_val s t (suc (2 * p)) ≡ bit p t
unfolding pair_val
pair_val-next zero s t = refl
pair_val-next (suc p) s t = ap (pair_val s t) (twice p) ∙ pair_val-next p (s / 2) (t / 2) ∙ sym (bit-half p t)
  where
    twice : (p : ℕ) → suc (2 * suc p) ≡ suc (suc (suc (2 * p)))
    twice p = omega arith

-- the pair of a pair's valuation
pub now_of-pair_val : (n s t : ℕ) → s < 2 ^ n → now_of n (pair_val s t) ≡ s
now_of-pair_val n s t h = now_of-state n (pair_val s t) s h (λ p _. pair_val-now p s t)

pub next_of-pair_val : (n s t : ℕ) → t < 2 ^ n → next_of n (pair_val s t) ≡ t
next_of-pair_val n s t h = now_of-state n (λ l. pair_val s t (suc l)) t h (λ p _. pair_val-next p s t)
