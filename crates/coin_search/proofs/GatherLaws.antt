-- Laws of what specs/Gather.antt defines. Assumes nothing.
use mathlib.Core.Path.{◌≡◌, refl, sym, ap, ◌∙◌, subst}
use mathlib.Core.Logic.{by_cases}
use mathlib.Core.Bool.{Bool, true, false, ◌||◌, true≢false}
use mathlib.Core.List.{List}
use Prim.Native.Nat.{ℕ, ◌+◌, ◌-◌, ◌*◌, ◌/◌, ◌%◌, ◌^◌, ◌≤◌, ◌<◌}
use native.Mathlib.Nat.{one-mul, mul-le-mul_right}
use native.Mathlib.Decide.{ℕ_discrete, dec_lt}
use native.Mathlib.Omega.{arith}
use lib.Bits.{bit_or}
use lib.Dec.{eqb}
use lib.ListN.{length}
use lib.Pow.{pow-add, pow_mono, shl-shr}
use Rattle.mucalculus.specs.Means.{bit}
use Rattle.coin_masks.proofs.Bits.{bit-or}
use Rattle.coin_masks.proofs.MasksLaws.{no-bit, or-true}
use Rattle.coin_search.specs.Words.{mark_of}
use Rattle.coin_search.specs.Gather.{GoalBit, Gathered, GatherPre, OwnState, Goals}
use Rattle.coin_search.proofs.Nodes.{bit_power, power_wide, power_is, shift_is}

-- 2^j has bit j
pub bit-own : (j : ℕ) → bit j (2 ^ j) ≡ true
bit-own j =
    let e : 2 ^ j / 2 ^ j ≡ 1 = ap (λ (y : ℕ). y / 2 ^ j) (sym (one-mul (2 ^ j))) ∙ shl-shr 1 j in
    ap (λ (y : ℕ). eqb (y % 2) 1) e

-- ---- the returns of `goal_bit`

module _ (w : List ℕ) (s m j : ℕ) {x : ℕ} (lj : j < 64) (e : x ≡ mark_of w s) where
  pub bit-met : x ≡ m → GoalBit w s m j (1 * 2 ^ j % 18_446_744_073_709_551_616)
  bit-met z = record {
    from = λ i b. (bit_power j i (ap (bit i) (sym (power_wide j lj)) ∙ b), sym e ∙ z);
    has = λ _. ap (bit j) (power_wide j lj) ∙ bit-own j;
  }

  pub bit-missed : (x ≡ m → ⊥) → GoalBit w s m j 0
  bit-missed z = record { from = λ i b. absurd (true≢false (sym b ∙ no-bit i)); has = λ q. absurd (z (e ∙ q)) }

-- ---- the loop of `goals_of`

module _ {n low : ℕ} {w : List ℕ} {q : ℕ} (a : GatherPre n low w q) where
  -- how many there are
  pub upper_is : 1 * 2 ^ (n - low) % 4_294_967_296 ≡ 2 ^ (n - low)
  upper_is = power_is (n - low) (let f = a.few in omega arith)

  pub upper-few : 2 ^ (n - low) ≤ 64
  upper-few = pow_mono {i = n - low} {j = 6} (let b = a.bits.wide in omega arith)

  module _ (j : ℕ) (l : j < 2 ^ (n - low)) where
    pub goal-is : q + j * 2 ^ low % 4_294_967_296 ≡ q + j * 2 ^ low
    goal-is = ap (λ (y : ℕ). q + y) (shift_is a.bits j (let f = upper-few in omega arith))

    pub goal-below : q + j * 2 ^ low < 2 ^ n
    goal-below =
        let e : 2 ^ n ≡ 2 ^ (n - low) * 2 ^ low = (let d : n ≡ (n - low) + low = (let b = a.bits.depth in omega arith) in
        ap (λ (y : ℕ). 2 ^ y) d ∙ pow-add 2 (n - low) low) in
        let f = a.lower in
        below j (2 ^ (n - low)) (2 ^ low) l f e
      where
        below : (j k c : ℕ) {t : ℕ} → j < k → q < c → t ≡ k * c → q + j * c < t
        below j k c h g e =
            let d : (j + 1) * c ≤ k * c = mul-le-mul_right c (omega arith) in
            let o : (j + 1) * c ≡ j * c + c = omega arith in
            omega arith

    pub goal-asks : (q + j * 2 ^ low % 4_294_967_296 < length w) × (j < 64)
    goal-asks = (
      (let e = goal-is in let b = goal-below in let r = a.room in omega arith),
      (let f = upper-few in omega arith),
    )

    pub gathered_next : {m goals r : ℕ} → Gathered low w q m j goals → GoalBit w (q + j * 2 ^ low % 4_294_967_296) m j r
        → Gathered low w q m (j + 1) (bit_or goals r)
    gathered_next {m} {goals} {r} g b = record {
      from = λ i e. from i (bit i goals) refl (sym (bit-or i goals r) ∙ e);
      has = λ i li e. bit-or i goals r ∙ by_cases (ℕ_discrete i j)
          (λ z. or-true (bit i goals) (ap (λ (y : ℕ). bit y r) z ∙ b.has (ap (mark_of w) goal-is
          ∙ ap (λ (y : ℕ). mark_of w (q + y * 2 ^ low)) (sym z) ∙ e)))
          (λ z. ap (λ (y : Bool). y || bit i r) (g.has i (omega arith) e));
    }
      where
        from : (i : ℕ) (v : Bool) → bit i goals ≡ v → (bit i goals || bit i r) ≡ true → (i < j + 1) × (mark_of w (q + i * 2 ^ low) ≡ m)
        from i true e _ = let (c, d) = g.from i e in (omega arith, d)
        from i false e y =
            let (c, d) = b.from i (ap (λ (z : Bool). z || bit i r) (sym e) ∙ y) in
            (omega arith, ap (λ (z : ℕ). mark_of w (q + z * 2 ^ low)) c ∙ ap (mark_of w) (sym goal-is) ∙ d)

  -- ---- the returns of `gather`

  module _ {j m count : ℕ} (o : OwnState n low w q j m count) where
    -- its upper bits are few
    pub own-few : j < 2 ^ (n - low)
    own-few = by_cases (dec_lt j (2 ^ (n - low))) (λ l. l) (λ l.
        let e : 2 ^ n ≡ 2 ^ (n - low) * 2 ^ low = (let d : n ≡ (n - low) + low = (let b = a.bits.depth in omega arith) in
        ap (λ (y : ℕ). 2 ^ y) d ∙ pow-add 2 (n - low) low) in
        let d : 2 ^ (n - low) * 2 ^ low ≤ j * 2 ^ low = mul-le-mul_right (2 ^ low) (omega arith) in
        let b = o.below in
        absurd (omega arith))

    pub one-goal : Goals n low w q j m (1 * 2 ^ j % 18_446_744_073_709_551_616)
    one-goal = record {
      from = λ i b.
          let e : i ≡ j = bit_power j i (ap (bit i) (sym (power_wide j (let l = own-few in let f = upper-few in omega arith))) ∙ b) in
          (subst (λ (y : ℕ). q + y * 2 ^ low < 2 ^ n) (sym e) o.below, ap (λ (y : ℕ). mark_of w (q + y * 2 ^ low)) e ∙ o.mark);
      has = ap (bit j) (power_wide j (let l = own-few in let f = upper-few in omega arith)) ∙ bit-own j;
    }

    pub all-goals : {goals : ℕ} → Gathered low w q m (2 ^ (n - low)) goals → Goals n low w q j m goals
    all-goals g = record { from = λ i b. let (l, e) = g.from i b in (goal-below i l, e); has = g.has j own-few o.mark }
