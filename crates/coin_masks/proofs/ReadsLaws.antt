-- What an arrow reads of a state: no bit below half its level. Assumes nothing.
use mathlib.Core.Path.{◌≡◌, refl, sym, ap, ◌∙◌}
use mathlib.Core.Logic.{by_cases}
use mathlib.Core.Bool.{Bool, true, false, cond, true≢false}
use Prim.Native.Nat.{ℕ, zero, suc, ◌-◌, ◌*◌, ◌/◌, ◌%◌, ◌^◌, ◌≤◌, ◌<◌}
use native.Mathlib.Decide.{ℕ_discrete}
use native.Mathlib.Omega.{arith}
use Rattle.mucalculus.specs.Means.{bit}
use Rattle.diagram.specs.Rows.{level_to, level_of}
use Rattle.diagram.proofs.Den.{den_reads}
use Rattle.layout.specs.Places.{BITS, LEVEL}
use Rattle.layout.specs.View.{View}
use Rattle.layout.specs.Arrows.{is_row, row_of}
use Rattle.layout.proofs.Arrows.{row_is}
use Rattle.rows.specs.Used.{rows_of}
use Rattle.rows.specs.Mark.{depth}
use Rattle.book.specs.States.{pair_val}
use Rattle.seek.specs.Walk.{HoldsPre, holds_at}
use Rattle.seek.specs.Apart.{level_at, Followed}
use Rattle.seek.proofs.Walk.{even-level, odd-level, walk-row, walk_end}
use Rattle.coin_masks.proofs.Bits.{bit-above}

-- an arrow to no row
none_is : (a : ℕ) → is_row a ≡ false → a / 2 ≡ 0
unfolding is_row
none_is zero e = refl
none_is (suc zero) e = refl
none_is (suc (suc i)) e = absurd (true≢false e)

module _ (W : View) (x : ℕ) (a : HoldsPre W x) where
  level-here : is_row x ≡ true → level_at W x ≡ W.cell (row_of x) LEVEL
  level-here e = ap (λ (r : Bool). cond r (W.cell (row_of x) LEVEL) 32) e

  -- a level is at most 32
  pub level-most : level_at W x ≤ 32
  level-most = go (is_row x) refl
    where
      go : (r : Bool) → is_row x ≡ r → level_at W x ≤ 32
      go true e = let l = (walk-row W x a e refl).1 in let h = level-here e in let b = a.bits in omega arith
      go false e = let z : level_at W x ≡ 32 = ap (λ (r : Bool). cond r (W.cell (row_of x) LEVEL) 32) e in omega arith

  -- two states that agree from half the level on
  module _ (u s t : ℕ) (q : s / 2 ^ (level_at W x / 2) ≡ t / 2 ^ (level_at W x / 2)) where
    agree : (k : ℕ) → level_at W x ≤ k → pair_val u s k ≡ pair_val u t k
    agree k l = by_cases (ℕ_discrete (k % 2) 0)
        (λ e. sym (even-level u s k e) ∙ even-level u t k e)
        (λ e. sym (odd-level u s k e)
        ∙ (bit-above (level_at W x / 2) (k / 2) s (omega arith) ∙ ap (bit (k / 2 - level_at W x / 2)) q
        ∙ sym (bit-above (level_at W x / 2) (k / 2) t (omega arith)))
        ∙ odd-level u t k e)

    pub reads_high : holds_at W x u s ≡ holds_at W x u t
    reads_high = go (is_row x) refl
      where
        go : (r : Bool) → is_row x ≡ r → holds_at W x u s ≡ holds_at W x u t
        go true e =
            den_reads a.mark.base.rows (2 * W.header BITS) x a.mark.arrow (pair_val u s) (pair_val u t)
            (λ k l _. agree k (
            let h = level-here e in
            let o : level_of (2 * W.header BITS) (rows_of W) x ≡ W.cell (row_of x) LEVEL =
            ap (level_to (2 * W.header BITS) (rows_of W)) (row_is x e) in
            omega arith))
        go false e = sym (walk_end W u s x e) ∙ walk_end W u t x e

  -- an arrow that reads no bit below `low`, at two pairs that agree from there on
  pub reads_both : (low u v s t : ℕ) → 2 * low ≤ level_at W x → u / 2 ^ low ≡ v / 2 ^ low → s / 2 ^ low ≡ t / 2 ^ low
      → holds_at W x u s ≡ holds_at W x v t
  reads_both low u v s t d eu es = go (is_row x) refl
    where
      part : (a b k : ℕ) → low ≤ k → a / 2 ^ low ≡ b / 2 ^ low → bit k a ≡ bit k b
      part a b k l e = bit-above low k a l ∙ ap (bit (k - low)) e ∙ sym (bit-above low k b l)

      agree : (k : ℕ) → level_at W x ≤ k → pair_val u s k ≡ pair_val v t k
      agree k l = by_cases (ℕ_discrete (k % 2) 0)
          (λ e. sym (even-level u s k e) ∙ part u v (k / 2) (omega arith) eu ∙ even-level v t k e)
          (λ e. sym (odd-level u s k e) ∙ part s t (k / 2) (omega arith) es ∙ odd-level v t k e)

      go : (r : Bool) → is_row x ≡ r → holds_at W x u s ≡ holds_at W x v t
      go true e =
          den_reads a.mark.base.rows (2 * W.header BITS) x a.mark.arrow (pair_val u s) (pair_val v t)
          (λ k l _. agree k (
          let h = level-here e in
          let o : level_of (2 * W.header BITS) (rows_of W) x ≡ W.cell (row_of x) LEVEL =
          ap (level_to (2 * W.header BITS) (rows_of W)) (row_is x e) in
          omega arith))
      go false e = sym (walk_end W u s x e) ∙ walk_end W v t x e

  -- of a row it is less
  pub row-level : is_row x ≡ true → level_at W x < 32
  row-level e = let l = (walk-row W x a e refl).1 in let h = level-here e in let b = a.bits in omega arith

  -- as depth sees it
  row-depth : is_row x ≡ true → (depth W x ≡ 2 * W.header BITS - level_at W x) × (level_at W x < 2 * W.header BITS)
  row-depth e =
      let h = level-here e in
      let o : level_of (2 * W.header BITS) (rows_of W) x ≡ W.cell (row_of x) LEVEL =
      ap (level_to (2 * W.header BITS) (rows_of W)) (row_is x e) in
      let l = (walk-row W x a e refl).1 in
      (ap (λ (y : ℕ). 2 * W.header BITS - y) (o ∙ sym h), omega arith)

  none-depth : is_row x ≡ false → (depth W x ≡ 0) × (level_at W x ≡ 32)
  none-depth e = (
    (let o : level_of (2 * W.header BITS) (rows_of W) x ≡ 2 * W.header BITS =
        ap (level_to (2 * W.header BITS) (rows_of W)) (none_is x e) in omega arith),
    ap (λ (r : Bool). cond r (W.cell (row_of x) LEVEL) 32) e,
  )

-- an arrow that is followed at a level that is not behind it reads only later ones
pub level-later : {W : View} {a l x : ℕ} {side : Bool} → Followed W a l side x → HoldsPre W a → l ≤ level_at W a → l < 32 → l < level_at W x
level-later {W} {a} {l} {x} f h le lt = go (is_row x) refl (is_row a) refl
  where
    go : (r : Bool) → is_row x ≡ r → (q : Bool) → is_row a ≡ q → l < level_at W x
    go false ex q ea = let z = (none-depth W x f.pre ex).1 in omega arith
    go true ex true ea =
        let (dx, lx) = row-depth W x f.pre ex in
        let (da, la) = row-depth W a h ea in
        by_cases (ℕ_discrete l (level_at W a))
        (λ e. let g = f.less (λ z. omega arith) e in omega arith)
        (λ n. let g = f.most in omega arith)
    go true ex false ea =
        let (dx, lx) = row-depth W x f.pre ex in
        let (da, la) = none-depth W a h ea in
        let g = f.most in
        absurd (omega arith)
