-- Marking: what marking from an arrow leaves is exactly the rows that it reaches. Assumes nothing.
use Rattle.std.specs.Prelude.{◌⊎◌, List, [], ◌∷◌, ℕ, zero, suc, ◌-◌, ◌*◌, ◌≤◌}
use Rattle.layout.specs.Places.{words_for, BITS}
use Rattle.diagram.specs.Rows.{Rows, target, Arrow, level_of, WellFormed}
use Rattle.diagram.specs.Reach.{Reach}
use Rattle.layout.specs.View.{View}
use Rattle.rows.specs.Used.{rows_of}
use Rattle.rows.specs.Bits.{On}

-- an arrow is 0, 1 or leads to a marked row
abbrev pub OnTo : List ℕ → ℕ → Type 0
OnTo m zero = Unit {0}
OnTo m (suc i) = On m i

abbrev pub OnArrow : List ℕ → ℕ → Type 0
OnArrow m a = OnTo m (target a)

-- the arrows of marked rows lead to marked rows
pub record Closed (rows : Rows) (m : List ℕ) : Type 0 where
  pub low : (i : ℕ) → On m i → OnArrow m (rows.low i)
  pub high : (i : ℕ) → On m i → OnArrow m (rows.high i)

-- exactly the rows that arrow a reaches were marked, and nothing else
pub record Marks (rows : Rows) (m m' : List ℕ) (a : ℕ) : Type 0 where
  pub kept : (i : ℕ) → On m i → On m' i
  pub has : OnArrow m' a
  pub only : (i : ℕ) → On m' i → On m i ⊎ Reach rows (a ∷ []) i
  pub closed : Closed rows m → Closed rows m'

-- a well-formed table, with room for a mark of each row
pub record Base (w : View) (size : ℕ) : Type 0 where
  pub words : words_for w.rows ≤ w.size
  pub rows : WellFormed (2 * w.header BITS) w.rows (rows_of w)
  pub room : w.rows ≤ 32 * size

-- what marking asks
pub record MarkPre (w : View) (size a : ℕ) : Type 0 where
  pub base : Base w size
  pub arrow : Arrow (rows_of w) a

-- how far an arrow's level is from the last
abbrev pub depth : View → ℕ → ℕ
depth w a = 2 * w.header BITS - level_of (2 * w.header BITS) (rows_of w) a
