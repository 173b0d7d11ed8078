-- Collecting at a step: just the rows that what is live and one more arrow need are left, and nothing is remembered. Assumes nothing.
use mathlib.Core.List.{List, ◌∷◌, Memᴰ as Mem}
use Rattle.std.specs.Prelude.{ℕ}
use Rattle.diagram.specs.Rows.{Arrow}
use Rattle.diagram.specs.Collect.{Collects}
use Rattle.layout.specs.View.{View}
use Rattle.rows.specs.Used.{rows_of}
use Rattle.rows.specs.Sound.{Sound}
use Rattle.memory.specs.Memo.{Remembers}
use Rattle.operations.specs.Work.{OpFrame}
use Rattle.steps.specs.Steps.{operands_of, live_at}
use Rattle.steps.specs.declared.Step.{Step}

-- what it asks: all of these are arrows
pub record CleanPre (W : View) (roots : List ℕ) (s : Step) (kept : ℕ) : Type 0 where
  pub sound : Sound W
  pub arrows : (a : ℕ) → Mem a roots → Arrow (rows_of W) a
  pub operands : (a : ℕ) → Mem a (operands_of s) → Arrow (rows_of W) a
  pub kept-arrow : Arrow (rows_of W) kept

-- what it leaves
pub record Cleaned (W X : View) (roots : List ℕ) (s : Step) (kept : ℕ) : Type 0 where
  pub sound : Sound X
  pub memory : (m : ℕ) → Remembers m X
  pub frame : OpFrame W X
  pub collects : Collects (rows_of W) (rows_of X) (kept ∷ live_at W roots s)
