-- What marking from some roots and gathering leave: a sound table with exactly the rows that the roots reach, as many as they need.
-- Assumes nothing.
use Rattle.std.specs.Prelude.{List, ℕ}
use Rattle.diagram.specs.Collect.{Collects}
use Rattle.layout.specs.View.{View}
use Rattle.rows.specs.Used.{rows_of}
use Rattle.rows.specs.Sound.{Sound}
use Rattle.table.specs.Add.{Frame}

-- what a collection leaves, W before and X after: "Freed rows are used again", and nothing else is written
pub record Freed (W X : View) (roots : List ℕ) : Type 0 where
  pub sound : Sound X
  pub frame : Frame W X
  pub collects : Collects (rows_of W) (rows_of X) roots
