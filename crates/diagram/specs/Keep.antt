-- What is kept of a table: the rows that some roots reach, row by row. Assumes nothing.
use Rattle.std.specs.Prelude.{◌≡◌, true, List, ℕ}
use Rattle.diagram.specs.Rows.{Rows}
use Rattle.diagram.specs.Reach.{Reach}

-- "Kept: registers, relations, tally, rows they need": every row that the roots reach is used still, with the same level, low and high.
pub record Keeps (before after : Rows) (roots : List ℕ) : Type 0 where
  pub used : (i : ℕ) → Reach before roots i → after.used i ≡ true
  pub level : (i : ℕ) → Reach before roots i → after.level i ≡ before.level i
  pub low : (i : ℕ) → Reach before roots i → after.low i ≡ before.low i
  pub high : (i : ℕ) → Reach before roots i → after.high i ≡ before.high i
