-- An arrow to a row, taken apart: its row, level and arrows, and the levels that are left from an arrow on. Assumes nothing.
use Rattle.std.specs.Prelude.{◌≡◌, true, false, ℕ, ◌≤◌}
use Rattle.diagram.specs.Rows.{Rows, follow}
use Rattle.layout.specs.Arrows.{is_row, row_of}

-- the level of row i, and the arrows that are followed from arrow a, which leads there
pub record RowIs (rows : Rows) (a i l lo hi : ℕ) : Type 0 where
  pub level : l ≡ rows.level i
  pub low : lo ≡ follow rows a i false
  pub high : hi ≡ follow rows a i true

-- a leads to a row of a level up to x
pub record ReachesLevel (rows : Rows) (x a : ℕ) : Type 0 where
  pub is_row : is_row a ≡ true
  pub upto : rows.level (row_of a) ≤ x
