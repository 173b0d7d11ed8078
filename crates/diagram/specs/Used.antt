-- How many rows of a table are used. Assumes nothing.
use Rattle.std.specs.Prelude.{cond, List, [], ◌∷◌, ℕ, zero, suc, length}
use Rattle.diagram.specs.Rows.{Rows}

-- The used rows below n.
unfoldable pub used_rows : Rows → ℕ → List ℕ
used_rows rows zero = []
used_rows rows (suc n) = cond (rows.used n) (n ∷ used_rows rows n) (used_rows rows n)

-- The number of used rows of a table of N rows.
abbrev pub used_count : Rows → ℕ → ℕ
used_count rows N = length (used_rows rows N)
