-- "An arrow is 0 (nothing), 1 (everything) or a used row", and may carry a NOT: arrows (edges, in the field's words) are taken apart here
-- only. Assumes nothing.
use Rattle.std.specs.Prelude.{Bool, true, false, ℕ, zero, suc, ◌+◌, ◌-◌, ◌*◌, ◌/◌, ◌%◌, eqb}

-- whether an arrow leads to a row
unfoldable pub is_row : ℕ → Bool
is_row zero = false
is_row (suc zero) = false
is_row (suc (suc i)) = true

-- the row that it leads to
unfoldable pub row_of : ℕ → ℕ
row_of a = a / 2 - 1

-- the arrow to row i without a NOT
abbrev pub arrow_of : ℕ → ℕ
arrow_of i = 2 * suc i

-- "An arrow may now carry a NOT": an odd one does
abbrev pub is_marked : ℕ → Bool
is_marked a = eqb (a % 2) 1

-- NOT of an arrow, and NOT where b
abbrev pub flip_arrow : ℕ → ℕ
flip_arrow a = (a + 1) - 2 * (a % 2)

abbrev pub carry_arrow : Bool → ℕ → ℕ
carry_arrow false a = a
carry_arrow true a = flip_arrow a
