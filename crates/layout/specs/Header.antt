-- The header of an empty table. Assumes nothing.
use Rattle.std.specs.Prelude.{List, ℕ, replicate, set}
use Rattle.layout.specs.Places.{HEADER, BITS, ROWS, LAYOUT, CURRENT, VALID, ALL_STATES}

-- "Fresh empties them all": n, N, the layout, "after fresh, V is every state", else zeros
unfoldable pub header_words : ℕ → ℕ → List ℕ
header_words n N = set (set (set (set (replicate HEADER 0) BITS n) ROWS N) LAYOUT CURRENT) VALID ALL_STATES
