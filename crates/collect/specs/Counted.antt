-- The marked rows counted. Assumes nothing.
use Rattle.std.specs.Prelude.{cond, List, ℕ, zero, suc, ◌+◌}
use Rattle.layout.specs.View.{View}
use Rattle.rows.specs.Bits.{is_on}

-- 1 where row i is marked, else 0
abbrev pub mark_of : List ℕ → ℕ → ℕ
mark_of m i = cond (is_on m i) 1 0

-- how many rows at the first k places of the list are marked
unfoldable pub mark_count : View → List ℕ → ℕ → ℕ
mark_count W m zero = 0
mark_count W m (suc k) = mark_count W m k + mark_of m (W.list k)
