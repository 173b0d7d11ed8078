-- `free_row`: every row passed is used. Assumes nothing.
use Rattle.std.proofs.Common.{◌≡◌, ℕ, ◌<◌, ◌≤◌, true}
use Rattle.layout.specs.View.{view}
use Rattle.rows.specs.Used.{used}
use Rattle.table.proofs.free_row.Given as goal

abbrev pub invariant-loop-i : goal.invariant-loop-i
invariant-loop-i l = (j : ℕ) → j < l.i → l.from ≤ j → used (view l.rows l.words) j ≡ true
