-- `list_ok`: every place passed is in order. Assumes nothing.
use Rattle.std.proofs.Common.{ℕ, ◌<◌}
use Rattle.layout.specs.View.{view}
use Rattle.soundness.specs.Checks.{Placed}
use Rattle.soundness.proofs.list_ok.Given as goal

abbrev pub invariant-loop-k : goal.invariant-loop-k
invariant-loop-k l = (j : ℕ) → j < l.k → Placed (view l.rows l.words) j
