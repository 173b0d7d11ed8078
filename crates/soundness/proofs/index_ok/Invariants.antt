-- `index_ok`: every listed row passed is found. Assumes nothing.
use Rattle.std.proofs.Common.{ℕ, ◌<◌}
use Rattle.layout.specs.View.{view, list_of}
use Rattle.soundness.specs.Checks.{Finds}
use Rattle.soundness.proofs.index_ok.Given as goal

abbrev pub invariant-loop-k : goal.invariant-loop-k
invariant-loop-k l = (j : ℕ) → j < l.k → Finds (view l.rows l.words) (list_of l.rows l.words j)
