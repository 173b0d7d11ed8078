-- `mark_list`: what the roots passed reach is marked. Assumes nothing.
use Rattle.std.proofs.Common.{◌≡◌, length}
use Rattle.layout.specs.View.{view}
use Rattle.rows.specs.Used.{rows_of}
use Rattle.collect.proofs.Lent.{Lent}
use Rattle.collect.proofs.mark_list.Given as goal

abbrev pub invariant-loop-a : goal.invariant-loop-a
invariant-loop-a l = (length l.marks ≡ length l.fn.marks) × Lent (rows_of (view l.rows l.words)) l.fn.marks l.marks l.roots l.a-index
