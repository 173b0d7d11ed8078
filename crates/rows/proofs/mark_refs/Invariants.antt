-- `mark_refs`: the roots passed are marked. Assumes nothing.
use Rattle.std.proofs.Common.{◌≡◌, length}
use Rattle.layout.specs.View.{view}
use Rattle.rows.specs.Used.{rows_of}
use Rattle.rows.specs.Roots.{MarksAll, Held}
use Rattle.rows.proofs.mark_refs.Given as goal

abbrev pub invariant-loop-k : goal.invariant-loop-k
invariant-loop-k l =
    (length l.marks ≡ length l.fn.marks)
    × MarksAll (rows_of (view l.rows l.words)) l.fn.marks l.marks (Held (view l.rows l.words) l.from l.k)
