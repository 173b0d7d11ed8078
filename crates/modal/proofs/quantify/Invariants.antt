-- `quantify`: the loop stands where the book's chain of EXISTS does, with so many levels left. Assumes nothing.
use Rattle.layout.specs.View.{view}
use Rattle.counting.specs.Counts.{CountsOf}
use Rattle.modal.proofs.Left.{Stands}
use Rattle.modal.proofs.quantify.Given as goal

abbrev pub invariant-loop-left : goal.invariant-loop-left
invariant-loop-left l =
    Stands l.limits.bits l.limits.rows l.limits.limit (view l.limits.rows l.fn.words) (view l.limits.rows l.words) l.roots l.a
    l.fn.count l.left l.c l.total
    × CountsOf (view l.limits.rows l.words) l.counts
