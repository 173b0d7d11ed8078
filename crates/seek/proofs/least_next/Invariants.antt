-- `least_next`: no state below t is a next one within the set. Assumes nothing.
use Rattle.layout.specs.View.{view}
use Rattle.seek.specs.Search.{next_in}
use Rattle.seek.proofs.Search.{NoneBelow}
use Rattle.seek.proofs.least_next.Given as goal

abbrev pub invariant-loop-t : goal.invariant-loop-t
invariant-loop-t l = NoneBelow (next_in (view l.rows l.words) l.r l.s l.b) l.t
