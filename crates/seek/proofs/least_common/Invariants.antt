-- `least_common`: no state below s is in both sets. Assumes nothing.
use Rattle.layout.specs.View.{view}
use Rattle.seek.specs.Search.{in_both}
use Rattle.seek.proofs.Search.{NoneBelow}
use Rattle.seek.proofs.least_common.Given as goal

abbrev pub invariant-loop-s : goal.invariant-loop-s
invariant-loop-s l = NoneBelow (in_both (view l.rows l.words) l.a l.b) l.s
