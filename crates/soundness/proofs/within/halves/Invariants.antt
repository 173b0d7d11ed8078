-- `halves`: the contract for the arrows passed. Assumes nothing.
use Rattle.layout.specs.View.{view}
use Rattle.soundness.specs.Lists.{Halves}
use Rattle.soundness.proofs.within.halves.Given as goal

abbrev pub invariant-loop-k : goal.invariant-loop-k
invariant-loop-k l = Halves (view l.rows l.words) l.level l.side l.fn.list l.list l.from l.k l.start l.end l.stop
