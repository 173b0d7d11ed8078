-- `least`: the contract for the arrows passed. Assumes nothing.
use Rattle.std.proofs.Common.{◌+◌}
use Rattle.layout.specs.View.{view}
use Rattle.soundness.specs.Lists.{Least}
use Rattle.soundness.proofs.within.least.Given as goal

abbrev pub invariant-loop-a : goal.invariant-loop-a
invariant-loop-a l = Least (view l.rows l.words) l.list l.from (l.from + l.a-index) l.top l.level
