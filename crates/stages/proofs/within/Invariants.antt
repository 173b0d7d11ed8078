-- `within`: the sums are those of the next bound. Assumes nothing.
use Rattle.std.proofs.Common.{◌*◌}
use Rattle.stages.proofs.Levels.{Looking}
use Rattle.stages.proofs.within.Given as goal

abbrev pub invariant-loop-j : goal.invariant-loop-j
invariant-loop-j l = Looking (2 * l.bits) l.live l.above l.added l.most l.j l.below l.past
