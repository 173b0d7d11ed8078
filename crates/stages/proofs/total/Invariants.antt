-- `total`: the sum is that of the counts passed. Assumes nothing.
use Rattle.std.proofs.Common.{◌≡◌}
use Rattle.diagram.specs.Tally.{sum_to}
use Rattle.stages.specs.Levels.{count_of}
use Rattle.stages.proofs.total.Given as goal

abbrev pub invariant-loop-x : goal.invariant-loop-x
invariant-loop-x l = l.sum ≡ sum_to (count_of l.fn.counts) l.x-index
