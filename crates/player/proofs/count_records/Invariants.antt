-- `count_records`: the commands in the bytes passed are counted. Assumes nothing.
use Rattle.std.proofs.Common.{◌≡◌, List, length, ◌-◌}
use Rattle.book.specs.Program.{Command}
use Rattle.player.proofs.Passes.{Passed}
use Rattle.player.proofs.count_records.Given as goal

abbrev pub invariant-loop-at : goal.invariant-loop-at
invariant-loop-at l = (cs : List Command) × Passed l.bytes l.at cs × (length cs ≡ l.count)

abbrev pub decreases-loop-at : goal.decreases-loop-at
decreases-loop-at l = length l.bytes - l.at
