-- `iterate`: the words, the stack and what is noted stand where so many rounds leave them. Assumes nothing.
use Rattle.std.proofs.Common.{◌-◌}
use Rattle.game_steps.proofs.Standing.{Looping}
use Rattle.game_steps.proofs.iterate.Given as goal

abbrev pub invariant-loop-counted : goal.invariant-loop-counted
invariant-loop-counted l =
    Looping l.limits l.fn.words l.words l.fn.counts l.counts l.fn.stack l.stack l.bytes l.asked l.noted l.current l.counted

abbrev pub decreases-loop-counted : goal.decreases-loop-counted
decreases-loop-counted l = l.limits.rounds - l.counted.rounds
