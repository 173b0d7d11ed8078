-- The cycle of the evaluator: the depth falls at each part, and the rounds left at each turn of `bind`. Assumes nothing.
use Rattle.std.proofs.Common.{◌+◌, ◌-◌, ◌*◌}
use Rattle.evaluator.proofs.Cycle.{Looping}
use Rattle.evaluator.proofs.+bind_both_eval_keep_modal_negate_round_turn.Given as goal

abbrev pub decreases-bind : goal.decreases-bind
decreases-bind l = 5 * l.here.depth + 4

abbrev pub decreases-both : goal.decreases-both
decreases-both l = 5 * l.here.depth + 1

abbrev pub decreases-eval : goal.decreases-eval
decreases-eval l = 5 * l.here.depth

abbrev pub decreases-keep : goal.decreases-keep
decreases-keep l = 5 * l.here.depth + 1

abbrev pub decreases-modal : goal.decreases-modal
decreases-modal l = 5 * l.here.depth + 1

abbrev pub decreases-negate : goal.decreases-negate
decreases-negate l = 5 * l.here.depth + 1

abbrev pub decreases-round : goal.decreases-round
decreases-round l = 5 * l.here.depth + 2

abbrev pub decreases-turn : goal.decreases-turn
decreases-turn l = 5 * l.here.depth + 3

abbrev pub invariant-bind-loop-counted : goal.invariant-bind-loop-counted
invariant-bind-loop-counted l =
    Looping l.limits l.fn.words l.words l.fn.counts l.counts l.fn.stack l.stack l.bytes l.here l.body l.current l.counted

abbrev pub decreases-bind-loop-counted : goal.decreases-bind-loop-counted
decreases-bind-loop-counted l = l.limits.rounds - l.counted.rounds
