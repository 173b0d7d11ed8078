-- `write_run`: one step after the other, each from the state that was written last. Assumes nothing.
use Rattle.std.proofs.Common.{arith}
use Rattle.coin_search.proofs.Nodes.{power_is}
use Rattle.coin_calls.proofs.Write.{write_starts, step_ahead, order-ends, write_turns, write_ends}
use Rattle.coin_calls.proofs.write_run.Goals as goal

pub loop-at-init : goal.loop-at-init
loop-at-init c =
    let e = power_is c.args.bits c.requires.0.hall.small in
    let x = write_starts c.requires.0 in
    (omega arith, x, λ l. step_ahead c.requires.0 x l (λ k. absurd (order-ends c.requires.0 e k)))

pub loop-at-preserved : goal.loop-at-preserved
loop-at-preserved c =
    let e = c.step_below-step.ensures in
    let x = write_turns c.requires.0 c.loop-at.invariant.1 e.step in
    (omega arith, x, λ l. step_ahead c.requires.0 x l (λ _. e.stands))

pub returns : goal.returns
returns c = write_ends c.requires.0 c.loop-at.invariant.1 c.loop-at-test.false
