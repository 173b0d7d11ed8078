-- `iterate`: each turn is a round of the game's formula. Assumes nothing.
use Rattle.std.proofs.Common.{refl, ◌^◌, ◌<◌, rules, arith}
use Rattle.std.proofs.lemmas.Result.{err_from_is_err_and}
use Rattle.modal.proofs.Chain.{base-bits}
use Rattle.seek.proofs.Search.{power_fits}
use Rattle.game_steps.proofs.Standing.{loop-starts, turn-asks, loop-out, loop_halts, loop-same, turn-notes, turn-less, loop-turns}
use Rattle.game_steps.proofs.iterate.Goals as goal

pub overflow_shl-noted : goal.overflow_shl-noted
overflow_shl-noted c = let l = base-bits c.requires.0.plays.ready.base in omega arith

pub loop-counted-init : goal.loop-counted-init
loop-counted-init c =
    loop-starts c.requires.1 (power_fits c.args.limits.bits (base-bits c.requires.0.plays.ready.base))

pub evaluate_round-requires : goal.evaluate_round-requires
evaluate_round-requires c =
    let top : c.args.limits.rounds < 2 ^ 32 = search rules in
    (turn-asks c.requires.0 c.loop-counted.invariant c.loop-counted-test.true top, c.loop-counted.invariant.counts_of)

pub returns-in_err-value : goal.returns-in_err-value
returns-in_err-value c =
    let p = err_from_is_err_and c.from_residual.result c.from_residual.ensures.1 in
    rw (p.1, p.2)
    (loop_halts c.requires.0 c.loop-counted.invariant c.evaluate_round.ensures.0 c.loop-counted-test.true c.in_err-value.was)

pub returns-then-value-current : goal.returns-then-value-current
returns-then-value-current c =
    loop-same c.requires.0 c.loop-counted.invariant c.evaluate_round.ensures.0 c.loop-counted-test.true c.in_ok-value.was
    c.if-value-current.true

pub note-noted-requires : goal.note-noted-requires
note-noted-requires c =
    turn-notes c.requires.0 c.loop-counted.invariant c.evaluate_round.ensures.0 c.loop-counted-test.true c.in_ok-value.was
    c.if-value-current.false c.evaluate_round.auto.stack

pub loop-counted-smaller : goal.loop-counted-smaller
loop-counted-smaller c =
    omega (
      arith,
      turn-less c.requires.0 c.loop-counted.invariant c.evaluate_round.ensures.0 c.loop-counted-test.true c.in_ok-value.was
          c.if-value-current.false c.evaluate_round.auto.stack,
      c.loop-counted-test.true,
    )

pub loop-counted-preserved : goal.loop-counted-preserved
loop-counted-preserved c =
    loop-turns c.requires.0 c.loop-counted.invariant c.evaluate_round.ensures.0 c.loop-counted-test.true c.in_ok-value.was
    c.if-value-current.false c.evaluate_round.auto.stack c.note-noted.ensures _ refl c.evaluate_round.ensures.1
    c.evaluate_round.auto.words c.evaluate_round.auto.counts

pub returns : goal.returns
returns c = loop-out c.requires.0 c.loop-counted.invariant c.loop-counted-test.false
