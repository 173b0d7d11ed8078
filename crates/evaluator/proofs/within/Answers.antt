-- `within`: AND with V, SHIFT of V and AND with that are one chain of steps. Assumes nothing.
use Rattle.std.proofs.lemmas.Result.{err_from_is_err_and}
use Rattle.evaluator.proofs.Inside.{within-full, shift-asks, shift-full, last-asks, within-ends}
use Rattle.evaluator.proofs.within.Goals as goal

pub returns-in_err-first : goal.returns-in_err-first
returns-in_err-first c =
    let p = err_from_is_err_and c.from_residual.result c.from_residual.ensures.1 in
    rw p.1 (
      within-full c.root_arrow-valid.result c.root_arrow-valid.ensures c.requires.0.operand c.live_step.ensures.0 c.in_err-first.was,
      c.live_step.ensures.1,
    )

pub live_step-requires-2 : goal.live_step-requires-2
live_step-requires-2 c = (
  shift-asks c.root_arrow-valid.result c.root_arrow-valid.ensures c.requires.0.operand c.live_step.ensures.0 c.in_ok-first.was
      c.requires.0.ready,
  c.live_step.ensures.1,
)

pub returns-in_err-second : goal.returns-in_err-second
returns-in_err-second c =
    let p = err_from_is_err_and c.from_residual-in_err-second.result c.from_residual-in_err-second.ensures.1 in
    rw p.1 (
      shift-full c.root_arrow-valid.result c.root_arrow-valid.ensures c.requires.0.operand c.live_step.ensures.0 c.in_ok-first.was
          c.live_step-2.ensures.0 c.in_err-second.was,
      c.live_step-2.ensures.1,
    )

pub live_step-requires-3 : goal.live_step-requires-3
live_step-requires-3 c = (
  last-asks c.root_arrow-valid.result c.root_arrow-valid.ensures c.requires.0.operand c.live_step.ensures.0 c.in_ok-first.was
      c.live_step-2.ensures.0 c.in_ok-second.was c.requires.0.ready,
  c.live_step-2.ensures.1,
)

pub returns : goal.returns
returns c = (
  within-ends c.root_arrow-valid.result c.root_arrow-valid.ensures c.requires.0.operand c.live_step.ensures.0 c.in_ok-first.was
      c.live_step-2.ensures.0 c.in_ok-second.was c.live_step-3.ensures.0,
  c.live_step-3.ensures.1,
)
