-- `joined`: a part with a value goes through the step of both values. Assumes nothing.
use Rattle.evaluator.proofs.Outcomes.{joined_step, joined-steps}
use Rattle.evaluator.proofs.joined.Goals as goal

pub live_step-taken-requires : goal.live_step-taken-requires
live_step-taken-requires c = (joined_step c.requires.0 c.in_ok-value.was c.join_of-step.ensures, c.requires.1)

pub returns : goal.returns
returns c = (
  joined-steps c.in_ok-value.was c.join_of-step.ensures c.live_step-taken.ensures.0 c.answer.ensures,
  c.live_step-taken.ensures.1,
)
