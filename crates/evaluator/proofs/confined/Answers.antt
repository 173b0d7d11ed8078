-- `confined`: over states the step AND with V, which is passed over where V is every state. Assumes nothing.
use Rattle.std.proofs.Common.{sym, ◌∙◌}
use Rattle.evaluator.proofs.Leaves.{valid-asked, confined-known}
use Rattle.evaluator.proofs.confined.Goals as goal

pub returns-then-valid-eq-EVERYTHING : goal.returns-then-valid-eq-EVERYTHING
returns-then-valid-eq-EVERYTHING c = (
  confined-known c.in_ok-made.was c.root_arrow-valid.result c.root_arrow-valid.ensures
      (sym c.only_now.ensures ∙ c.if-only_now.true) c.if-valid-eq-EVERYTHING.true c.requires.0 c.requires.1,
  c.requires.1,
)

pub live_step-requires : goal.live_step-requires
live_step-requires c = (
  valid-asked c.in_ok-made.was c.root_arrow-valid.result c.root_arrow-valid.ensures c.requires.0,
  c.requires.1,
)
