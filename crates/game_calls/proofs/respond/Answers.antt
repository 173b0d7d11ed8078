-- `respond`: each return is a case of the answer. Assumes nothing.
use Rattle.seek.proofs.Search.{power_fits}
use Rattle.game_calls.proofs.Leaves.{response_state, response_none}
use Rattle.game_calls.proofs.respond.Goals as goal

pub returns-then-u-bits : goal.returns-then-u-bits
returns-then-u-bits c =
    response_state c.args.bits c.in-Ok.u c.in-Ok.is (power_fits c.args.bits c.requires) c.if-u-bits.true

pub returns-else-u-bits : goal.returns-else-u-bits
returns-else-u-bits c =
    response_none c.args.bits c.in-Ok.u c.in-Ok.is (power_fits c.args.bits c.requires) c.if-u-bits.false
