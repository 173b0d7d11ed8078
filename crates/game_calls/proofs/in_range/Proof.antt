-- `in_range` meets its contract: each return is a case of it. Assumes nothing.
use Rattle.game_calls.proofs.Leaves.{range-goal, range-guest, range-machine, range-yes}
use Rattle.game_calls.proofs.in_range.Statement.{statement}
use Rattle.game_calls.proofs.in_range.Tie as tie
use Rattle.game_calls.proofs.in_range.Reads as reads
use Rattle.game_calls.proofs.in_range.Lts as lts

pub in_range_spec : {M : Type 1} → statement M
in_range_spec =
    tie.close
    (tie.spec
    (λ c. range-goal c.args.goal c.args.guest c.args.machine c.if-goal-ge-REGISTERS.true)
    (λ c. range-guest c.args.goal c.args.guest c.args.machine c.if-guest-ge-RELATIONS.true)
    (λ c. range-machine c.args.goal c.args.guest c.args.machine c.if-machine-ge-RELATIONS.true)
    (λ c. range-yes c.args.goal c.args.guest
    c.args.machine c.if-goal-ge-REGISTERS.false c.if-guest-ge-RELATIONS.false c.if-machine-ge-RELATIONS.false))
