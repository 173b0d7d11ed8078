-- `game_target` meets its contract: the numbers are in range, or not. Assumes nothing.
use Rattle.game_calls.proofs.Leaves.{target_in, target_out}
use borrow.Author.Rules.{rules}
use Rattle.game_calls.proofs.game_target.Statement.{statement}
use Rattle.game_calls.proofs.game_target.Tie as tie
use Rattle.game_calls.proofs.game_target.Reads as reads
use Rattle.game_calls.proofs.game_target.Lts as lts

pub game_target_spec : {M : Type 1} → statement M
game_target_spec =
    tie.close
    (tie.spec
    (λ c κs. search rules)
    (λ c. let a = c.args in target_in a.goal a.guest a.machine a.r c.in_range.ensures
    c.if-in_range.true)
    (λ c. let a = c.args in target_out a.goal a.guest a.machine a.r c.in_range.ensures
    c.if-in_range.false))
