-- `low_goals` meets its contract: without the goals of the column. Assumes nothing.
use Rattle.coin_masks.proofs.MasksLaws.{lower-is}
use borrow.Author.Rules.{rules}
use Rattle.coin_masks.proofs.low_goals.Statement.{statement}
use Rattle.coin_masks.proofs.low_goals.Tie as tie
use Rattle.coin_masks.proofs.low_goals.Reads as reads
use Rattle.coin_masks.proofs.low_goals.Lts as lts

pub low_goals_spec : {M : Type 1} → statement M
low_goals_spec =
    tie.close
    (tie.spec
    (λ c κs. search rules)
    (λ c. lower-is _ _ c.requires c.column.ensures))
