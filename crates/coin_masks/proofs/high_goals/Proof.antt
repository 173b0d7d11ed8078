-- `high_goals` meets its contract: the goals of the column, shifted by it. Assumes nothing.
use native.Mathlib.Omega.{arith}
use Rattle.coin_masks.proofs.MasksLaws.{upper_is, shift-few}
use borrow.Author.Rules.{rules}
use Rattle.coin_masks.proofs.high_goals.Statement.{statement}
use Rattle.coin_masks.proofs.high_goals.Tie as tie
use Rattle.coin_masks.proofs.high_goals.Reads as reads
use Rattle.coin_masks.proofs.high_goals.Lts as lts

pub high_goals_spec : {M : Type 1} → statement M
high_goals_spec =
    tie.close
    (tie.spec
    (λ c κs. search rules)
    (λ c. search rules)
    (λ c. search rules)
    (λ c. let (e, l) = shift-few c.args.k c.requires in omega arith)
    (λ c. upper_is _ _ c.requires c.column.ensures (shift-few c.args.k c.requires).0 (omega arith)))
