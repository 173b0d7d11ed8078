-- `count_one` meets its contract: one place is written. Assumes nothing.
use Rattle.stages.proofs.Levels.{one_more}
use borrow.Author.Rules.{rules}
use Rattle.stages.proofs.count_one.Statement.{statement}
use Rattle.stages.proofs.count_one.Tie as tie
use Rattle.stages.proofs.count_one.Reads as reads
use Rattle.stages.proofs.count_one.Lts as lts

pub count_one_spec : {M : Type 1} → statement M
count_one_spec =
    tie.close
    (tie.spec
    (λ c. search rules)
    (λ c. search rules)
    (λ c. search rules)
    (λ c. search rules)
    (λ c. search rules)
    (λ c. search rules)
    (λ c. one_more _ _ c.requires.0))
