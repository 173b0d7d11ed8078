-- `join_of` meets its contract, by AND and OR. Assumes nothing.
use borrow.Author.Rules.{rules}
use Rattle.evaluator.proofs.join_of.Statement.{statement}
use Rattle.evaluator.proofs.join_of.Tie as tie
use Rattle.evaluator.proofs.join_of.Reads as reads
use Rattle.evaluator.proofs.join_of.Lts as lts

pub join_of_spec : {M : Type 1} → statement M
join_of_spec =
    tie.close (tie.spec (λ c. search rules) (λ c. search rules) (λ c. rw c.in-And.is) (λ c. rw c.in-Or.is))
