-- `opened` meets its contract, field by field. Assumes nothing.
use borrow.Author.Rules.{rules}
use Rattle.evaluator.proofs.opened.Statement.{statement}
use Rattle.evaluator.proofs.opened.Tie as tie
use Rattle.evaluator.proofs.opened.Reads as reads
use Rattle.evaluator.proofs.opened.Lts as lts

pub opened_spec : {M : Type 1} → statement M
opened_spec =
    tie.close
    (tie.spec
    (λ c κs. search rules)
    (λ c. search rules)
    (λ c. rw c.with_place-inner.ensures))
