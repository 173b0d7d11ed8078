-- `two_filled`: The check computes at each operator. Assumes nothing.
use borrow.Author.Rules.{rules}
use Rattle.formula.proofs.two_filled.Statement.{statement}
use Rattle.formula.proofs.two_filled.Tie as tie

pub two_filled_spec : {M : Type 1} → statement M
two_filled_spec =
    tie.close
    (tie.spec
    (λ c. search rules)
    (λ c. search rules)
    (λ c κs. search rules)
    (λ c. search rules)
    (λ c. rw c.in-Until.is c.relation_filled.ensures))
