-- `first_of`: The definition computes by the call. Assumes nothing.
use borrow.Author.Rules.{rules}
use Rattle.tokens.proofs.first_of.Statement.{statement}
use Rattle.tokens.proofs.first_of.Tie as tie

pub first_of_spec : {M : Type 1} → statement M
first_of_spec =
    tie.close
    (tie.spec (λ c. search rules) (λ c. search rules) (λ c. search rules) (λ c. rw c.in-Relation.is)
    (λ c. rw c.in-Set.is) (λ c. rw c.in-Valid.is))
