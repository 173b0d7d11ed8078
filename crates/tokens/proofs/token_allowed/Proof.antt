-- `token_allowed`: The definition computes at each token. Assumes nothing.
use borrow.Author.Rules.{rules}
use Rattle.tokens.proofs.token_allowed.Statement.{statement}
use Rattle.tokens.proofs.token_allowed.Tie as tie

pub token_allowed_spec : {M : Type 1} → statement M
token_allowed_spec =
    tie.close
    (tie.spec
    (λ c. c.in-Leaf-1.keys1)
    (λ c κs. tt)
    (λ c. c.in-Not-1.keys2)
    (λ c. c.in-Both-1.keys3)
    (λ c κs. tt)
    (λ c. c.in-Modal-1.keys4)
    (λ c κs. tt)
    (λ c. c.in-Binder-1.keys5)
    (λ c κs. tt)
    (λ c. rw c.in-Leaf.is c.leaf_allowed.ensures)
    (λ c. search rules)
    (λ c. rw c.in-Both.is c.two_allowed.ensures)
    (λ c. search rules)
    (λ c. search rules))
