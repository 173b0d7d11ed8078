-- `put_listed` meets its contract: one store is one change of the view. Assumes nothing.
use Rattle.layout.proofs.View.{view-list}
use borrow.Author.Rules.{rules}
use Rattle.layout.proofs.put_listed.Statement.{statement}
use Rattle.layout.proofs.put_listed.Tie as tie

pub put_listed_spec : {M : Type 1} → statement M
put_listed_spec =
    tie.close
    (tie.spec
    (λ c. search rules)
    (λ c. search rules)
    (λ c. search rules)
    (λ c. search rules)
    (λ c. search rules)
    (λ c. search rules)
    (λ c. view-list _ _ c.requires.1 _ _ c.requires.0))
