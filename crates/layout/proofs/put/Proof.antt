-- `put` meets its contract: one store is one change of the view. Assumes nothing.
use Rattle.layout.proofs.View.{view-cell}
use borrow.Author.Rules.{rules}
use Rattle.layout.proofs.put.Statement.{statement}
use Rattle.layout.proofs.put.Tie as tie

pub put_spec : {M : Type 1} → statement M
put_spec =
    tie.close
    (tie.spec
    (λ c. search rules)
    (λ c. search rules)
    (λ c. search rules)
    (λ c. search rules)
    (λ c. search rules)
    (λ c. search rules)
    (λ c. view-cell _ _ c.requires.2 _ _ _ c.requires.0 c.requires.1))
