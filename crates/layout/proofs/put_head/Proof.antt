-- `put_head` meets its contract: one store is one change of the view. Assumes nothing.
use Rattle.layout.proofs.View.{view-head}
use borrow.Author.Rules.{rules}
use Rattle.layout.proofs.put_head.Statement.{statement}
use Rattle.layout.proofs.put_head.Tie as tie

pub put_head_spec : {M : Type 1} → statement M
put_head_spec =
    tie.close
    (tie.spec
    (λ c. search rules)
    (λ c. search rules)
    (λ c. search rules)
    (λ c. search rules)
    (λ c. search rules)
    (λ c. search rules)
    (λ c. view-head _ _ c.requires.1 _ _ c.requires.0))
