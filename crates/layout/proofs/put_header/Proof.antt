-- `put_header` meets its contract: one store is one change of the view. Assumes nothing.
use Rattle.layout.proofs.View.{view-header}
use borrow.Author.Rules.{rules}
use Rattle.layout.proofs.put_header.Statement.{statement}
use Rattle.layout.proofs.put_header.Tie as tie

pub put_header_spec : {M : Type 1} → statement M
put_header_spec =
    tie.close
    (tie.spec
    (λ c. search rules)
    (λ c. search rules)
    (λ c. search rules)
    (λ c. view-header _ _ c.requires.1 _ _ c.requires.0))
