-- `get` meets its contract: the view has the word at that place. Assumes nothing.
use Rattle.layout.proofs.View.{cell-is}
use borrow.Author.Rules.{rules}
use Rattle.layout.proofs.get.Statement.{statement}
use Rattle.layout.proofs.get.Tie as tie

pub get_spec : {M : Type 1} → statement M
get_spec =
    tie.close
    (tie.spec
    (λ c. search rules)
    (λ c. search rules)
    (λ c. search rules)
    (λ c. search rules)
    (λ c. search rules)
    (λ c. rw (cell-is _ _ _ _ c.requires.0 c.requires.1)))
