-- `listed` meets its contract: the view has the word at that place. Assumes nothing.
use Rattle.layout.proofs.View.{list-is}
use borrow.Author.Rules.{rules}
use Rattle.layout.proofs.listed.Statement.{statement}
use Rattle.layout.proofs.listed.Tie as tie

pub listed_spec : {M : Type 1} → statement M
listed_spec =
    tie.close
    (tie.spec
    (λ c. search rules)
    (λ c. search rules)
    (λ c. search rules)
    (λ c. search rules)
    (λ c. search rules)
    (λ c. rw (list-is _ _ _ c.requires.0)))
