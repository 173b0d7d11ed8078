-- `head` meets its contract: the view has the word at that place. Assumes nothing.
use Rattle.layout.proofs.View.{head-is}
use borrow.Author.Rules.{rules}
use Rattle.layout.proofs.head.Statement.{statement}
use Rattle.layout.proofs.head.Tie as tie

pub head_spec : {M : Type 1} → statement M
head_spec =
    tie.close
    (tie.spec
    (λ c. search rules)
    (λ c. search rules)
    (λ c. search rules)
    (λ c. search rules)
    (λ c. search rules)
    (λ c. rw (head-is _ _ _ c.requires.0)))
