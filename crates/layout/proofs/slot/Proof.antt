-- `slot` meets its contract: the view has the word at that place. Assumes nothing.
use Rattle.layout.proofs.View.{slot_is}
use borrow.Author.Rules.{rules}
use Rattle.layout.proofs.slot.Statement.{statement}
use Rattle.layout.proofs.slot.Tie as tie

pub slot_spec : {M : Type 1} → statement M
slot_spec =
    tie.close
    (tie.spec
    (λ c. search rules)
    (λ c. search rules)
    (λ c. search rules)
    (λ c. search rules)
    (λ c. search rules)
    (λ c. rw (slot_is _ _ _ c.requires.0)))
