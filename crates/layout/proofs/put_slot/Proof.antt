-- `put_slot` meets its contract: one store is one change of the view. Assumes nothing.
use Rattle.layout.proofs.View.{view-slot}
use borrow.Author.Rules.{rules}
use Rattle.layout.proofs.put_slot.Statement.{statement}
use Rattle.layout.proofs.put_slot.Tie as tie

pub put_slot_spec : {M : Type 1} → statement M
put_slot_spec =
    tie.close
    (tie.spec
    (λ c. search rules)
    (λ c. search rules)
    (λ c. search rules)
    (λ c. search rules)
    (λ c. search rules)
    (λ c. search rules)
    (λ c. view-slot _ _ c.requires.1 _ _ c.requires.0))
