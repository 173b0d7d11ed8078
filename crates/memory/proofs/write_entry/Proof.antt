-- `write_entry` meets its contract: three words of one active slot are written. Assumes nothing.
use mathlib.Core.Path.{refl}
use Rattle.memory.specs.Store.{no_slot}
use Rattle.memory.proofs.Store.{wrote_by}
use borrow.Author.Rules.{rules}
use Rattle.memory.proofs.write_entry.Statement.{statement}
use Rattle.memory.proofs.write_entry.Tie as tie

pub write_entry_spec : {M : Type 1} → statement M
write_entry_spec =
    tie.close
    (tie.spec
    (λ c κs. search rules)
    (λ c. search rules)
    (λ c. no_slot refl)
    (λ c κs. search rules)
    (λ c. search rules)
    (λ c κs. search rules)
    (λ c. search rules)
    (λ c κs. search rules)
    (λ c. search rules)
    (λ c κs. search rules)
    (λ c. search rules)
    (λ c. wrote_by c.slot_of-at.result _ _
    _ (rw (← c.header_word-slots.ensures)
    c.slot_of-at.ensures) refl
    c.put_slot.ensures
    c.put_slot-2.ensures c.put_slot-3.ensures))
