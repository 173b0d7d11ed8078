-- `recall` meets its contract: the slot that is found holds both arrows. Assumes nothing.
use mathlib.Core.Path.{sym, ◌∙◌}
use borrow.Author.Rules.{rules}
use Rattle.memory.proofs.recall.Statement.{statement}
use Rattle.memory.proofs.recall.Tie as tie

pub recall_spec : {M : Type 1} → statement M
recall_spec =
    tie.close
    (tie.spec
    (λ c κs. search rules)
    (λ c. search rules)
    (λ c κs. search rules)
    (λ c. search rules)
    (λ c κs. search rules)
    (λ c. search rules)
    (λ c. search rules)
    (λ c κs. search rules)
    (λ c. search rules)
    (λ c. search rules)
    (λ c κs. search rules)
    (λ c. record {
      at = c.slot_of-at.result;
      active =
          rw (← c.header_word-slots.ensures)
          c.slot_of-at.ensures;
      first =
          sym c.slot.ensures ∙ c.if-slot-lo.false;
      second =
          sym c.slot-2.ensures ∙ c.if-slot-hi.false;
      value = c.slot-3.ensures;
    }))
