-- `double` meets its contract: the new half is empty, so no entry is there that was not. Assumes nothing.
use native.Mathlib.Omega.{arith}
use Rattle.memory.proofs.Frame.{room-memo, memo-stored}
use Rattle.memory.proofs.Store.{fewer-stored, fewer_doubled}
use borrow.Author.Rules.{rules}
use Rattle.memory.proofs.double.Statement.{statement}
use Rattle.memory.proofs.double.Tie as tie

pub double_spec : {M : Type 1} → statement M
double_spec =
    tie.close
    (tie.spec
    (λ c κs. search rules)
    (λ c. search rules)
    (λ c. search rules)
    (λ c. search rules)
    (λ c. search rules)
    (λ c. fewer-stored _ c.requires.1 (omega arith)
    c.put_header.ensures)
    (λ c. search rules)
    (λ c κs. (
      omega arith,
      omega arith,
      room-memo (memo-stored _ _) c.put_header.ensures
          c.requires.0,
    ))
    (λ c. search rules)
    (λ c κs. search rules)
    (λ c. search rules)
    (λ c. fewer_doubled
    c.requires.2
    c.put_header.ensures
    c.empty_slots.ensures c.put_header-2.ensures
    (let t = c.if-slots-rows.false in omega arith)))
