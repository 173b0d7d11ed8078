-- `count_stored` meets its contract: it counts, or doubles. Assumes nothing.
use native.Mathlib.Omega.{arith}
use Rattle.memory.proofs.Store.{fewer-stored}
use borrow.Author.Rules.{rules}
use Rattle.memory.proofs.count_stored.Statement.{statement}
use Rattle.memory.proofs.count_stored.Tie as tie

pub count_stored_spec : {M : Type 1} → statement M
count_stored_spec =
    tie.close
    (tie.spec
    (λ c κs. search rules)
    (λ c κs. search rules)
    (λ c. search rules)
    (λ c. search rules)
    (λ c κs. search rules)
    (λ c. search rules)
    (λ c. search rules)
    (λ c κs. search rules)
    (λ c. search rules)
    (λ c. fewer-stored _ c.requires.1
    (let t = c.if-stored-slots.false in
    let e = c.header_word-slots.ensures in omega arith)
    c.put_header.ensures))
