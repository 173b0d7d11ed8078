-- `set_mark` meets its contract: it sets one bit of one word. Assumes nothing.
use borrow.Author.Rules.{rules}
use Rattle.rows.proofs.Bits.{sets}
use Rattle.rows.proofs.set_mark.Statement.{statement}
use Rattle.rows.proofs.set_mark.Tie as tie

pub set_mark_spec : {M : Type 1} → statement M
set_mark_spec =
    tie.close
    (tie.spec
    (λ c. search rules)
    (λ c. search rules)
    (λ c. search rules)
    (λ c. search rules)
    (λ c. search rules)
    (λ c. search rules)
    (λ c. search rules)
    (λ c. sets _ _ c.requires))
