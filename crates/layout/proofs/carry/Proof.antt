-- `carry` meets its contract: by the test of the mark. Assumes nothing.
use borrow.Author.Rules.{rules}
use Rattle.layout.proofs.Arrows.{carry-yes, carry-no}
use Rattle.layout.proofs.carry.Statement.{statement}
use Rattle.layout.proofs.carry.Tie as tie

pub carry_spec : {M : Type 1} → statement M
carry_spec =
    tie.close
    (tie.spec (λ c κs. search rules) (λ c κs. search rules)
    (λ c. carry-yes _ c.is_marked.ensures c.if-is_marked.true c.flip.ensures)
    (λ c. carry-no _ c.is_marked.ensures c.if-is_marked.false))
