-- `odd_join` meets its contract, by the level. Assumes nothing.
use Rattle.operations.specs.Odd.{by-or, by_row}
use borrow.Author.Rules.{rules}
use Rattle.operations.proofs.odd_join.Statement.{statement}
use Rattle.operations.proofs.odd_join.Tie as tie

pub odd_join_spec : {M : Type 1} → statement M
odd_join_spec =
    tie.close
    (tie.spec
    (λ c κs. (c.requires.ready, c.requires.low, c.requires.high))
    (λ c. search rules) (λ c. by-or c.if-level-eq1.true c.or_of.ensures)
    (λ c κs. c.requires.make c.if-level-eq1.false) (λ c. search rules)
    (λ c. by_row c.if-level-eq1.false c.make.ensures))
