-- `halve` meets its contract: the row is at the level, or past it. Assumes nothing.
use Rattle.operations.proofs.Pairs.{halves-past, halves-here}
use borrow.Author.Rules.{rules}
use Rattle.operations.proofs.halve.Statement.{statement}
use Rattle.operations.proofs.halve.Tie as tie

pub halve_spec : {M : Type 1} → statement M
halve_spec =
    tie.close
    (tie.spec (λ c κs. search rules) (λ c κs. search rules)
    (λ c. halves-past _ _ c.requires.0 c.row_of.ensures
    c.node_at-n.ensures c.if-n-level.true)
    (λ c. halves-here _ _ c.requires.0 c.row_of.ensures
    c.node_at-n.ensures c.if-n-level.false))
