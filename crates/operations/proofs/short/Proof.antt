-- `short` meets its contract: one law for each way through. Assumes nothing.
use Rattle.operations.proofs.Pairs.{short-same, short-not, short_row, short-zero, short-one}
use borrow.Author.Rules.{rules}
use Rattle.operations.proofs.short.Statement.{statement}
use Rattle.operations.proofs.short.Tie as tie

pub short_spec : {M : Type 1} → statement M
short_spec =
    tie.close
    (tie.spec (λ c. short-same _ _ c.if-lo-hi.true) (λ c κs. search rules)
    (λ c. short-not _ _ c.if-lo-hi.false c.flip.ensures c.if-hi-flip.true) (λ c κs. search rules)
    (λ c. short_row _ _ c.if-lo-hi.false c.flip.ensures
    c.if-hi-flip.false c.is_row.ensures c.if-is_row.true)
    (λ c. short-zero _ _ c.if-lo-hi.false c.flip.ensures
    c.if-hi-flip.false c.is_row.ensures c.if-is_row.false c.if-lo-eq-NOTHING.true)
    (λ c. short-one _ _ c.if-lo-hi.false c.flip.ensures
    c.if-hi-flip.false c.is_row.ensures c.if-is_row.false c.if-lo-eq-NOTHING.false))
