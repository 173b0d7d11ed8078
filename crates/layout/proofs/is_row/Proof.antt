-- `is_row` meets its contract: arrows 0 and 1 lead to no row, all others do. Assumes nothing.
use mathlib.Core.Path.{sym}
use Rattle.layout.proofs.Arrows.{row-yes, row-no}
use Rattle.layout.proofs.is_row.Statement.{statement}
use Rattle.layout.proofs.is_row.Tie as tie

pub is_row_spec : {M : Type 1} → statement M
is_row_spec =
    tie.close
    (tie.spec
    (λ c. sym (row-yes _ c.if-a-ge-FIRST_ROW.true))
    (λ c. sym (row-no _ c.if-a-ge-FIRST_ROW.false)))
