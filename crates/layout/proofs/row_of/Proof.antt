-- `row_of` meets its contract: an arrow to a row is at least 2, and is the arrow to that row. Assumes nothing.
use native.Mathlib.Omega.{arith}
use Rattle.layout.proofs.Arrows.{row_is}
use Rattle.layout.proofs.row_of.Statement.{statement}
use Rattle.layout.proofs.row_of.Tie as tie

pub row_of_spec : {M : Type 1} → statement M
row_of_spec =
    tie.close
    (tie.spec
    (λ c. let e = row_is _ c.requires in omega arith)
    (λ c. let e = row_is _ c.requires in omega arith))
