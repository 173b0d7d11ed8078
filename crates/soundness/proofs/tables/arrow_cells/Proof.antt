-- `arrow_cells` meets its contract: what is remembered, or what `table_of` makes. Assumes nothing.
use native.Mathlib.Omega.{arith}
use Rattle.layout.proofs.Arrows.{row-yes}
use Rattle.soundness.proofs.TablesLaws.{row_led, recalled}
use borrow.Author.Rules.{rules}
use Rattle.soundness.proofs.tables.arrow_cells.Statement.{statement}
use Rattle.soundness.proofs.tables.arrow_cells.Tie as tie

pub arrow_cells_spec : {M : Type 1} → statement M
arrow_cells_spec =
    tie.close
    (tie.spec
    (λ c κs. search rules)
    (λ c. search rules)
    (λ c. search rules)
    (λ c κs. let t = c.if-a-lt2.false in row-yes _ (omega arith))
    (λ c κs. let t = c.if-a-lt2.false in
    let r = row_led _ c.requires.good c.requires.arrow (row-yes _ (omega arith)) c.row_of.ensures in let h = r.place in
    let e = c.requires.size in (r.below, c.requires.good.sizes.room, omega arith))
    (λ c κs. search rules)
    (λ c. search rules)
    (λ c. let t = c.if-a-lt2.false in
    recalled c.requires (row_led _ c.requires.good c.requires.arrow (row-yes _ (omega arith))
    c.row_of.ensures) c.recall-known.ensures c.if-known-ne0.true c.carried.ensures)
    (λ c κs. search rules)
    (λ c. search rules)
    (λ c. search rules))
