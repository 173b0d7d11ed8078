-- `row_table` meets its contract: the tables of a row's arrows are joined by the level's class. Assumes nothing.
use Rattle.soundness.proofs.TablesLaws.{row_fits, row-tabled}
use native.Mathlib.Omega.{arith}
use borrow.Author.Rules.{rules}
use Rattle.soundness.proofs.tables.row_table.Statement.{statement}
use Rattle.soundness.proofs.tables.row_table.Tie as tie

pub row_table_spec : {M : Type 1} → statement M
row_table_spec =
    tie.close
    (tie.spec (λ c κs. let p = c.requires in let f = row_fits p.good p.used in (f.0, omega arith, p.good.sizes.room))
    (λ c. let p = c.requires in
    let f = row_fits p.good p.used in let e = c.get.ensures in let u = p.up in let h = f.1 in omega arith)
    (λ c κs. (c.requires.low-base, c.requires.shift)) (λ c κs. search rules)
    (λ c. row-tabled c.requires c.get.ensures c.class_of.ensures
    c.join.ensures))
