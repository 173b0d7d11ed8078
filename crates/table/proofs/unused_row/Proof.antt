-- `unused_row` meets its contract: it searches from the cursor up, and then below it. Assumes nothing.
use borrow.Author.Rules.{rules}
use Rattle.layout.specs.View.{view}
use Rattle.table.proofs.FindLaws.{unused-all, unused-after, unused-before, unused-none}
use Rattle.table.proofs.unused_row.Statement.{statement}
use Rattle.table.proofs.unused_row.Tie as tie

pub unused_row_spec : {M : Type 1} → statement M
unused_row_spec =
    tie.close
    (tie.spec
    (λ c κs. search rules)
    (λ c κs. search rules)
    (λ c. unused-all (view c.args.rows c.args.words.now)
    c.free_row.ensures)
    (λ c κs. search rules)
    (λ c. unused-after
    (view c.args.rows c.args.words.now)
    c.free_row-i.ensures c.if-i-rows.true)
    (λ c κs. search rules)
    (λ c. unused-before
    (view c.args.rows
    c.args.words.now) c.if-cursor-rows.false
    c.free_row-j.ensures c.if-j-cursor.true)
    (λ c. unused-none
    (view c.args.rows
    c.args.words.now) c.free_row-i.ensures
    c.if-i-rows.false c.free_row-j.ensures c.if-j-cursor.false))
