-- `add`: an unused row is written and appended; where there is none, all rows are used. Assumes nothing.
use Rattle.layout.specs.View.{view}
use Rattle.table.proofs.AddLaws.{append-pre, added-by}
use Rattle.table.proofs.MakeLaws.{add-full, add_at}
use Rattle.table.proofs.add.Goals as goal

pub returns-then-i-rows : goal.returns-then-i-rows
returns-then-i-rows c =
    add-full (view c.args.rows c.args.words.now) _ _ _ _ c.requires _ c.unused_row-i.ensures c.if-i-rows.true

pub append-requires : goal.append-requires
append-requires c =
    let p =
    append-pre (view c.args.rows c.args.words.now) _ _ _ _ c.requires.pre.make.good c.if-i-rows.false
    (c.unused_row-i.ensures.free c.if-i-rows.false) c.put_header.ensures c.write_row.ensures in
    (c.if-i-rows.false, p.0, p.1)

pub returns : goal.returns
returns c =
    rw c.arrow_of.ensures
    (add_at (view c.args.rows c.args.words.now) _ _ _ _ c.requires _ c.unused_row-i.ensures c.if-i-rows.false
    (added-by (view c.args.rows c.args.words.now) _ _ _ _ c.put_header.ensures c.write_row.ensures c.append.ensures))
