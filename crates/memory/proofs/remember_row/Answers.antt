-- `remember_row`: nothing, or two words of the row are written. Assumes nothing.
use Rattle.layout.specs.View.{view}
use Rattle.memory.proofs.Store.{kept-none, kept-err, kept_by}
use Rattle.memory.proofs.remember_row.Goals as goal

pub returns-in_default : goal.returns-in_default
returns-in_default c = rw c.in_default.is (kept-err (view c.args.rows c.args.words.now) _ _ _)

pub returns-then-r-ge-MOST : goal.returns-then-r-ge-MOST
returns-then-r-ge-MOST c = rw c.in-Ok.is (kept-none (view c.args.rows c.args.words.now) _ _ _ _ c.if-r-ge-MOST.true)

pub returns : goal.returns
returns c =
    rw c.in-Ok.is
    (kept_by (view c.args.rows c.args.words.now) _ _ _ _ c.if-r-ge-MOST.false c.get-key.ensures c.get-value.ensures
    c.key_after.ensures c.value_after.ensures c.put.ensures c.put-2.ensures)
