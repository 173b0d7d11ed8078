-- `make_plain`: equal arrows need no row; a row that is found is taken. Assumes nothing.
use Rattle.layout.specs.View.{view}
use Rattle.table.proofs.MakeLaws.{make_same, make-found}
use Rattle.table.proofs.make_plain.Goals as goal

pub returns-then-low-high : goal.returns-then-low-high
returns-then-low-high c = make_same (view c.args.rows c.args.words.now) _ _ _ _ c.requires c.if-low-high.true

pub returns-in-Some : goal.returns-in-Some
returns-in-Some c =
    rw c.arrow_of.ensures
    (make-found (view c.args.rows c.args.words.now) _ _ _ _ c.requires _ (rw c.in-Some.is at c.find-found.ensures))
