-- `make`: where the high arrow carries a NOT, it is NOT of the row of the complements. Assumes nothing.
use Rattle.std.proofs.lemmas.Result.{err_from_is_err_and}
use Rattle.layout.specs.View.{view}
use Rattle.rows.proofs.Says.{test_yes}
use Rattle.table.proofs.MakeLaws.{turned-full, turned-at}
use Rattle.table.proofs.make.Goals as goal

pub returns-in_err-made : goal.returns-in_err-made
returns-in_err-made c =
    let p = err_from_is_err_and c.from_residual.result c.from_residual.ensures.1 in
    rw p.1
    (turned-full (view c.args.rows c.args.words.now) _ _ _ _ c.requires (test_yes c.is_marked.ensures c.if-not-is_marked.false-raw)
    c.flip.ensures c.flip-2.ensures c.in_err-made.ensures)

pub returns : goal.returns
returns c =
    turned-at (view c.args.rows c.args.words.now) _ _ _ _ c.requires (test_yes c.is_marked.ensures c.if-not-is_marked.false-raw)
    c.flip.ensures c.flip-2.ensures c.in_ok-made.ensures c.flip-3.ensures
