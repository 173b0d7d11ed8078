-- `exists_part` and `exists_row`: above level x the two calls and the row are what `exists-calls` says, at level x OR of the arrows;
-- levels grow. Assumes nothing.
use Rattle.std.proofs.Common.{◌<◌, arith}
use Rattle.std.proofs.lemmas.Result.{err_from_is_err_and}
use Rattle.layout.specs.View.{view}
use Rattle.rows.specs.Used.{rows_of}
use Rattle.operations.proofs.Work.{ready-wf, ready-next, worked_there, low_stops, high_stops, row-pre, row_made}
use Rattle.operations.proofs.Open.{row_at, opened, part_falls, low-falls, high-falls, high-later, reached}
use Rattle.operations.proofs.Rows.{exists-calls, exists-own, exists-kept}
use Rattle.operations.proofs.+exists_part_exists_row.Goals as goal

pub exists_part-returns-in-Some : goal.exists_part-returns-in-Some
exists_part-returns-in-Some t c =
    worked_there c.requires.0 (c.exists_known-known.ensures.at _ c.in-Some.is)

pub exists_part-exists_row-requires : goal.exists_part-exists_row-requires
exists_part-exists_row-requires t c = (
  rw (← c.decreases) (omega arith),
  (c.requires.0, c.requires.1, c.requires.2, c.exists_known-known.ensures.none c.in_default.is),
)

pub exists_row-row_of-i-requires : goal.exists_row-row_of-i-requires
exists_row-row_of-i-requires t c =
    c.requires.3.is_row

pub exists_row-node_at-n-requires : goal.exists_row-node_at-n-requires
exists_row-node_at-n-requires t c =
    let r = c.requires.0 in
    let R =
    row_at {rows = rows_of (view c.args.rows c.args.words.now)} _ c.requires.1 c.requires.3.is_row c.row_of-i.ensures in
    ((ready-wf r).bounded _ R.used, r.good.sizes.room)

pub exists_row-overflow_add-kind : goal.exists_row-overflow_add-kind
exists_row-overflow_add-kind t c =
    let r = c.requires.0 in
    let e = r.levels-is in let n = r.good.sizes.n_max in let h = c.requires.2 in omega arith

pub exists_row-or_of-made-requires : goal.exists_row-or_of-made-requires
exists_row-or_of-made-requires t c =
    let r = c.requires.0 in
    let R =
    row_at {rows = rows_of (view c.args.rows c.args.words.now)} _ c.requires.1 c.requires.3.is_row c.row_of-i.ensures in
    let o = opened (ready-wf r) R c.node_at-n.ensures in
    (r, o.parts.low-arrow, o.parts.high-arrow)

pub exists_row-remember_row-requires : goal.exists_row-remember_row-requires
exists_row-remember_row-requires t c =
    let r = c.requires.0 in
    let R =
    row_at {rows = rows_of (view c.args.rows c.args.words.now)} _ c.requires.1 c.requires.3.is_row c.row_of-i.ensures in
    ((ready-wf r).bounded _ R.used, c.or_of-made.ensures.good.sizes.room, let e = r.levels-is in let n = r.good.sizes.n_max in let h = c.requires.2 in omega arith)

pub exists_row-returns-then-n-x : goal.exists_row-returns-then-n-x
exists_row-returns-then-n-x t c =
    let r = c.requires.0 in
    let R =
    row_at {rows = rows_of (view c.args.rows c.args.words.now)} _ c.requires.1 c.requires.3.is_row c.row_of-i.ensures in
    let o = opened (ready-wf r) R c.node_at-n.ensures in
    exists-kept r _ R _ (let e = r.levels-is in let n = r.good.sizes.n_max in let h = c.requires.2 in omega arith)
    (rw c.if-n-x.true at (exists-own r o c.or_of-made.ensures)) c.remember_row.ensures

pub exists_row-exists_part-requires : goal.exists_row-exists_part-requires
exists_row-exists_part-requires t c =
    let r = c.requires.0 in
    let R =
    row_at {rows = rows_of (view c.args.rows c.args.words.now)} _ c.requires.1 c.requires.3.is_row c.row_of-i.ensures in
    let o = opened (ready-wf r) R c.node_at-n.ensures in
    (rw (← c.decreases) (part_falls _ _ (low-falls o)), (r, o.parts.low-arrow, c.requires.2))

pub exists_row-returns-in_err-low : goal.exists_row-returns-in_err-low
exists_row-returns-in_err-low t c =
    let r = c.requires.0 in
    let R =
    row_at {rows = rows_of (view c.args.rows c.args.words.now)} _ c.requires.1 c.requires.3.is_row c.row_of-i.ensures in
    let o = opened (ready-wf r) R c.node_at-n.ensures in
    let d =
    exists-calls r o _ (let t = reached c.requires.3 c.row_of-i.ensures c.node_at-n.ensures in let u = c.if-n-x.false in omega arith) in
    let z = err_from_is_err_and c.from_residual.result c.from_residual.ensures.1 in
    rw z.1 (low_stops r d c.in_err-low.ensures)

pub exists_row-exists_part-requires-2 : goal.exists_row-exists_part-requires-2
exists_row-exists_part-requires-2 t c =
    let r = c.requires.0 in
    let R =
    row_at {rows = rows_of (view c.args.rows c.args.words.now)} _ c.requires.1 c.requires.3.is_row c.row_of-i.ensures in
    let o = opened (ready-wf r) R c.node_at-n.ensures in
    let w = c.in_ok-low.ensures in (
      rw (← c.decreases) (part_falls _ _ (high-falls o w.post.kept)),
      (ready-next r w, high-later o w.post.kept, c.requires.2),
    )

pub exists_row-returns-in_err-high : goal.exists_row-returns-in_err-high
exists_row-returns-in_err-high t c =
    let r = c.requires.0 in
    let R =
    row_at {rows = rows_of (view c.args.rows c.args.words.now)} _ c.requires.1 c.requires.3.is_row c.row_of-i.ensures in
    let o = opened (ready-wf r) R c.node_at-n.ensures in
    let d =
    exists-calls r o _ (let t = reached c.requires.3 c.row_of-i.ensures c.node_at-n.ensures in let u = c.if-n-x.false in omega arith) in
    let z = err_from_is_err_and c.from_residual-in_err-high.result c.from_residual-in_err-high.ensures.1 in
    rw z.1 (high_stops r d c.in_ok-low.ensures c.in_err-high.ensures)

pub exists_row-make-made-requires : goal.exists_row-make-made-requires
exists_row-make-made-requires t c =
    let r = c.requires.0 in
    let R =
    row_at {rows = rows_of (view c.args.rows c.args.words.now)} _ c.requires.1 c.requires.3.is_row c.row_of-i.ensures in
    let o = opened (ready-wf r) R c.node_at-n.ensures in
    let d =
    exists-calls r o _ (let t = reached c.requires.3 c.row_of-i.ensures c.node_at-n.ensures in let u = c.if-n-x.false in omega arith) in
    row-pre r d c.in_ok-low.ensures c.in_ok-high.ensures

pub exists_row-remember_row-requires-2 : goal.exists_row-remember_row-requires-2
exists_row-remember_row-requires-2 t c =
    let r = c.requires.0 in
    let R =
    row_at {rows = rows_of (view c.args.rows c.args.words.now)} _ c.requires.1 c.requires.3.is_row c.row_of-i.ensures in
    ((ready-wf r).bounded _ R.used, c.make-made.ensures.good.sizes.room, let e = r.levels-is in let n = r.good.sizes.n_max in let h = c.requires.2 in omega arith)

pub exists_row-returns : goal.exists_row-returns
exists_row-returns t c =
    let r = c.requires.0 in
    let m : c.args.x < 32 = let e = r.levels-is in let n = r.good.sizes.n_max in let h = c.requires.2 in omega arith in
    let R =
    row_at {rows = rows_of (view c.args.rows c.args.words.now)} _ c.requires.1 c.requires.3.is_row c.row_of-i.ensures in
    let o = opened (ready-wf r) R c.node_at-n.ensures in
    let d =
    exists-calls r o _ (let t = reached c.requires.3 c.row_of-i.ensures c.node_at-n.ensures in let u = c.if-n-x.false in omega arith) in
    exists-kept r _ R _ m
    (row_made r d c.in_ok-low.ensures c.in_ok-high.ensures c.make-made.ensures) c.remember_row-2.ensures
