-- `odd_part` and `odd_row`: two calls, and OR or the making of a row; levels grow. Assumes nothing.
use Rattle.std.proofs.Common.{arith}
use Rattle.std.proofs.lemmas.Result.{err_from_is_err_and}
use Rattle.layout.specs.View.{view}
use Rattle.rows.specs.Used.{rows_of}
use Rattle.operations.proofs.Work.{ready-wf}
use Rattle.operations.proofs.Open.{row_at, opened, part_falls, low-falls, high-falls}
use Rattle.operations.proofs.Odd.{odd-there, odd_low_stops, odd-high-pre, odd_high_stops, odd_join-pre, odd-joined, odd-kept}
use Rattle.operations.proofs.+odd_part_odd_row.Goals as goal

pub odd_part-returns-in-Some : goal.odd_part-returns-in-Some
odd_part-returns-in-Some t c =
    odd-there c.requires.0 c.in-Some.is c.odd_known-known.ensures

pub odd_part-odd_row-requires : goal.odd_part-odd_row-requires
odd_part-odd_row-requires t c = (
  rw (← c.decreases) (omega arith),
  (c.requires.0, c.requires.1, c.odd_known-known.ensures.none c.in_default.is),
)

pub odd_row-row_of-i-requires : goal.odd_row-row_of-i-requires
odd_row-row_of-i-requires t c =
    c.requires.2

pub odd_row-node_at-n-requires : goal.odd_row-node_at-n-requires
odd_row-node_at-n-requires t c =
    let r = c.requires.0 in
    let R = row_at {rows = rows_of (view c.args.rows c.args.words.now)} _ c.requires.1 c.requires.2 c.row_of-i.ensures in
    ((ready-wf r).bounded _ R.used, r.good.sizes.room)

pub odd_row-odd_part-requires : goal.odd_row-odd_part-requires
odd_row-odd_part-requires t c =
    let r = c.requires.0 in
    let R = row_at {rows = rows_of (view c.args.rows c.args.words.now)} _ c.requires.1 c.requires.2 c.row_of-i.ensures in
    let o = opened (ready-wf r) R c.node_at-n.ensures in
    (rw (← c.decreases) (part_falls _ _ (low-falls o)), (r, o.parts.low-arrow))

pub odd_row-returns-in_err-low : goal.odd_row-returns-in_err-low
odd_row-returns-in_err-low t c =
    let r = c.requires.0 in
    let R = row_at {rows = rows_of (view c.args.rows c.args.words.now)} _ c.requires.1 c.requires.2 c.row_of-i.ensures in
    let o = opened (ready-wf r) R c.node_at-n.ensures in
    let z = err_from_is_err_and c.from_residual.result c.from_residual.ensures.1 in
    rw z.1 (odd_low_stops r o c.in_err-low.ensures)

pub odd_row-odd_part-requires-2 : goal.odd_row-odd_part-requires-2
odd_row-odd_part-requires-2 t c =
    let r = c.requires.0 in
    let R = row_at {rows = rows_of (view c.args.rows c.args.words.now)} _ c.requires.1 c.requires.2 c.row_of-i.ensures in
    let o = opened (ready-wf r) R c.node_at-n.ensures in
    let w = c.in_ok-low.ensures in
    (rw (← c.decreases) (part_falls _ _ (high-falls o w.grown.kept)), odd-high-pre r o w)

pub odd_row-returns-in_err-high : goal.odd_row-returns-in_err-high
odd_row-returns-in_err-high t c =
    let r = c.requires.0 in
    let R = row_at {rows = rows_of (view c.args.rows c.args.words.now)} _ c.requires.1 c.requires.2 c.row_of-i.ensures in
    let o = opened (ready-wf r) R c.node_at-n.ensures in
    let z = err_from_is_err_and c.from_residual-in_err-high.result c.from_residual-in_err-high.ensures.1 in
    rw z.1 (odd_high_stops r o c.in_ok-low.ensures c.in_err-high.ensures)

pub odd_row-odd_join-made-requires : goal.odd_row-odd_join-made-requires
odd_row-odd_join-made-requires t c =
    let r = c.requires.0 in
    let R = row_at {rows = rows_of (view c.args.rows c.args.words.now)} _ c.requires.1 c.requires.2 c.row_of-i.ensures in
    let o = opened (ready-wf r) R c.node_at-n.ensures in
    odd_join-pre r o c.in_ok-low.ensures c.in_ok-high.ensures

pub odd_row-remember_row-requires : goal.odd_row-remember_row-requires
odd_row-remember_row-requires t c =
    let r = c.requires.0 in
    let R = row_at {rows = rows_of (view c.args.rows c.args.words.now)} _ c.requires.1 c.requires.2 c.row_of-i.ensures in
    let o = opened (ready-wf r) R c.node_at-n.ensures in
    let w = odd-joined r o c.in_ok-low.ensures c.in_ok-high.ensures c.odd_join-made.ensures in
    ((ready-wf r).bounded _ R.used, w.good.sizes.room, omega arith)

pub odd_row-returns : goal.odd_row-returns
odd_row-returns t c =
    let r = c.requires.0 in
    let R = row_at {rows = rows_of (view c.args.rows c.args.words.now)} _ c.requires.1 c.requires.2 c.row_of-i.ensures in
    let o = opened (ready-wf r) R c.node_at-n.ensures in
    odd-kept r o c.in_ok-low.ensures c.in_ok-high.ensures _
    (odd-joined r o c.in_ok-low.ensures c.in_ok-high.ensures c.odd_join-made.ensures) c.remember_row.ensures
