-- `shift_part` and `shift_row`: the two calls and the row are what `shift-calls` says; levels grow. Assumes nothing.
use Rattle.std.proofs.Common.{arith}
use Rattle.std.proofs.lemmas.Result.{err_from_is_err_and}
use Rattle.layout.specs.View.{view}
use Rattle.rows.specs.Used.{rows_of}
use Rattle.operations.proofs.Work.{ready-wf, ready-next, worked_there, low_stops, high_stops, row-pre, row_made}
use Rattle.operations.proofs.Open.{row_at, opened, part_falls, low-falls, high-falls, high-later}
use Rattle.operations.proofs.Rows.{shift-calls, shift-low, shift-high}
use Rattle.operations.proofs.Carried.{plain_row, plain-mark, plain-arrow, plain_reads, plain-depth, shift-carried, plain-is}
use Rattle.operations.proofs.Carried.{plain-kept}
use Rattle.operations.proofs.+shift_part_shift_row.Goals as goal

pub shift_part-returns-in-Some : goal.shift_part-returns-in-Some
shift_part-returns-in-Some t c =
    worked_there c.requires.0 (c.shift_known-known.ensures.at _ c.in-Some.is)

pub shift_part-shift_row-made-requires : goal.shift_part-shift_row-made-requires
shift_part-shift_row-made-requires t c =
    let a = c.args.a in
    let e = c.carry.ensures in
    let d = plain-depth a e c.requires.0 in (
      rw (← c.decreases) (omega (arith, d)),
      (
        c.requires.0,
        plain-arrow a e c.requires.0 c.requires.1,
        plain_reads a e c.requires.0 c.requires.2,
        plain_row a e (c.shift_known-known.ensures.none c.in_default.is),
        plain-mark a e,
      ),
    )

pub shift_part-returns : goal.shift_part-returns
shift_part-returns t c =
    shift-carried c.args.a c.carry.ensures c.shift_row-made.ensures c.carry_made.ensures

pub shift_row-node_at-n-requires : goal.shift_row-node_at-n-requires
shift_row-node_at-n-requires t c =
    let r = c.requires.0 in
    let R = row_at {rows = rows_of (view c.args.rows c.args.words.now)} _ c.requires.1 c.requires.3 c.row_of-i.ensures in
    ((ready-wf r).bounded _ R.used, r.good.sizes.room)

pub shift_row-shift_part-requires : goal.shift_row-shift_part-requires
shift_row-shift_part-requires t c =
    let r = c.requires.0 in
    let R = row_at {rows = rows_of (view c.args.rows c.args.words.now)} _ c.requires.1 c.requires.3 c.row_of-i.ensures in
    let o = opened (ready-wf r) R (plain-is _ c.requires.4 c.node_at-n.ensures) in
    (rw (← c.decreases) (part_falls _ _ (low-falls o)), (r, o.parts.low-arrow, shift-low r o c.requires.2))

pub shift_row-returns-in_err-low : goal.shift_row-returns-in_err-low
shift_row-returns-in_err-low t c =
    let r = c.requires.0 in
    let R = row_at {rows = rows_of (view c.args.rows c.args.words.now)} _ c.requires.1 c.requires.3 c.row_of-i.ensures in
    let o = opened (ready-wf r) R (plain-is _ c.requires.4 c.node_at-n.ensures) in
    let d = shift-calls r o c.requires.2 in
    let z = err_from_is_err_and c.from_residual.result c.from_residual.ensures.1 in
    rw z.1 (low_stops r d c.in_err-low.ensures)

pub shift_row-shift_part-requires-2 : goal.shift_row-shift_part-requires-2
shift_row-shift_part-requires-2 t c =
    let r = c.requires.0 in
    let R = row_at {rows = rows_of (view c.args.rows c.args.words.now)} _ c.requires.1 c.requires.3 c.row_of-i.ensures in
    let o = opened (ready-wf r) R (plain-is _ c.requires.4 c.node_at-n.ensures) in
    let w = c.in_ok-low.ensures in (
      rw (← c.decreases) (part_falls _ _ (high-falls o w.post.kept)),
      (ready-next r w, high-later o w.post.kept, shift-high r o c.requires.2 w.post.kept),
    )

pub shift_row-returns-in_err-high : goal.shift_row-returns-in_err-high
shift_row-returns-in_err-high t c =
    let r = c.requires.0 in
    let R = row_at {rows = rows_of (view c.args.rows c.args.words.now)} _ c.requires.1 c.requires.3 c.row_of-i.ensures in
    let o = opened (ready-wf r) R (plain-is _ c.requires.4 c.node_at-n.ensures) in
    let d = shift-calls r o c.requires.2 in
    let z = err_from_is_err_and c.from_residual-in_err-high.result c.from_residual-in_err-high.ensures.1 in
    rw z.1 (high_stops r d c.in_ok-low.ensures c.in_err-high.ensures)

pub shift_row-overflow_add-n : goal.shift_row-overflow_add-n
shift_row-overflow_add-n t c =
    let r = c.requires.0 in
    let R = row_at {rows = rows_of (view c.args.rows c.args.words.now)} _ c.requires.1 c.requires.3 c.row_of-i.ensures in
    let o = opened (ready-wf r) R (plain-is _ c.requires.4 c.node_at-n.ensures) in
    let h = o.shallow in omega arith

pub shift_row-make-made-requires : goal.shift_row-make-made-requires
shift_row-make-made-requires t c =
    let r = c.requires.0 in
    let R = row_at {rows = rows_of (view c.args.rows c.args.words.now)} _ c.requires.1 c.requires.3 c.row_of-i.ensures in
    let o = opened (ready-wf r) R (plain-is _ c.requires.4 c.node_at-n.ensures) in
    let d = shift-calls r o c.requires.2 in
    row-pre r d c.in_ok-low.ensures c.in_ok-high.ensures

pub shift_row-remember_row-requires : goal.shift_row-remember_row-requires
shift_row-remember_row-requires t c =
    let r = c.requires.0 in
    let R = row_at {rows = rows_of (view c.args.rows c.args.words.now)} _ c.requires.1 c.requires.3 c.row_of-i.ensures in
    ((ready-wf r).bounded _ R.used, c.make-made.ensures.good.sizes.room, omega arith)

pub shift_row-returns : goal.shift_row-returns
shift_row-returns t c =
    let r = c.requires.0 in
    let R = row_at {rows = rows_of (view c.args.rows c.args.words.now)} _ c.requires.1 c.requires.3 c.row_of-i.ensures in
    let o = opened (ready-wf r) R (plain-is _ c.requires.4 c.node_at-n.ensures) in
    let d = shift-calls r o c.requires.2 in
    plain-kept r _ c.requires.4 R (row_made r d c.in_ok-low.ensures c.in_ok-high.ensures c.make-made.ensures)
    c.remember_row.ensures
