-- `and_part` and `and_rows`: the two calls on the halves at the lesser level and the row are what `pair-calls` says; levels grow.
-- Assumes nothing.
use Rattle.std.proofs.Common.{arith}
use Rattle.std.proofs.lemmas.Result.{err_from_is_err_and}
use Rattle.table.proofs.FindLaws.{good-room}
use Rattle.operations.proofs.Work.{ready-wf, ready-room, ready-next, low_stops, high_stops, row-pre, row_made}
use Rattle.operations.proofs.Open.{part_falls}
use Rattle.operations.proofs.Pairs.{sorted_swap, swap-arrows, swap-depth, both-within, split, pair-low-falls, pair-high-falls}
use Rattle.operations.proofs.Pairs.{pair-high-later, pair-calls, pair-kept, short_none, known_worked, swap_worked}
use Rattle.operations.proofs.+and_part_and_rows.Goals as goal

pub and_part-known-found-requires : goal.and_part-known-found-requires
and_part-known-found-requires t c =
    let r = c.requires.0 in (ready-room r, r.memory.sizes)

pub and_part-returns-in-Some : goal.and_part-returns-in-Some
and_part-returns-in-Some t c =
    let r = c.requires.0 in
    let s = sorted_swap _ _ c.sort-p.ensures.0 c.sort-p.ensures.1 in
    let u = swap-arrows r s c.requires.1 c.requires.2 in
    let p = c.sort-p.ensures.0 in
    let q = c.sort-p.ensures.1 in
    swap_worked r s (known_worked r u (omega arith) c.in-Some.is c.known-found.ensures)

pub and_part-and_rows-requires : goal.and_part-and_rows-requires
and_part-and_rows-requires t c =
    let r = c.requires.0 in
    let s = sorted_swap _ _ c.sort-p.ensures.0 c.sort-p.ensures.1 in
    let u = swap-arrows r s c.requires.1 c.requires.2 in
    let p = c.sort-p.ensures.0 in
    let q = c.sort-p.ensures.1 in
    let b = short_none _ _ (omega arith) (rw c.in_default.is at c.known-found.ensures) in
    let e = swap-depth r s in
    (rw (← c.decreases) (omega arith), (r, u.0, u.1, b))

pub and_part-returns : goal.and_part-returns
and_part-returns t c =
    let r = c.requires.0 in
    let s = sorted_swap _ _ c.sort-p.ensures.0 c.sort-p.ensures.1 in
    swap_worked r s c.and_rows.ensures

pub and_rows-top-level-requires : goal.and_rows-top-level-requires
and_rows-top-level-requires t c =
    let r = c.requires.0 in
    let b = c.requires.3 in
    let w = both-within r (c.requires.1, c.requires.2) b in
    (b, w.0, w.1, r.good.sizes.room)

pub and_rows-halve-x-requires : goal.and_rows-halve-x-requires
and_rows-halve-x-requires t c =
    let r = c.requires.0 in
    let b = c.requires.3 in
    let w = both-within r (c.requires.1, c.requires.2) b in
    (b.left, w.0, r.good.sizes.room)

pub and_rows-halve-y-requires : goal.and_rows-halve-y-requires
and_rows-halve-y-requires t c =
    let r = c.requires.0 in
    let b = c.requires.3 in
    let w = both-within r (c.requires.1, c.requires.2) b in
    (b.right, w.1, r.good.sizes.room)

pub and_rows-and_part-requires : goal.and_rows-and_part-requires
and_rows-and_part-requires t c =
    let r = c.requires.0 in
    let b = c.requires.3 in
    let k =
    split _ _ (ready-wf r) (c.requires.1, c.requires.2) b c.top-level.ensures c.halve-x.ensures c.halve-y.ensures in
    (rw (← c.decreases) (part_falls _ _ (pair-low-falls k)), (r, k.left.low-arrow, k.right.low-arrow))

pub and_rows-returns-in_err-low : goal.and_rows-returns-in_err-low
and_rows-returns-in_err-low t c =
    let r = c.requires.0 in
    let b = c.requires.3 in
    let k =
    split _ _ (ready-wf r) (c.requires.1, c.requires.2) b c.top-level.ensures c.halve-x.ensures c.halve-y.ensures in
    let d = pair-calls r (c.requires.1, c.requires.2) k in
    let z = err_from_is_err_and c.from_residual.result c.from_residual.ensures.1 in
    rw z.1 (low_stops r d c.in_err-low.ensures)

pub and_rows-and_part-requires-2 : goal.and_rows-and_part-requires-2
and_rows-and_part-requires-2 t c =
    let r = c.requires.0 in
    let b = c.requires.3 in
    let k =
    split _ _ (ready-wf r) (c.requires.1, c.requires.2) b c.top-level.ensures c.halve-x.ensures c.halve-y.ensures in
    let w = c.in_ok-low.ensures in
    let h = pair-high-later k w.post.kept in
    (rw (← c.decreases) (part_falls _ _ (pair-high-falls k w.post.kept)), (ready-next r w, h.0, h.1))

pub and_rows-returns-in_err-high : goal.and_rows-returns-in_err-high
and_rows-returns-in_err-high t c =
    let r = c.requires.0 in
    let b = c.requires.3 in
    let k =
    split _ _ (ready-wf r) (c.requires.1, c.requires.2) b c.top-level.ensures c.halve-x.ensures c.halve-y.ensures in
    let d = pair-calls r (c.requires.1, c.requires.2) k in
    let z = err_from_is_err_and c.from_residual-in_err-high.result c.from_residual-in_err-high.ensures.1 in
    rw z.1 (high_stops r d c.in_ok-low.ensures c.in_err-high.ensures)

pub and_rows-make-made-requires : goal.and_rows-make-made-requires
and_rows-make-made-requires t c =
    let r = c.requires.0 in
    let b = c.requires.3 in
    let k =
    split _ _ (ready-wf r) (c.requires.1, c.requires.2) b c.top-level.ensures c.halve-x.ensures c.halve-y.ensures in
    let d = pair-calls r (c.requires.1, c.requires.2) k in
    row-pre r d c.in_ok-low.ensures c.in_ok-high.ensures

pub and_rows-remember-requires : goal.and_rows-remember-requires
and_rows-remember-requires t c =
    let r = c.requires.0 in
    let b = c.requires.3 in
    let k =
    split _ _ (ready-wf r) (c.requires.1, c.requires.2) b c.top-level.ensures c.halve-x.ensures c.halve-y.ensures in
    let d = pair-calls r (c.requires.1, c.requires.2) k in
    let w = row_made r d c.in_ok-low.ensures c.in_ok-high.ensures c.make-made.ensures in (good-room _ w.good, w.memory.sizes)

pub and_rows-returns : goal.and_rows-returns
and_rows-returns t c =
    let r = c.requires.0 in
    let b = c.requires.3 in
    let k =
    split _ _ (ready-wf r) (c.requires.1, c.requires.2) b c.top-level.ensures c.halve-x.ensures c.halve-y.ensures in
    let d = pair-calls r (c.requires.1, c.requires.2) k in
    pair-kept r (c.requires.1, c.requires.2) b
    (row_made r d c.in_ok-low.ensures c.in_ok-high.ensures c.make-made.ensures) c.remember.ensures
