-- `or_part` and `or_rows`: the two calls on the halves at the lesser level and the row are what `or-calls` says; levels grow.
-- Assumes nothing.
use Rattle.std.proofs.Common.{arith}
use Rattle.std.proofs.lemmas.Result.{err_from_is_err_and}
use Rattle.table.proofs.FindLaws.{good-room}
use Rattle.operations.proofs.Work.{ready-wf, ready-room, ready-next, low_stops, high_stops, row-pre, row_made}
use Rattle.operations.proofs.Open.{part_falls}
use Rattle.operations.proofs.Pairs.{sorted_swap, swap-arrows, swap-depth, both-within, split, pair-low-falls, pair-high-falls}
use Rattle.operations.proofs.Pairs.{pair-high-later, or-calls, or_kept, or-none, or_known_lem, or-swapped}
use Rattle.operations.proofs.+or_part_or_rows.Goals as goal

pub or_part-or_known-found-requires : goal.or_part-or_known-found-requires
or_part-or_known-found-requires t c =
    let r = c.requires.0 in (ready-room r, r.memory.sizes)

pub or_part-returns-in-Some : goal.or_part-returns-in-Some
or_part-returns-in-Some t c =
    let r = c.requires.0 in
    let s = sorted_swap _ _ c.sort-p.ensures.0 c.sort-p.ensures.1 in
    let u = swap-arrows r s c.requires.1 c.requires.2 in
    let p = c.sort-p.ensures.0 in
    let q = c.sort-p.ensures.1 in
    or-swapped r s (or_known_lem r u c.in-Some.is c.or_known-found.ensures)

pub or_part-or_rows-requires : goal.or_part-or_rows-requires
or_part-or_rows-requires t c =
    let r = c.requires.0 in
    let s = sorted_swap _ _ c.sort-p.ensures.0 c.sort-p.ensures.1 in
    let u = swap-arrows r s c.requires.1 c.requires.2 in
    let p = c.sort-p.ensures.0 in
    let q = c.sort-p.ensures.1 in
    let b = or-none _ _ (omega arith) c.in_default.is c.or_known-found.ensures in
    let e = swap-depth r s in
    (rw (← c.decreases) (omega arith), (r, u.0, u.1, b))

pub or_part-returns : goal.or_part-returns
or_part-returns t c =
    let r = c.requires.0 in
    let s = sorted_swap _ _ c.sort-p.ensures.0 c.sort-p.ensures.1 in
    or-swapped r s c.or_rows.ensures

pub or_rows-top-level-requires : goal.or_rows-top-level-requires
or_rows-top-level-requires t c =
    let r = c.requires.0 in
    let b = c.requires.3 in
    let w = both-within r (c.requires.1, c.requires.2) b in
    (b, w.0, w.1, r.good.sizes.room)

pub or_rows-halve-x-requires : goal.or_rows-halve-x-requires
or_rows-halve-x-requires t c =
    let r = c.requires.0 in
    let b = c.requires.3 in
    let w = both-within r (c.requires.1, c.requires.2) b in
    (b.left, w.0, r.good.sizes.room)

pub or_rows-halve-y-requires : goal.or_rows-halve-y-requires
or_rows-halve-y-requires t c =
    let r = c.requires.0 in
    let b = c.requires.3 in
    let w = both-within r (c.requires.1, c.requires.2) b in
    (b.right, w.1, r.good.sizes.room)

pub or_rows-or_part-requires : goal.or_rows-or_part-requires
or_rows-or_part-requires t c =
    let r = c.requires.0 in
    let b = c.requires.3 in
    let k =
    split _ _ (ready-wf r) (c.requires.1, c.requires.2) b c.top-level.ensures c.halve-x.ensures c.halve-y.ensures in
    (rw (← c.decreases) (part_falls _ _ (pair-low-falls k)), (r, k.left.low-arrow, k.right.low-arrow))

pub or_rows-returns-in_err-low : goal.or_rows-returns-in_err-low
or_rows-returns-in_err-low t c =
    let r = c.requires.0 in
    let b = c.requires.3 in
    let k =
    split _ _ (ready-wf r) (c.requires.1, c.requires.2) b c.top-level.ensures c.halve-x.ensures c.halve-y.ensures in
    let d = or-calls r (c.requires.1, c.requires.2) k in
    let z = err_from_is_err_and c.from_residual.result c.from_residual.ensures.1 in
    rw z.1 (low_stops r d c.in_err-low.ensures)

pub or_rows-or_part-requires-2 : goal.or_rows-or_part-requires-2
or_rows-or_part-requires-2 t c =
    let r = c.requires.0 in
    let b = c.requires.3 in
    let k =
    split _ _ (ready-wf r) (c.requires.1, c.requires.2) b c.top-level.ensures c.halve-x.ensures c.halve-y.ensures in
    let w = c.in_ok-low.ensures in
    let h = pair-high-later k w.post.kept in
    (rw (← c.decreases) (part_falls _ _ (pair-high-falls k w.post.kept)), (ready-next r w, h.0, h.1))

pub or_rows-returns-in_err-high : goal.or_rows-returns-in_err-high
or_rows-returns-in_err-high t c =
    let r = c.requires.0 in
    let b = c.requires.3 in
    let k =
    split _ _ (ready-wf r) (c.requires.1, c.requires.2) b c.top-level.ensures c.halve-x.ensures c.halve-y.ensures in
    let d = or-calls r (c.requires.1, c.requires.2) k in
    let z = err_from_is_err_and c.from_residual-in_err-high.result c.from_residual-in_err-high.ensures.1 in
    rw z.1 (high_stops r d c.in_ok-low.ensures c.in_err-high.ensures)

pub or_rows-make-made-requires : goal.or_rows-make-made-requires
or_rows-make-made-requires t c =
    let r = c.requires.0 in
    let b = c.requires.3 in
    let k =
    split _ _ (ready-wf r) (c.requires.1, c.requires.2) b c.top-level.ensures c.halve-x.ensures c.halve-y.ensures in
    let d = or-calls r (c.requires.1, c.requires.2) k in
    row-pre r d c.in_ok-low.ensures c.in_ok-high.ensures

pub or_rows-remember_or-requires : goal.or_rows-remember_or-requires
or_rows-remember_or-requires t c =
    let r = c.requires.0 in
    let b = c.requires.3 in
    let k =
    split _ _ (ready-wf r) (c.requires.1, c.requires.2) b c.top-level.ensures c.halve-x.ensures c.halve-y.ensures in
    let d = or-calls r (c.requires.1, c.requires.2) k in
    let w = row_made r d c.in_ok-low.ensures c.in_ok-high.ensures c.make-made.ensures in (good-room _ w.good, w.memory.sizes)

pub or_rows-returns : goal.or_rows-returns
or_rows-returns t c =
    let r = c.requires.0 in
    let b = c.requires.3 in
    let k =
    split _ _ (ready-wf r) (c.requires.1, c.requires.2) b c.top-level.ensures c.halve-x.ensures c.halve-y.ensures in
    let d = or-calls r (c.requires.1, c.requires.2) k in
    or_kept r (c.requires.1, c.requires.2)
    (row_made r d c.in_ok-low.ensures c.in_ok-high.ensures c.make-made.ensures) c.remember_or.ensures
