-- `write_on`: the states before the place are written, and so many moments are left. Assumes nothing.
use Rattle.std.proofs.Common.{◌≡◌, ◌+◌, ◌-◌, ◌≤◌, length}
use Rattle.layout.specs.View.{view}
use Rattle.counting.specs.Counts.{CountsOf}
use Rattle.logs.specs.Call.{last_moment}
use Rattle.moments.proofs.Write.{Stands}
use Rattle.moments.proofs.write_on.Given as goal

abbrev pub invariant-loop-i : goal.invariant-loop-i
invariant-loop-i l =
    (length l.list ≡ length l.fn.list) × (1 ≤ l.i) × CountsOf (view l.limits.rows l.words) l.counts
    × Stands l.limits.bits l.limits.limit (view l.limits.rows l.fn.words) (view l.limits.rows l.words) l.relation l.valid l.one l.two
    l.first l.fn.list l.list l.s (last_moment l.one + 1 - l.i) (l.i - 1)
