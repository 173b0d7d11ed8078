-- `write_on`: the states up to the place are written, and so many layers are left. Assumes nothing.
use Rattle.std.proofs.Common.{◌≡◌, suc, ◌+◌, ◌≤◌, length}
use Rattle.layout.specs.View.{view}
use Rattle.counting.specs.Counts.{CountsOf}
use Rattle.layers.specs.Scene.{Scene}
use Rattle.routes.specs.Write.{Onward}
use Rattle.routes.proofs.Write.{Writing}
use Rattle.routes.proofs.write_on.Given as goal

abbrev pub invariant-loop-left : goal.invariant-loop-left
invariant-loop-left l =
    (length l.list ≡ length l.fn.list) × (l.at + l.left ≡ suc l.d) × (1 ≤ l.at) × CountsOf (view l.limits.rows l.words) l.counts
    × ((S : Scene l.limits.bits (view l.limits.rows l.fn.words) l.relation l.b) → Onward l.limits.limit S l.d l.first
    → Writing l.limits.bits l.limits.limit (view l.limits.rows l.fn.words) (view l.limits.rows l.words) l.relation l.b S l.d
    l.first l.fn.list l.list l.s l.left l.at)
