-- `make_set`: the set of a moment is made, from the last moment on. Assumes nothing.
use Rattle.std.proofs.Common.{◌-◌, ◌≤◌}
use Rattle.layout.specs.View.{view}
use Rattle.counting.specs.Counts.{CountsOf}
use Rattle.layers.specs.Scene.{Scene}
use Rattle.logs.specs.Call.{last_moment}
use Rattle.moments.specs.Sets.{HasSet}
use Rattle.moments.proofs.make_set.Given as goal

abbrev pub invariant-loop-i : goal.invariant-loop-i
invariant-loop-i l =
    (l.at ≤ l.i) × (l.i ≤ last_moment l.one) × CountsOf (view l.limits.rows l.words) l.counts
    × ((S : Scene l.limits.bits (view l.limits.rows l.fn.words) l.relation l.valid)
    → HasSet l.limits.bits l.limits.limit (view l.limits.rows l.fn.words) (view l.limits.rows l.words) l.relation l.valid S l.one l.two
    (last_moment l.one - l.i) l.i l.x)
