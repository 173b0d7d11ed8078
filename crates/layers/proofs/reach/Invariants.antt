-- `reach`: the layers passed share no state, and each is greater than the one before. Assumes nothing.
use Rattle.std.proofs.Common.{◌≡◌, Bool, List, suc, ◌*◌, ◌-◌, ◌^◌, length}
use Rattle.layout.specs.View.{view}
use Rattle.counting.specs.Counts.{CountsOf}
use Rattle.diagram.specs.Post.{Denotes}
use Rattle.rows.specs.Used.{rows_of}
use Rattle.book.specs.Bridge.{fn_of}
use Rattle.layers.specs.Scene.{Scene}
use Rattle.layers.proofs.Pass.{Passing}
use Rattle.layers.proofs.reach.Given as goal

abbrev pub invariant-loop-limits : goal.invariant-loop-limits
invariant-loop-limits l =
    (length l.words ≡ length l.fn.words) × (length l.counts ≡ length l.fn.counts) × (l.states ≡ 2 ^ l.limits.bits)
    × CountsOf (view l.limits.rows l.words) l.counts
    × ((S : Scene l.limits.bits (view l.limits.rows l.fn.words) l.relation l.b) (A : List Bool)
    → Denotes (2 * l.limits.bits) (rows_of (view l.limits.rows l.fn.words)) l.a (fn_of l.limits.bits A)
    → Passing l.limits.bits l.limits.limit (view l.limits.rows l.fn.words) (view l.limits.rows l.words) l.relation l.b S A l.d l.x)

abbrev pub decreases-loop-limits : goal.decreases-loop-limits
decreases-loop-limits l = suc (suc (2 ^ l.limits.bits)) - l.d
