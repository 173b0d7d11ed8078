-- `make_layer`: so many layers after the first are made. Assumes nothing.
use Rattle.layout.specs.View.{view}
use Rattle.counting.specs.Counts.{CountsOf}
use Rattle.layers.specs.Scene.{Scene, Layered}
use Rattle.layers.proofs.make_layer.Given as goal

abbrev pub invariant-loop : goal.invariant-loop
invariant-loop l =
    CountsOf (view l.limits.rows l.words) l.counts
    × ((S : Scene l.limits.bits (view l.limits.rows l.fn.words) l.relation l.b)
    → Layered l.limits.bits (view l.limits.rows l.fn.words) (view l.limits.rows l.words) l.relation l.b S l.counter l.x)
