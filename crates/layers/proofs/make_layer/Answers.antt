-- `make_layer`: each turn is one layer more, and none is full that was not full before. Assumes nothing.
use Rattle.std.proofs.Common.{arith}
use Rattle.layers.proofs.Scene.{layered_start, next-asks}
use Rattle.layers.proofs.Again.{again_turns, again_never, again_ends}
use Rattle.layers.proofs.make_layer.Goals as goal

pub loop-init : goal.loop-init
loop-init c = (c.requires.1, λ S. layered_start c.requires.0.start S)

pub next_layer-requires : goal.next_layer-requires
next_layer-requires c = (next-asks c.requires.0.start (c.loop.invariant.1 c.requires.0.scene), c.loop.invariant.0)

pub returns-in_default : goal.returns-in_default
returns-in_default c = absurd (again_never c.requires.0 c.loop.invariant.1 c.next_layer.ensures.0 c.loop-test.true c.in_default.is)

pub loop-preserved : goal.loop-preserved
loop-preserved c = (c.next_layer.ensures.1, again_turns c.requires.0 c.loop.invariant.1 c.next_layer.ensures.0 c.in-Ok.is)

pub returns : goal.returns
returns c = (again_ends c.requires.0 c.loop.invariant.1 (omega arith) (omega arith), c.loop.invariant.0)
