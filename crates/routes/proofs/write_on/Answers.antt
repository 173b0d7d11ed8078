-- `write_on`: each turn makes the layer again and writes the least next state in it. Assumes nothing.
use Rattle.std.proofs.Common.{refl, ap, ◌∙◌, length, length-set, arith}
use Rattle.routes.proofs.Write.{write_starts, write_again, next-asks, write_turns, write_ends}
use Rattle.routes.proofs.write_on.Goals as goal

pub loop-left-init : goal.loop-left-init
loop-left-init c = (refl, omega arith, omega arith, c.requires.1, λ S r. write_starts c.requires.0 S r)

pub make_layer-x-requires : goal.make_layer-x-requires
make_layer-x-requires c =
    let v = c.loop-left.invariant in (write_again c.requires.0 v.4 c.loop-left-test.true (omega (arith, v.1, v.2)), v.3)

pub write_next-s-requires : goal.write_next-s-requires
write_next-s-requires c =
    let v = c.loop-left.invariant in
    next-asks c.requires.0 v.4 c.make_layer-x.ensures.0 c.loop-left-test.true
    (omega (arith, v.0, v.1, c.requires.0.room, c.loop-left-test.true))

pub loop-left-preserved : goal.loop-left-preserved
loop-left-preserved c =
    let v = c.loop-left.invariant in (
      ap length c.write_next-s.ensures.list ∙ length-set c.loop-left.list c.loop-left.at _ ∙ v.0,
      omega (arith, v.1, c.loop-left-test.true),
      omega (arith, v.2),
      c.make_layer-x.ensures.1,
      write_turns c.requires.0 v.4 c.make_layer-x.ensures.0 c.loop-left-test.true c.write_next-s.ensures,
    )

pub returns : goal.returns
returns c = write_ends c.requires.0 c.loop-left.invariant.4 c.loop-left-test.false
