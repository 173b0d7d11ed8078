-- `write_on`: each turn makes the set of a place again and writes the least next state in it. Assumes nothing.
use Rattle.std.proofs.Common.{◌≡◌, ◌+◌, ◌-◌, refl, ap, ◌∙◌, length, length-set, arith}
use Rattle.moments.proofs.Write.{write_starts, write_again, write_never, next-asks, write_turns, write_ends}
use Rattle.moments.proofs.write_on.Goals as goal

pub loop-i-init : goal.loop-i-init
loop-i-init c = (refl, omega arith, c.requires.1, write_starts c.requires.0 (omega arith))

pub make_set-requires : goal.make_set-requires
make_set-requires c =
    let v = c.loop-i.invariant in
    let t = c.loop-i-test.true in
    (write_again c.requires.0 (omega (arith, t)) (omega (arith, t, v.1)) v.3 (omega (arith, v.1)), v.2)

pub returns-in_default : goal.returns-in_default
returns-in_default c =
    let v = c.loop-i.invariant in
    let t = c.loop-i-test.true in
    absurd (write_never c.requires.0 (omega (arith, t)) (omega (arith, t, v.1)) v.3 (omega (arith, v.1)) c.make_set.ensures.0
    c.in_default.is)

pub write_next-s-requires : goal.write_next-s-requires
write_next-s-requires c =
    let v = c.loop-i.invariant in
    let t = c.loop-i-test.true in
    let r = c.requires.0.room in
    next-asks c.requires.0 (omega (arith, t)) (omega (arith, t, v.1)) v.3 (omega (arith, v.1)) c.make_set.ensures.0 c.in-Ok.is
    (omega (arith, r, v.0, t))

pub loop-i-preserved : goal.loop-i-preserved
loop-i-preserved c =
    let v = c.loop-i.invariant in
    let t = c.loop-i-test.true in
    let e : c.loop-i.i + 1 - 1 ≡ c.loop-i.i = omega arith in (
      ap length c.write_next-s.ensures.list ∙ length-set c.loop-i.list c.loop-i.i _ ∙ v.0,
      omega arith,
      c.make_set.ensures.1,
      rw e
          (write_turns c.requires.0 (omega (arith, t)) (omega (arith, t, v.1)) v.3 (omega (arith, v.1)) c.make_set.ensures.0 c.in-Ok.is
          c.write_next-s.ensures (omega arith)),
    )

pub returns : goal.returns
returns c = write_ends c.requires.0 (omega (arith, c.loop-i-test.false, c.loop-i.invariant.1)) c.loop-i.invariant.3
