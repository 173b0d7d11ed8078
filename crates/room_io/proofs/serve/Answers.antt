-- The turns made so far are a chain under the contract of `turn`, and the last of them ends it.
use Rattle.std.proofs.Common.{inl, inr, arith}
use Rattle.room_io.proofs.Pace.{upto-none, upto_next, upto-served}
use Rattle.room_io.proofs.Known.{known-first}
use Rattle.room_io.proofs.serve.Goals as goal
use Rattle.room_io.proofs.serve.Goals.{then-loop-turns-test+else-not-p, else-loop-turns-test}

pub loop-turns-init : goal.loop-turns-init
loop-turns-init g c = record {
  placed = record { order = omega arith; within = omega arith; waiting = omega arith; enough = c.requires.1; line = c.requires.2 };
  so_far = upto-none _ _ _;
  known = known-first _ c.requires.0;
}

pub turn-p-requires : goal.turn-p-requires
turn-p-requires g c = (c.loop-turns.invariant.placed, c.loop-turns.invariant.known)

pub loop-turns-preserved : goal.loop-turns-preserved
loop-turns-preserved g c = record {
  placed = c.turn-p.ensures.turned.placed;
  so_far = upto_next c.loop-turns.invariant.so_far c.loop-turns-test.true c.if-not-p.true c.turn-p.ensures.turned;
  known = c.turn-p.ensures.says;
}

pub flush-requires : goal.flush-requires
flush-requires g c = c.loop-turns.invariant.placed.waiting

pub returns : goal.returns
returns g c = upto-served c.requires.0
    (record { order = omega arith; within = omega arith; waiting = omega arith; enough = c.requires.1; line = c.requires.2 })
    c.loop-turns.invariant.so_far
    (elim c.loop-turns-test.branch [
      | then-loop-turns-test+else-not-p w ↦ inl w.if-not-p.false
      | else-loop-turns-test w ↦ inr w.loop-turns-test.false
    ])
    c.flush.ensures
