-- `step_below`: a state to which such a step leads stands before place i. Assumes nothing.
use Rattle.layout.specs.View.{view}
use Rattle.coin_calls.specs.Steps.{Ahead}
use Rattle.coin_calls.proofs.step_below.Given as goal

abbrev pub invariant-loop-i : goal.invariant-loop-i
invariant-loop-i l = Ahead (view l.rows l.words) l.bits l.prices l.work l.s l.i
