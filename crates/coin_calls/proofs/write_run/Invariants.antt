-- `write_run`: what is written is a run to s, and a step that is left leads to a state before place i. Assumes nothing.
use Rattle.std.proofs.Common.{◌<◌, ◌≤◌, ◌^◌}
use Rattle.layout.specs.View.{view}
use Rattle.coin_calls.specs.Steps.{Ahead}
use Rattle.coin_calls.proofs.Write.{Writing}
use Rattle.coin_calls.proofs.write_run.Given as goal

abbrev pub invariant-loop-at : goal.invariant-loop-at
invariant-loop-at l = (l.i ≤ 2 ^ l.bits)
    × Writing (view l.rows l.words) l.bits l.prices l.work l.initial.states l.states l.initial.relations l.relations l.first l.steps l.s l.at
    × (l.at < l.steps → Ahead (view l.rows l.words) l.bits l.prices l.work l.s l.i)
