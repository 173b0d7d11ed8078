-- `start`: the states below s are settled. Assumes nothing.
use Rattle.std.proofs.Common.{◌≡◌, length}
use Rattle.layout.specs.View.{view}
use Rattle.coin_search.specs.Start.{Started}
use Rattle.coin_search.proofs.start.Given as goal

abbrev pub invariant-loop-s : goal.invariant-loop-s
invariant-loop-s l = (length l.work ≡ length l.fn.work) × Started (view l.rows l.words) l.bits l.work l.b l.s l.count
