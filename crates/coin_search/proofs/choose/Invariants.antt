-- `choose`: the best of the relations below r. Assumes nothing.
use Rattle.std.proofs.Common.{◌≤◌}
use Rattle.layout.specs.View.{header_of}
use Rattle.coin_search.specs.Choice.{Best}
use Rattle.coin_search.proofs.choose.Given as goal

abbrev pub invariant-loop-r : goal.invariant-loop-r
invariant-loop-r l = (l.best ≤ 8) × Best (header_of l.words) l.prices l.work l.done l.count l.r l.best
