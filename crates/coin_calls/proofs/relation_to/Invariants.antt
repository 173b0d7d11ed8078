-- `relation_to`: the relations below r are none. Assumes nothing.
use Rattle.layout.specs.View.{view}
use Rattle.coin_calls.proofs.Steps.{Passed}
use Rattle.coin_calls.proofs.relation_to.Given as goal

abbrev pub invariant-loop-r : goal.invariant-loop-r
invariant-loop-r l = Passed (view l.rows l.words) l.bits l.prices l.work l.s l.t l.r
