-- `unfilled`: every root passed is empty. Assumes nothing.
use Rattle.formula_calls.specs.Vacant.{VacantTo}
use Rattle.formula_calls.proofs.unfilled.Given as goal

abbrev pub invariant-loop-k : goal.invariant-loop-k
invariant-loop-k l = VacantTo l.words l.k
