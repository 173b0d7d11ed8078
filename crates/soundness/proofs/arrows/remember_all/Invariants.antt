-- `remember_all`: the contract. Assumes nothing.
use Rattle.soundness.specs.Lists.{StaysRight}
use Rattle.soundness.proofs.arrows.remember_all.Given as goal

abbrev pub invariant-loop-k : goal.invariant-loop-k
invariant-loop-k l = StaysRight l.list l.from l.to l.b l.fn.memo l.memo
