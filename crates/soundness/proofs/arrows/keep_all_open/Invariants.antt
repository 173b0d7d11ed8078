-- `keep_all_open`: the contract for the arrows passed. Assumes nothing.
use Rattle.soundness.specs.Lists.{KeptOpen}
use Rattle.soundness.proofs.arrows.keep_all_open.Given as goal

abbrev pub invariant-loop-k : goal.invariant-loop-k
invariant-loop-k l = KeptOpen l.memo l.shift l.b l.fn.list l.list l.from l.k l.m
