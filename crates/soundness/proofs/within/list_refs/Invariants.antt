-- `list_refs`: the contract for the roots passed. Assumes nothing.
use Rattle.layout.specs.View.{header_of}
use Rattle.soundness.specs.Lists.{RefsListed}
use Rattle.soundness.proofs.within.list_refs.Given as goal

abbrev pub invariant-loop-k : goal.invariant-loop-k
invariant-loop-k l = RefsListed (header_of l.words) l.list l.from l.k l.stop
