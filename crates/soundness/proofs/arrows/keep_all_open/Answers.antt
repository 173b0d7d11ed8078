-- `keep_all_open`: a turn keeps an arrow, or leaves out one that is known to be apart. Assumes nothing.
use Rattle.std.proofs.Common.{refl, arith}
use Rattle.soundness.proofs.ListsLaws.{kept_more}
use Rattle.soundness.proofs.arrows.keep_all_open.Goals as goal

pub loop-k-preserved : goal.loop-k-preserved
loop-k-preserved c = kept_more c.loop-k.invariant c.loop-k.auto.k (omega arith) refl c.keep_open-m.ensures
