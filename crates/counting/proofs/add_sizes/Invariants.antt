-- `add_sizes`: the sum of the sizes passed, which is at most `most` while it goes on. Assumes nothing.
use Rattle.std.proofs.Common.{◌≡◌, length}
use Rattle.layout.specs.View.{view}
use Rattle.counting.proofs.Bound.{Summed}
use Rattle.counting.proofs.add_sizes.Given as goal

abbrev pub invariant-loop-a : goal.invariant-loop-a
invariant-loop-a l = (length l.counts ≡ length l.fn.counts) × Summed (view l.rows l.words) l.counts l.arrows l.sum l.a-index l.total
