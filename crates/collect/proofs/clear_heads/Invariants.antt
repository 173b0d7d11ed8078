-- `clear_heads`: nothing but heads is written. Assumes nothing.
use Rattle.std.proofs.Common.{◌≡◌, length}
use Rattle.layout.specs.View.{view}
use Rattle.collect.specs.Gather.{Headed}
use Rattle.collect.proofs.clear_heads.Given as goal

abbrev pub invariant-loop-k : goal.invariant-loop-k
invariant-loop-k l = (length l.words ≡ length l.fn.words) × Headed (view l.rows l.fn.words) (view l.rows l.words)
