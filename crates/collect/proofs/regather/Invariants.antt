-- `regather`: the marked rows of the places passed are used again. Assumes nothing.
use Rattle.std.proofs.Common.{◌≡◌, length}
use Rattle.layout.specs.Places.{USED}
use Rattle.layout.specs.View.{view, put_header}
use Rattle.rows.specs.Bits.{On}
use Rattle.collect.specs.Gather.{Part}
use Rattle.collect.proofs.regather.Given as goal

abbrev pub invariant-loop-k : goal.invariant-loop-k
invariant-loop-k l =
    (length l.words ≡ length l.fn.words)
    × Part (put_header (view l.rows l.fn.words) USED l.total) (λ j. On l.marks j) l.k (view l.rows l.words)
