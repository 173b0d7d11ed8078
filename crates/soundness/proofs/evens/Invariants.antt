-- `evens`: every marked row passed has an even level. Assumes nothing.
use Rattle.std.proofs.Common.{◌≡◌, ℕ, ◌<◌, ◌%◌}
use Rattle.layout.specs.Places.{LEVEL}
use Rattle.layout.specs.View.{view, list_of}
use Rattle.rows.specs.Bits.{On}
use Rattle.soundness.proofs.evens.Given as goal

abbrev pub invariant-loop-k : goal.invariant-loop-k
invariant-loop-k l =
    (j : ℕ) → j < l.k → On l.marks (list_of l.rows l.words j) → (view l.rows l.words).cell (list_of l.rows l.words j) LEVEL % 2 ≡ 0
