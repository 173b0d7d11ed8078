-- `empty_heads`: the heads passed are 0. Assumes nothing.
use Rattle.std.proofs.Common.{◌≡◌, length}
use Rattle.layout.specs.View.{view}
use Rattle.table.proofs.Fresh.{HeadsBelow}
use Rattle.table.proofs.empty_heads.Given as goal

abbrev pub invariant-loop-b : goal.invariant-loop-b
invariant-loop-b l = (length l.words ≡ length l.fn.words) × HeadsBelow (view l.rows l.fn.words) (view l.rows l.words) l.b
