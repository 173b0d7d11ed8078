-- `write_header`: the words passed are the new header's. Assumes nothing.
use Rattle.std.proofs.Common.{◌≡◌, length}
use Rattle.layout.specs.View.{view}
use Rattle.table.proofs.Fresh.{HeaderBelow}
use Rattle.table.proofs.write_header.Given as goal

abbrev pub invariant-loop-h : goal.invariant-loop-h
invariant-loop-h l = (length l.words ≡ length l.fn.words) × HeaderBelow (view l.rows l.fn.words) (view l.rows l.words) l.header l.h
