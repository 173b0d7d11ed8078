-- `forget_rows`: the keys of the rows before place k are empty. Assumes nothing.
use Rattle.std.proofs.Common.{◌≡◌, length}
use Rattle.layout.specs.View.{view}
use Rattle.memory.specs.Forget.{RowsForgot}
use Rattle.memory.proofs.forget_rows.Given as goal

abbrev pub invariant-loop-k : goal.invariant-loop-k
invariant-loop-k l = (length l.words ≡ length l.fn.words) × RowsForgot (view l.rows l.fn.words) (view l.rows l.words) l.k
