-- `empty_slots`: the entries before s are empty. Assumes nothing.
use Rattle.std.proofs.Common.{◌≡◌, length}
use Rattle.layout.specs.View.{view}
use Rattle.memory.specs.Store.{Emptied}
use Rattle.memory.proofs.empty_slots.Given as goal

abbrev pub invariant-loop-s : goal.invariant-loop-s
invariant-loop-s l = (length l.words ≡ length l.fn.words) × Emptied (view l.rows l.fn.words) (view l.rows l.words) l.from l.s
