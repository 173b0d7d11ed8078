-- `empty_slots`: a turn empties one entry more. Assumes nothing.
use Rattle.std.proofs.Common.{◌∙◌}
use Rattle.memory.proofs.Store.{emptied-more}
use Rattle.memory.proofs.empty_slots.Goals as goal

pub loop-s-preserved : goal.loop-s-preserved
loop-s-preserved c =
    let v = c.loop-s.invariant in (c.put_slot.auto.words ∙ v.0, emptied-more c.loop-s.auto.s v.1 c.put_slot.ensures)
