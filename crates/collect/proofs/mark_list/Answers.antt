-- `mark_list`: a turn marks what one root more reaches. Assumes nothing.
use Rattle.std.proofs.Common.{◌∙◌}
use Rattle.collect.proofs.Lent.{get_or-mem, lent-more}
use Rattle.collect.proofs.mark_list.Goals as goal

pub mark-requires : goal.mark-requires
mark-requires c =
    let p = c.requires in
    rw c.loop-a.invariant.0 (record { base = p.base; arrow = p.arrow _ (get_or-mem _ _ c.loop-a-test.true) })

pub loop-a-preserved : goal.loop-a-preserved
loop-a-preserved c =
    let v = c.loop-a.invariant in (c.mark.auto.marks ∙ v.0, lent-more c.loop-a-test.true v.1 c.mark.ensures)
