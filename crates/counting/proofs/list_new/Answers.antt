-- `list_new`: a turn marks and counts what one arrow more reaches. Assumes nothing.
use Rattle.std.proofs.Common.{◌∙◌, arith}
use Rattle.collect.proofs.Lent.{get_or-mem}
use Rattle.counting.proofs.News.{first_more, first-le, first-all}
use Rattle.counting.proofs.list_new.Goals as goal

pub mark_new-found-requires : goal.mark_new-found-requires
mark_new-found-requires c =
    let p = c.requires in
    rw c.loop-a.invariant.0 (record { base = p.base; arrow = p.arrow _ (get_or-mem _ _ c.loop-a-test.true) })

pub overflow_add-found : goal.overflow_add-found
overflow_add-found c =
    let l = first-le c.requires (first_more c.loop-a-test.true c.loop-a.invariant.1 c.mark_new-found.ensures) in omega arith

pub loop-a-preserved : goal.loop-a-preserved
loop-a-preserved c =
    let v = c.loop-a.invariant in
    (c.mark_new-found.auto.marks ∙ v.0, first_more c.loop-a-test.true v.1 c.mark_new-found.ensures)

pub returns : goal.returns
returns c = first-all _ c.loop-a-test.false c.loop-a.invariant.1
