-- `step` meets its contract: what is known is left out, and the rest is laid out at the least level. Assumes nothing.
use mathlib.Core.Path.{◌∙◌}
use native.Mathlib.Omega.{arith}
use Rattle.soundness.proofs.WalkLaws.{least-asked, lay-asked, stepped}
use Rattle.soundness.proofs.within.step.Statement.{statement}
use Rattle.soundness.proofs.within.step.Tie as tie

pub step_spec : {M : Type 1} → statement M
step_spec =
    tie.close
    (tie.spec
    (λ c κs. let o = c.requires.lists.order in let o1 = o.1 in
    let z = c.requires.lists.room.0 in let y = c.requires.room in (c.requires.size, o.0, omega arith))
    (λ c κs. (c.requires.lists.good, c.requires.arrow, c.requires.is_row, c.requires.shift))
    (λ c κs. least-asked c.requires c.keep_all_open-last.ensures c.top_of.ensures c.keep_all_open-last.auto.list)
    (λ c κs. lay-asked c.requires c.keep_all_open-last.ensures c.top_of.ensures c.keep_all_open-last.auto.list
    c.least-l.ensures)
    (λ c. c.lay.auto.list ∙ c.keep_all_open-last.auto.list)
    (λ c. c.lay.auto.found)
    (λ c. stepped c.requires c.keep_all_open-last.ensures c.top_of.ensures
    c.least-l.ensures c.lay.ensures))
