-- `empty_heads`: a turn empties one head more. Assumes nothing.
use Rattle.std.proofs.Common.{◌≡◌, refl, ◌∙◌, arith}
use Rattle.table.proofs.Fresh.{heads-none, heads-more, heads-all}
use Rattle.table.proofs.empty_heads.Goals as goal

pub loop-b-init : goal.loop-b-init
loop-b-init c = (refl, heads-none _)

pub loop-b-preserved : goal.loop-b-preserved
loop-b-preserved c =
    let v = c.loop-b.invariant in (c.put_head.auto.words ∙ v.0, heads-more _ v.1 c.put_head.ensures)

pub returns : goal.returns
returns c = let e : c.loop-b.b ≡ c.args.rows = omega arith in heads-all _ _ _ (rw e at c.loop-b.invariant.1)
