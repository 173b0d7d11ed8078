-- `write_header`: a turn writes one word more. Assumes nothing.
use Rattle.std.proofs.Common.{◌≡◌, refl, ◌∙◌, arith}
use Rattle.layout.specs.Places.{HEADER}
use Rattle.table.proofs.Fresh.{header-none, header-more, header-all}
use Rattle.table.proofs.write_header.Goals as goal

pub loop-h-init : goal.loop-h-init
loop-h-init c = (refl, header-none _ _)

pub loop-h-preserved : goal.loop-h-preserved
loop-h-preserved c =
    let v = c.loop-h.invariant in (c.put_header.auto.words ∙ v.0, header-more _ c.loop-h-test.true v.1 c.put_header.ensures)

pub returns : goal.returns
returns c = let e : c.loop-h.h ≡ HEADER = omega arith in header-all _ _ _ _ (rw e at c.loop-h.invariant.1)
