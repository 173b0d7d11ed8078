-- `index_ok`: a row that is missed tells of all; where a walk is long, the parts of the other check tell. Assumes nothing.
use Rattle.std.proofs.Common.{arith}
use Rattle.rows.specs.Says.{holds, fails}
use Rattle.soundness.proofs.Walks.{walk-missed}
use Rattle.soundness.proofs.Triples.{ready-used}
use Rattle.soundness.proofs.ChainsLaws.{both_tell}
use Rattle.soundness.proofs.index_ok.Goals as goal

pub found_row-walk-requires : goal.found_row-walk-requires
found_row-walk-requires c = (rw c.listed.ensures (ready-used c.requires _ c.loop-k-test.true), c.requires.links)

pub returns-in-Missed : goal.returns-in-Missed
returns-in-Missed c =
    fails (λ q. walk-missed c.in-Missed.is c.found_row-walk.ensures (rw c.listed.ensures (q _ c.loop-k-test.true)))

pub returns-in-Long : goal.returns-in-Long
returns-in-Long c = both_tell c.requires c.part_ok.ensures

pub returns : goal.returns
returns c = holds (λ k h. let t = c.loop-k-test.false in c.loop-k.invariant k (omega arith))
