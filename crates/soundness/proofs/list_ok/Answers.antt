-- `list_ok`: a place without its row tells that not all are in order. Assumes nothing.
use Rattle.std.proofs.Common.{◌∙◌, arith}
use Rattle.rows.specs.Says.{holds, fails}
use Rattle.soundness.proofs.list_ok.Goals as goal

pub returns-then-i-rows : goal.returns-then-i-rows
returns-then-i-rows c = fails (λ q. let z = (q _ c.loop-k-test.true).0 in
    let e = c.listed-i.ensures in let t = c.if-i-rows.true in omega arith)

pub returns-then-get-k : goal.returns-then-get-k
returns-then-get-k c = fails (λ q. c.if-get-k.true (c.get.ensures ∙ rw c.listed-i.ensures (q _ c.loop-k-test.true).1))

pub returns : goal.returns
returns c = holds (λ k h. let t = c.loop-k-test.false in c.loop-k.invariant k (omega arith))
