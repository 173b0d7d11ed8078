-- `evens`: a marked row of an odd level tells of all. Assumes nothing.
use Rattle.std.proofs.Common.{sym, ◌∙◌, arith}
use Rattle.rows.specs.Says.{holds, fails}
use Rattle.soundness.proofs.evens.Goals as goal

pub returns-then-get-eq1 : goal.returns-then-get-eq1
returns-then-get-eq1 c =
    fails
    (λ q. let v = c.header_word-used.ensures in
    let t = c.loop-k-test.true in
    let e = c.listed-i.ensures in
    let z = q c.loop-k.k (omega arith) (rw e at (sym c.marked.ensures ∙ c.if-marked.true)) in
    let g = rw e at c.get.ensures in let s = c.if-get-eq1.true in omega arith)

pub returns : goal.returns
returns c = holds (λ k h o. let v = c.header_word-used.ensures in let t = c.loop-k-test.false in c.loop-k.invariant k (omega arith) o)
