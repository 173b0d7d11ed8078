-- `count_records`: a turn counts the record at the front of the bytes left. Assumes nothing.
use Rattle.std.proofs.Common.{[], ◌∷◌, arith}
use Rattle.std.proofs.lemmas.List.{length-append}
use Rattle.player.proofs.Passes.{passed-next, passed-all, passed_bad, sized-at, no-size-at}
use Rattle.player.proofs.count_records.Goals as goal

pub returns-in_err-at : goal.returns-in_err-at
returns-in_err-at c =
    let none = no-size-at c.args.bytes.now c.loop-at.at c.in_err-at.ensures in
    rw c.from_residual.ensures (passed_bad c.loop-at.invariant.1 c.loop-at-test.true none)

pub loop-at-smaller : goal.loop-at-smaller
loop-at-smaller c = let z = sized-at c.args.bytes.now c.loop-at.at c.in_ok-at.ensures in omega (arith, z.size, c.loop-at-test.true)

pub loop-at-preserved : goal.loop-at-preserved
loop-at-preserved c =
    let z = sized-at c.args.bytes.now c.loop-at.at c.in_ok-at.ensures in
    let (cs, p, k) = c.loop-at.invariant in
    (_, passed-next z.command _ p c.loop-at-test.true z.read z.size z.within, omega (arith, length-append cs (z.command ∷ []), k))

pub returns : goal.returns
returns c = (_, passed-all c.loop-at.invariant.1 c.loop-at-test.false, c.loop-at.invariant.2)
