-- `empty_tallies`: a turn empties one account more. Assumes nothing.
use Rattle.std.proofs.Common.{◌≡◌, take, arith, add-one}
use Rattle.std.proofs.lemmas.List.{length-take}
use Rattle.accounts.proofs.Listed.{emptied-next, emptied-front}
use Rattle.accounts.proofs.empty_tallies.Goals as goal

pub loop-a-preserved : goal.loop-a-preserved
loop-a-preserved c =
    let l = take c.args.count c.args.accounts.now in
    rw (add-one, c.with_none.ensures, c.loop-a.invariant) (emptied-next c.loop-a.a-index l c.loop-a-test.true)

pub returns : goal.returns
returns c =
    let e : c.loop-a.a-index ≡ c.args.count = omega (arith, length-take c.args.count c.args.accounts.now) in
    rw (c.loop-a.invariant, e) (emptied-front c.args.count c.args.accounts.now)
