-- `remember_or`: NOT of OR is remembered as AND of the two with the other mark. Assumes nothing.
use Rattle.operations.proofs.Pairs.{or-stored}
use Rattle.operations.proofs.remember_or.Goals as goal

pub returns : goal.returns
returns c =
    or-stored c.args.lo c.args.hi c.flip.ensures c.flip-2.ensures c.args.made c.carry_made-turned.result c.carry_made-turned.ensures
    c.remember.ensures
