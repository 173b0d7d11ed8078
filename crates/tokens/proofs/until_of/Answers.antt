-- `until_of`: the quotient tells the line of some run or of every run, the remainder the place in it. Assumes nothing.
use Rattle.std.proofs.Common.{sym}
use Rattle.tokens.proofs.Eights.{until-token}
use Rattle.tokens.proofs.until_of.Goals as goal

pub returns : goal.returns
returns c = rw (c.from-kind.ensures, c.from.ensures) (sym (until-token _ c.requires.0 c.requires.1))
