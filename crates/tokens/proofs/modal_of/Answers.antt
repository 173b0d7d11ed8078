-- `modal_of`: the quotient tells the line of the boxes or of the diamonds, the remainder the place in it. Assumes nothing.
use Rattle.std.proofs.Common.{sym}
use Rattle.tokens.proofs.Eights.{modal-token}
use Rattle.tokens.proofs.modal_of.Goals as goal

pub returns : goal.returns
returns c = rw (c.from-kind.ensures, c.from.ensures) (sym (modal-token _ c.requires.0 c.requires.1))
