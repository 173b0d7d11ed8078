-- `syntax`: the depth falls. Assumes nothing.
use Rattle.formula.proofs.+syntax.Given as goal

abbrev pub decreases-syntax : goal.decreases-syntax
decreases-syntax l = l.depth
