-- `steady_at`: the depth falls. Assumes nothing.
use Rattle.formula.proofs.+steady_at.Given as goal

abbrev pub decreases-steady_at : goal.decreases-steady_at
decreases-steady_at l = l.depth
