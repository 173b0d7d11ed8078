-- `filled_at`: the depth falls. Assumes nothing.
use Rattle.formula.proofs.+filled_at.Given as goal

abbrev pub decreases-filled_at : goal.decreases-filled_at
decreases-filled_at l = l.depth
