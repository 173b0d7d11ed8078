-- `scan_at`: the depth falls. Assumes nothing.
use Rattle.formula.proofs.+scan_at.Given as goal

abbrev pub decreases-scan_at : goal.decreases-scan_at
decreases-scan_at l = l.depth
