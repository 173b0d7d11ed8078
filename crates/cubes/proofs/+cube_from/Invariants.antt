-- `cube_from`: the bits that are left are the measure. Assumes nothing.
use Rattle.std.proofs.Common.{◌-◌}
use Rattle.cubes.proofs.+cube_from.Given as goal

abbrev pub decreases-cube_from : goal.decreases-cube_from
decreases-cube_from l = 33 - l.p
