-- `even` and `odd`: the remaining bytes fall. Assumes nothing.
use Rattle.std.proofs.Common.{◌-◌, length}
use Rattle.formula.proofs.+even_odd.Given as goal

abbrev pub decreases-even : goal.decreases-even
decreases-even l = length l.bytes.now - l.at

abbrev pub decreases-odd : goal.decreases-odd
decreases-odd l = length l.bytes.now - l.at
