-- Laws of what specs/Need.antt defines. Assumes nothing.
use mathlib.Core.List.{flat_map}
use Rattle.mucalculus.specs.Sets.{bit_lists}
use Rattle.diagram.specs.Level.{splice}
use Rattle.diagram.specs.Count.{up_to}
use Rattle.diagram.specs.Need.{fix_levels, cofactors, truth_table, has, among, insert, distinct, needed, need}

-- One name for all that a closed need computes through: `unfolding counting` opens them.
unfoldable pub counting : Unit {0}
unfolding splice up_to bit_lists fix_levels flat_map cofactors truth_table has among insert distinct needed need
counting = tt
