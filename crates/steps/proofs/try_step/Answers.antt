-- `try_step`: each operation promises it, and NOT is the arrow with the other mark. Assumes nothing.
use Rattle.steps.proofs.Steps.{not_worked}
use Rattle.steps.proofs.try_step.Goals as goal

pub returns-in-Not : goal.returns-in-Not
returns-in-Not c = let f = rw c.in-Not.is at c.requires.1 in rw c.in-Not.is (not_worked _ c.requires.0 f c.flip.ensures)
