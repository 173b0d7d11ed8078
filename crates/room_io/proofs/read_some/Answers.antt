-- What it gives is what the answer of the read says.
use Rattle.room_io.proofs.Calls.{read_says}
use Rattle.room_io.proofs.read_some.Goals as goal

pub returns : goal.returns
returns g c = read_says c.read-got.result _ c.read-got.ensures.bound c.brought_of.ensures
