-- `remember`: the result is counted and then written. Assumes nothing.
use Rattle.memory.proofs.remember.Goals as goal

pub returns : goal.returns
returns c = rw c.in-Ok.is (record { mid = _; counted = c.count_stored.ensures; wrote = c.write_entry.ensures })
