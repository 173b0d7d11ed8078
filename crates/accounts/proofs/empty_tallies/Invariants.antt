-- `empty_tallies`: the accounts passed are emptied. Assumes nothing.
use Rattle.std.proofs.Common.{◌≡◌, take}
use Rattle.accounts.specs.Listed.{emptied_to}
use Rattle.accounts.proofs.empty_tallies.Given as goal

abbrev pub invariant-loop-a : goal.invariant-loop-a
invariant-loop-a l = l.a-items ≡ emptied_to l.a-index (take l.count l.fn.accounts)
