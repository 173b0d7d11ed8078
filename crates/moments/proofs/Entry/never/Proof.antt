-- `Entry::never` meets its contract: no state has a bit under no mask. Assumes nothing.
use Rattle.moments.proofs.TwoEntries.{never-fits}
use borrow.Author.Rules.{rules}
use Rattle.moments.proofs.Entry.never.Statement.{statement}
use Rattle.moments.proofs.Entry.never.Tie as tie
use Rattle.moments.proofs.Entry.never.Reads as reads
use Rattle.moments.proofs.Entry.never.Lts as lts

pub never_spec : {M : Type 1} → statement M
never_spec = tie.close (tie.spec (λ c. never-fits))
