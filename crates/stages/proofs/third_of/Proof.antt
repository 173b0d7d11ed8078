-- `third_of` meets its contract: it answers a, or 0, which is an arrow of any table. Assumes nothing.
use Rattle.stages.proofs.third_of.Statement.{statement}
use Rattle.stages.proofs.third_of.Tie as tie

pub third_of_spec : {M : Type 1} → statement M
third_of_spec =
    tie.close
    (tie.spec
    (λ c. λ rs u. tt)
    (λ c. λ rs u. u))
