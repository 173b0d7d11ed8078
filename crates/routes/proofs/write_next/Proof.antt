-- `write_next` meets its contract: what the search finds is a state, so it fits into its place. Assumes nothing.
use native.Mathlib.Omega.{arith}
use Rattle.routes.proofs.Write.{next_small}
use Rattle.seek.proofs.least_next.Reads as least-next-reads
use borrow.Author.Rules.{rules}
use Rattle.routes.proofs.write_next.Statement.{statement}
use Rattle.routes.proofs.write_next.Tie as tie
use Rattle.routes.proofs.write_next.Reads as reads
use Rattle.routes.proofs.write_next.Lts as lts

pub write_next_spec : {M : Type 1} → statement M
write_next_spec =
    tie.close
    (tie.spec
    (λ c κs. search rules)
    (λ c. let h = next_small c.requires c.least_next-next.ensures in omega arith)
    (λ c. search rules)
    (λ c. search rules)
    (λ c. search rules)
    (λ c. search rules))
