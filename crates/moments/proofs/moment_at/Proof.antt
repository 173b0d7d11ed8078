-- `moment_at` meets its contract: each number is read from its place. Assumes nothing.
use Rattle.moments.proofs.TwoEntries.{joins_at}
use Rattle.moments.proofs.joined.Reads as joined-reads
use borrow.Author.Rules.{rules}
use Rattle.moments.proofs.moment_at.Statement.{statement}
use Rattle.moments.proofs.moment_at.Tie as tie
use Rattle.moments.proofs.moment_at.Reads as reads
use Rattle.moments.proofs.moment_at.Lts as lts

pub moment_at_spec : {M : Type 1} → statement M
moment_at_spec =
    tie.close
    (tie.spec
    (λ c. search rules)
    (λ c. search rules)
    (λ c. search rules)
    (λ c. search rules)
    (λ c. search rules)
    (λ c. search rules)
    (λ c. search rules)
    (λ c. search rules)
    (λ c. search rules)
    (λ c. search rules)
    (λ c. search rules)
    (λ c κs. search rules)
    (λ c. joins_at c.args.one.now
    c.args.two.now
    c.args.i c.joined.ensures))
