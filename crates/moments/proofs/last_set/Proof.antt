-- `last_set` meets its contract: the states that fit the last entries are the last set. Assumes nothing.
use native.Mathlib.Omega.{arith}
use Rattle.moments.proofs.Sets.{entry_at, last-ends}
use Rattle.moments.proofs.fitting.Reads as fitting-reads
use Rattle.moments.proofs.moment_at.Reads as moment-at-reads
use borrow.Author.Rules.{rules}
use Rattle.moments.proofs.last_set.Statement.{statement}
use Rattle.moments.proofs.last_set.Tie as tie
use Rattle.moments.proofs.last_set.Reads as reads
use Rattle.moments.proofs.last_set.Lts as lts

pub last_set_spec : {M : Type 1} → statement M
last_set_spec =
    tie.close
    (tie.spec
    (λ c. let l = c.requires.0.logs.first in omega (arith, l))
    (λ c κs. entry_at c.requires.0.logs (omega arith))
    (λ c. search rules)
    (λ c κs. (
      c.requires.0.fitting,
      c.requires.1,
    ))
    (λ c. c.fitting.auto.words)
    (λ c. c.fitting.auto.counts)
    (λ c. (
      last-ends
          c.args.limits.limit
          c.args.one.now
          c.args.two.now
          c.moment_at-joint.ensures
          c.fitting.ensures.0,
      c.fitting.ensures.1,
    )))
