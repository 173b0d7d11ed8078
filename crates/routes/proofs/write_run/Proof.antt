-- `write_run` meets its contract: the list is too short, or the first state is written and then the others. Assumes nothing.
use native.Mathlib.Omega.{arith}
use lib.ListN.{length-set}
use Rattle.routes.proofs.Find.{first_small, run_short, run-asks, run-written}
use Rattle.routes.proofs.write_on.Reads as write-on-reads
use borrow.Author.Rules.{rules}
use Rattle.routes.proofs.write_run.Statement.{statement}
use Rattle.routes.proofs.write_run.Tie as tie
use Rattle.routes.proofs.write_run.Reads as reads
use Rattle.routes.proofs.write_run.Lts as lts

pub write_run_spec : {M : Type 1} → statement M
write_run_spec =
    tie.close
    (tie.spec
    (λ c. run_short c.requires.0 c.if-list-d.true)
    (λ c. let h = first_small c.requires.0 in omega arith)
    (λ c. search rules)
    (λ c κs. (
      run-asks c.requires.0
          (simp length-set (omega (arith, c.if-list-d.false))),
      c.requires.1,
    ))
    (λ c. let h =
    c.requires.0.few in
    omega arith)
    (λ c. c.write_on.auto.words)
    (λ c. c.write_on.auto.counts)
    (λ c. simp length-set at c.write_on.auto.list)
    (λ c. run-written
    c.requires.0
    c.args.list.now
    (omega (arith, c.if-list-d.false))
    c.write_on.ensures))
