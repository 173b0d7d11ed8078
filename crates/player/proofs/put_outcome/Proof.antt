-- `put_outcome` writes five words one after the other. Assumes nothing.
use native.Mathlib.Omega.{arith}
use lib.ListN.{length-set}
use Rattle.player.proofs.Next.{put_five}
use borrow.Author.Rules.{rules}
use Rattle.player.proofs.put_outcome.Statement.{statement}
use Rattle.player.proofs.put_outcome.Tie as tie

pub put_outcome_spec : {M : Type 1} → statement M
put_outcome_spec =
    tie.close
    (tie.spec
    (λ c. search rules)
    (λ c. search rules)
    (λ c. search rules)
    (λ c. search rules)
    (λ c. simp length-set (omega (arith, c.requires)))
    (λ c. search rules)
    (λ c. search rules)
    (λ c. simp length-set (omega (arith, c.requires)))
    (λ c. search rules)
    (λ c. search rules)
    (λ c. simp length-set (omega (arith, c.requires)))
    (λ c. search rules)
    (λ c. search rules)
    (λ c. simp length-set (omega (arith, c.requires)))
    (λ c. search rules)
    (λ c. put_five c.args.list.now c.args.at c.args.x.number c.args.x.node c.args.x.rounds c.args.x.value
    c.args.x.peak))
