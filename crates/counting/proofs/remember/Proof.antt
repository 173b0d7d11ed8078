-- `remember` meets its contract: one pair is written. Assumes nothing.
use native.Mathlib.Omega.{arith}
use lib.ListN.{length-set}
use borrow.Author.Rules.{rules}
use Rattle.counting.proofs.remember.Statement.{statement}
use Rattle.counting.proofs.remember.Tie as tie

pub remember_spec : {M : Type 1} → statement M
remember_spec =
    tie.close
    (tie.spec
    (λ c κs. search rules)
    (λ c. let q = c.place-at.ensures in omega arith)
    (λ c. let q = c.place-at.ensures in let h = c.requires in omega arith)
    (λ c. let q = c.place-at.ensures in omega arith)
    (λ c. let q = c.place-at.ensures in omega arith)
    (λ c. let q = c.place-at.ensures in let h = c.requires in simp length-set (omega arith))
    (λ c. search rules)
    (λ c. rw c.place-at.ensures))
