-- `remember` meets its contract: one pair is written, the others stay. Assumes nothing.
use native.Mathlib.Omega.{arith}
use lib.ListN.{length-set}
use Rattle.soundness.proofs.PairsLaws.{puts}
use borrow.Author.Rules.{rules}
use Rattle.soundness.proofs.arrows.remember.Statement.{statement}
use Rattle.soundness.proofs.arrows.remember.Tie as tie

pub remember_spec : {M : Type 1} → statement M
remember_spec =
    tie.close
    (tie.spec
    (λ c κs. search rules)
    (λ c. search rules)
    (λ c. search rules)
    (λ c. search rules)
    (λ c. search rules)
    (λ c. search rules)
    (λ c. search rules)
    (λ c. let q = c.place.ensures in let h = c.requires in simp length-set (omega arith))
    (λ c. search rules)
    (λ c. puts _ c.place.result _ _ (let q = c.place.ensures in let h = c.requires in omega arith)))
