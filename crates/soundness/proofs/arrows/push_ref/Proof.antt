-- `push_ref` meets its contract: an empty root has no arrow. Assumes nothing.
use native.Mathlib.Omega.{arith}
use Rattle.soundness.proofs.ListsLaws.{pushed_not}
use borrow.Author.Rules.{rules}
use Rattle.soundness.proofs.arrows.push_ref.Statement.{statement}
use Rattle.soundness.proofs.arrows.push_ref.Tie as tie

pub push_ref_spec : {M : Type 1} → statement M
push_ref_spec =
    tie.close (tie.spec (λ c. let t = c.if-r-eq0.true in pushed_not _ (λ n. absurd (n (omega arith)))) (λ c. search rules)
    (λ c κs. search rules) (λ c. search rules) (λ c. search rules) (λ c. search rules))
