-- `push` meets its contract: the arrow is nothing, is found, or is written. Assumes nothing.
use Rattle.soundness.proofs.ListsLaws.{pushed_not, pushed_new}
use borrow.Author.Rules.{rules}
use Rattle.soundness.proofs.arrows.push.Statement.{statement}
use Rattle.soundness.proofs.arrows.push.Tie as tie

pub push_spec : {M : Type 1} → statement M
push_spec =
    tie.close
    (tie.spec
    (λ c. pushed_not _ (λ n. absurd (n c.if-a-eq-NOTHING.true)))
    (λ c κs. search rules)
    (λ c. search rules)
    (λ c. search rules)
    (λ c κs. search rules)
    (λ c. search rules)
    (λ c. let e = c.stands.ensures c.if-stands.true in pushed_not _ (λ n. record { at = _; lo = e.0; hi = e.1; is = e.2 }))
    (λ c. search rules)
    (λ c. search rules)
    (λ c. search rules)
    (λ c. search rules)
    (λ c. search rules)
    (λ c. search rules)
    (λ c. search rules)
    (λ c. search rules)
    (λ c. pushed_new _ c.requires.0 c.requires.1 c.if-a-eq-NOTHING.false))
