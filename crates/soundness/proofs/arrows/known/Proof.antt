-- `known` meets its contract: one of the two tests passed. Assumes nothing.
use mathlib.Core.Logic.{inl, inr}
use borrow.Author.Rules.{rules}
use Rattle.soundness.proofs.arrows.known.Statement.{statement}
use Rattle.soundness.proofs.arrows.known.Tie as tie

pub known_spec : {M : Type 1} → statement M
known_spec =
    tie.close
    (tie.spec (λ c κs. search rules) (λ c. λ e. inl (c.opposite.ensures c.if-opposite.true)) (λ c κs. search rules)
    (λ c. λ e. inr (c.seen.ensures e)))
