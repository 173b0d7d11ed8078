-- `seen` meets its contract: both words of the place were compared. Assumes nothing.
use mathlib.Core.Path.{sym}
use mathlib.Core.Bool.{true≢false}
use borrow.Author.Rules.{rules}
use Rattle.soundness.proofs.arrows.seen.Statement.{statement}
use Rattle.soundness.proofs.arrows.seen.Tie as tie

pub seen_spec : {M : Type 1} → statement M
seen_spec =
    tie.close
    (tie.spec
    (λ c κs. search rules)
    (λ c. search rules)
    (λ c. search rules)
    (λ c. search rules)
    (λ c. search rules)
    (λ c. λ e. absurd (true≢false (sym e)))
    (λ c. search rules)
    (λ c. search rules)
    (λ c. search rules)
    (λ c. λ e. absurd (true≢false (sym e)))
    (λ c. λ e.
    record { at = c.place.result; first = c.if-memo-at.false; second = c.if-memo-at-2.false }))
