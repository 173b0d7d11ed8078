-- `stands` meets its contract: the place and its word were compared. Assumes nothing.
use mathlib.Core.Path.{sym}
use mathlib.Core.Bool.{true≢false}
use native.Mathlib.Omega.{arith}
use borrow.Author.Rules.{rules}
use Rattle.soundness.proofs.arrows.stands.Statement.{statement}
use Rattle.soundness.proofs.arrows.stands.Tie as tie

pub stands_spec : {M : Type 1} → statement M
stands_spec =
    tie.close (tie.spec (λ c. λ e. absurd (true≢false (sym e))) (λ c. λ e. absurd (true≢false (sym e))) (λ c. search rules)
    (λ c. search rules) (λ c. λ e. absurd (true≢false (sym e))) (λ c. let c1 = c.before.before.before in λ e.
    (let h = c1.if-k-from.false in omega arith, let h = c.if-k-to.false in omega arith, c.if-list-k.false)))
