-- `high_ok` meets its contract: an arrow with a NOT fails, and any other is looked at as one. Assumes nothing.
use mathlib.Core.Path.{sym, ◌∙◌}
use mathlib.Core.Bool.{true≢false}
use borrow.Author.Rules.{rules}
use Rattle.rows.specs.Says.{fails}
use Rattle.rows.proofs.Says.{says_map}
use Rattle.soundness.proofs.high_ok.Statement.{statement}
use Rattle.soundness.proofs.high_ok.Tie as tie

pub high_ok_spec : {M : Type 1} → statement M
high_ok_spec =
    tie.close
    (tie.spec
    (λ c κs. search rules)
    (λ c. fails (λ q. true≢false (sym c.if-is_marked.true ∙ c.is_marked.ensures ∙ q.0)))
    (λ c κs. search rules)
    (λ c. says_map (λ l. (sym c.is_marked.ensures ∙ c.if-is_marked.false, l)) (λ q. q.1) c.lead_ok.ensures))
