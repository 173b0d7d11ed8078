-- `held_for` meets its contract: by the test of the mark. Assumes nothing.
use mathlib.Core.Path.{sym, ◌∙◌}
use Rattle.memory.proofs.Store.{held-turned, held_plain}
use borrow.Author.Rules.{rules}
use Rattle.memory.proofs.held_for.Statement.{statement}
use Rattle.memory.proofs.held_for.Tie as tie

pub held_for_spec : {M : Type 1} → statement M
held_for_spec =
    tie.close
    (tie.spec (λ c κs. search rules) (λ c. held-turned _ _ (sym c.is_marked.ensures ∙ c.if-is_marked.true))
    (λ c. held_plain _ _ (sym c.is_marked.ensures ∙ c.if-is_marked.false)))
