-- `key_after` meets its contract: one law for each way through. Assumes nothing.
use mathlib.Core.Path.{sym, ◌∙◌}
use Rattle.memory.proofs.Store.{key_turned, key_same, key_other}
use borrow.Author.Rules.{rules}
use Rattle.memory.proofs.key_after.Statement.{statement}
use Rattle.memory.proofs.key_after.Tie as tie

pub key_after_spec : {M : Type 1} → statement M
key_after_spec =
    tie.close
    (tie.spec (λ c κs. search rules) (λ c. search rules) (λ c. search rules) (λ c. search rules)
    (λ c. key_turned _ _ _ 0 (sym c.is_marked.ensures ∙ c.if-is_marked.true))
    (λ c. key_same _ _ _ 0 (sym c.is_marked.ensures ∙ c.if-is_marked.false) c.if-key-kind.true)
    (λ c. key_other _ _ _ 0 (sym c.is_marked.ensures ∙ c.if-is_marked.false) c.if-key-kind.false))
