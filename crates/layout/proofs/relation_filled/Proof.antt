-- `relation_filled` meets its contract: past the last relation nothing is filled, else the word of its place decides. Assumes nothing.
use mathlib.Core.Path.{sym}
use Rattle.layout.proofs.Roots.{root-past, root_is}
use borrow.Author.Rules.{rules}
use Rattle.layout.proofs.relation_filled.Statement.{statement}
use Rattle.layout.proofs.relation_filled.Tie as tie

pub relation_filled_spec : {M : Type 1} → statement M
relation_filled_spec =
    tie.close
    (tie.spec
    (λ c. sym (root-past _ _ _ _ c.if-t-ge-RELATIONS.true))
    (λ c. search rules)
    (λ c κs. search rules)
    (λ c. root_is _ _ _ _ c.if-t-ge-RELATIONS.false c.root_word.ensures))
