-- `register_filled` meets its contract: past the last register nothing is filled, else the word of its place decides. Assumes nothing.
use mathlib.Core.Path.{sym}
use Rattle.layout.proofs.Roots.{root-past, root_is}
use borrow.Author.Rules.{rules}
use Rattle.layout.proofs.register_filled.Statement.{statement}
use Rattle.layout.proofs.register_filled.Tie as tie

pub register_filled_spec : {M : Type 1} → statement M
register_filled_spec =
    tie.close
    (tie.spec
    (λ c. sym (root-past _ _ _ _ c.if-r-ge-REGISTERS.true))
    (λ c. search rules)
    (λ c κs. search rules)
    (λ c. root_is _ _ _ _ c.if-r-ge-REGISTERS.false c.root_word.ensures))
