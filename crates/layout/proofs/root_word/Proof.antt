-- `root_word` meets its contract: the view has 0 past the header and past the words. Assumes nothing.
use mathlib.Core.Path.{sym}
use Rattle.layout.proofs.View.{header_is, header-past, header-end}
use borrow.Author.Rules.{rules}
use Rattle.layout.proofs.root_word.Statement.{statement}
use Rattle.layout.proofs.root_word.Tie as tie

pub root_word_spec : {M : Type 1} → statement M
root_word_spec =
    tie.close
    (tie.spec
    (λ c. sym (header-past _ _ c.if-h-ge-HEADER.true))
    (λ c. sym (header-end _ _ c.if-h-ge-HEADER.false c.if-h-words.true))
    (λ c. search rules)
    (λ c. search rules)
    (λ c. sym (header_is _ _ c.if-h-ge-HEADER.false)))
