-- `header_word` meets its contract: the view has the word at that place. Assumes nothing.
use Rattle.layout.proofs.View.{header_is}
use borrow.Author.Rules.{rules}
use Rattle.layout.proofs.header_word.Statement.{statement}
use Rattle.layout.proofs.header_word.Tie as tie

pub header_word_spec : {M : Type 1} → statement M
header_word_spec =
    tie.close
    (tie.spec
    (λ c. search rules)
    (λ c. search rules)
    (λ c. rw (header_is _ _ c.requires.0)))
