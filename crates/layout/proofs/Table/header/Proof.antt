-- `Table::header` meets its contract: four stores into zeros are the definition itself. Assumes nothing.
use mathlib.Core.Path.{refl}
use Rattle.layout.specs.Header.{header_words}
use borrow.Author.Rules.{rules}
use Rattle.layout.proofs.Table.header.Statement.{statement}
use Rattle.layout.proofs.Table.header.Tie as tie

pub header_spec : {M : Type 1} → statement M
unfolding header_words
header_spec =
    tie.close
    (tie.spec
    (λ c. search rules)
    (λ c. search rules)
    (λ c. search rules)
    (λ c. search rules)
    (λ c. refl))
