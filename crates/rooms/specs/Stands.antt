-- The book that the lent words stand for, and the line of an outcome. Assumes nothing.
use Rattle.std.specs.Prelude.{◌≡◌, List, ℕ, length}
use Rattle.std.proofs.Math.Option.{Option, none, some}
use Rattle.book.specs.Book.{Book}
use Rattle.book.specs.Program.{Line, fields, words_lent}
use Rattle.book.specs.BookOf.{book_of}
use Rattle.contract.specs.Seen.{seen, SoundWords}
use Rattle.commands.specs.declared.Outcome.{Outcome}

-- "It lends 16,384 words": unsound ones stand for no book, sound ones for the book of their table
abbrev pub Stands : Option Book → List ℕ → Type 0
Stands none ws = (length ws ≡ words_lent) × (SoundWords ws → ⊥)
Stands (some b) ws = (length ws ≡ words_lent) × SoundWords ws × (b ≡ book_of (seen ws))

-- the line of an outcome
abbrev pub outcome_line : Outcome → Line
outcome_line x = fields x.operation x.number x.value x.rounds
