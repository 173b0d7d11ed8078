-- The checks of formula bytes alone: 2, then "4 to 7 each over the whole formula", with 12 "directly after 5". Assumes nothing.
use Rattle.std.specs.Prelude.{◌≡◌, List, ℕ, zero, suc}
use Rattle.tokens.specs.declared.Kind.{Kind}
use Rattle.tokens.specs.declared.Kind.TheVariants.{Relation, Set}
use Rattle.book.specs.Book.{checks}
use Rattle.book.specs.BookOf.{book_of}
use Rattle.contract.specs.Seen.{seen, SoundWords}

-- the call that formula bytes are for: 0 a set call, else a relation call
abbrev pub kind_of : ℕ → Kind
kind_of zero = Set
kind_of (suc t) = Relation

-- 2 on words that are no sound table, else the number of the book's checks, 0 where they pass
pub record CheckPost (k : Kind) (ws bs : List ℕ) (x : ℕ) : Type 0 where
  pub unsound : (SoundWords ws → ⊥) → x ≡ 2
  pub checked : SoundWords ws → x ≡ checks (book_of (seen ws)) k bs
