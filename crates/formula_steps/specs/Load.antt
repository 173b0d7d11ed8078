-- What relation and valid ask after their checks. Assumes nothing.
use Rattle.std.specs.Prelude.{◌≡◌, List, ℕ, ◌<◌, T}
use Rattle.layout.specs.Places.{RELATIONS}
use Rattle.tokens.specs.declared.Kind.TheVariants.{Relation, Valid}
use Rattle.book.specs.Book.{unfilled, checks}
use Rattle.book.specs.BookOf.{book_of}
use Rattle.contract.specs.Seen.{seen, SoundWords}

-- what a relation call asks after its checks
pub record RelationReady (t : ℕ) (old bs : List ℕ) : Type 0 where
  pub sound : SoundWords old
  pub range : t < RELATIONS
  pub passed : checks (book_of (seen old)) Relation bs ≡ 0

-- what valid asks after its checks
pub record ValidReady (old bs : List ℕ) : Type 0 where
  pub sound : SoundWords old
  pub free : T (unfilled (book_of (seen old)))
  pub passed : checks (book_of (seen old)) Valid bs ≡ 0
