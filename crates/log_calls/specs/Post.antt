-- What the call promises over lent words, lent logs and a lent list, refusals too. Assumes nothing.
use Rattle.std.specs.Prelude.{◌≡◌, List, ℕ, T, length}
use Rattle.diagram.specs.Keep.{Keeps}
use Rattle.book.specs.Book.{collect}
use Rattle.book.specs.Table.{Reply, Refusal, roots_of}
use Rattle.book.specs.BookOf.{book_of}
use Rattle.contract.specs.Seen.{seen, SoundWords}
use Rattle.contract.specs.Kept.{Kept}
use Rattle.logs.specs.Call.{logs_fit, logged}

-- on a sound table: what is returned and what is written are those of the book that the words stand for, 1 too, and the words are sound
-- again, with "registers, relations, rows they need" as they were, row by row
pub record LogTold (t : ℕ) (one two old new lent left : List ℕ) (y : Reply) : Type 0 where
  pub reply : y ≡ (logged (book_of (seen old)) t one two lent).reply
  pub list : left ≡ (logged (book_of (seen old)) t one two lent).list
  pub sound : SoundWords new
  pub rows : Keeps (seen old).rows (seen new).rows (roots_of (seen old))

-- over relation t and two logs, with the words `old` and the list `lent` before the call, and `new` and `left` after it
pub record LogPost (t : ℕ) (one two old new lent left : List ℕ) (y : Reply) : Type 0 where
  -- "A log length out of range or unequal gives 1", before the words are looked at
  pub sizes : (T (logs_fit (length one) (length two)) → ⊥) → Refusal 1 y × (new ≡ old) × (left ≡ lent)
  -- "table unsound"
  pub unsound : T (logs_fit (length one) (length two)) → (SoundWords old → ⊥) → Refusal 2 y × (new ≡ old) × (left ≡ lent)
  pub told : SoundWords old → LogTold t one two old new lent left y
  -- the words stand for the same book
  pub book : book_of (seen new) ≡ book_of (seen old)
  -- 1, 2, 3 and 7 keep all words; else no word changes but those of unneeded rows, of the index and of remembered results: as for collect,
  -- which has no target
  pub kept : Kept collect y old new
