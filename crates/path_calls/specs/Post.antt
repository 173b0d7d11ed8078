-- What the call promises over lent words and a lent list, refusals too. Assumes nothing.
use Rattle.std.specs.Prelude.{◌≡◌, List, ℕ}
use Rattle.diagram.specs.Keep.{Keeps}
use Rattle.book.specs.Book.{collect}
use Rattle.book.specs.Table.{Reply, Refusal, roots_of}
use Rattle.book.specs.BookOf.{book_of}
use Rattle.contract.specs.Seen.{seen, SoundWords}
use Rattle.contract.specs.Kept.{Kept}
use Rattle.paths.specs.Call.{shortest}

-- on a sound table: what is returned and what is written are those of the book that the words stand for, and the words are sound again,
-- with "registers, relations, rows they need" as they were, row by row
pub record Told (a b t : ℕ) (old new lent left : List ℕ) (y : Reply) : Type 0 where
  pub reply : y ≡ (shortest (book_of (seen old)) a b t lent).reply
  pub list : left ≡ (shortest (book_of (seen old)) a b t lent).list
  pub sound : SoundWords new
  pub rows : Keeps (seen old).rows (seen new).rows (roots_of (seen old))

-- from registers a into b over relation t, with the words `old` and the list `lent` before the call, and `new` and `left` after it
pub record PathPost (a b t : ℕ) (old new lent left : List ℕ) (y : Reply) : Type 0 where
  -- "table unsound"
  pub unsound : (SoundWords old → ⊥) → Refusal 2 y × (new ≡ old) × (left ≡ lent)
  pub told : SoundWords old → Told a b t old new lent left y
  -- the words stand for the same book
  pub book : book_of (seen new) ≡ book_of (seen old)
  -- 2, 3 and 7 keep all words; else no word changes but those of unneeded rows, of the index and of remembered results: as for collect,
  -- which has no target
  pub kept : Kept collect y old new
