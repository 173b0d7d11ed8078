-- What the second call promises over lent words, refusals too. Assumes nothing.
use Rattle.std.specs.Prelude.{◌≡◌, List, ℕ}
use Rattle.accounts.specs.declared.Terms.{Terms}
use Rattle.diagram.specs.Keep.{Keeps}
use Rattle.book.specs.Book.{collect}
use Rattle.book.specs.Table.{Reply, Refusal, roots_of}
use Rattle.book.specs.BookOf.{book_of}
use Rattle.contract.specs.Seen.{seen, SoundWords}
use Rattle.contract.specs.Kept.{Kept}
use Rattle.games.specs.Call.{reacts}

-- on a sound table: what is returned is what the book that the words stand for answers, and the words are sound again, with "registers,
-- relations, rows they need" as they were, row by row
pub record ReactTold (acc : Terms) (R goal guest machine s t : ℕ) (old new : List ℕ) (y : Reply) : Type 0 where
  pub reply : y ≡ reacts (book_of (seen old)) goal guest machine acc R s t
  pub sound : SoundWords new
  pub rows : Keeps (seen old).rows (seen new).rows (roots_of (seen old))

-- the state s and the press t in the game of goal, guest and machine, under an account and R, with the words `old` before the call and
-- `new` after it
pub record ReactPost (acc : Terms) (R goal guest machine s t : ℕ) (old new : List ℕ) (y : Reply) : Type 0 where
  -- "table unsound"
  pub unsound : (SoundWords old → ⊥) → Refusal 2 y × (new ≡ old)
  pub told : SoundWords old → ReactTold acc R goal guest machine s t old new y
  -- the words stand for the same book: "stores … nothing"
  pub book : book_of (seen new) ≡ book_of (seen old)
  -- 2, 3, 7 and 14 keep all words; else no word changes but those of unneeded rows, of the index and of remembered results: as for collect,
  -- which has no target
  pub kept : Kept collect y old new
