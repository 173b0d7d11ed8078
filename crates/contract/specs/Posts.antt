-- The one shape of every contract over lent words: fresh, a call, a question. Assumes nothing.
use Rattle.std.specs.Prelude.{◌≡◌, List, ℕ, length}
use Rattle.accounts.specs.declared.Account.{Account}
use Rattle.accounts.specs.Terms.{terms_of}
use Rattle.book.specs.Book.{Call, set, Question}
use Rattle.book.specs.Table.{Reply}
use Rattle.book.specs.Tallies.{charged, freshened}
use Rattle.book.specs.Contract.{Starts, Performs, Answers}
use Rattle.contract.specs.Seen.{seen, SoundWords}
use Rattle.contract.specs.Kept.{Kept}

-- fresh n, N, where `count` accounts are lent
abbrev pub FreshPost : ℕ → ℕ → ℕ → List ℕ → List ℕ → Reply → Type 0
FreshPost n N count old new y = Starts SoundWords seen n N (length old) count old new y

-- a call: not sound gives 2 and keeps all words; sound gives the book's step from the book that the words stand for, sound words, and what
-- is kept
pub record CallPost (c : Call) (old new : List ℕ) (y : Reply) : Type 0 where
  pub performs : Performs SoundWords seen c old new y
  pub kept : SoundWords old → Kept c y old new

-- ---- with the accounts that are lent

-- fresh: "Fresh sets the tallies to 0"; "no refusal changes an account"
pub record FreshAllPost (n N : ℕ) (old new : List ℕ) (before after : List Account) (y : Reply) : Type 0 where
  pub table : FreshPost n N (length before) old new y
  pub list : after ≡ freshened before y

-- set under the account at a place: fed from the list, and "adds its rounds to its own account's tally, and changes nothing else in the
-- list"
pub record SetAllPost (place r R : ℕ) (bs old new : List ℕ) (before after : List Account) (y : Reply) : Type 0 where
  pub table : CallPost (set (terms_of before place) r R bs) old new y
  pub list : after ≡ charged before (set (terms_of before place) r R bs) y

-- a question, which has the words on loan to read
abbrev pub AskPost : Question → List ℕ → Reply → Type 0
AskPost q ws y = Answers SoundWords seen q ws ws y
