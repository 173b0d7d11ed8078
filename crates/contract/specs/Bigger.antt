-- "Bigger tables, same verdicts" over the lent words and accounts: a list of calls, each getting table and accounts as the one before left
-- them, and the same list with every limit raised or equal. Assumes nothing.
use Rattle.std.specs.Prelude.{◌≡◌, List, ℕ, ◌+◌, ◌*◌, ◌≤◌, ◌<◌, length, get_or}
use Rattle.accounts.specs.Listed.{none}
use Rattle.book.specs.Book.{Call}
use Rattle.book.specs.Table.{Reply}
use Rattle.book.specs.Demand.{Event, Trace, Pairwise}
use Rattle.book.specs.Raised.{SameCall, SameVerdicts, Looser}
use Rattle.contract.specs.Seen.{seen}
use Rattle.contract.specs.Posts.{FreshAllPost}
use Rattle.contract.specs.Closed.{asks}
use Rattle.contract.specs.Shared.{Lent, Step, Rest}

-- "the same list", a set's rounds raised or equal, and its account at the same place of the list that it gets
abbrev pub AllAgain : List Call → List Call → Type 0
AllAgain cs ds = Pairwise (SameCall (λ acc acc'. acc'.place ≡ acc.place)) cs ds

-- the list again on other words and accounts: fresh, whether it is answered or not, and the calls
pub record SharedUpgrade (n M : ℕ) (l : List Event) (end : Lent) : Type 0 where
  pub lent : Lent
  -- "the lent words enough for it"
  pub enough : 256 + 12 * M ≤ length lent.words
  pub made : Lent
  pub reply : Reply
  pub start : FreshAllPost n M lent.words made.words lent.accounts made.accounts reply
  pub rest : Trace Lent Step Rest made l end

-- the claim: of the words, and of the accounts, k in number: the same tallies, and limits raised or equal, so that a later fresh begins a
-- list of which the claim holds again
pub record SharedVerdicts (n N M k : ℕ) (reply : Reply) (l l' : List Event) (end end' : Lent) : Type 0 where
  pub table : SameVerdicts seen asks n N M reply l l' end.words end'.words
  pub tallies : (p : ℕ) → p < k → (get_or end'.accounts p none).tally ≡ (get_or end.accounts p none).tally
  pub looser : Looser end.accounts end'.accounts
