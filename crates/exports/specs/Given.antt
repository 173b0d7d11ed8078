-- What an entry point gives its caller, as the reply that the contracts speak of. Assumes nothing.
use Rattle.std.specs.Prelude.{◌≡◌, List, length, ℕ, zero, suc, Ok}
use Rattle.accounts.specs.declared.Account.{Account}
use Rattle.book.specs.Table.{Reply}
use Rattle.book.specs.Tallies.{freshened}
use Rattle.contract.specs.Posts.{FreshPost}
use Rattle.calls.specs.Fresh.{FreshWords}
use Rattle.coins.specs.Post.{FareReply}

-- the returned number, and the rounds, the peak and the value that are written
abbrev pub given : ℕ → ℕ → ℕ → ℕ → Reply
given k q p v = record { number = k; rounds = q; peak = p; value = v }

-- the same of the call for a cheapest run: the total, the charge and the number of states are written
abbrev pub fare_given : ℕ → ℕ → ℕ → ℕ → FareReply
fare_given k t c s = record { number = k; total = t; charge = c; states = s }

-- the words that fresh leaves, by its number
abbrev pub FreshLeft : ℕ → ℕ → List ℕ → List ℕ → ℕ → Type 0
FreshLeft n N old new zero = FreshWords n N old new (Ok tt)
FreshLeft n N old new (suc k) = new ≡ old

-- fresh by its number: the table, the words that it leaves, and the tallies
pub record FreshGiven (n N : ℕ) (old new : List ℕ) (before after : List Account) (k : ℕ) : Type 0 where
  pub post : FreshPost n N (length before) old new (given k 0 0 0)
  pub left : FreshLeft n N old new k
  pub list : after ≡ freshened before (given k 0 0 0)
