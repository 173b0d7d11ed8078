-- What the entry points leave of a lent list: from what the code adds and empties to the calls' contracts. Assumes nothing.
use Rattle.std.specs.Prelude.{◌≡◌, List, ℕ, length, Result, Ok, Err}
use Rattle.layout.specs.declared.Refusal.{Refusal}
use Rattle.accounts.specs.declared.Account.{Account}
use Rattle.book.specs.Tallies.{freshened}
use Rattle.contract.specs.Posts.{FreshPost}
use Rattle.formula_steps.specs.declared.Stored.{Stored}
use Rattle.calls.specs.Fresh.{FreshWords}
use Rattle.calls.specs.Replies.{started_reply}

-- ---- set

-- the rounds of an answered set, 0 of a refused one
abbrev pub rounds_of : Result Stored Refusal → ℕ
rounds_of (Ok s) = s.rounds
rounds_of (Err e) = 0

-- ---- fresh

-- what `calls::fresh` says of the words
pub record FreshBoth (n N count : ℕ) (old new : List ℕ) (x : Result (Unit {0}) Refusal) : Type 0 where
  pub post : FreshPost n N count old new (started_reply x)
  pub words : FreshWords n N old new x

abbrev pub made_count : Result (Unit {0}) Refusal → ℕ → ℕ
made_count (Ok _) k = k
made_count (Err _) k = 0

-- fresh with the accounts lent: the table, and "Fresh sets the tallies to 0"
pub record FreshListPost (n N : ℕ) (old new : List ℕ) (before after : List Account) (x : Result (Unit {0}) Refusal) : Type 0 where
  pub table : FreshBoth n N (length before) old new x
  pub list : after ≡ freshened before (started_reply x)
