-- THE THIRD DEMAND AND THE TALLIES over one list: each call gets words and accounts as the one before left them, under the predicates that
-- stand in the functions' `ensures`. Assumes nothing.
use Rattle.std.specs.Prelude.{◌≡◌, List, ℕ}
use Rattle.accounts.specs.declared.Account.{Account}
use Rattle.book.specs.Book.{Call}
use Rattle.book.specs.Table.{Reply}
use Rattle.book.specs.Demand.{Event, Trace}
use Rattle.book.specs.Tallies.{charged, Fed}
use Rattle.contract.specs.Posts.{CallPost, FreshAllPost}
use Rattle.contract.specs.Closed.{rests}

-- the words and the accounts that are lent
pub record Lent : Type 0 where
  pub words : List ℕ
  pub accounts : List Account

-- a call on both: one that names an account is fed from the list and charges it; no other call gets the list
abbrev pub Step : Lent → Call → Lent → Reply → Type 0
Step a c b y = Fed a.accounts c × CallPost c a.words b.words y × (b.accounts ≡ charged a.accounts c y)

-- a call that stores nothing, which charges no account
abbrev pub Rest : Lent → Lent → Type 0
Rest a b = rests a.words b.words × (b.accounts ≡ a.accounts)

-- an answered fresh, then the calls, "each call gets the list as the one before left it"
pub record SharedSession (n N : ℕ) (l : List Event) (end : Lent) : Type 0 where
  pub lent : Lent
  pub made : Lent
  pub reply : Reply
  pub start : FreshAllPost n N lent.words made.words lent.accounts made.accounts reply
  pub answered : reply.number ≡ 0
  pub rest : Trace Lent Step Rest made l end
