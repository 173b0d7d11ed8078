-- The game's calls with a lent list of accounts: the first is a set call of the game's bytes, the second reads the list. Assumes nothing.
use Rattle.std.specs.Prelude.{List, ℕ}
use Rattle.accounts.specs.declared.Account.{Account}
use Rattle.accounts.specs.Terms.{terms_of}
use Rattle.book.specs.Table.{Reply}
use Rattle.contract.specs.Posts.{SetAllPost}
use Rattle.games.specs.Call.{game_target, game_bytes}
use Rattle.game_calls.specs.Post.{ReactPost}

-- "store, as a set call with its account and R does": what a set call leaves of words and list; over the game: `force_done`, by `force_does`
abbrev pub ForceAllPost : (place r R goal guest machine : ℕ) (old new : List ℕ) (before after : List Account) (y : Reply) → Type 0
ForceAllPost place r R goal guest machine old new before after y =
    SetAllPost place (game_target r goal guest machine) R (game_bytes goal guest machine) old new before after y

-- "A second call, with account and R too, … stores and tallies nothing": the list is lent to be read
abbrev pub ReactAllPost : (place R goal guest machine s t : ℕ) (old new : List ℕ) (list : List Account) (y : Reply) → Type 0
ReactAllPost place R goal guest machine s t old new list y = ReactPost (terms_of list place) R goal guest machine s t old new y
