-- "The book is fed the list's length and the named account's limits too." Assumes nothing.
use Rattle.std.specs.Prelude.{Bool, ◌&&◌, List, ℕ, min, leb, length, get_or}
use Rattle.accounts.specs.declared.Account.{Account}
use Rattle.accounts.specs.declared.Terms.{Terms}
use Rattle.accounts.specs.Account.{list_fits, lifted}
use Rattle.accounts.specs.Listed.{none}

-- what a set call is fed of the accounts, of a lent list: how many are lent, which is named, and its limits
abbrev pub terms_with : ℕ → ℕ → Account → Terms
terms_with count place a = record { count = count; place = place; rows = a.rows; rounds = a.rounds }

-- the same of a lent list and a place
abbrev pub terms_of : List Account → ℕ → Terms
terms_of l place = terms_with (length l) place (get_or l place none)

-- the list is 1 to 8 long; in fresh 14 where this fails
abbrev pub lent : ℕ → Bool
lent count = leb 1 count && leb count 8

-- the list is 1 to 8 long and has an account at that place; 14 where this fails
abbrev pub named : Terms → Bool
named acc = list_fits acc.count acc.place

-- "the smaller of N and the account's row limit"
abbrev pub rows_under : ℕ → Terms → ℕ
rows_under N acc = min N acc.rows

-- "the smaller of R and its round limit"
abbrev pub rounds_under : ℕ → Terms → ℕ
rounds_under R acc = min R acc.rounds

-- "`roomrules` lends one account with the largest limits"
abbrev pub alone : Terms
alone = record { count = 1; place = 0; rows = lifted.rows; rounds = lifted.rounds }
