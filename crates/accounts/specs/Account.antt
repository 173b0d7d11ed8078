-- "each with a row limit, a round limit and a tally": the arithmetic on one account. Assumes nothing.
use Rattle.std.specs.Prelude.{Bool, ◌&&◌, ℕ, ◌+◌, min, leb, ltb}
use Rattle.accounts.specs.declared.Account.{Account}

-- "up to the old ceiling"
abbrev pub tally_top : ℕ
tally_top = 4_294_967_295

-- a tally after q rounds more
abbrev pub tallied : ℕ → ℕ → ℕ
tallied k q = min (k + q) tally_top

-- "an answered set adds its rounds to its own account's tally": its limits stay
abbrev pub counted : Account → ℕ → Account
counted a q = record { rows = a.rows; rounds = a.rounds; tally = tallied a.tally q }

-- "Fresh sets the tallies to 0"
abbrev pub emptied : Account → Account
emptied a = record { rows = a.rows; rounds = a.rounds; tally = 0 }

-- "one account with the largest limits"
abbrev pub lifted : Account
lifted = record { rows = 4_294_967_295; rounds = 4_294_967_295; tally = 0 }

-- the list is 1 to 8 long and has an account at that place; 14 where this fails
abbrev pub list_fits : ℕ → ℕ → Bool
list_fits count place = leb count 8 && ltb place count
