-- A lent list of accounts. Assumes nothing.
use Rattle.std.specs.Prelude.{List, [], ◌∷◌, ℕ, zero, suc}
use Rattle.accounts.specs.declared.Account.{Account}
use Rattle.accounts.specs.Account.{emptied}

-- what stands for the account at a place that a list does not have
abbrev pub none : Account
none = record { rows = 0; rounds = 0; tally = 0 }

-- the first k accounts emptied
abbrev pub emptied_to : ℕ → List Account → List Account
emptied_to zero l = l
emptied_to (suc k) [] = []
emptied_to (suc k) (a ∷ l) = emptied a ∷ emptied_to k l
