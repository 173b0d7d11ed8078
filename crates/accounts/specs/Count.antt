-- What a call counts as its steps go: "rounds", and the "peak: the largest row need, over its steps, of live sets and result together".
-- Assumes nothing.
use Rattle.std.specs.Prelude.{suc, max, ℕ}
use Rattle.accounts.specs.declared.Count.{Count}

-- nothing yet: the peak is "0 if it took no step"
abbrev pub nothing : Count
nothing = record { rounds = 0; peak = 0 }

-- after a step with need k
abbrev pub needing : Count → ℕ → Count
needing c k = record { rounds = c.rounds; peak = max c.peak k }

-- after a round's start
abbrev pub another : Count → Count
another c = record { rounds = suc c.rounds; peak = c.peak }
