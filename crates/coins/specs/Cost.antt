-- Credits and steps as one number, so that one order is by credits first and then by steps. Assumes nothing.
use Rattle.std.specs.Prelude.{List, [], ◌∷◌, ℕ, ◌+◌, ◌*◌}
use Rattle.coins.specs.Runs.{PricedStep, price_of}

-- a credit weighs as much as this many steps; no run that is written has so many
abbrev pub CREDIT : ℕ
CREDIT = 131_072

-- what a step of relation r costs
abbrev pub step_cost : List ℕ → ℕ → ℕ
step_cost prices r = price_of prices r * CREDIT + 1

-- what a run costs
abbrev pub cost : List ℕ → List PricedStep → ℕ
cost prices [] = 0
cost prices (p ∷ l) = step_cost prices p.relation + cost prices l
