-- What the search has found is a cheapest run: its mark is one more than the run costs, and no run costs less. Assumes nothing.
use Rattle.std.specs.Prelude.{Bool, List, ℕ, ◌+◌, ◌-◌, ◌/◌, ◌≤◌, T}
use Rattle.coins.specs.Runs.{Transitions, PricedStep, total, is_mixed_run}
use Rattle.coins.specs.Cost.{CREDIT, cost}

-- no run from A into B costs less than m says
pub record NoLess (k : ℕ) (leads : Transitions) (A B : ℕ → Bool) (prices : List ℕ) (m : ℕ) : Type 0 where
  pub by-cost : (s : ℕ) (l : List PricedStep) → T (is_mixed_run k leads A B s l) → m ≤ cost prices l + 1
  pub by_total : (s : ℕ) (l : List PricedStep) → T (is_mixed_run k leads A B s l) → (m - 1) / CREDIT ≤ total prices l
