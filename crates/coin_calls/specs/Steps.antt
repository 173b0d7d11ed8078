-- A step from a state with a mark to one whose mark is less by exactly what the step costs. Assumes nothing.
use Rattle.std.specs.Prelude.{◌≡◌, ◌≢◌, Bool, true, false, List, ℕ, ◌+◌, ◌^◌, ◌≤◌, ◌<◌, T}
use Rattle.layout.specs.View.{View}
use Rattle.coins.specs.Cost.{step_cost}
use Rattle.coin_search.specs.Words.{mark_of, state_at}
use Rattle.coin_search.specs.Hall.{leads_at}

-- relation r leads from s to the marked state t, and s has the mark of t and what the step costs
pub record ExactStep (W : View) (n : ℕ) (prices w : List ℕ) (s r t : ℕ) : Type 0 where
  pub below : t < 2 ^ n
  pub leads : T (leads_at W r s t)
  pub marked : 1 ≤ mark_of w t
  pub exact : mark_of w s ≡ mark_of w t + step_cost prices r

-- whether it does
pub record IsExact (W : View) (n : ℕ) (prices w : List ℕ) (s t r : ℕ) (b : Bool) : Type 0 where
  pub yes : b ≡ true → ExactStep W n prices w s r t
  pub no : b ≡ false → ExactStep W n prices w s r t → ⊥

-- r is such a relation; 8 where there is none
pub record RelationTo (W : View) (n : ℕ) (prices w : List ℕ) (s t r : ℕ) : Type 0 where
  pub found : r ≢ 8 → ExactStep W n prices w s r t
  pub none : r ≡ 8 → (q : ℕ) → ExactStep W n prices w s q t → ⊥

-- a state to which such a step leads from s stands before place i of the order
pub record Ahead (W : View) (n : ℕ) (prices w : List ℕ) (s i : ℕ) : Type 0 where
  pub place : ℕ
  pub relation : ℕ
  pub before : place < i
  pub step : ExactStep W n prices w s relation (state_at w place)

-- relation r is such a step to t, which stands at place j, before place i
pub record StepBelow (W : View) (n : ℕ) (prices w : List ℕ) (s i r t j : ℕ) : Type 0 where
  pub step : ExactStep W n prices w s r t
  pub before : j < i
  pub stands : state_at w j ≡ t
