-- THE SEARCH, apart from words: states in the order of what they cost, each with a mark, one more than its cost, and for each relation how
-- many of them are done. What such a state of affairs says of all runs. Assumes nothing.
use Rattle.std.specs.Prelude.{◌≡◌, ◌⊎◌, Bool, List, ℕ, ◌+◌, ◌-◌, ◌*◌, ◌%◌, ◌≤◌, ◌<◌, T}
use Rattle.coins.specs.Runs.{Transitions}
use Rattle.coins.specs.Cost.{CREDIT, step_cost}

-- the states at the places of the order, how many there are, and the mark of each state, 0 where it has none
pub record Marks : Type 0 where
  pub count : ℕ
  pub at : ℕ → ℕ
  pub mark : ℕ → ℕ

-- from s a step of a relation leads to a marked state, and m is that state's mark and what the step costs
pub record Backed (k : ℕ) (leads : Transitions) (prices : List ℕ) (M : Marks) (s m : ℕ) : Type 0 where
  pub relation : ℕ
  pub state : ℕ
  pub below : state < k
  pub step : T (leads relation s state)
  pub marked : 1 ≤ M.mark state
  pub exact : m ≡ M.mark state + step_cost prices relation

-- why state s has the mark m: it is in the goal, or such a step leads from it
abbrev pub Reason : ℕ → Transitions → (ℕ → Bool) → List ℕ → Marks → ℕ → ℕ → Type 0
Reason k leads B prices M s m = (T (B s) × (m ≡ 1)) ⊎ Backed k leads prices M s m

-- no step costs more
abbrev pub MOST : ℕ
MOST = 33_423_361

-- the order of the marked ones of k states, each once
pub record Listed (k : ℕ) (M : Marks) : Type 0 where
  pub few : k ≤ 65_536
  pub counted : M.count ≤ k
  pub listed : (i : ℕ) → i < M.count → (M.at i < k) × (1 ≤ M.mark (M.at i))
  pub placed : (s : ℕ) → s < k → 1 ≤ M.mark s → (i : ℕ) × (i < M.count) × (M.at i ≡ s)
  pub once : (i j : ℕ) → i < M.count → j < M.count → M.at i ≡ M.at j → i ≡ j

-- they stand by their marks, and each mark has its reason
pub record Standing (k : ℕ) (leads : Transitions) (B : ℕ → Bool) (prices : List ℕ) (M : Marks) : Type 0 where
  pub order : Listed k M
  pub ordered : (i j : ℕ) → i ≤ j → j < M.count → M.mark (M.at i) ≤ M.mark (M.at j)
  pub reason : (s : ℕ) → s < k → 1 ≤ M.mark s → Reason k leads B prices M s (M.mark s)
  -- the state at place i has at most i steps to go, and no step costs more than MOST
  pub steps : (i : ℕ) → i < M.count → (M.mark (M.at i) - 1) % CREDIT ≤ i
  pub height : (i : ℕ) → i < M.count → M.mark (M.at i) ≤ 1 + i * MOST
