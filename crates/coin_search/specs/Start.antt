-- The states of the goal are the first of the order; the first state of a set in a part of it. Assumes nothing.
use Rattle.std.specs.Prelude.{◌≡◌, ◌≢◌, true, false, List, ℕ, ◌^◌, ◌≤◌, ◌<◌, length, get_or}
use Rattle.layout.specs.View.{View}
use Rattle.coins.specs.Marks.{Listed}
use Rattle.coin_search.specs.Words.{mark_of, state_at, marks_of}
use Rattle.coin_search.specs.Hall.{in_set}

-- the first k words are 0
pub record Cleared (w v : List ℕ) (k : ℕ) : Type 0 where
  pub size : length v ≡ length w
  pub zeros : (i : ℕ) → i < k → get_or v i 0 ≡ 0

-- after the states below s: those of b have the mark 1 and are in the order, and no others
pub record Started (W : View) (n : ℕ) (v : List ℕ) (b s count : ℕ) : Type 0 where
  pub small : n ≤ 16
  pub room : 2 ^ n ≤ length v
  pub order : Listed (2 ^ n) (marks_of v count)
  pub most : count ≤ s
  pub only : (u : ℕ) → u < 2 ^ n → 1 ≤ mark_of v u → (u < s) × (in_set W b u ≡ true) × (mark_of v u ≡ 1)
  pub complete : (u : ℕ) → u < s → in_set W b u ≡ true → mark_of v u ≡ 1

-- what `start` asks
pub record Bare (n : ℕ) (w : List ℕ) : Type 0 where
  pub small : n ≤ 16
  pub room : 2 ^ n ≤ length w
  pub zeros : (i : ℕ) → i < 2 ^ n → get_or w i 0 ≡ 0

-- ---- the first state of a set in a part of the order

pub record FirstIn (W : View) (a : ℕ) (w : List ℕ) (from to r : ℕ) : Type 0 where
  pub found : r ≢ 65_536 → (i : ℕ) × (from ≤ i) × (i < to) × (state_at w i ≡ r) × (in_set W a r ≡ true)
  pub none : r ≡ 65_536 → (i : ℕ) → from ≤ i → i < to → in_set W a (state_at w i) ≡ false
