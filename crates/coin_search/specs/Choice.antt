-- The relation that gives the least mark next. Assumes nothing.
use Rattle.std.specs.Prelude.{◌≡◌, ◌≢◌, List, ℕ, ◌+◌, ◌≤◌, ◌<◌, T, length, get_or}
use Rattle.coins.specs.Cost.{step_cost}
use Rattle.coin_search.specs.Words.{mark_of, state_at}
use Rattle.coin_search.specs.Hall.{filled_at}

-- the order and its states are within the work words
pub record Placed (w : List ℕ) (count : ℕ) : Type 0 where
  pub places : count ≤ length w
  pub states : (i : ℕ) → i < count → state_at w i < length w

-- the mark that relation r gives next
abbrev pub key_of : List ℕ → List ℕ → ℕ → ℕ → ℕ
key_of prices w r done = mark_of w (state_at w done) + step_cost prices r

-- x is that mark, and 0 where the relation is empty or has no more
pub record NextMark (H : ℕ → ℕ) (prices w : List ℕ) (r done count x : ℕ) : Type 0 where
  pub none : x ≡ 0 → T (filled_at H r) → count ≤ done
  pub some : x ≢ 0 → T (filled_at H r) × (done < count) × (x ≡ key_of prices w r done)

-- of the relations below r, `best` gives the least mark; it is 8 where none gives one
pub record Best (H : ℕ → ℕ) (prices w done : List ℕ) (count r best : ℕ) : Type 0 where
  pub none : best ≡ 8 → (q : ℕ) → q < r → T (filled_at H q) → count ≤ get_or done q 0
  pub some : best ≢ 8 → (best < 8) × T (filled_at H best) × (get_or done best 0 < count)
      × ((q : ℕ) → q < r → T (filled_at H q) → get_or done q 0 < count
      → key_of prices w best (get_or done best 0) ≤ key_of prices w q (get_or done q 0))
