-- The relations of a table as the search sees them, and what it asks of words and lists. Assumes nothing.
use Rattle.std.specs.Prelude.{◌≡◌, Bool, not, ◌&&◌, List, ℕ, ◌+◌, ◌-◌, ◌^◌, ◌≤◌, T, eqb, ltb, length}
use Rattle.layout.specs.Places.{FIRST_RELATION}
use Rattle.layout.specs.View.{View}
use Rattle.book.specs.Book.{relations}
use Rattle.seek.specs.Walk.{HoldsPre, holds_at}
use Rattle.coins.specs.Runs.{Transitions}

-- the word of relation r: 0 where it is empty, else its arrow + 1
abbrev pub root_at : (ℕ → ℕ) → ℕ → ℕ
root_at header r = header (FIRST_RELATION + r)

abbrev pub filled_at : (ℕ → ℕ) → ℕ → Bool
filled_at header r = ltb r relations && not (eqb (root_at header r) 0)

-- the steps of filled relations
abbrev pub leads_at : View → Transitions
leads_at W r s t = filled_at W.header r && holds_at W (root_at W.header r - 1) s t

-- a set's states
abbrev pub in_set : View → ℕ → ℕ → Bool
in_set W a s = holds_at W a s 0

-- what is asked: n of at most 16 bits, eight prices, a work word for each state, and arrows of the table
pub record Hall (W : View) (n : ℕ) (prices w : List ℕ) : Type 0 where
  pub small : n ≤ 16
  pub priced : length prices ≡ 8
  pub room : 2 ^ n ≤ length w
  pub arrows : (r : ℕ) → T (filled_at W.header r) → HoldsPre W (root_at W.header r - 1)
