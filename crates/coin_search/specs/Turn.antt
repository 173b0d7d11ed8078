-- One turn over the words: what the walk from a relation's arrow leaves. Assumes nothing.
use Rattle.std.specs.Prelude.{◌≡◌, List, ℕ, ◌^◌, ◌<◌, T, length}
use Rattle.layout.specs.View.{View}
use Rattle.coins.specs.Marks.{Listed}
use Rattle.coins.specs.Turns.{Expanded}
use Rattle.coin_search.specs.Words.{state_at, marks_of}
use Rattle.coin_search.specs.Hall.{filled_at, leads_at, Hall}
use Rattle.coin_search.specs.Choice.{key_of}

-- what a turn of relation r asks: the state at place `done` of the order is its next one
pub record TurnPre (W : View) (n : ℕ) (prices w : List ℕ) (r done count : ℕ) : Type 0 where
  pub hall : Hall W n prices w
  pub order : Listed (2 ^ n) (marks_of w count)
  pub filled : T (filled_at W.header r)
  pub next : done < count
  pub fits : key_of prices w r done < 70_368_744_177_664

-- what it leaves
pub record TurnPost (W : View) (n : ℕ) (prices w v : List ℕ) (r done count most : ℕ) : Type 0 where
  pub size : length v ≡ length w
  pub expanded : Expanded (2 ^ n) (leads_at W) (marks_of w count) (marks_of v most) r (state_at w done) (key_of prices w r done)
