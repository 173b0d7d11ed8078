-- The walk that marks every state from which an arrow leads to a goal: its two halves at each bit. Assumes nothing.
use Rattle.std.specs.Prelude.{◌≡◌, Bool, List, ℕ, ◌+◌, ◌*◌, ◌%◌, ◌^◌, ◌≤◌, ◌<◌}
use Rattle.mucalculus.specs.Means.{bit}
use Rattle.layout.specs.View.{View}
use Rattle.seek.specs.Walk.{HoldsPre, holds_at}
use Rattle.seek.specs.Apart.{level_at}
use Rattle.coin_search.specs.Adds.{AddsPre}
use Rattle.coin_search.specs.Notes.{Led, NotesHold}

-- z is the arrow that is followed from x where current bit p and next bit p are known
pub record Stepped (W : View) (x p : ℕ) (now-bit next_bit : Bool) (z : ℕ) : Type 0 where
  pub pre : HoldsPre W z
  pub same : (u t : ℕ) → bit p u ≡ now-bit → bit p t ≡ next_bit → holds_at W z u t ≡ holds_at W x u t
  pub later : 2 * p ≤ level_at W x → 2 * (p + 1) ≤ level_at W z

-- what the walk from arrow x over the states with the p lower bits s asks, to give the mark m
pub record ExpandPre (W : View) (n low : ℕ) (w N : List ℕ) (q m x p s count : ℕ) : Type 0 where
  pub adds : AddsPre n w m count
  pub notes : NotesHold W n low w N
  pub arrow : HoldsPre W x
  pub deep : 2 * p ≤ level_at W x
  pub depth : p ≤ low
  pub lower : s < 2 ^ p
  pub goal : q < 2 ^ low

-- the states with the p lower bits s from which x leads to a goal
abbrev pub Reached : View → ℕ → ℕ → ℕ → ℕ → ℕ → ℕ → ℕ → Type 0
Reached W low q goals x p s u = (u % 2 ^ p ≡ s) × Led W low q goals x u
