-- The goals of a turn: states of one mark with the same lower bits, as bits of a word. Assumes nothing.
use Rattle.std.specs.Prelude.{◌≡◌, true, List, ℕ, ◌+◌, ◌*◌, ◌^◌, ◌≤◌, ◌<◌, length}
use Rattle.mucalculus.specs.Means.{bit}
use Rattle.coin_search.specs.Words.{mark_of}
use Rattle.coin_search.specs.Choice.{Placed}
use Rattle.coin_search.specs.Notes.{LowBits}

-- bit j, or none where state s has another mark
pub record GoalBit (w : List ℕ) (s m j r : ℕ) : Type 0 where
  pub from : (i : ℕ) → bit i r ≡ true → (i ≡ j) × (mark_of w s ≡ m)
  pub has : mark_of w s ≡ m → bit j r ≡ true

-- of the states with the lower bits q the first k: those with the mark m
pub record Gathered (low : ℕ) (w : List ℕ) (q m k goals : ℕ) : Type 0 where
  pub from : (i : ℕ) → bit i goals ≡ true → (i < k) × (mark_of w (q + i * 2 ^ low) ≡ m)
  pub has : (i : ℕ) → i < k → mark_of w (q + i * 2 ^ low) ≡ m → bit i goals ≡ true

-- what they ask
pub record GatherPre (n low : ℕ) (w : List ℕ) (q : ℕ) : Type 0 where
  pub bits : LowBits n low
  pub few : n ≤ 16
  pub lower : q < 2 ^ low
  pub room : 2 ^ n ≤ length w

-- what is asked of a turn's own state, which has the upper bits j, the mark m and a place in the order
pub record OwnState (n low : ℕ) (w : List ℕ) (q j m count : ℕ) : Type 0 where
  pub below : q + j * 2 ^ low < 2 ^ n
  pub mark : mark_of w (q + j * 2 ^ low) ≡ m
  pub placed : Placed w count
  pub counted : count ≤ 65_536

-- all goals have this mark, and the state is one of them
pub record Goals (n low : ℕ) (w : List ℕ) (q j m goals : ℕ) : Type 0 where
  pub from : (i : ℕ) → bit i goals ≡ true → (q + i * 2 ^ low < 2 ^ n) × (mark_of w (q + i * 2 ^ low) ≡ m)
  pub has : bit j goals ≡ true
