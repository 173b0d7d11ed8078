-- States that get a mark and a place at the end of the order: exactly those of a set that had none. Assumes nothing.
use Rattle.std.specs.Prelude.{◌≡◌, true, List, ℕ, ◌+◌, ◌*◌, ◌/◌, ◌%◌, ◌^◌, ◌≤◌, ◌<◌, length}
use Rattle.mucalculus.specs.Means.{bit}
use Rattle.coins.specs.Marks.{Listed}
use Rattle.coins.specs.Turns.{Grown}
use Rattle.coin_search.specs.Words.{mark_of, marks_of}

-- what is asked, to give the mark m
pub record AddsPre (n : ℕ) (w : List ℕ) (m count : ℕ) : Type 0 where
  pub small : n ≤ 16
  pub room : 2 ^ n ≤ length w
  pub order : Listed (2 ^ n) (marks_of w count)
  pub some : 1 ≤ m
  pub fits : m < 70_368_744_177_664

-- the order has got those of P more that had no mark, with the mark m
pub record Adds (n : ℕ) (w v : List ℕ) (m count most : ℕ) (P : ℕ → Type 0) : Type 0 where
  pub size : length v ≡ length w
  pub order : Listed (2 ^ n) (marks_of v most)
  pub grown : Grown (marks_of w count) (marks_of v most) m
  pub only : (u : ℕ) → u < 2 ^ n → mark_of w u ≡ 0 → 1 ≤ mark_of v u → P u
  pub complete : (u : ℕ) → u < 2 ^ n → P u → 1 ≤ mark_of v u

-- one state
abbrev pub One : ℕ → ℕ → Type 0
One s u = u ≡ s

-- of the states with the lower bits s that of bit j where `left` is odd, and those that a mask has
abbrev pub AtBit : ℕ → ℕ → ℕ → ℕ → ℕ → Type 0
AtBit low s left j u = (left % 2 ≡ 1) × (u ≡ s + j * 2 ^ low)

abbrev pub InMask : ℕ → ℕ → ℕ → ℕ → Type 0
InMask low s mask u = (u % 2 ^ low ≡ s) × (bit (u / 2 ^ low) mask ≡ true)
