-- The entries of both logs for a moment as one entry, which a state fits exactly where it fits both. Assumes nothing.
use Rattle.std.specs.Prelude.{◌≡◌, false, List, ℕ, suc, ◌*◌, ◌<◌, length}
use Rattle.std.specs.Int.Bits.{bit_xor}
use Rattle.diagram.specs.Level.{Fn}
use Rattle.cubes.specs.Cube.{cube_f}
use Rattle.logs.specs.Runs.{Moment, fits, fits_both}

-- no state fits it
pub record Fitless (mask value : ℕ) : Type 0 where
  pub none : (s : ℕ) → fits mask value s ≡ false

-- two entries for one moment
abbrev pub entries : ℕ → ℕ → ℕ → ℕ → Moment
entries mask value mask2 value2 = record { mask = mask; value = value; mask2 = mask2; value2 = value2 }

-- one entry that says what both entries of a moment say
pub record Joins (m : Moment) (mask value : ℕ) : Type 0 where
  pub same : (s : ℕ) → fits mask value s ≡ fits_both m s

-- the states that fit it, as a function of m levels: those with the bits of the value, and no other bit under the mask. A bit of the value
-- outside the mask must be both 1 and 0, and there is no such state
abbrev pub entry_f : ℕ → ℕ → ℕ → Fn
entry_f m mask value = cube_f m value (bit_xor mask value)

-- both logs have entry i
pub record Has (one two : List ℕ) (i : ℕ) : Type 0 where
  pub first : suc (2 * i) < length one
  pub second : suc (2 * i) < length two
