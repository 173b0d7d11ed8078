-- "registers within V, and relations within V and SHIFT of V": what lies within the set of states that exist. Assumes nothing.
use Rattle.std.specs.Prelude.{◌≡◌, Bool, true, ℕ, suc, ◌-◌, ◌*◌, ◌≤◌, ◌<◌}
use Rattle.diagram.specs.Level.{Val}
use Rattle.diagram.specs.Rows.{den}
use Rattle.diagram.specs.Steps.{shift_f}
use Rattle.layout.specs.Places.{BITS, VALID, FIRST_REGISTER, FIRST_RELATION, ROOTS_END}
use Rattle.layout.specs.View.{View}
use Rattle.rows.specs.Used.{rows_of}

-- what an arrow of a table denotes
abbrev pub den_of : View → ℕ → Val → Bool
den_of W a = den (2 * W.header BITS) (rows_of W) a

-- the arrow of V, "the set V of states that exist"
abbrev pub valid_of : View → ℕ
valid_of W = W.header VALID - 1

-- for V that arrow v denotes: a filled register or relation has no valuation that V has not, a filled relation none that SHIFT of V has not
pub record Within (W : View) (v : ℕ) : Type 0 where
  pub roots : (h : ℕ) → FIRST_REGISTER ≤ h → h < ROOTS_END → (a : ℕ) → W.header h ≡ suc a → (x : Val) → den_of W a x ≡ true
      → den_of W v x ≡ true
  pub shifted : (h : ℕ) → FIRST_RELATION ≤ h → h < ROOTS_END → (a : ℕ) → W.header h ≡ suc a → (x : Val) → den_of W a x ≡ true
      → shift_f (den_of W v) x ≡ true
