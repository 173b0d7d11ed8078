-- A cube: the states with every bit of one number and no bit of another, as a function of levels. Assumes nothing.
use Rattle.std.specs.Prelude.{◌≡◌, Bool, true, false, cond, not, ◌&&◌, ℕ, zero, suc, ◌-◌, ◌*◌, ◌/◌, ◌^◌, ◌≤◌, eqb}
use Rattle.mucalculus.specs.Means.{bit}
use Rattle.diagram.specs.Level.{Fn}
use Rattle.layout.specs.View.{View}
use Rattle.operations.specs.Work.{Ready}

-- a bit that must be 1 where `o`, and must be 0 where `z`
abbrev pub literal : Bool → Bool → Bool → Bool
literal o z b = cond b (not z) (not o)

-- j current bits from bit p on are so: current bit p is at level 2p
abbrev pub cube_from : ℕ → ℕ → ℕ → ℕ → Fn
cube_from zero p ones noughts v = true
cube_from (suc j) p ones noughts v = literal (bit p ones) (bit p noughts) (v (2 * p)) && cube_from j (suc p) ones noughts v

-- of m levels the current bits from bit p on
abbrev pub cube_rest : ℕ → ℕ → ℕ → ℕ → Fn
cube_rest m p ones noughts = cube_from (m / 2 - p) p ones noughts

-- of m levels all: a bit of `ones` that no state has makes it empty
abbrev pub cube_f : ℕ → ℕ → ℕ → Fn
cube_f m ones noughts v = eqb (ones / 2 ^ (m / 2)) 0 && cube_from (m / 2) 0 ones noughts v

-- nothing, or the arrow
abbrev pub unless_arrow : Bool → ℕ → ℕ
unless_arrow true a = 0
unless_arrow false a = a

-- no bit is in both numbers
abbrev pub Disjoint : ℕ → ℕ → Type 0
Disjoint ones noughts = (p : ℕ) → bit p ones ≡ true → bit p noughts ≡ true → ⊥

-- what the bits from p on ask of a table
pub record CubePre (m N limit : ℕ) (W : View) (ones noughts p : ℕ) : Type 0 where
  pub ready : Ready m N limit W
  pub within : 2 * p ≤ m
  pub apart : Disjoint ones noughts
