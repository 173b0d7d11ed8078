-- Laws of what specs/Sound.antt defines. Assumes nothing.
use Prim.Native.Nat.{ℕ, ◌≤◌}
use Rattle.layout.specs.Places.{USED}
use Rattle.layout.specs.View.{View}
use Rattle.rows.specs.Used.{Sizes}
use Rattle.rows.specs.Lookup.{Room}

-- there is room in a table of the right sizes
pub room_of : (W : View) {n : ℕ} → Sizes n W.rows W.size → W.header USED ≤ W.rows → Room W
room_of W z c = record { words = z.room; count-le = c; max = z.N-max }
