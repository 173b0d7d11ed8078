-- The arrow from which a binder's rounds start. Assumes nothing.
use Rattle.std.specs.Prelude.{Bool, true, false, ℕ}

-- the arrow of the first set: 0 for mu, V's arrow w for nu
abbrev pub start_arrow : Bool → ℕ → ℕ
start_arrow true w = 0
start_arrow false w = w
