-- Laws of what specs/Parse.antt defines. Assumes nothing.
use Prim.Native.Nat.{ℕ}
use Rattle.formula.specs.Parse.{Got, fails, got}

-- ---- reading

-- the place after it
abbrev pub end_of : Got → ℕ
end_of fails = 0
end_of (got f e) = e
