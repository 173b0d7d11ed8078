-- Laws of what specs/Left.antt defines. Assumes nothing.
use Prim.Native.Nat.{ℕ, ◌+◌, ◌*◌, ◌≤◌}
use native.Mathlib.Omega.{arith}
use lib.ListN.{replicate, length-replicate}
use Rattle.rows.proofs.Bits.{no-marks}
use Rattle.stages.specs.Left.{SeenBlank}

pub seen-blank : {N : ℕ} (k : ℕ) → 2 * N + 2 ≤ 32 * k → SeenBlank N (replicate k 0)
seen-blank k l = record { enough = let e = length-replicate {A = ℕ} k 0 in omega (arith, e, l); blank = no-marks k }
