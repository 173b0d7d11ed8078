-- Laws of what specs/Walks.antt defines. Assumes nothing.
use mathlib.Core.Path.{◌≡◌}
use Prim.Native.Nat.{ℕ}
use native.Mathlib.Omega.{arith}
use Rattle.soundness.specs.declared.Walk.{Walk}
use Rattle.soundness.specs.declared.Walk.TheVariants.{Met, Missed}
use Rattle.soundness.specs.Walks.{WalkSays, met, missed, long}

pub walk-met : {P : Type 0} {r : Walk} → r ≡ Met → WalkSays P r → P
walk-met e (met p) = p
walk-met e (missed n) = let z : ◌≡◌ {A = ℕ} 0 1 = cc in absurd (omega arith)
walk-met e long = let z : ◌≡◌ {A = ℕ} 0 1 = cc in absurd (omega arith)

pub walk-missed : {P : Type 0} {r : Walk} → r ≡ Missed → WalkSays P r → P → ⊥
walk-missed e (met p) = let z : ◌≡◌ {A = ℕ} 0 1 = cc in absurd (omega arith)
walk-missed e (missed n) = n
walk-missed e long = let z : ◌≡◌ {A = ℕ} 0 1 = cc in absurd (omega arith)
