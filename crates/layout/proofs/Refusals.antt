-- Laws of what specs/Refusals.antt defines. Assumes nothing.
use Prim.Native.Nat.{◌≤◌}
use native.Mathlib.Omega.{arith}
use Rattle.layout.specs.declared.Refusal.{Refusal}
use Rattle.layout.specs.declared.Refusal.TheVariants.{Sizes, Unsound, Occupied, Range, Syntax, Unbound, Vacuous, Odd, Empty, Full}
use Rattle.layout.specs.declared.Refusal.TheVariants.{Spent, NoRun, Short, Unlisted, NoAnswer}
use Rattle.layout.specs.Refusals.{refusal_number}

-- no refusal has the number of an answer
pub refusal-some : (x : Refusal) → 1 ≤ refusal_number x
refusal-some Sizes = omega arith
refusal-some Unsound = omega arith
refusal-some Occupied = omega arith
refusal-some Range = omega arith
refusal-some Syntax = omega arith
refusal-some Unbound = omega arith
refusal-some Vacuous = omega arith
refusal-some Odd = omega arith
refusal-some Empty = omega arith
refusal-some Full = omega arith
refusal-some Spent = omega arith
refusal-some NoRun = omega arith
refusal-some Short = omega arith
refusal-some Unlisted = omega arith
refusal-some NoAnswer = omega arith
