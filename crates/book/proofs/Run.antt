-- Laws of what specs/Run.antt defines. Assumes nothing.
use mathlib.Core.Bool.{Bool}
use mathlib.Core.List.{List}
use Prim.Native.Nat.{ℕ, ◌^◌}
use Rattle.mucalculus.specs.Means.{inter, bit_states}
use Rattle.diagram.specs.Level.{Fn}
use Rattle.accounts.specs.declared.Count.{Count}
use Rattle.book.specs.Bridge.{fn_of}
use Rattle.book.specs.Run.{Outcome, step, two_step}

-- a bit, and NOT of the value A, each followed by AND with V, which is E
abbrev pub bit_step : ℕ → ℕ → List Fn → List Bool → ℕ → Count → Outcome
bit_step n N live E p q = let B = bit_states (2 ^ n) p in step n N live (fn_of n B) q (λ c. two_step n N live (inter (2 ^ n)) B E c)
