-- What a function of a cycle is called with: its precondition, where its measure is t, or falls below t. Assumes nothing.
use mathlib.Core.List.{List}
use Prim.Native.Nat.{ℕ, ◌<◌}
use borrow.Fn.Kinds.{In, ParamKind}
use borrow.Fn.PlainCycle.{Measures, is, falls, and}

abbrev pub at : {n : ℕ} (ps : List (ParamKind n)) → Measures n ps ℕ → In n ps → ℕ → In n ps
at {n} ps μ P t = and n ps (is n ps μ t) P

abbrev pub below : {n : ℕ} (ps : List (ParamKind n)) → Measures n ps ℕ → In n ps → ℕ → In n ps
below {n} ps μ P t = and n ps (falls n ps ◌<◌ μ t) P
