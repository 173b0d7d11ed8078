-- Roots are the arrows that a step must keep: each live function is denoted by one of them, and each denotes a live function, in any order.
-- Assumes nothing.
use mathlib.Core.List.{List, Memᴰ as Mem}
use Rattle.std.specs.Prelude.{ℕ}
use Rattle.diagram.specs.Level.{Fn}
use Rattle.diagram.specs.Rows.{Rows}
use Rattle.diagram.specs.Post.{Denotes}

pub record Held (m : ℕ) (rows : Rows) (roots : List ℕ) (live : List Fn) : Type 0 where
  pub each : (f : Fn) → Mem f live → (a : ℕ) × Mem a roots × Denotes m rows a f
  pub only : (a : ℕ) → Mem a roots → (f : Fn) × Mem f live × Denotes m rows a f
