-- A layer that is made again. Assumes nothing.
use Rattle.std.specs.Prelude.{◌≡◌, true, ℕ}
use Rattle.layout.specs.View.{View}
use Rattle.book.specs.Run.{fit}
use Rattle.layers.specs.Scene.{Scene, Start, Layered, needs_of}

-- the needs of layer j fit
pub record AgainPre (n N limit : ℕ) (W : View) (t b j : ℕ) : Type 0 where
  pub start : Start n N limit W t b
  pub scene : Scene n W t b
  pub fits : fit limit (needs_of scene j) ≡ true

-- then its arrow is the answer
abbrev pub AgainPost : ℕ → View → View → ℕ → ℕ → ℕ → ℕ → Type 0
AgainPost n W X t b j x = (S : Scene n W t b) → Layered n W X t b S j x
