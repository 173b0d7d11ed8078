-- When two arrows of a table have no valuation in common, and their halves. Assumes nothing.
use Rattle.std.specs.Prelude.{◌≡◌, true, false, ℕ, ◌+◌, ◌<◌}
use Rattle.diagram.specs.Level.{Val, upd}
use Rattle.diagram.specs.Rows.{Rows, Arrow, level_of, den}

-- v read s levels higher: what level l has there, v has at level l + s
abbrev pub lift : ℕ → Val → Val
lift s v l = v (l + s)

-- arrows a and b have no valuation in common, where b's levels count s higher
pub record Apart (m : ℕ) (rows : Rows) (s a b : ℕ) : Type 0 where
  pub none : (v : Val) → den m rows a v ≡ true → den m rows b (lift s v) ≡ true → ⊥

-- lo and hi are what arrow a, whose levels count s higher, is where level l is 0 and where it is 1
pub record Half (m : ℕ) (rows : Rows) (s l a lo hi : ℕ) : Type 0 where
  pub low-arrow : Arrow rows lo
  pub high-arrow : Arrow rows hi
  pub low_deeper : l < level_of m rows lo + s
  pub high_deeper : l < level_of m rows hi + s
  pub low-is : (v : Val) → den m rows a (lift s (upd v l false)) ≡ den m rows lo (lift s v)
  pub high_is : (v : Val) → den m rows a (lift s (upd v l true)) ≡ den m rows hi (lift s v)
