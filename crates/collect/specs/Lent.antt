-- Marking from a lent list of roots, and from V, registers and relations with it. Assumes nothing.
use mathlib.Core.List.{List, ◌++◌, Memᴰ as Mem}
use Rattle.std.specs.Prelude.{ℕ}
use Rattle.diagram.specs.Rows.{Arrow}
use Rattle.layout.specs.View.{View}
use Rattle.rows.specs.Used.{rows_of}
use Rattle.rows.specs.Mark.{Base}
use Rattle.rows.specs.Filled.{filled}

-- what marking from a list of arrows asks
pub record LentPre (w : View) (size : ℕ) (xs : List ℕ) : Type 0 where
  pub base : Base w size
  pub arrow : (a : ℕ) → Mem a xs → Arrow (rows_of w) a

-- "Live at a step: all filled registers and relations", "V is live always", and what is lent
abbrev pub live : View → List ℕ → List ℕ
live W xs = filled W ++ xs
