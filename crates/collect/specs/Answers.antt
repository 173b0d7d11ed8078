-- What a collection asks and leaves. Assumes nothing.
use Rattle.std.specs.Prelude.{◌≡◌, ℕ, ◌*◌}
use mathlib.Core.List.{List, map, Memᴰ as Mem}
use Rattle.diagram.specs.Rows.{Arrow, den}
use Rattle.diagram.specs.Need.{need}
use Rattle.layout.specs.Places.{BITS}
use Rattle.layout.specs.View.{View}
use Rattle.rows.specs.Used.{rows_of}
use Rattle.rows.specs.Sound.{Sound}
use Rattle.rows.specs.Filled.{filled}
use Rattle.collect.specs.Freed.{Freed}

-- what freeing rows asks
pub record FreePre (W : View) (xs : List ℕ) : Type 0 where
  pub sound : Sound W
  pub arrows : (a : ℕ) → Mem a xs → Arrow (rows_of W) a

-- "collect: frees unneeded rows; returns the rows still needed by registers and relations"; V "counts in collect"
pub record CollectPost (W X : View) (r : ℕ) : Type 0 where
  pub freed : Freed W X (filled W)
  pub needs : r ≡ need (2 * W.header BITS) (map (den (2 * W.header BITS) (rows_of W)) (filled W))

-- what freeing many rows leaves: the table as it was, or a collected one
pub data FreeManyPost (W X : View) : Type 0 where
  few : X ≡ W → FreeManyPost W X
  many : Freed W X (filled W) → FreeManyPost W X
