-- When a table is sound. Assumes nothing.
use Rattle.std.specs.Prelude.{◌≡◌, true, ◌≢◌, List, [], ◌∷◌, ℕ, suc, ◌*◌, ◌≤◌, ◌<◌}
use Rattle.layout.specs.Places.{BITS, ROWS, LAYOUT, CURRENT, VALID, FIRST_RELATION, ROOTS_END}
use Rattle.diagram.specs.Rows.{WellFormed}
use Rattle.diagram.specs.Reach.{Reach}
use Rattle.diagram.specs.Even.{even}
use Rattle.layout.specs.View.{View, view, header_of}
use Rattle.rows.specs.Used.{Sizes, Ranked, rows_of}
use Rattle.rows.specs.Index.{Index}
use Rattle.rows.specs.Roots.{Ref}
use Rattle.rows.specs.Within.{Within, valid_of}

-- "each register is empty or an arrow whose rows all have even levels", "V's rows on even levels"
abbrev pub EvenSets : View → Type 0
EvenSets W =
    (h : ℕ) → VALID ≤ h → h < FIRST_RELATION → (a : ℕ) → W.header h ≡ suc a → (i : ℕ) → Reach (rows_of W) (a ∷ []) i
    → even ((rows_of W).level i) ≡ true

-- the sizes, the list of used rows, the rows and the index are sound
pub record Good (W : View) : Type 0 where
  -- "n and N are in range and the slice is long enough"
  pub sizes : Sizes (W.header BITS) W.rows W.size
  pub rows_is : W.header ROWS ≡ W.rows
  -- "old lent words are refused by 2": the words have the layout in which arrows may carry a NOT and V is a root
  pub layout_is : W.header LAYOUT ≡ CURRENT
  -- "a list of unused rows, if one is kept, holds those and only those, each once": ours is that of the used rows
  pub ranked : Ranked W
  -- "row levels are under 2n, and each arrow to a row leads to a greater level", "low and high differ, and no two used rows agree in all
  -- three", "an arrow may now carry a NOT, the high arrow of a row never does"
  pub rows : WellFormed (2 * W.header BITS) W.rows (rows_of W)
  -- "the lookup index finds every used row"
  pub index : Index W

-- "A table is sound when": all but its roots is `Good`, and V, registers and relations are as they must be
pub record Sound (W : View) : Type 0 where
  pub good : Good W
  -- "each register is empty or an arrow"; "each relation is empty or any arrow"; V is an arrow
  pub refs : (h : ℕ) → VALID ≤ h → h < ROOTS_END → Ref (rows_of W) (W.header h)
  pub valid : W.header VALID ≢ 0
  pub even : EvenSets W
  -- "registers within V, and relations within V and SHIFT of V"
  pub within : Within W (valid_of W)

-- the table that words hold
abbrev pub table_of : List ℕ → View
table_of ws = view (header_of ws ROWS) ws
