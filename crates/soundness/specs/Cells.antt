-- Tables of cells: which values of the last five tested levels an arrow has a valuation with, and which NOT of it has. Assumes nothing.
use Rattle.std.specs.Prelude.{◌≡◌, ◌≢◌, Bool, true, false, ℕ, ◌+◌, ◌*◌, ◌≤◌, ◌<◌}
use Rattle.std.specs.Int.Bits.{bit_and, bit_or}
use Rattle.diagram.specs.Level.{Val}
use Rattle.diagram.specs.Rows.{Rows, flip, den}
use Rattle.soundness.specs.Apart.{lift}
use Rattle.soundness.specs.Masks.{has, low_mask, high_mask, bit_of}

-- v has the values of cell c, a number below 32, at the tested levels: base + s and each second level after it
pub record InCell (base s c : ℕ) (v : Val) : Type 0 where
  pub at : (q : ℕ) → q < 5 → v (base + 2 * q + s) ≡ has c q

-- level l is the tested level k, or none of them
pub record Classed (base s l k : ℕ) : Type 0 where
  pub here : k < 5 → l ≡ base + 2 * k + s
  pub past : 5 ≤ k → (q : ℕ) → q < 5 → l ≢ base + 2 * q + s

-- arrow a, whose levels count t higher, has a valuation in cell c
pub record Meets (m : ℕ) (rows : Rows) (base s t a c : ℕ) : Type 0 where
  pub val : Val
  pub cell : InCell base s c val
  pub on : den m rows a (lift t val) ≡ true

-- half of a word has the cells that arrow a meets
pub record Shown (m : ℕ) (rows : Rows) (base s t a w : ℕ) (side : Bool) : Type 0 where
  pub yes : (c : ℕ) → c < 32 → has w (bit_of side c) ≡ true → Meets m rows base s t a c
  pub no : (c : ℕ) → c < 32 → Meets m rows base s t a c → has w (bit_of side c) ≡ true

-- a word has the cells that arrow a meets, and those that NOT of it meets
pub record Tabled (m : ℕ) (rows : Rows) (base s t a w : ℕ) : Type 0 where
  pub plain : Shown m rows base s t a w false
  pub turned : Shown m rows base s t (flip a) w true

-- the word that is joined from two by the masks of a level
abbrev pub joined : ℕ → ℕ → ℕ → ℕ
joined k w0 w1 = bit_or (bit_and w0 (low_mask k)) (bit_and w1 (high_mask k))

-- no cell is in both words
abbrev pub Disjoint : ℕ → ℕ → Type 0
Disjoint x y = (c : ℕ) → c < 32 → has x c ≡ true → has y c ≡ true → ⊥
