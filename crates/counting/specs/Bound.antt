-- Bounds by sizes: what is live needs at most the base's number and the sizes of the other arrows. Assumes nothing.
use Rattle.std.specs.Prelude.{◌≡◌, Bool, true, ℕ, ◌≤◌}
use mathlib.Core.List.{List, ◌++◌, Memᴰ as Mem}
use Rattle.diagram.specs.Rows.{Arrow}
use Rattle.diagram.specs.Count.{Within}
use Rattle.diagram.specs.Sizes.{Outside}
use Rattle.layout.specs.View.{View}
use Rattle.rows.specs.Used.{rows_of}
use Rattle.rows.specs.Sound.{Sound}
use Rattle.rows.specs.Filled.{filled}
use Rattle.collect.specs.Lent.{live}
use Rattle.counting.specs.Counts.{need_of, CountsOf}

-- some arrows, registers and relations among them, need at most n rows
pub record Bound (W : View) (xs : List ℕ) (n : ℕ) : Type 0 where
  pub arrows : (a : ℕ) → Mem a xs → Arrow (rows_of W) a
  pub base : Within (filled W) xs
  pub enough : need_of W xs ≤ n

-- what the size of an arrow asks, and what it leaves
pub record SizePre (W : View) (c : List ℕ) (a : ℕ) : Type 0 where
  pub sound : Sound W
  pub arrow : Arrow (rows_of W) a
  pub counts : CountsOf W c

pub record SizePost (W : View) (c : List ℕ) (a n : ℕ) : Type 0 where
  pub counts : CountsOf W c
  pub size : Outside (rows_of W) (filled W) a n

-- a whole list, or the sum has passed `most`
pub record SumPost (W : View) (c xs : List ℕ) (sum most r : ℕ) : Type 0 where
  pub counts : CountsOf W c
  pub more : sum ≤ r
  pub bound : (ys : List ℕ) → Bound W ys sum → r ≤ most → Bound W (xs ++ ys) r

-- whether the base's number and the sizes of two lists sum to at most `most`; then what is live needs no more
pub record WithinPost (W : View) (c xs ys : List ℕ) (most : ℕ) (r : Bool) : Type 0 where
  pub counts : CountsOf W c
  pub fits : r ≡ true → need_of W (live W (xs ++ ys)) ≤ most
