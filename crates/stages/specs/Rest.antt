-- All EXISTS left of an arrow at once: what is asked and what is promised. Assumes nothing.
use Rattle.std.specs.Prelude.{◌≡◌, Bool, true, ℕ, ◌*◌, ◌≤◌, Option, Some}
use mathlib.Core.List.{List, Memᴰ as Mem}
use Rattle.layout.specs.View.{View}
use Rattle.diagram.specs.Rows.{Arrow, den}
use Rattle.diagram.specs.Odd.{odd_f}
use Rattle.diagram.specs.Blind.{Blind}
use Rattle.diagram.specs.Post.{Denotes}
use Rattle.rows.specs.Used.{rows_of}
use Rattle.rows.specs.Sound.{Sound}
use Rattle.collect.specs.Lent.{live}
use Rattle.operations.specs.Work.{Ready}
use Rattle.operations.specs.Odd.{Grown}
use Rattle.stages.specs.Left.{LeftFits}

-- a table between steps, arrows that are live, and an arrow that does not read the odd levels done
pub record RestPre (n N limit : ℕ) (W : View) (roots : List ℕ) (a left : ℕ) : Type 0 where
  pub ready : Ready (2 * n) N limit W
  pub sound : Sound W
  pub arrows : (b : ℕ) → Mem b roots → Arrow (rows_of W) b
  pub arrow : Arrow (rows_of W) a
  pub blind : Blind left (den (2 * n) (rows_of W) a)
  pub fewer : left ≤ n

-- rows were only added; a yes says that each EXISTS left needs at most `most` rows
pub record SurePost (n : ℕ) (W X : View) (roots : List ℕ) (a left most : ℕ) (r : Bool) : Type 0 where
  pub grown : Grown (2 * n) W X
  pub fits : r ≡ true → LeftFits (2 * n) (rows_of X) (live X roots) a left most

-- rows were only added; an arrow is that of all EXISTS left, each of which needs at most `most` rows
pub record RestPost (n : ℕ) (W X : View) (roots : List ℕ) (a left most : ℕ) (r : Option ℕ) : Type 0 where
  pub grown : Grown (2 * n) W X
  pub value : (v : ℕ) → r ≡ Some v → Denotes (2 * n) (rows_of X) v (odd_f (den (2 * n) (rows_of W) a))
  pub fits : (v : ℕ) → r ≡ Some v → LeftFits (2 * n) (rows_of X) (live X roots) a left most
