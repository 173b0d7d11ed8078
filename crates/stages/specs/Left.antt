-- What is asked and told of the EXISTS that are left of an arrow. Assumes nothing.
use Rattle.std.specs.Prelude.{◌≡◌, ℕ, suc, ◌+◌, ◌*◌, ◌≤◌, length}
use mathlib.Core.List.{List, ◌∷◌, map, Memᴰ as Mem}
use Rattle.layout.specs.View.{View}
use Rattle.diagram.specs.Rows.{Rows, Arrow, den}
use Rattle.diagram.specs.Need.{step_need}
use Rattle.diagram.specs.Odd.{exists_from}
use Rattle.diagram.specs.Blind.{Blind}
use Rattle.rows.specs.Used.{rows_of}
use Rattle.rows.specs.Bits.{On}
use Rattle.rows.specs.Sound.{Sound}
use Rattle.collect.specs.Lent.{live}
use Rattle.operations.specs.Work.{Ready}
use Rattle.counting.specs.Counts.{BaseOf}
use Rattle.stages.specs.declared.Looked.{Looked}
use Rattle.stages.specs.declared.Looked.TheVariants as looked

-- Each EXISTS left of arrow a, at the odd levels below 2 · left from the last down, needs at most `most` rows, with what the roots denote.
abbrev pub LeftFits : ℕ → Rows → List ℕ → ℕ → ℕ → ℕ → Type 0
LeftFits m rows roots a left most =
    (d j : ℕ) → suc d + j ≡ left
    → step_need m (exists_from d (suc j) (den m rows a) ∷ map (den m rows) roots) (exists_from (suc d) j (den m rows a)) ≤ most

-- A bit for each arrow of a table of N rows, all of them clear.
pub record SeenBlank (N : ℕ) (seen : List ℕ) : Type 0 where
  pub enough : 2 * N + 2 ≤ 32 * length seen
  pub blank : (c : ℕ) → On seen c → ⊥

-- What a look at them asks: a table between steps, marks of what registers and relations reach, and an arrow that does not read the odd
-- levels done.
pub record LookPre (n N : ℕ) (W : View) (c roots : List ℕ) (a left : ℕ) : Type 0 where
  pub ready : Ready (2 * n) N 0 W
  pub sound : Sound W
  pub base : BaseOf W c
  pub arrows : (b : ℕ) → Mem b roots → Arrow (rows_of W) b
  pub arrow : Arrow (rows_of W) a
  pub blind : Blind left (den (2 * n) (rows_of W) a)
  pub fewer : left ≤ n

-- What it tells: only Fits says something.
pub record LookPost (n : ℕ) (W : View) (roots : List ℕ) (a left most : ℕ) (r : Looked) : Type 0 where
  pub fits : r ≡ looked.Fits → LeftFits (2 * n) (rows_of W) (live W roots) a left most
