-- "The fitting states of a pair are one step, their AND with V another", over functions of levels. Assumes nothing.
use mathlib.Core.List.{List, [], ◌∷◌, Memᴰ as Mem}
use Rattle.std.specs.Prelude.{ℕ, ◌*◌, Result}
use Rattle.accounts.specs.declared.Count.{Count}
use Rattle.layout.specs.View.{View}
use Rattle.diagram.specs.Level.{Fn}
use Rattle.diagram.specs.Rows.{Arrow, den}
use Rattle.diagram.specs.Need.{step_need}
use Rattle.diagram.specs.Steps.{and_f}
use Rattle.rows.specs.Used.{rows_of}
use Rattle.collect.specs.Lent.{live}
use Rattle.table.specs.declared.Full.{Full}
use Rattle.counting.specs.declared.Taken.{Taken}
use Rattle.book.specs.Held.{Held}
use Rattle.modal.specs.Chain.{Base}
use Rattle.modal.specs.Modal.{Chained}
use Rattle.moments.specs.Moment.{entry_f}

-- the needs of the two steps: C are the states that fit, E is V
abbrev pub fitting_needs : ℕ → List Fn → Fn → Fn → List ℕ
fitting_needs n fs E C = step_need (2 * n) fs C ∷ step_need (2 * n) (E ∷ C ∷ fs) (and_f C E) ∷ []

-- a table between steps, lent arrows, and V's arrow, which is live
pub record FittingPre (n N limit : ℕ) (W : View) (lent : List ℕ) (v : ℕ) : Type 0 where
  pub base : Base n N limit W
  pub arrows : (b : ℕ) → Mem b lent → Arrow (rows_of W) b
  pub valid : Mem v (live W lent)

-- whatever functions registers, relations and the lent arrows hold: both steps are answered exactly where they fit the limit
abbrev pub FittingPost : ℕ → ℕ → ℕ → View → View → List ℕ → ℕ → ℕ → ℕ → Count → Result Taken Full → Type 0
FittingPost n N limit W X lent v mask value q o =
    (fs : List Fn) → Held (2 * n) (rows_of W) (live W lent) fs
    → Chained n N limit W X lent (fitting_needs n fs (den (2 * n) (rows_of W) v) (entry_f (2 * n) mask value))
    (and_f (entry_f (2 * n) mask value) (den (2 * n) (rows_of W) v)) q o
