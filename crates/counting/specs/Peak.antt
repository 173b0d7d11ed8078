-- "Each answered relation or set call also returns its peak: the largest row need, over its steps, of live sets and result together": a
-- step that is taken raises the peak to what it needs. Assumes nothing.
use Rattle.std.specs.Prelude.{◌≡◌, List, ◌∷◌, ℕ, max, Result}
use Rattle.accounts.specs.declared.Count.{Count}
use Rattle.layout.specs.View.{View}
use Rattle.rows.specs.Used.{rows_of}
use Rattle.table.specs.declared.Full.{Full}
use Rattle.steps.specs.Steps.{live_at, Stepped, step_f}
use Rattle.steps.specs.declared.Step.{Step}
use Rattle.table.specs.declared.Full.{Full}
use Rattle.counting.specs.Counts.{need_of, CountsOf}
use Rattle.counting.specs.Taken.{made_in, Counted}
use Rattle.counting.specs.declared.Taken.{Taken}

-- what taking a step promises: the step, counts that are right for the table left, and its need counted
abbrev pub TakenPost : ℕ → ℕ → ℕ → View → View → List ℕ → List ℕ → Step → Count → Result Taken Full → Type 0
TakenPost m N limit W X roots c s q r =
    Stepped m N limit W X roots s (made_in r) × CountsOf X c × Counted m (rows_of W) (live_at W roots s) (step_f m (rows_of W) s) q r

-- what `note` leaves: counts that are right still, and the peak
pub record NotePost (W : View) (c roots : List ℕ) (s : Step) (a peak r : ℕ) : Type 0 where
  pub counts : CountsOf W c
  pub raised : r ≡ max peak (need_of W (a ∷ live_at W roots s))

-- a step that is taken with counts
pub record StepCounted (m N limit : ℕ) (W X : View) (roots c : List ℕ) (s : Step) (o : Result ℕ Full) : Type 0 where
  pub step : Stepped m N limit W X roots s o
  pub counts : CountsOf X c
