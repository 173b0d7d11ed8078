-- What the functions ask of the words, the logs and the list and promise of them, by name. Assumes nothing.
use Rattle.std.specs.Prelude.{List, ℕ, ◌*◌, ◌≤◌, Result}
use Rattle.layout.specs.declared.Refusal.{Refusal}
use Rattle.accounts.specs.declared.Count.{Count}
use Rattle.steps.specs.declared.Step.{Step}
use Rattle.table.specs.declared.Full.{Full}
use Rattle.counting.specs.declared.Taken.{Taken}
use Rattle.counting.specs.Posts.{TakePre, TakenIn}
use Rattle.table.specs.declared.Full.{Full}
use Rattle.modal.specs.declared.Limits.{Limits}
use Rattle.modal.specs.Posts.{view_in, Counted}
use Rattle.layers.specs.Next.{NextPre}
use Rattle.moments.specs.declared.Entry.{Entry}
use Rattle.moments.specs.Fitting.{FittingPre, FittingPost}
use Rattle.moments.specs.Before.{BeforePost}
use Rattle.moments.specs.Sets.{LastPre, LastPost, MakePre, MakePost}
use Rattle.moments.specs.Write.{WritePre, WritePost}
use Rattle.moments.specs.Find.{FindPre, FindPost}

-- before a call
module _ (l : Limits) (words counts : List ℕ) where
  abbrev pub StepAsks : (roots : List ℕ) (step : Step) → Type 0
  StepAsks roots step = (l.bits ≤ 16) × TakePre (2 * l.bits) l.rows l.limit words counts roots step

  abbrev pub FittingAsks : (roots : List ℕ) (valid : ℕ) → Type 0
  FittingAsks roots valid = Counted l words counts (FittingPre l.bits l.rows l.limit (view_in l words) roots valid)

  abbrev pub BeforeAsks : (relation valid later : ℕ) → Type 0
  BeforeAsks relation valid later = Counted l words counts (NextPre l.bits l.rows l.limit (view_in l words) relation valid later)

  abbrev pub LastAsks : (valid : ℕ) (one two : List ℕ) → Type 0
  LastAsks valid one two = Counted l words counts (LastPre l.bits l.rows l.limit (view_in l words) valid one two)

  abbrev pub MakeAsks : (relation valid : ℕ) (one two : List ℕ) (at : ℕ) → Type 0
  MakeAsks relation valid one two at =
      Counted l words counts (MakePre l.bits l.rows l.limit (view_in l words) relation valid one two at)

  abbrev pub WriteAsks : (relation valid : ℕ) (one two : List ℕ) (first : ℕ) (list : List ℕ) → Type 0
  WriteAsks relation valid one two first list =
      Counted l words counts (WritePre l.bits l.rows l.limit (view_in l words) relation valid one two first list)

  abbrev pub FindAsks : (relation valid : ℕ) (one two : List ℕ) → Type 0
  FindAsks relation valid one two =
      Counted l words counts (FindPre l.bits l.rows l.limit (view_in l words) relation valid one two)

-- after it
module _ (l : Limits) (before after : List ℕ) where
  -- a step's answer, its need counted
  abbrev pub StepGives : (counts roots : List ℕ) (step : Step) (count : Count) (taken : Result Taken Full) → Type 0
  StepGives counts roots step count taken = TakenIn (2 * l.bits) l.rows l.limit before after roots counts step count taken

  -- the states that fit and exist
  abbrev pub FittingGives : (counts roots : List ℕ) (valid : ℕ) (e : Entry) (count : Count) (taken : Result Taken Full) → Type 0
  FittingGives counts roots valid e count taken =
      Counted l after counts
      (FittingPost l.bits l.rows l.limit (view_in l before) (view_in l after) roots valid e.mask e.value count taken)

  -- the set of the moment before
  abbrev pub BeforeGives : (counts : List ℕ) (relation valid later : ℕ) (e : Entry) (taken : Result Taken Full) → Type 0
  BeforeGives counts relation valid later e taken =
      Counted l after counts
      (BeforePost l.bits l.rows l.limit (view_in l before) (view_in l after) relation valid later e.mask e.value taken)

  -- the set of the last moment
  abbrev pub LastGives : (counts : List ℕ) (valid : ℕ) (one two : List ℕ) (taken : Result Taken Full) → Type 0
  LastGives counts valid one two taken =
      Counted l after counts (LastPost l.bits l.rows l.limit (view_in l before) (view_in l after) valid one two taken)

  -- the set of a moment
  abbrev pub MakeGives : (counts : List ℕ) (relation valid : ℕ) (one two : List ℕ) (at : ℕ) (made : Result ℕ Full) → Type 0
  MakeGives counts relation valid one two at made =
      Counted l after counts (MakePost l.bits l.limit (view_in l before) (view_in l after) relation valid one two at made)

  -- the states after the first one, written
  abbrev pub WriteGives : (relation valid : ℕ) (one two : List ℕ) (first : ℕ) (old new : List ℕ) → Type 0
  WriteGives relation valid one two first old new =
      WritePost l.bits l.limit (view_in l before) (view_in l after) relation valid one two first old new

  -- the run, written, or why it is not
  abbrev pub FindGives : (relation valid : ℕ) (one two old new : List ℕ) (logged : Result (Unit {0}) Refusal) → Type 0
  FindGives relation valid one two old new logged =
      FindPost l.bits l.limit (view_in l before) (view_in l after) relation valid one two old new logged
