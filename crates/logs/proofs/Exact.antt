-- Each outcome comes exactly by its cause; sets that are made again never need more rows than before. Assumes nothing.
use mathlib.Core.Path.{◌≡◌}
use mathlib.Core.Bool.{Bool}
use mathlib.Core.Logic.{◌↔◌}
use mathlib.Core.List.{List}
use Prim.Native.Nat.{ℕ, zero, suc, ◌^◌, ◌<◌}
use lib.Dec.{T}
use Rattle.mucalculus.specs.Sets.{mem}
use Rattle.mucalculus.specs.Form.{Pairs}
use Rattle.diagram.specs.Level.{Fn}
use Rattle.book.specs.Run.{fit}
use Rattle.paths.specs.Runs.{Outcome}
use Rattle.paths.proofs.Decided.{fit-first, fit-both, passes-fit, decided_cause, by_cause}
use Rattle.logs.specs.Runs.{Moment, fitting, is_through, LeastThrough, run_starts, run, inhabited, sets_of, before_needs, set_needs}
use Rattle.logs.specs.Runs.{sets_again_needs, log_needs, log_outcome}
use Rattle.logs.specs.Exact.{LogCause}
use Rattle.logs.proofs.Starts.{inter_out, run_inhabits, run_is, through-only}

-- ---- needs

module _ (n N : ℕ) (live : List Fn) (R : Pairs) (E : List Bool) (M : ℕ → Moment) where
  -- a set that is made on the way to another fits where that one does
  pub made-less : (j i : ℕ) → T (fit N (set_needs n live R E M (suc j) i)) → T (fit N (set_needs n live R E M j (suc i)))
  made-less j i =
      fit-first N (set_needs n live R E M j (suc i)) (before_needs n live R E (M i) (run_starts (2 ^ n) R (sets_of n E M) j (suc i)))

  -- sets that are made again have the needs that they had
  pub again_fits : (j i : ℕ) → T (fit N (set_needs n live R E M j i)) → T (fit N (sets_again_needs n live R E M j i))
  again_fits zero i t = tt
  again_fits (suc j) i t =
      let h = made-less j i t in
      fit-both N (set_needs n live R E M j (suc i)) (sets_again_needs n live R E M j (suc i)) h (again_fits j (suc i) h)

  -- so the first making of all sets decides 8
  pub first_pass : (j : ℕ) → fit N (log_needs n live R E M j) ≡ fit N (set_needs n live R E M j 0)
  first_pass j =
      passes-fit N (set_needs n live R E M j 0) (sets_again_needs n live R E M j 0)
      (inhabited (2 ^ n) (run_starts (2 ^ n) R (sets_of n E M) j 0)) (again_fits j 0)

-- ---- the causes

-- what fits at a moment are states
pub sets-small : (n : ℕ) (E : List Bool) (M : ℕ → Moment) (i s : ℕ) → T (mem (sets_of n E M i) s) → s < 2 ^ n
sets-small n E M i s t = (inter_out (2 ^ n) (fitting (2 ^ n) (M i)) E s t).0

module _ (n N : ℕ) (live : List Fn) (R : Pairs) (E : List Bool) (M : ℕ → Moment) (j room : ℕ) where
  abbrev A : ℕ → List Bool
  A = sets_of n E M

  -- each comes by its cause
  pub outcome_cause : LogCause n N live R E M j room (log_outcome n N live R E M j room)
  outcome_cause =
      decided_cause (λ l. T (is_through R A j l)) (λ l. LeastThrough R A j l) (fit N (log_needs n live R E M j))
      (inhabited (2 ^ n) (run_starts (2 ^ n) R A j 0)) (run (2 ^ n) R A j) room (run_is (2 ^ n) R A (sets-small n E M) j)
      (run_inhabits (2 ^ n) R A (sets-small n E M) j)

  -- so an outcome comes exactly by its cause: where no step is full, 10 exactly where no run exists
  pub log_outcome-exact : (x : Outcome) → (log_outcome n N live R E M j room ≡ x) ↔ LogCause n N live R E M j room x
  log_outcome-exact x =
      by_cause (λ l. T (is_through R A j l)) (λ l. LeastThrough R A j l) (fit N (log_needs n live R E M j)) room (λ l b. b.run)
      (λ l m a b. through-only a b) (log_outcome n N live R E M j room) x outcome_cause
