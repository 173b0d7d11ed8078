-- The call by the book in plain words: what an answered call writes, and what 10 and 11 say. Assumes nothing.
use Rattle.std.specs.Prelude.{◌≡◌, Bool, List, ℕ, ◌≤◌, ◌<◌, T, length}
use Rattle.mucalculus.specs.Form.{Pairs}
use Rattle.paths.specs.Runs.{is_run, Shortest, written}
use Rattle.paths.specs.Call.{Ended}

-- from A into B over R, with a list before and what the call ends with
pub record Meant (k : ℕ) (R : Pairs) (A B : List Bool) (lent : List ℕ) (e : Ended) : Type 0 where
  -- the shortest run that is least at each place, of which there is only one (`shortest-only`), is written, and its length is returned
  pub answered : e.reply.number ≡ 0
      → (l : List ℕ) × Shortest k R A B l × (length l ≤ length lent) × (e.reply.value ≡ length l) × (e.list ≡ written l lent)
  pub no-run : e.reply.number ≡ 10 → (l : List ℕ) → T (is_run k R A B l) → ⊥
  pub too_short : e.reply.number ≡ 11 → (l : List ℕ) × Shortest k R A B l × (length lent < length l)
  pub kept : 1 ≤ e.reply.number → e.list ≡ lent
