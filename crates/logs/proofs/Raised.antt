-- "Bigger tables, same verdicts" for two logs: where the call is not full, a book with more rows tells the same. Assumes nothing.
use mathlib.Core.Path.{◌≡◌, refl}
use mathlib.Core.Bool.{Bool, true, false, cond}
use mathlib.Core.List.{List}
use mathlib.Core.Option.{Option, none, some}
use Prim.Native.Nat.{ℕ, ◌≤◌}
use lib.Dec.{ltb}
use lib.ListN.{length}
use Rattle.mucalculus.specs.Form.{Pairs}
use Rattle.book.specs.Book.{Book, relations, live_of}
use Rattle.book.specs.Run.{fit}
use Rattle.book.specs.Raised.{with_row_count}
use Rattle.paths.specs.Call.{refuse}
use Rattle.paths.proofs.Raised.{fit-more, by-fit}
use Rattle.logs.specs.Runs.{moment_at, log_needs}
use Rattle.logs.specs.Call.{logs_fit, last_moment, log_ends, logged_over, logged}

module _ (M : ℕ) (one two list : List ℕ) where
  filled_more : (b : Book) → b.N ≤ M → (r : Option Pairs) → ((logged_over b r one two list).reply.number ≡ 8 → ⊥)
      → logged_over (with_row_count b M) r one two list ≡ logged_over b r one two list
  filled_more b l none z = refl
  filled_more b l (some R) z =
      let needs : List ℕ = log_needs b.n (live_of b) R b.valid (moment_at one two) (last_moment one) in
      by-fit (λ o. log_ends o list) refl (fit b.N needs) (fit M needs) _ (fit-more b.N M l needs) z

  -- A CALL THAT IS NOT FULL is told alike with more rows: the same reply, refusals 10 and 11 too, and the same list
  pub logged-more : (b : Book) → b.N ≤ M → (t : ℕ) → ((logged b t one two list).reply.number ≡ 8 → ⊥)
      → logged (with_row_count b M) t one two list ≡ logged b t one two list
  logged-more b l t = go (logs_fit (length one) (length two)) (ltb t relations)
    where
      go : (u v : Bool)
          → ((cond u (cond v (logged_over b (b.rel t) one two list) (refuse 3 list)) (refuse 1 list)).reply.number ≡ 8 → ⊥)
          → cond u (cond v (logged_over (with_row_count b M) (b.rel t) one two list) (refuse 3 list)) (refuse 1 list)
          ≡ cond u (cond v (logged_over b (b.rel t) one two list) (refuse 3 list)) (refuse 1 list)
      go true true z = filled_more b l (b.rel t) z
      go true false z = refl
      go false v z = refl
