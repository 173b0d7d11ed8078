-- The call by the book in plain words: what an answered call writes, and what 10 and 11 say. Assumes nothing.
use mathlib.Core.Path.{◌≡◌, refl}
use mathlib.Core.Bool.{Bool, true, false, cond, ◌&&◌}
use mathlib.Core.List.{List}
use mathlib.Core.Option.{Option, none, some}
use Prim.Native.Nat.{ℕ, ◌^◌, ◌≤◌, ◌<◌}
use native.Mathlib.Omega.{arith}
use lib.Dec.{T, ltb}
use lib.ListN.{length}
use Rattle.mucalculus.specs.Form.{Pairs, inside}
use Rattle.diagram.specs.Level.{Fn}
use Rattle.book.specs.Bridge.{Sized}
use Rattle.book.specs.Book.{Book, registers, relations, live_of}
use Rattle.book.specs.Stored.{Whole}
use Rattle.paths.specs.Runs.{is_run, Shortest, Outcome, full, none as no_run, short, found, outcome, written}
use Rattle.paths.specs.Call.{Ended, refuse, ends, over_filled, shortest}
use Rattle.paths.specs.Exact.{Cause}
use Rattle.paths.specs.Meaning.{Meant}
use Rattle.paths.proofs.Exact.{outcome_cause}

module _ (k : ℕ) (R : Pairs) (A B : List Bool) (lent : List ℕ) where
  by_three : Meant k R A B lent (refuse 3 lent)
  by_three =
      record {
        answered =
            λ e. absurd (omega (arith, e));
        no-run = λ e. absurd (omega (arith, e));
        too_short = λ e. absurd (omega (arith, e));
        kept = λ _. refl;
      }

  by_seven : Meant k R A B lent (refuse 7 lent)
  by_seven =
      record {
        answered =
            λ e. absurd (omega (arith, e));
        no-run = λ e. absurd (omega (arith, e));
        too_short = λ e. absurd (omega (arith, e));
        kept = λ _. refl;
      }

by-outcome : (n N : ℕ) (live : List Fn) (R : Pairs) (A B : List Bool) (lent : List ℕ) (o : Outcome) → Cause n N live R A B (length lent) o
    → Meant (2 ^ n) R A B lent (ends o lent)
by-outcome n N live R A B lent full c =
    record {
      answered =
          λ e. absurd (omega (arith, e));
      no-run = λ e. absurd (omega (arith, e));
      too_short = λ e. absurd (omega (arith, e));
      kept = λ _. refl;
    }
by-outcome n N live R A B lent no_run c =
    record { answered = λ e. absurd (omega (arith, e)); no-run = λ _. c.1; too_short = λ e. absurd (omega (arith, e)); kept = λ _. refl }
by-outcome n N live R A B lent short c =
    record { answered = λ e. absurd (omega (arith, e)); no-run = λ e. absurd (omega (arith, e)); too_short = λ _. c.1; kept = λ _. refl }
by-outcome n N live R A B lent (found l) c = record {
  answered = λ _. (l, c.1, c.2, refl, refl);
  no-run = λ e. absurd (omega (arith, e));
  too_short = λ e. absurd (omega (arith, e));
  kept = λ e. absurd (omega (arith, e));
}

module _ (bk : Book) (lent : List ℕ) where
  filled-means : (o p : Option (List Bool)) (q : Option Pairs) → ((B : List Bool) → p ≡ some B → Sized bk.n B)
      → Meant (2 ^ bk.n) (inside q) (inside o) (inside p) lent (over_filled bk o p q lent)
  filled-means none p q s = by_seven _ _ _ _ lent
  filled-means (some A) none q s = by_seven _ _ _ _ lent
  filled-means (some A) (some B) none s = by_seven _ _ _ _ lent
  filled-means (some A) (some B) (some R) s =
      by-outcome bk.n bk.N (live_of bk) R A B lent (outcome bk.n bk.N (live_of bk) R A B (length lent))
      (outcome_cause bk.n bk.N (live_of bk) R A B (length lent) (s B refl))

  -- the call, over the sets in registers a and b and the pairs in relation t
  pub shortest-means : Whole bk → (a b t : ℕ)
      → Meant (2 ^ bk.n) (inside (bk.rel t)) (inside (bk.reg a)) (inside (bk.reg b)) lent (shortest bk a b t lent)
  shortest-means w a b t =
      go (ltb a registers && (ltb b registers && ltb t relations))
      (filled-means (bk.reg a) (bk.reg b) (bk.rel t) (λ B e. (w.reg b B e).0))
    where
      go : {k : ℕ} {R : Pairs} {A B : List Bool} {e : Ended} (r : Bool) → Meant k R A B lent e
          → Meant k R A B lent (cond r e (refuse 3 lent))
      go true m = m
      go {k} {R} {A} {B} false m = by_three k R A B lent
