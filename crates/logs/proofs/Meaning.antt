-- The call by the book in plain words: what an answered call writes, and what 10 and 11 say. Assumes nothing.
use mathlib.Core.Path.{◌≡◌, refl, sym, ap, ◌∙◌, subst}
use mathlib.Core.Bool.{Bool, true, false, cond}
use mathlib.Core.Logic.{◌↔◌}
use mathlib.Core.List.{List, [], ◌∷◌}
use mathlib.Core.Option.{Option, none, some}
use Prim.Native.Nat.{ℕ, zero, suc, ◌+◌, ◌^◌, ◌≤◌, ◌<◌}
use native.Mathlib.Nat.{suc_inj, suc-ne-zero}
use native.Mathlib.Omega.{arith}
use lib.Dec.{T, ltb, lt→ltb}
use lib.ListN.{length, get_or}
use Rattle.mucalculus.specs.Sets.{mem}
use Rattle.mucalculus.proofs.Sets.{mem-table, and_in, and_out}
use Rattle.mucalculus.specs.Form.{Pairs, inside}
use Rattle.mucalculus.specs.Means.{pair}
use Rattle.diagram.specs.Level.{Fn}
use Rattle.book.specs.Book.{Book, relations, live_of}
use Rattle.book.specs.Run.{fit}
use Rattle.paths.specs.Runs.{Outcome, full, none as no_run, short, found}
use Rattle.paths.specs.Call.{Ended, refuse}
use Rattle.logs.specs.Runs.{Moment, moment_at, fits_both, fitting, sets_of, through, is_through, log_needs, log_outcome}
use Rattle.logs.specs.Call.{logs_fit, last_moment, log_ends, logged_over, logged}
use Rattle.logs.specs.Exact.{LogCause}
use Rattle.logs.specs.Meaning.{LoggedRun, LogMeant}
use Rattle.logs.proofs.Starts.{inter_in, inter_out}
use Rattle.logs.proofs.Exact.{outcome_cause, log_outcome-exact}
use Rattle.logs.proofs.Call.{says-outcome}

-- ---- a run by its places

module _ (R : Pairs) (A : ℕ → List Bool) where
  through-length : (j i s : ℕ) (l : List ℕ) → T (through R A j i s l) → length l ≡ j
  through-length zero i s [] t = refl
  through-length zero i s (u ∷ l) t = absurd t
  through-length (suc j) i s [] t = absurd t
  through-length (suc j) i s (u ∷ l) t = ap suc (through-length j (suc i) u l (and_out (pair R s u) _ (and_out (mem (A i) s) _ t).1).1)

  -- each state is in its set
  through-each : (j i s : ℕ) (l : List ℕ) → T (through R A j i s l) → (p : ℕ) → p ≤ j → T (mem (A (i + p)) (get_or (s ∷ l) p 0))
  through-each zero i s [] t zero h = subst (λ (k : ℕ). T (mem (A k) s)) (let e : i ≡ i + 0 = omega arith in e) t
  through-each zero i s [] t (suc p) h = absurd (omega arith)
  through-each zero i s (u ∷ l) t p h = absurd t
  through-each (suc j) i s [] t p h = absurd t
  through-each (suc j) i s (u ∷ l) t zero h =
      subst (λ (k : ℕ). T (mem (A k) s)) (let e : i ≡ i + 0 = omega arith in e) (and_out (mem (A i) s) _ t).0
  through-each (suc j) i s (u ∷ l) t (suc p) h =
      subst (λ (k : ℕ). T (mem (A k) (get_or (u ∷ l) p 0))) (let e : suc i + p ≡ i + suc p = omega arith in e)
      (through-each j (suc i) u l (and_out (pair R s u) _ (and_out (mem (A i) s) _ t).1).1 p (omega arith))

  -- and each next one is a next state
  through-next : (j i s : ℕ) (l : List ℕ) → T (through R A j i s l) → (p : ℕ) → p < j
      → T (pair R (get_or (s ∷ l) p 0) (get_or (s ∷ l) (suc p) 0))
  through-next zero i s l t p h = absurd (omega arith)
  through-next (suc j) i s [] t p h = absurd t
  through-next (suc j) i s (u ∷ l) t zero h = (and_out (pair R s u) _ (and_out (mem (A i) s) _ t).1).0
  through-next (suc j) i s (u ∷ l) t (suc p) h =
      through-next j (suc i) u l (and_out (pair R s u) _ (and_out (mem (A i) s) _ t).1).1 p (omega arith)

  -- what is so at every place is a run
  to-through : (j i s : ℕ) (l : List ℕ) → length l ≡ j → ((p : ℕ) → p ≤ j → T (mem (A (i + p)) (get_or (s ∷ l) p 0)))
      → ((p : ℕ) → p < j → T (pair R (get_or (s ∷ l) p 0) (get_or (s ∷ l) (suc p) 0))) → T (through R A j i s l)
  to-through zero i s [] e f g = subst (λ (k : ℕ). T (mem (A k) s)) (let e : i + 0 ≡ i = omega arith in e) (f 0 (omega arith))
  to-through zero i s (u ∷ l) e f g = absurd (suc-ne-zero (length l) e)
  to-through (suc j) i s [] e f g = absurd (suc-ne-zero j (sym e))
  to-through (suc j) i s (u ∷ l) e f g =
      and_in (mem (A i) s) _ (subst (λ (k : ℕ). T (mem (A k) s)) (let e : i + 0 ≡ i = omega arith in e) (f 0 (omega arith)))
      (and_in (pair R s u) _ (g 0 (omega arith))
      (to-through j (suc i) u l (suc_inj e)
      (λ p h. subst (λ (k : ℕ). T (mem (A k) (get_or (u ∷ l) p 0))) (let e : i + suc p ≡ suc i + p = omega arith in e)
      (f (suc p) (omega arith)))
      (λ p h. g (suc p) (omega arith))))

module _ (n : ℕ) (R : Pairs) (E : List Bool) (M : ℕ → Moment) (j : ℕ) where
  -- what is in the set of a moment
  set_out : (i s : ℕ) → T (mem (sets_of n E M i) s) → (s < 2 ^ n) × T (fits_both (M i) s) × T (mem E s)
  set_out i s t =
      let w = inter_out (2 ^ n) (fitting (2 ^ n) (M i)) E s t in
      (w.0, (and_out (ltb s (2 ^ n)) _ (subst T (mem-table (2 ^ n) (fits_both (M i)) s) w.1)).1, w.2)

  set_in : (i s : ℕ) → s < 2 ^ n → T (fits_both (M i) s) → T (mem E s) → T (mem (sets_of n E M i) s)
  set_in i s l f e =
      inter_in (2 ^ n) (fitting (2 ^ n) (M i)) E s l
      (subst T (sym (mem-table (2 ^ n) (fits_both (M i)) s)) (and_in (ltb s (2 ^ n)) _ (lt→ltb s (2 ^ n) l) f)) e

  -- a run through the sets is one that fits both logs
  pub run_fits : (l : List ℕ) → T (is_through R (sets_of n E M) j l) → LoggedRun n R E M (suc j) l
  run_fits [] t = absurd t
  run_fits (s ∷ l) t =
      let A = sets_of n E M in
      let each : (i : ℕ) → i < suc j → (get_or (s ∷ l) i 0 < 2 ^ n) × T (fits_both (M i) (get_or (s ∷ l) i 0)) × T (mem E (get_or (s ∷ l) i 0)) =
      λ i h. set_out i (get_or (s ∷ l) i 0)
      (subst (λ (k : ℕ). T (mem (A k) (get_or (s ∷ l) i 0))) (let e : 0 + i ≡ i = omega arith in e)
      (through-each R A j 0 s l t i (omega arith))) in
      record {
        size = ap suc (through-length R A j 0 s l t);
        state = λ i h. (each i h).0;
        exists = λ i h. (each i h).2;
        agrees = λ i h. (each i h).1;
        next = λ i h. through-next R A j 0 s l t i (omega arith);
      }

  pub fits-run : (l : List ℕ) → LoggedRun n R E M (suc j) l → T (is_through R (sets_of n E M) j l)
  fits-run [] r = absurd (suc-ne-zero j (sym r.size))
  fits-run (s ∷ l) r =
      to-through R (sets_of n E M) j 0 s l (suc_inj r.size)
      (λ p h. subst (λ (k : ℕ). T (mem (sets_of n E M k) (get_or (s ∷ l) p 0))) (let e : p ≡ 0 + p = omega arith in e)
      (set_in p (get_or (s ∷ l) p 0) (r.state p (omega arith)) (r.agrees p (omega arith)) (r.exists p (omega arith))))
      (λ p h. r.next p (omega arith))

-- ---- the call

module _ (n : ℕ) (R : Pairs) (E : List Bool) (M : ℕ → Moment) (k : ℕ) (lent : List ℕ) where
  -- a check's number says nothing of runs
  by_check : (c : ℕ) → (c ≡ 0 → ⊥) → (c ≡ 10 → ⊥) → (c ≡ 11 → ⊥) → LogMeant n R E M k lent (refuse c lent)
  by_check c a b d =
      record {
        answered = λ e. absurd (a e);
        no-run = λ e. absurd (b e);
        too_short = λ e. absurd (d e);
        kept = λ _. refl;
      }

by-outcome : (n N : ℕ) (live : List Fn) (R : Pairs) (E : List Bool) (M : ℕ → Moment) (j : ℕ) (lent : List ℕ) (o : Outcome)
    → LogCause n N live R E M j (length lent) o → LogMeant n R E M (suc j) lent (log_ends o lent)
by-outcome n N live R E M j lent full c =
    by_check n R E M (suc j) lent 8 (λ e. absurd (omega (arith, e))) (λ e. absurd (omega (arith, e))) (λ e. absurd (omega (arith, e)))
by-outcome n N live R E M j lent no_run c = record {
  answered = λ e. absurd (omega (arith, e));
  no-run = λ _ l r. c.1 l (fits-run n R E M j l r);
  too_short = λ e. absurd (omega (arith, e));
  kept = λ _. refl;
}
by-outcome n N live R E M j lent short c = record {
  answered = λ e. absurd (omega (arith, e));
  no-run = λ e. absurd (omega (arith, e));
  too_short = λ _. (
    (c.1.0, run_fits n R E M j c.1.0 c.1.1.run),
    omega (arith, c.1.2, c.1.1.size),
  );
  kept = λ _. refl;
}
by-outcome n N live R E M j lent (found l) c = record {
  answered = λ _. (l, run_fits n R E M j l c.1.run, λ m r. c.1.least m (fits-run n R E M j m r), c.2, refl);
  no-run = λ e. absurd (omega (arith, e));
  too_short = λ e. absurd (omega (arith, e));
  kept = λ e. absurd (omega (arith, e));
}

-- the call, over the pairs in relation t and V
pub logged-means : (bk : Book) (t : ℕ) (one two lent : List ℕ)
    → LogMeant bk.n (inside (bk.rel t)) bk.valid (moment_at one two) (suc (last_moment one)) lent (logged bk t one two lent)
logged-means bk t one two lent = go (logs_fit (length one) (length two)) (ltb t relations) (bk.rel t)
  where
    go : (f r : Bool) (o : Option Pairs)
        → LogMeant bk.n (inside o) bk.valid (moment_at one two) (suc (last_moment one)) lent
        (cond f (cond r (logged_over bk o one two lent) (refuse 3 lent)) (refuse 1 lent))
    go false r o =
        by_check bk.n (inside o) bk.valid (moment_at one two) (suc (last_moment one)) lent 1 (λ e. absurd (omega (arith, e)))
        (λ e. absurd (omega (arith, e))) (λ e. absurd (omega (arith, e)))
    go true false o =
        by_check bk.n (inside o) bk.valid (moment_at one two) (suc (last_moment one)) lent 3 (λ e. absurd (omega (arith, e)))
        (λ e. absurd (omega (arith, e))) (λ e. absurd (omega (arith, e)))
    go true true none =
        by_check bk.n (inside none) bk.valid (moment_at one two) (suc (last_moment one)) lent 7 (λ e. absurd (omega (arith, e)))
        (λ e. absurd (omega (arith, e))) (λ e. absurd (omega (arith, e)))
    go true true (some R) =
        by-outcome bk.n bk.N (live_of bk) R bk.valid (moment_at one two) (last_moment one) lent
        (log_outcome bk.n bk.N (live_of bk) R bk.valid (moment_at one two) (last_moment one) (length lent))
        (outcome_cause bk.n bk.N (live_of bk) R bk.valid (moment_at one two) (last_moment one) (length lent))

-- "provided none of their steps is full, 10 is given exactly when no run exists": where the checks find no cause
pub ten_exact : (bk : Book) (t : ℕ) (one two lent : List ℕ) {R : Pairs} → T (logs_fit (length one) (length two)) → t < relations
    → bk.rel t ≡ some R
    → fit bk.N (log_needs bk.n (live_of bk) (inside (bk.rel t)) bk.valid (moment_at one two) (last_moment one)) ≡ true
    → ((logged bk t one two lent).reply.number ≡ 10)
    ↔ ((l : List ℕ) → LoggedRun bk.n (inside (bk.rel t)) bk.valid (moment_at one two) (suc (last_moment one)) l → ⊥)
ten_exact bk t one two lent f r e g = ((logged-means bk t one two lent).no-run, back)
  where
    back : ((l : List ℕ) → LoggedRun bk.n (inside (bk.rel t)) bk.valid (moment_at one two) (suc (last_moment one)) l → ⊥)
        → (logged bk t one two lent).reply.number ≡ 10
    back h =
        let none_is = (log_outcome-exact bk.n bk.N (live_of bk) (inside (bk.rel t)) bk.valid (moment_at one two) (last_moment one)
        (length lent) no_run).1
        (g, λ l q. h l (run_fits bk.n (inside (bk.rel t)) bk.valid (moment_at one two) (last_moment one) l q)) in
        ap (λ (x : Ended). x.reply.number) (says-outcome bk t one two lent f r e ∙ ap (λ (o : Outcome). log_ends o lent) none_is)
