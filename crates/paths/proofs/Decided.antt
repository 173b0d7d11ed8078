-- An outcome comes exactly by its cause; what is made again, and fits where the first pass does, decides nothing. Assumes nothing.
use mathlib.Core.Path.{◌≡◌, refl, sym, ap, ◌∙◌, subst}
use mathlib.Core.Bool.{Bool, true, false, cond, ◌&&◌, true≢false}
use mathlib.Core.Logic.{◌↔◌}
use mathlib.Core.List.{List, [], ◌++◌}
use Prim.Native.Nat.{ℕ, ◌≤◌, ◌<◌}
use native.Mathlib.Nat.{lt_of_not-le}
use native.Mathlib.Omega.{arith}
use lib.Dec.{T, leb, leb→le, le→leb}
use lib.ListN.{length}
use Rattle.mucalculus.proofs.Sets.{and_in, and_out, true_of, false_of}
use Rattle.book.specs.Run.{fit}
use Rattle.book.proofs.Verdicts.{fit_append}
use Rattle.paths.specs.Runs.{pass_needs, Outcome, full, none, short, found, decided}
use Rattle.paths.specs.Exact.{CauseOf}

-- ---- needs

-- of two parts the first fits where both do
pub fit-first : (N : ℕ) (xs ys : List ℕ) → T (fit N (xs ++ ys)) → T (fit N xs)
fit-first N xs ys t = (and_out (fit N xs) _ (subst T (fit_append N xs ys) t)).0

pub fit-both : (N : ℕ) (xs ys : List ℕ) → T (fit N xs) → T (fit N ys) → T (fit N (xs ++ ys))
fit-both N xs ys a b = subst T (sym (fit_append N xs ys)) (and_in (fit N xs) _ a b)

both-same : (a b : Bool) → (T a → T b) → (a && b) ≡ a
both-same true true h = refl
both-same true false h = absurd (h tt)
both-same false b h = refl

-- so the first pass decides 8
pub passes-fit : (N : ℕ) (made again : List ℕ) (some : Bool) → (T (fit N made) → T (fit N again))
    → fit N (pass_needs made again some) ≡ fit N made
passes-fit N made again true h = fit_append N made again ∙ both-same (fit N made) (fit N again) h
passes-fit N made again false h = fit_append N made [] ∙ both-same (fit N made) true (λ t. tt)

-- ---- by the three tests

module _ (fits some : Bool) (l : List ℕ) (room : ℕ) where
  by_tests : {f m r : Bool} → fits ≡ f → some ≡ m → leb (length l) room ≡ r
      → decided fits some l room ≡ cond f (cond m (cond r (found l) short) none) full
  by_tests ef em er = rw (ef, em, er) refl

  pub decided-full : fits ≡ false → decided fits some l room ≡ full
  decided-full e = by_tests e refl refl

  pub decided-none : fits ≡ true → some ≡ false → decided fits some l room ≡ none
  decided-none e m = by_tests e m refl

  pub decided-short : fits ≡ true → some ≡ true → room < length l → decided fits some l room ≡ short
  decided-short e m h = by_tests e m (false_of _ (λ t. let g = leb→le (length l) room t in omega arith))

  pub decided-found : fits ≡ true → some ≡ true → length l ≤ room → decided fits some l room ≡ found l
  decided-found e m h = by_tests e m (true_of _ (le→leb (length l) room h))

-- ---- causes

module _ (Run Best : List ℕ → Type 0) where
  -- each outcome comes by its cause
  pub decided_cause : (fits some : Bool) (l : List ℕ) (room : ℕ) → (T some → Best l) → ((m : List ℕ) → Run m → T some)
      → CauseOf fits Run Best room (decided fits some l room)
  decided_cause fits some l room best runs = go fits refl some refl (leb (length l) room) refl
    where
      go : (f : Bool) → fits ≡ f → (m : Bool) → some ≡ m → (r : Bool) → leb (length l) room ≡ r
          → CauseOf fits Run Best room (cond f (cond m (cond r (found l) short) none) full)
      go false e m h r i = e
      go true e false h r i = (e, λ x t. subst T h (runs x t))
      go true e true h true i = (e, best (subst T (sym h) tt), leb→le (length l) room (subst T (sym i) tt))
      go true e true h false i = (e, (l, best (subst T (sym h) tt), lt_of_not-le (λ q. subst T i (le→leb (length l) room q))))

  module _ (fits : Bool) (room : ℕ) (run : (l : List ℕ) → Best l → Run l) (only : (l m : List ℕ) → Best l → Best m → l ≡ m) where
    -- no two causes at once
    pub cause_only : (x y : Outcome) → CauseOf fits Run Best room x → CauseOf fits Run Best room y → x ≡ y
    cause_only full full p q = refl
    cause_only full none p q = absurd (true≢false (sym q.0 ∙ p))
    cause_only full short p q = absurd (true≢false (sym q.0 ∙ p))
    cause_only full (found m) p q = absurd (true≢false (sym q.0 ∙ p))
    cause_only none full p q = absurd (true≢false (sym p.0 ∙ q))
    cause_only none none p q = refl
    cause_only none short p q = absurd (p.1 q.1.0 (run q.1.0 q.1.1))
    cause_only none (found m) p q = absurd (p.1 m (run m q.1))
    cause_only short full p q = absurd (true≢false (sym p.0 ∙ q))
    cause_only short none p q = absurd (q.1 p.1.0 (run p.1.0 p.1.1))
    cause_only short short p q = refl
    cause_only short (found m) p q = absurd (omega (arith, p.1.2, q.2, ap length (only p.1.0 m p.1.1 q.1)))
    cause_only (found m) full p q = absurd (true≢false (sym p.0 ∙ q))
    cause_only (found m) none p q = absurd (q.1 m (run m p.1))
    cause_only (found m) short p q = absurd (omega (arith, q.1.2, p.2, ap length (only q.1.0 m q.1.1 p.1)))
    cause_only (found m) (found i) p q = ap found (only m i p.1 q.1)

    -- so an outcome comes exactly by its cause
    pub by_cause : (o x : Outcome) → CauseOf fits Run Best room o → (o ≡ x) ↔ CauseOf fits Run Best room x
    by_cause o x c = ((λ e. subst (CauseOf fits Run Best room) e c), (λ p. cause_only o x c p))
