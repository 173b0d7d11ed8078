-- A state is in `run_starts` exactly where a run goes on from it through the sets after; so the least next states make the least run.
-- Assumes nothing.
use mathlib.Core.Path.{◌≡◌, refl, sym, ap, ◌∙◌, subst}
use mathlib.Core.Bool.{Bool, ◌&&◌}
use mathlib.Core.List.{List, [], ◌∷◌}
use Prim.Native.Nat.{ℕ, zero, suc, ◌<◌}
use native.Mathlib.Omega.{arith}
use lib.Dec.{T, ltb, ltb→lt, lt→ltb}
use lib.ListN.{length}
use Rattle.mucalculus.specs.Sets.{mem}
use Rattle.mucalculus.proofs.Sets.{mem-table, and_in, and_out}
use Rattle.mucalculus.specs.Form.{Pairs}
use Rattle.mucalculus.specs.Means.{pair, inter, sometimes}
use Rattle.paths.specs.Runs.{Least, toward}
use Rattle.paths.proofs.First.{first_found, first-least, Onto, toward-least, toward-is}
use Rattle.paths.proofs.Layers.{next_in_lem, next_out}
use Rattle.paths.proofs.Written.{least-same}
use Rattle.logs.specs.Runs.{through, is_through, LeastThrough, run_starts, least_rest, least_of, run, inhabited}

-- ---- sets of k states

pub inter_in : (k : ℕ) (A B : List Bool) (s : ℕ) → s < k → T (mem A s) → T (mem B s) → T (mem (inter k A B) s)
inter_in k A B s l a b =
    subst T (sym (mem-table k (λ s. mem A s && mem B s) s)) (and_in (ltb s k) _ (lt→ltb s k l) (and_in (mem A s) _ a b))

pub inter_out : (k : ℕ) (A B : List Bool) (s : ℕ) → T (mem (inter k A B) s) → (s < k) × T (mem A s) × T (mem B s)
inter_out k A B s t =
    let w = and_out (ltb s k) _ (subst T (mem-table k (λ s. mem A s && mem B s) s) t) in
    let v = and_out (mem A s) _ w.1 in
    (ltb→lt s k w.0, v.0, v.1)

-- ---- where runs start

module _ (k : ℕ) (R : Pairs) (A : ℕ → List Bool) (small : (i s : ℕ) → T (mem (A i) s) → s < k) where
  -- a run's first state is in its set
  pub first_in_lem : (j i s : ℕ) (l : List ℕ) → T (through R A j i s l) → T (mem (A i) s)
  first_in_lem zero i s [] t = t
  first_in_lem zero i s (u ∷ l) t = absurd t
  first_in_lem (suc j) i s [] t = absurd t
  first_in_lem (suc j) i s (u ∷ l) t = (and_out (mem (A i) s) _ t).0

  -- a state with a run is there
  pub starts_in : (j i s : ℕ) (l : List ℕ) → T (through R A j i s l) → T (mem (run_starts k R A j i) s)
  starts_in zero i s [] t = t
  starts_in zero i s (u ∷ l) t = absurd t
  starts_in (suc j) i s [] t = absurd t
  starts_in (suc j) i s (u ∷ l) t =
      let w = and_out (mem (A i) s) _ t in
      let v = and_out (pair R s u) _ w.1 in
      let z = small i s w.0 in
      inter_in k (sometimes k R (run_starts k R A j (suc i))) (A i) s z
      (next_in_lem k R (run_starts k R A j (suc i)) s u z (record {
        state = small (suc i) u (first_in_lem j (suc i) u l v.1);
        next = v.0;
        inside = starts_in j (suc i) u l v.1;
      })) w.0

  -- its states are below k
  pub starts-lt : (j i s : ℕ) → T (mem (run_starts k R A j i) s) → s < k
  starts-lt zero i s t = small i s t
  starts-lt (suc j) i s t = (inter_out k (sometimes k R (run_starts k R A j (suc i))) (A i) s t).0

  -- each of them has a next state among those of the set after: the least is taken
  pub onto : (j i s : ℕ) → T (mem (run_starts k R A (suc j) i) s)
      → Onto k R (run_starts k R A j (suc i)) s (toward k R (run_starts k R A j (suc i)) s)
  onto j i s t =
      let X = run_starts k R A j (suc i) in
      toward-is (next_out k R X s (inter_out k (sometimes k R X) (A i) s t).1).1

  -- so the least next states make a run
  pub rest-runs : (j i s : ℕ) → T (mem (run_starts k R A j i) s) → T (through R A j i s (least_rest k R A j i s))
  rest-runs zero i s t = t
  rest-runs (suc j) i s t =
      let w = onto j i s t in
      and_in (mem (A i) s) _ (inter_out k (sometimes k R (run_starts k R A j (suc i))) (A i) s t).2
      (and_in (pair R s (toward k R (run_starts k R A j (suc i)) s)) _ w.next
      (rest-runs j (suc i) (toward k R (run_starts k R A j (suc i)) s) w.inside))

  pub rest-length : (j i s : ℕ) → length (least_rest k R A j i s) ≡ j
  rest-length zero i s = refl
  rest-length (suc j) i s = ap suc (rest-length j (suc i) (toward k R (run_starts k R A j (suc i)) s))

  -- and no run from s is less at the first place where they differ
  pub rest-least : (j i s : ℕ) (m : List ℕ) → T (through R A j i s m) → Least (least_rest k R A j i s) m
  rest-least zero i s m r = tt
  rest-least (suc j) i s [] r = tt
  rest-least (suc j) i s (t ∷ m) r =
      let w = and_out (pair R s t) _ (and_out (mem (A i) s) _ r).1 in
      let q = starts_in j (suc i) t m w.1 in
      let o : Onto k R (run_starts k R A j (suc i)) s t = record { state = starts-lt j (suc i) t q; next = w.0; inside = q } in (
        toward-least o,
        λ e. rest-least j (suc i) (toward k R (run_starts k R A j (suc i)) s) m
            (subst (λ (x : ℕ). T (through R A j (suc i) x m)) (sym e) w.1),
      )

  -- ---- the whole run

  module _ (j : ℕ) where
    abbrev X : List Bool
    X = run_starts k R A j 0

    -- where a run exists, the first set has a state
    pub run_inhabits : (l : List ℕ) → T (is_through R A j l) → T (inhabited k X)
    run_inhabits [] t = absurd t
    run_inhabits (s ∷ l) t =
        let q = starts_in j 0 s l t in
        let b = starts-lt j 0 s q in
        let m = first-least k (λ s. mem X s) s b q in
        lt→ltb (least_of k X) k (omega (arith, b, m))

    pub run-size : length (run k R A j) ≡ suc j
    run-size = ap suc (rest-length j 0 (least_of k X))

    run-least : (m : List ℕ) → T (is_through R A j m) → Least (run k R A j) m
    run-least [] t = tt
    run-least (u ∷ m) t =
        let q = starts_in j 0 u m t in (
          first-least k (λ s. mem X s) u (starts-lt j 0 u q) q,
          λ e. rest-least j 0 (least_of k X) m (subst (λ (x : ℕ). T (through R A j 0 x m)) (sym e) t),
        )

    -- where it has one, the run that is written is the least
    pub run_is : T (inhabited k X) → LeastThrough R A j (run k R A j)
    run_is h = record {
      run = rest-runs j 0 (least_of k X) (first_found k (λ s. mem X s) (ltb→lt (least_of k X) k h));
      size = run-size;
      least = run-least;
    }

-- there is only one such run
pub through-only : {R : Pairs} {A : ℕ → List Bool} {j : ℕ} {l m : List ℕ} → LeastThrough R A j l → LeastThrough R A j m → l ≡ m
through-only {l = l} {m = m} p q = least-same l m (p.size ∙ sym q.size) (p.least m q.run) (q.least l p.run)
