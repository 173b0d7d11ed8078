-- Laws of what specs/Marks.antt defines. Assumes nothing.
use mathlib.Core.Path.{◌≡◌, sym, subst}
use mathlib.Core.Logic.{by_cases}
use mathlib.Core.Bool.{Bool, ◌&&◌}
use mathlib.Core.List.{List, [], ◌∷◌}
use Prim.Native.Nat.{ℕ, ◌+◌, ◌-◌, ◌*◌, ◌/◌, ◌%◌, ◌≤◌, ◌<◌}
use native.Mathlib.Decide.{dec_lt}
use native.Mathlib.Omega.{arith}
use lib.Dec.{T, ltb, ltb→lt}
use Rattle.mucalculus.proofs.Sets.{and_out}
use Rattle.coins.specs.Runs.{Transitions, PricedStep, price_of, total, mixed_into}
use Rattle.coins.specs.Cost.{CREDIT, step_cost, cost}
use Rattle.coins.specs.Marks.{Marks, Standing}

-- the states of the goal cost nothing
abbrev pub Goal : ℕ → (ℕ → Bool) → Marks → Type 0
Goal k B M = (s : ℕ) → s < k → T (B s) → M.mark s ≡ 1

-- the states that relation r has done: whatever leads to them by r is marked, and costs at most the step more
abbrev pub Done : ℕ → Transitions → List ℕ → Marks → (ℕ → ℕ) → Type 0
Done k leads prices M done =
    (r i s : ℕ) → i < done r → s < k → T (leads r s (M.at i)) → (1 ≤ M.mark s) × (M.mark s ≤ M.mark (M.at i) + step_cost prices r)

-- no filled relation has a state left that gives a mark below m
abbrev pub Least : (ℕ → Bool) → List ℕ → Marks → (ℕ → ℕ) → ℕ → Type 0
Least filled prices M done m = (r i : ℕ) → T (filled r) → done r ≤ i → i < M.count → m ≤ M.mark (M.at i) + step_cost prices r

-- ---- what the marks say of runs

-- a run's first state is one of k
pub run-below : (k : ℕ) (leads : Transitions) (B : ℕ → Bool) (s : ℕ) (l : List PricedStep) → T (mixed_into k leads B s l) → s < k
run-below k leads B s [] t = ltb→lt s k (and_out (ltb s k) _ t).0
run-below k leads B s (p ∷ l) t = ltb→lt s k (and_out (ltb s k) _ t).0

module _ (k : ℕ) (leads : Transitions) (filled : ℕ → Bool) (B : ℕ → Bool) (prices : List ℕ) (M : Marks) (done : ℕ → ℕ) (m : ℕ)
    (used : (r s t : ℕ) → T (leads r s t) → T (filled r))
    (S : Standing k leads B prices M) (G : Goal k B M) (D : Done k leads prices M done) (L : Least filled prices M done m) where
  -- one step back from a marked state t: where the step's mark is below m, s is marked and costs at most the step more
  pub back : (r s t : ℕ) → s < k → t < k → T (leads r s t) → 1 ≤ M.mark t → M.mark t + step_cost prices r < m
      → (1 ≤ M.mark s) × (M.mark s ≤ M.mark t + step_cost prices r)
  back r s t ls lt h y c = go (S.order.placed t lt y)
    where
      go : (i : ℕ) × (i < M.count) × (M.at i ≡ t) → (1 ≤ M.mark s) × (M.mark s ≤ M.mark t + step_cost prices r)
      go (i, l, e) = by_cases (dec_lt i (done r))
          (λ d. subst (λ (x : ℕ). (1 ≤ M.mark s) × (M.mark s ≤ M.mark x + step_cost prices r)) e
          (D r i s d ls (subst (λ (x : ℕ). T (leads r s x)) (sym e) h)))
          (λ d.
          let q : m
          ≤ M.mark t + step_cost prices r =
          subst (λ (x : ℕ). m ≤ M.mark x + step_cost prices r) e (L r i (used r s t h) (omega arith) l) in
          absurd (omega arith))

  -- a marked state has fewer steps than a credit weighs
  steps-below : (s : ℕ) → s < k → 1 ≤ M.mark s → (M.mark s - 1) % CREDIT < 65_536
  steps-below s l y = go (S.order.placed s l y)
    where
      go : (i : ℕ) × (i < M.count) × (M.at i ≡ s) → (M.mark s - 1) % CREDIT < 65_536
      go (i, h, e) =
          let q : (M.mark s - 1) % CREDIT ≤ i = subst (λ (x : ℕ). (M.mark x - 1) % CREDIT ≤ i) e (S.steps i h) in
          let c = S.order.counted in
          let f = S.order.few in
          omega arith

  -- a state with a run that costs less than m has a mark, and it says at most what the run costs
  pub cost-marked : (s : ℕ) (l : List PricedStep) → T (mixed_into k leads B s l) → cost prices l + 1 < m
      → (1 ≤ M.mark s) × (M.mark s ≤ cost prices l + 1)
  cost-marked s [] t c =
      let w = and_out (ltb s k) _ t in
      let e = G s (ltb→lt s k w.0) w.1 in
      (omega arith, omega arith)
  cost-marked s (p ∷ l) t c = go (cost-marked p.state l v.1 (omega arith))
    where
      w : T (ltb s k) × T (leads p.relation s p.state && mixed_into k leads B p.state l)
      w = and_out (ltb s k) _ t

      v : T (leads p.relation s p.state) × T (mixed_into k leads B p.state l)
      v = and_out (leads p.relation s p.state) _ w.1

      go : (1 ≤ M.mark p.state) × (M.mark p.state ≤ cost prices l + 1)
          → (1 ≤ M.mark s) × (M.mark s ≤ step_cost prices p.relation + cost prices l + 1)
      go (y, h) =
          let b = back p.relation s p.state (ltb→lt s k w.0) (run-below k leads B p.state l v.1) v.0 y (omega arith) in
          (b.0, let u = b.1 in omega arith)

  -- the same of credits alone: a state with a run of so many credits costs no more credits, whatever its steps
  pub total-marked : (s : ℕ) (l : List PricedStep) → T (mixed_into k leads B s l) → (total prices l + 1) * CREDIT < m
      → (1 ≤ M.mark s) × ((M.mark s - 1) / CREDIT ≤ total prices l)
  total-marked s [] t c =
      let w = and_out (ltb s k) _ t in
      let e = G s (ltb→lt s k w.0) w.1 in
      (omega arith, omega arith)
  total-marked s (p ∷ l) t c = go (total-marked p.state l v.1 (omega arith))
    where
      w : T (ltb s k) × T (leads p.relation s p.state && mixed_into k leads B p.state l)
      w = and_out (ltb s k) _ t

      v : T (leads p.relation s p.state) × T (mixed_into k leads B p.state l)
      v = and_out (leads p.relation s p.state) _ w.1

      below : p.state < k
      below = run-below k leads B p.state l v.1

      go : (1 ≤ M.mark p.state) × ((M.mark p.state - 1) / CREDIT ≤ total prices l)
          → (1 ≤ M.mark s) × ((M.mark s - 1) / CREDIT ≤ price_of prices p.relation + total prices l)
      go (y, h) =
          let few = steps-below p.state below y in
          let b = back p.relation s p.state (ltb→lt s k w.0) below v.0 y (omega arith) in
          (b.0, let u = b.1 in omega arith)
