-- The run that is written is one from A into B; none has fewer states, and of those with as many it is the least at each place.
-- Assumes nothing.
use mathlib.Core.Path.{◌≡◌, refl, sym, ap, ap₂, ◌∙◌, subst}
use mathlib.Core.Bool.{Bool, ◌&&◌}
use mathlib.Core.List.{List, [], ◌∷◌}
use Prim.Native.Nat.{ℕ, zero, suc, ◌≤◌, ◌<◌}
use native.Mathlib.Nat.{suc_inj, suc-ne-zero}
use native.Mathlib.Omega.{arith}
use lib.Dec.{T, ltb, lt→ltb}
use lib.ListN.{length}
use Rattle.mucalculus.specs.Sets.{mem}
use Rattle.mucalculus.proofs.Sets.{and_in, and_out}
use Rattle.mucalculus.specs.Form.{Pairs}
use Rattle.mucalculus.specs.Means.{pair}
use Rattle.paths.specs.Runs.{runs_into, is_run, Least, Shortest, layer, common, meets, last_layer, toward, onward, route}
use Rattle.paths.proofs.First.{first-least, Onto, toward-least, toward-is}
use Rattle.paths.proofs.Layers.{run-lt, layer_out, layer_in, meets_out, last-shortest}

module _ (k : ℕ) (R : Pairs) (B : List Bool) where
  -- the next state that is taken from s towards layer d
  abbrev pub towards : ℕ → ℕ → ℕ
  towards d s = toward k R (layer k R B d) s

  -- no run from s into B has fewer than d steps
  abbrev Far : ℕ → ℕ → Type 0
  Far d s = (l : List ℕ) → T (runs_into k R B s l) → d ≤ length l

  nearer_of : (d s : ℕ) (l : List ℕ) → length l ≤ suc d → suc d ≤ length l → T (runs_into k R B s l)
      → (t : ℕ) × Onto k R (layer k R B d) s t
  nearer_of d s [] a b r = absurd (omega arith)
  nearer_of d s (t ∷ l) a b r =
      let w = and_out (pair R s t) _ (and_out (ltb s k) _ r).1 in
      (t, record { state = run-lt k R B t l w.1; next = w.0; inside = layer_in k R B d t l (omega arith) w.1 })

  far_next : (d s t : ℕ) → s < k → T (pair R s t) → Far (suc d) s → Far d t
  far_next d s t l p f m r = let h = f (t ∷ m) (and_in (ltb s k) _ (lt→ltb s k l) (and_in (pair R s t) _ p r)) in omega arith

  -- a state of layer d + 1 that is no nearer has a next state in layer d
  pub nearer : (d s : ℕ) → s < k → T (mem (layer k R B (suc d)) s) → Far (suc d) s → Onto k R (layer k R B d) s (towards d s)
  nearer d s l t f =
      let w = layer_out k R B (suc d) s l t in
      let v = nearer_of d s w.0 w.1 (f w.0 w.2) w.2 in
      toward-is v.1

  pub onward-runs : (d s : ℕ) → s < k → T (mem (layer k R B d) s) → Far d s → T (runs_into k R B s (onward k R B d s))
  onward-runs zero s l t f = and_in (ltb s k) _ (lt→ltb s k l) t
  onward-runs (suc d) s l t f =
      let w = nearer d s l t f in
      and_in (ltb s k) _ (lt→ltb s k l)
      (and_in (pair R s (towards d s)) _ w.next
      (onward-runs d (towards d s) w.state w.inside (far_next d s (towards d s) l w.next f)))

  pub onward-length : (d s : ℕ) → length (onward k R B d s) ≡ d
  onward-length zero s = refl
  onward-length (suc d) s = ap suc (onward-length d (towards d s))

  pub onward-least : (d s : ℕ) (m : List ℕ) → T (runs_into k R B s m) → length m ≡ d → Least (onward k R B d s) m
  onward-least zero s m r e = tt
  onward-least (suc d) s [] r e = tt
  onward-least (suc d) s (t ∷ m) r e =
      let w = and_out (pair R s t) _ (and_out (ltb s k) _ r).1 in
      let o : Onto k R (layer k R B d) s t = record {
        state = run-lt k R B t m w.1;
        next = w.0;
        inside = layer_in k R B d t m (omega arith) w.1;
      } in (
        toward-least o,
        λ q. onward-least d (towards d s) m (subst (λ (x : ℕ). T (runs_into k R B x m)) (sym q) w.1) (suc_inj e),
      )

module _ (k : ℕ) (R : Pairs) (A B : List Bool) where
  pub route-length : (d : ℕ) → length (route k R A B d) ≡ suc d
  route-length d = ap suc (onward-length k R B d (common k A (layer k R B d)))

  module _ (size : length B ≡ k) (m : T (meets k A (layer k R B (last_layer k R A B)))) where
    abbrev d : ℕ
    d = last_layer k R A B

    abbrev s : ℕ
    s = common k A (layer k R B d)

    c : (s < k) × T (mem A s) × T (mem (layer k R B d) s)
    c = meets_out k A (layer k R B d) m

    pub route-run : T (is_run k R A B (route k R A B d))
    route-run =
        and_in (mem A s) _ c.1
        (onward-runs k R B d s c.0 c.2
        (λ l r. let h = last-shortest k R A B size (s ∷ l) (and_in (mem A s) _ c.1 r) in omega arith))

    route-least : (l : List ℕ) → T (is_run k R A B l) → length l ≡ length (route k R A B d) → Least (route k R A B d) l
    route-least [] t e = tt
    route-least (u ∷ l) t e =
        let w = and_out (mem A u) _ t in
        let q : length l ≡ d = suc_inj (e ∙ route-length d) in
        let i = layer_in k R B d u l (omega arith) w.1 in (
          first-least k (λ s. mem A s && mem (layer k R B d) s) u (run-lt k R B u l w.1) (and_in (mem A u) _ w.0 i),
          λ p. onward-least k R B d s l (subst (λ (x : ℕ). T (runs_into k R B x l)) (sym p) w.1) q,
        )

    -- the run that is written is a shortest one, and the least of those
    pub route-shortest : Shortest k R A B (route k R A B d)
    route-shortest = record {
      run = route-run;
      fewest = λ l t. let h = last-shortest k R A B size l t in let e = route-length d in omega arith;
      least = route-least;
    }

-- of lists of one length only one is the least
pub least-same : (l m : List ℕ) → length l ≡ length m → Least l m → Least m l → l ≡ m
least-same [] [] e a b = refl
least-same [] (t ∷ m) e a b = absurd (suc-ne-zero (length m) (sym e))
least-same (s ∷ l) [] e a b = absurd (suc-ne-zero (length l) e)
least-same (s ∷ l) (t ∷ m) e a b =
    let q : s ≡ t = omega (arith, a.0, b.0) in
    ap₂ (λ (x : ℕ) (y : List ℕ). x ∷ y) q (least-same l m (suc_inj e) (a.1 q) (b.1 (sym q)))

-- there is only one run that is shortest and least at each place
pub shortest-only : {k : ℕ} {R : Pairs} {A B : List Bool} {l m : List ℕ} → Shortest k R A B l → Shortest k R A B m → l ≡ m
shortest-only {l = l} {m = m} p q =
    let a = p.fewest m q.run in
    let b = q.fewest l p.run in
    let e : length l ≡ length m = omega arith in
    least-same l m e (p.least m q.run (sym e)) (q.least l p.run e)
