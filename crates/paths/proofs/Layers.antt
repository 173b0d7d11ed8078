-- Layer j is the states with a run into B of at most j steps; a layer that no longer grows is the last one. Assumes nothing.
use mathlib.Core.Path.{◌≡◌, sym, ap, ◌∙◌, subst}
use mathlib.Core.Logic.{◌⊎◌, inl, inr}
use mathlib.Core.Bool.{Bool, true, ◌&&◌, ◌||◌}
use mathlib.Core.List.{List, [], ◌∷◌}
use Prim.Native.Nat.{ℕ, zero, suc, ◌+◌, ◌≤◌, ◌<◌, zero-le, suc-le-suc}
use native.Mathlib.Nat.{lt_of_not-le}
use native.Mathlib.Decide.{dec_le}
use native.Mathlib.Omega.{arith}
use lib.Dec.{T, ltb, ltb→lt, lt→ltb}
use lib.ListN.{length}
use Rattle.mucalculus.specs.Sets.{mem, table, any, same}
use Rattle.mucalculus.proofs.Sets.{mem-lt, mem-table, length-table, any_in, any_out, and_in, and_out, or_left, or_right, or_out, same-eq}
use Rattle.mucalculus.proofs.Sets.{same_refl}
use Rattle.mucalculus.specs.Order.{Below, weight}
use Rattle.mucalculus.proofs.Order.{weight-le, rise}
use Rattle.mucalculus.specs.Form.{Pairs}
use Rattle.mucalculus.specs.Means.{pair, union, sometimes}
use Rattle.mucalculus.proofs.Laws.{table_out}
use Rattle.book.proofs.Diamond.{table_in}
use Rattle.paths.specs.Runs.{runs_into, is_run, layer, common, meets, still, last_layer}
use Rattle.paths.proofs.First.{first_found, first-least, Onto}

-- a run's first state is below k
pub run-lt : (k : ℕ) (R : Pairs) (B : List Bool) (s : ℕ) (l : List ℕ) → T (runs_into k R B s l) → s < k
run-lt k R B s [] t = ltb→lt s k (and_out (ltb s k) _ t).0
run-lt k R B s (u ∷ l) t = ltb→lt s k (and_out (ltb s k) _ t).0

-- a state has a next state in L
pub next_in_lem : (k : ℕ) (R : Pairs) (L : List Bool) (s t : ℕ) → s < k → Onto k R L s t → T (mem (sometimes k R L) s)
next_in_lem k R L s t l o =
    let h : ℕ → Bool = λ s. any (λ t. pair R s t && mem L t) (table k (λ t. t)) in
    subst T (sym (mem-table k h s))
    (and_in (ltb s k) _ (lt→ltb s k l)
    (any_in (λ t. pair R s t && mem L t) (table_in k (λ t. t) t o.state) (and_in (pair R s t) _ o.next o.inside)))

pub next_out : (k : ℕ) (R : Pairs) (L : List Bool) (s : ℕ) → T (mem (sometimes k R L) s) → (t : ℕ) × Onto k R L s t
next_out k R L s x =
    let h : ℕ → Bool = λ s. any (λ t. pair R s t && mem L t) (table k (λ t. t)) in
    let w = any_out (λ t. pair R s t && mem L t) (table k (λ t. t)) (and_out (ltb s k) _ (subst T (mem-table k h s) x)).1 in
    let b = and_out (pair R s w.0) (mem L w.0) w.2 in
    (w.0, record { state = table_out k (λ t. t) (λ t. t < k) (λ t l. l) w.0 w.1; next = b.0; inside = b.1 })

module _ (k : ℕ) (R : Pairs) (B : List Bool) where
  -- what is in layer j + 1: B, and what has a next state in layer j
  pub layer-suc : (j s : ℕ) → T (mem (layer k R B (suc j)) s) → T (mem B s) ⊎ ((t : ℕ) × Onto k R (layer k R B j) s t)
  layer-suc j s p =
      go (or_out (mem B s) (mem (sometimes k R L) s)
      (and_out (ltb s k) _ (subst T (mem-table k (λ s. mem B s || mem (sometimes k R L) s) s) p)).1)
    where
      L : List Bool
      L = layer k R B j

      go : T (mem B s) ⊎ T (mem (sometimes k R L) s) → T (mem B s) ⊎ ((t : ℕ) × Onto k R L s t)
      go (inl t) = inl t
      go (inr t) = inr (next_out k R L s t)

  suc-layer : (j s : ℕ) → s < k → T (mem B s || mem (sometimes k R (layer k R B j)) s) → T (mem (layer k R B (suc j)) s)
  suc-layer j s l t =
      subst T (sym (mem-table k (λ s. mem B s || mem (sometimes k R (layer k R B j)) s) s)) (and_in (ltb s k) _ (lt→ltb s k l) t)

  pub layer-here : (j s : ℕ) → s < k → T (mem B s) → T (mem (layer k R B j) s)
  layer-here zero s l t = t
  layer-here (suc j) s l t = suc-layer j s l (or_left (mem B s) _ t)

  pub layer-step : (j s t : ℕ) → s < k → Onto k R (layer k R B j) s t → T (mem (layer k R B (suc j)) s)
  layer-step j s t l o = suc-layer j s l (or_right (mem B s) _ (next_in_lem k R (layer k R B j) s t l o))

  -- a state of layer j has a run into B of at most j steps
  pub layer_out : (j s : ℕ) → s < k → T (mem (layer k R B j) s) → (l : List ℕ) × (length l ≤ j) × T (runs_into k R B s l)
  layer_out zero s l t = ([], omega arith, and_in (ltb s k) _ (lt→ltb s k l) t)
  layer_out (suc j) s l t = go (layer-suc j s t) (λ u i p. layer_out j u i p)
    where
      go : T (mem B s) ⊎ ((t : ℕ) × Onto k R (layer k R B j) s t)
          → ((u : ℕ) → u < k → T (mem (layer k R B j) u) → (l : List ℕ) × (length l ≤ j) × T (runs_into k R B u l))
          → (l : List ℕ) × (length l ≤ suc j) × T (runs_into k R B s l)
      go (inl b) below = ([], omega arith, and_in (ltb s k) _ (lt→ltb s k l) b)
      go (inr (u, o)) below =
          let w = below u o.state o.inside in
          (u ∷ w.0, suc-le-suc w.1, and_in (ltb s k) _ (lt→ltb s k l) (and_in (pair R s u) _ o.next w.2))

  -- and a state with such a run is in layer j
  pub layer_in : (j s : ℕ) (l : List ℕ) → length l ≤ j → T (runs_into k R B s l) → T (mem (layer k R B j) s)
  layer_in j s [] i t = let w = and_out (ltb s k) _ t in layer-here j s (ltb→lt s k w.0) w.1
  layer_in zero s (u ∷ l) i t = absurd (omega arith)
  layer_in (suc j) s (u ∷ l) i t =
      let w = and_out (ltb s k) _ t in
      let v = and_out (pair R s u) _ w.1 in
      layer-step j s u (ltb→lt s k w.0)
      (record { state = run-lt k R B u l v.1; next = v.0; inside = layer_in j u l (omega arith) v.1 })

  pub layer_grows : (i j s : ℕ) → i ≤ j → s < k → T (mem (layer k R B i) s) → T (mem (layer k R B j) s)
  layer_grows i j s h l t = let w = layer_out i s l t in layer_in j s w.0 (omega (arith, w.1)) w.2

  -- once it does not grow, it never does
  pub layer-rests : (i j : ℕ) → layer k R B (suc j) ≡ layer k R B j → layer k R B (i + j) ≡ layer k R B j
  layer-rests zero j e = let z : 0 + j ≡ j = omega arith in ap (layer k R B) z
  layer-rests (suc i) j e = ap (layer k R B) (next i) ∙ ap (λ (L : List Bool). union k B (sometimes k R L)) (layer-rests i j e) ∙ e
    where
      next : (i : ℕ) → suc i + j ≡ suc (i + j)
      next i = omega arith

  module _ (size : length B ≡ k) where
    layer-size : (j : ℕ) → length (layer k R B j) ≡ k
    layer-size zero = size
    layer-size (suc j) = length-table k _

    climbs : (j : ℕ) → Below (layer k R B j) (layer k R B (suc j))
    climbs j s t = layer_grows j (suc j) s (omega arith) (subst (λ (n : ℕ). s < n) (layer-size j) (mem-lt (layer k R B j) s t)) t

    -- some layer up to k + 1 is the one before
    rests : (j : ℕ) → ((i : ℕ) × (i ≤ j) × T (still k R B i)) ⊎ (j ≤ weight true (layer k R B j))
    rests zero = inr zero-le
    rests (suc j) = go (rests j) (rise true (layer k R B j) (layer k R B (suc j)) (layer-size j ∙ sym (layer-size (suc j))) (climbs j))
      where
        go : ((i : ℕ) × (i ≤ j) × T (still k R B i)) ⊎ (j ≤ weight true (layer k R B j))
            → (layer k R B j ≡ layer k R B (suc j)) ⊎ (weight true (layer k R B j) < weight true (layer k R B (suc j)))
            → ((i : ℕ) × (i ≤ suc j) × T (still k R B i)) ⊎ (suc j ≤ weight true (layer k R B (suc j)))
        go (inl (i, l, t)) o = inl (i, omega arith, t)
        go (inr h) (inl e) =
            inl (suc j, omega arith, subst (λ (L : List Bool). T (same (layer k R B (suc j)) L)) (sym e) (same_refl (layer k R B (suc j))))
        go (inr h) (inr l) = inr (omega arith)

    some-rests : (i : ℕ) × (i < suc (suc k)) × T (still k R B i)
    some-rests = go (rests (suc k))
      where
        go : ((i : ℕ) × (i ≤ suc k) × T (still k R B i)) ⊎ (suc k ≤ weight true (layer k R B (suc k)))
            → (i : ℕ) × (i < suc (suc k)) × T (still k R B i)
        go (inl (i, l, t)) = (i, omega arith, t)
        go (inr l) = absurd (omega (arith, weight-le true (layer k R B (suc k)), layer-size (suc k)))

-- ---- sets that share a state

pub meets_in : (k : ℕ) (A L : List Bool) (s : ℕ) → s < k → T (mem A s) → T (mem L s) → T (meets k A L)
meets_in k A L s l a b =
    let h = first-least k (λ s. mem A s && mem L s) s l (and_in (mem A s) _ a b) in lt→ltb (common k A L) k (omega arith)

pub meets_out : (k : ℕ) (A L : List Bool) → T (meets k A L) → (common k A L < k) × T (mem A (common k A L)) × T (mem L (common k A L))
meets_out k A L t =
    let l = ltb→lt (common k A L) k t in
    let w = and_out (mem A (common k A L)) _ (first_found k (λ s. mem A s && mem L s) l) in
    (l, w.0, w.1)

-- ---- the last layer

module _ (k : ℕ) (R : Pairs) (A B : List Bool) where
  abbrev pub last : ℕ
  last = last_layer k R A B

  -- before it no layer meets A
  pub last-least : (j : ℕ) → T (meets k A (layer k R B j)) → j < suc (suc k) → last ≤ j
  last-least j t l =
      first-least (suc (suc k)) (λ j. meets k A (layer k R B j) || still k R B j) j l (or_left (meets k A (layer k R B j)) _ t)

  module _ (size : length B ≡ k) where
    pub last-lt : last < suc (suc k)
    last-lt =
        let w = some-rests k R B size in
        let h = first-least (suc (suc k)) (λ j. meets k A (layer k R B j) || still k R B j) w.0 w.1
        (or_right (meets k A (layer k R B w.0)) _ w.2) in
        omega (arith, h, w.1)

    ends : T (meets k A (layer k R B last)) ⊎ T (still k R B last)
    ends = or_out (meets k A (layer k R B last)) _ (first_found (suc (suc k)) (λ j. meets k A (layer k R B j) || still k R B j) last-lt)

    -- a run exists exactly where the last layer meets A
    pub run-meets : (l : List ℕ) → T (is_run k R A B l) → T (meets k A (layer k R B last))
    run-meets [] t = absurd t
    run-meets (s ∷ l) t = go ends
      where
        a : T (mem A s)
        a = (and_out (mem A s) _ t).0

        r : T (runs_into k R B s l)
        r = (and_out (mem A s) _ t).1

        rest : (d : ℕ) → T (still k R B d) → T (mem (layer k R B d) s)
        rest zero u = absurd u
        rest (suc j) u =
            let e = same-eq (layer k R B (suc j)) (layer k R B j) u in
            let g = layer_in k R B (length l + j) s l (omega arith) r in
            subst (λ (L : List Bool). T (mem L s)) (layer-rests k R B (length l) j e ∙ sym e) g

        go : T (meets k A (layer k R B last)) ⊎ T (still k R B last) → T (meets k A (layer k R B last))
        go (inl m) = m
        go (inr u) = meets_in k A (layer k R B last) s (run-lt k R B s l r) a (rest last u)

    -- and no run is shorter
    pub last-shortest : (l : List ℕ) → T (is_run k R A B l) → suc last ≤ length l
    last-shortest [] t = absurd t
    last-shortest (s ∷ l) t = go (dec_le (suc (suc k)) (length l))
      where
        a : T (mem A s)
        a = (and_out (mem A s) _ t).0

        r : T (runs_into k R B s l)
        r = (and_out (mem A s) _ t).1

        m : T (meets k A (layer k R B (length l)))
        m = meets_in k A (layer k R B (length l)) s (run-lt k R B s l r) a (layer_in k R B (length l) s l (omega arith) r)

        go : Dec (suc (suc k) ≤ length l) → suc last ≤ suc (length l)
        go (yes h) = let b = last-lt in omega arith
        go (no h) = let b = last-least (length l) m (lt_of_not-le h) in omega arith
