-- The enumerated runs are exactly those that count; until in plain words. Assumes nothing.
use mathlib.Core.Path.{◌≡◌, refl, sym, ap, ap₂, subst}
use mathlib.Core.Logic.{◌⊎◌, inl, inr, ◌↔◌}
use mathlib.Core.Bool.{Bool, true, false, not, ◌&&◌, ◌||◌, cond}
use mathlib.Core.List.Memᴰ
use mathlib.Core.List.{List, [], ◌∷◌, ◌++◌, map, Memᴰ}
use Prim.Native.Nat.{ℕ, zero, suc, ◌<◌}
use native.Mathlib.Omega.{arith}
use native.Mathlib.Nat.{suc-ne-zero, not-suc-le-zero, le_of_suc-le-suc}
use lib.Dec.{T, ltb, eqb, ltb→lt, lt→ltb, eqb→eq, eqb-suc-suc, leb-suc-suc}
use lib.ListN.{length}
use Rattle.mucalculus.specs.Sets.{mem, table, any, keep}
use Rattle.mucalculus.proofs.Sets.{and_in, and_out, or_right, or_out, all_in, all_out, any_in, any_out, keep_in, keep_out, map-mem}
use Rattle.mucalculus.proofs.Sets.{true_of}
use Rattle.mucalculus.specs.Form.{Pairs}
use Rattle.mucalculus.specs.Runs.{pair, stuck, is_run, end_of, counts, passes, nexts, gather, walks, until_set}
use Rattle.mucalculus.proofs.Laws.{get_or-table, table_out}

-- ---- members

module _ {X : Type 0} where
  append_out : (l m : List X) {x : X} → Memᴰ x (l ++ m) → Memᴰ x l ⊎ Memᴰ x m
  append_out [] m h = inr h
  append_out (y ∷ l) m (Memᴰ.head e) = inl (Memᴰ.head e)
  append_out (y ∷ l) m (Memᴰ.tail h) = go (append_out l m h)
    where
      go : {x : X} → Memᴰ x l ⊎ Memᴰ x m → Memᴰ x (y ∷ l) ⊎ Memᴰ x m
      go (inl i) = inl (Memᴰ.tail i)
      go (inr i) = inr i

module _ {X Y : Type 0} where
  map_out : (f : X → Y) (l : List X) {y : Y} → Memᴰ y (map f l) → (x : X) × Memᴰ x l × (y ≡ f x)
  map_out f [] h = absurd (Memᴰ.not-nil h)
  map_out f (x ∷ l) (Memᴰ.head e) = (x, Memᴰ.head refl, e)
  map_out f (x ∷ l) (Memᴰ.tail h) = let w = map_out f l h in (w.0, Memᴰ.tail w.1, w.2)

  gather_in : (h : X → List Y) {x : X} {l : List X} {y : Y} → Memᴰ x l → Memᴰ y (h x) → Memᴰ y (gather h l)
  gather_in h {y = y} (Memᴰ.head {x = z} {xs = l} e) i = Memᴰ.append_left _ (subst (λ (w : X). Memᴰ y (h w)) e i)
  gather_in h (Memᴰ.tail {x = z} {xs = l} m) i = Memᴰ.append_right (h z) (gather_in h m i)

module _ {X Y : Type 0} (h : X → List Y) where
  gather_out : (l : List X) {y : Y} → Memᴰ y (gather h l) → (x : X) × Memᴰ x l × Memᴰ y (h x)
  gather_out [] i = absurd (Memᴰ.not-nil i)
  gather_out (x ∷ l) {y} i = go (gather_out l) (append_out (h x) (gather h l) i)
    where
      go : (Memᴰ y (gather h l) → (z : X) × Memᴰ z l × Memᴰ y (h z)) → Memᴰ y (h x) ⊎ Memᴰ y (gather h l)
          → (z : X) × Memᴰ z (x ∷ l) × Memᴰ y (h z)
      go below (inl m) = (x, Memᴰ.head refl, m)
      go below (inr m) = let w = below m in (w.0, Memᴰ.tail w.1, w.2)

keep-mem : {X : Type 0} (q : X → Bool) {x : X} (l : List X) → Memᴰ x (keep q l) → Memᴰ x l
keep-mem q [] m = m
keep-mem {X} q {x} (y ∷ l) m = go (q y) (keep-mem q l) m
  where
    go : (b : Bool) → (Memᴰ x (keep q l) → Memᴰ x l) → Memᴰ x (cond b (y ∷ keep q l) (keep q l)) → Memᴰ x (y ∷ l)
    go true below (Memᴰ.head e) = Memᴰ.head e
    go true below (Memᴰ.tail n) = Memᴰ.tail (below n)
    go false below n = Memᴰ.tail (below n)

table_in : {X : Type 0} (k : ℕ) (h : ℕ → X) (i : ℕ) → i < k → Memᴰ (h i) (table k h)
table_in zero h i l = absurd (not-suc-le-zero l)
table_in (suc k) h zero l = Memᴰ.head refl
table_in (suc k) h (suc i) l = Memᴰ.tail (table_in k (λ j. h (suc j)) i (le_of_suc-le-suc l))

module _ (k : ℕ) (R : Pairs) where
  next_in_lem : (s t : ℕ) → T (ltb t k && pair R s t) → Memᴰ t (nexts k R s)
  next_in_lem s t h = let w = and_out (ltb t k) (pair R s t) h in keep_in (λ u. pair R s u) (table_in k (λ u. u) t (ltb→lt t k w.0)) w.1

  next_out : (s t : ℕ) → Memᴰ t (nexts k R s) → T (ltb t k && pair R s t)
  next_out s t m =
      and_in (ltb t k) (pair R s t)
      (lt→ltb t k (table_out k (λ u. u) (λ u. u < k) (λ i l. l) t (keep-mem (λ u. pair R s u) (table k (λ u. u)) m)))
      (keep_out (λ u. pair R s u) (table k (λ u. u)) m)

  next-goes : (s t : ℕ) → Memᴰ t (nexts k R s) → stuck k R s ≡ false
  next-goes s t m =
      ap not (true_of (any (λ u. pair R s u) (table k (λ u. u)))
      (any_in (λ u. pair R s u) (keep-mem (λ u. pair R s u) (table k (λ u. u)) m) (keep_out (λ u. pair R s u) (table k (λ u. u)) m)))

  -- of j steps, or fewer and at an end
  abbrev long : ℕ → ℕ → List ℕ → Bool
  long j s l = eqb (length l) j || (ltb (length l) j && stuck k R (end_of s l))

  long-suc : (j s t : ℕ) (l : List ℕ) → long (suc j) s (t ∷ l) ≡ long j t l
  long-suc j s t l = ap₂ (λ (a c : Bool). a || (c && stuck k R (end_of t l))) (eqb-suc-suc (length l) j) (leb-suc-suc (suc (length l)) j)

  long-none : (j s : ℕ) → T (long (suc j) s []) → T (stuck k R s)
  long-none j s h = go (or_out (eqb 0 (suc j)) (ltb 0 (suc j) && stuck k R s) h)
    where
      go : T (eqb 0 (suc j)) ⊎ T (ltb 0 (suc j) && stuck k R s) → T (stuck k R s)
      go (inl e) = absurd (suc-ne-zero j (sym (eqb→eq 0 (suc j) e)))
      go (inr p) = (and_out (ltb 0 (suc j)) (stuck k R s) p).1

  long-zero : (s t : ℕ) (l : List ℕ) → T (long zero s (t ∷ l)) → ⊥
  long-zero s t l h = go (or_out (eqb (suc (length l)) 0) (ltb (suc (length l)) 0 && stuck k R (end_of t l)) h)
    where
      go : T (eqb (suc (length l)) 0) ⊎ T (ltb (suc (length l)) 0 && stuck k R (end_of t l)) → ⊥
      go (inl e) = suc-ne-zero (length l) (eqb→eq (suc (length l)) 0 e)
      go (inr p) = let q = ltb→lt (suc (length l)) 0 (and_out (ltb (suc (length l)) 0) _ p).0 in omega arith

  walks_in : (j s : ℕ) (l : List ℕ) → T (is_run k R s l) → T (long j s l) → Memᴰ l (walks k R j s)
  walks_in zero s [] r h = Memᴰ.head refl
  walks_in zero s (t ∷ l) r h = absurd (long-zero s t l h)
  walks_in (suc j) s [] r h = go (stuck k R s) (long-none j s h)
    where
      go : (c : Bool) → T c → Memᴰ [] (cond c ([] ∷ []) (gather (λ t. map (λ l. t ∷ l) (walks k R j t)) (nexts k R s)))
      go true t = Memᴰ.head refl
      go false t = absurd t
  walks_in (suc j) s (t ∷ l) r h =
      let w = and_out (ltb t k && pair R s t) (is_run k R t l) r in
      let n = next_in_lem s t w.0 in
      go (stuck k R s) (next-goes s t n)
      (gather_in (λ u. map (λ m. u ∷ m) (walks k R j u)) n
      (map-mem (λ (m : List ℕ). t ∷ m) (walks_in j t l w.1 (subst T (long-suc j s t l) h))))
    where
      go : (c : Bool) → c ≡ false → Memᴰ (t ∷ l) (gather (λ u. map (λ m. u ∷ m) (walks k R j u)) (nexts k R s))
          → Memᴰ (t ∷ l) (cond c ([] ∷ []) (gather (λ u. map (λ m. u ∷ m) (walks k R j u)) (nexts k R s)))
      go true e m = absurd (subst T e tt)
      go false e m = m

  walks_out : (j s : ℕ) (l : List ℕ) → Memᴰ l (walks k R j s) → T (is_run k R s l) × T (long j s l)
  walks_out zero s l (Memᴰ.head e) = subst (λ (m : List ℕ). T (is_run k R s m) × T (long zero s m)) (sym e) (tt, tt)
  walks_out zero s l (Memᴰ.tail m) = absurd (Memᴰ.not-nil m)
  walks_out (suc j) s l m = go (walks_out j) (stuck k R s) refl m
    where
      ended : stuck k R s ≡ true → T (long (suc j) s [])
      ended e = or_right (eqb 0 (suc j)) _ (and_in (ltb 0 (suc j)) (stuck k R s) (lt→ltb 0 (suc j) (omega arith)) (subst T (sym e) tt))

      go : ((t : ℕ) (m : List ℕ) → Memᴰ m (walks k R j t) → T (is_run k R t m) × T (long j t m)) → (c : Bool) → stuck k R s ≡ c
          → Memᴰ l (cond c ([] ∷ []) (gather (λ u. map (λ m. u ∷ m) (walks k R j u)) (nexts k R s)))
          → T (is_run k R s l) × T (long (suc j) s l)
      go below true e (Memᴰ.head i) = subst (λ (m : List ℕ). T (is_run k R s m) × T (long (suc j) s m)) (sym i) (tt, ended e)
      go below true e (Memᴰ.tail i) = absurd (Memᴰ.not-nil i)
      go below false e i =
          let w = gather_out (λ u. map (λ m. u ∷ m) (walks k R j u)) (nexts k R s) i in
          let v = map_out (λ m. w.0 ∷ m) (walks k R j w.0) w.2 in
          let o = below w.0 v.0 v.1 in
          subst (λ (m : List ℕ). T (is_run k R s m) × T (long (suc j) s m)) (sym v.2) (
            and_in (ltb w.0 k && pair R s w.0) (is_run k R w.0 v.0) (next_out s w.0 w.1) o.0,
            subst T (sym (long-suc j s w.0 v.0)) o.1,
          )

  -- the enumerated runs are those that count
  pub walks-counts : (s : ℕ) (l : List ℕ) → Memᴰ l (walks k R k s) ↔ T (counts k R s l)
  walks-counts s l = (
    λ m. let w = walks_out k s l m in and_in (is_run k R s l) (long k s l) w.0 w.1,
    λ t. let w = and_out (is_run k R s l) (long k s l) t in walks_in k s l w.0 w.1,
  )

  module _ (F G : List Bool) (s : ℕ) (h : s < k) where
    -- 90: some run of the relation counts and passes
    pub until-some : T (mem (until_set true k R F G) s) ↔ ((l : List ℕ) × T (counts k R s l) × T (passes F G (s ∷ l)))
    until-some = (
      λ t. let w = any_out (λ l. passes F G (s ∷ l)) (walks k R k s) (subst T (get_or-table k _ s false h) t) in
          (w.0, (walks-counts s w.0).0 w.1, w.2),
      λ w. subst T (sym (get_or-table k _ s false h)) (any_in (λ l. passes F G (s ∷ l)) ((walks-counts s w.0).1 w.1) w.2),
    )

    -- 98: every run of the relation that counts passes
    pub until-every : T (mem (until_set false k R F G) s) ↔ ((l : List ℕ) → T (counts k R s l) → T (passes F G (s ∷ l)))
    until-every = (
      λ t l c. all_out (λ l. passes F G (s ∷ l)) ((walks-counts s l).1 c) (subst T (get_or-table k _ s false h) t),
      λ f. subst T (sym (get_or-table k _ s false h)) (all_in (λ l. passes F G (s ∷ l)) (walks k R k s) (λ l m. f l ((walks-counts s l).0 m))),
    )
