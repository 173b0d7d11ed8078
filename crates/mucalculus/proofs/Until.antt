-- Laws of what specs/Until.antt defines. Assumes nothing.
use mathlib.Core.Path.{◌≡◌, refl, sym, ap, ap₂, ◌∙◌, subst, subst₂}
use mathlib.Core.Bool.{Bool, true, false, not, ◌&&◌, ◌||◌, cond}
use mathlib.Core.List.{List, [], ◌∷◌, ◌++◌, map, Memᴰ}
use Prim.Native.Nat.{ℕ, zero, suc, ◌<◌}
use lib.Dec.{T, T_not}
use lib.ListN.{length}
use Rattle.mucalculus.specs.Sets.{mem, table, no_states, all_states, all, any, keep}
use Rattle.mucalculus.proofs.Sets.{length-table, and_out, all_out, any_in, any_out, true_of, false_of}
use Rattle.mucalculus.specs.Order.{Below}
use Rattle.mucalculus.specs.Fixpoint.{least, Into}
use Rattle.mucalculus.proofs.Fixpoint.{iter, Mono, into-all, fix_iter, stable, fix_mono}
use Rattle.mucalculus.specs.Form.{Pairs}
use Rattle.mucalculus.specs.Runs.{pair, stuck, passes, before, nexts, gather, walks, over, until_set}
use Rattle.mucalculus.specs.Means.{inter, always, sometimes}
use Rattle.mucalculus.proofs.Laws.{get_or-table, table_ext, table_out}
use Rattle.mucalculus.proofs.Growth.{inter_mono, union_mono, sometimes_mono, always_mono}
use Rattle.mucalculus.specs.Until.{further, onward}

-- ---- quantifiers

and-true : (a : Bool) → (a && true) ≡ a
and-true true = refl
and-true false = refl

or-false : (a : Bool) → (a || false) ≡ a
or-false true = refl
or-false false = refl

and-false : (a : Bool) → (a && false) ≡ false
and-false true = refl
and-false false = refl

or_assoc : (a b c : Bool) → ((a || b) || c) ≡ (a || (b || c))
or_assoc true b c = refl
or_assoc false b c = refl

and_assoc : (a b c : Bool) → ((a && b) && c) ≡ (a && (b && c))
and_assoc true b c = refl
and_assoc false b c = refl

-- OR, or with `false` AND
abbrev mix : Bool → Bool → Bool → Bool
mix true a c = a || c
mix false a c = a && c

module _ {X : Type 0} where
  pub over-same : (b : Bool) (q r : X → Bool) (l : List X) → ((x : X) → Memᴰ x l → q x ≡ r x) → over b q l ≡ over b r l
  over-same true q r [] h = refl
  over-same false q r [] h = refl
  over-same true q r (x ∷ l) h = ap₂ ◌||◌ (h x (Memᴰ.head refl)) (over-same true q r l (λ y m. h y (Memᴰ.tail m)))
  over-same false q r (x ∷ l) h = ap₂ ◌&&◌ (h x (Memᴰ.head refl)) (over-same false q r l (λ y m. h y (Memᴰ.tail m)))

  over-append : (b : Bool) (q : X → Bool) (l m : List X) → over b q (l ++ m) ≡ mix b (over b q l) (over b q m)
  over-append true q [] m = refl
  over-append false q [] m = refl
  over-append true q (x ∷ l) m = ap (λ (c : Bool). q x || c) (over-append true q l m) ∙ sym (or_assoc (q x) (any q l) (any q m))
  over-append false q (x ∷ l) m = ap (λ (c : Bool). q x && c) (over-append false q l m) ∙ sym (and_assoc (q x) (all q l) (all q m))

  some-false : (l : List X) → any (λ x. false) l ≡ false
  some-false [] = refl
  some-false (x ∷ l) = some-false l

  every_true : (l : List X) → all (λ x. true) l ≡ true
  every_true [] = refl
  every_true (x ∷ l) = every_true l

  -- over a list that is not empty, what does not depend on the element comes out
  over-frame : (b a c : Bool) (q : X → Bool) (l : List X) → T (any (λ x. true) l)
      → over b (λ x. a || (c && q x)) l ≡ (a || (c && over b q l))
  over-frame b a c q [] t = absurd t
  over-frame true true c q (x ∷ l) t = refl
  over-frame false true c q (x ∷ l) t = every_true (x ∷ l)
  over-frame b false true q (x ∷ l) t = refl
  over-frame true false false q (x ∷ l) t = some-false (x ∷ l)
  over-frame false false false q (x ∷ l) t = refl

  some-keep : (p q : X → Bool) (l : List X) → any q (keep p l) ≡ any (λ x. p x && q x) l
  some-keep p q [] = refl
  some-keep p q (x ∷ l) = go (p x) (some-keep p q l)
    where
      go : (c : Bool) → any q (keep p l) ≡ any (λ x. p x && q x) l
          → any q (cond c (x ∷ keep p l) (keep p l)) ≡ (c && q x || any (λ x. p x && q x) l)
      go true e = ap (λ (d : Bool). q x || d) e
      go false e = e

  every-keep : (p q : X → Bool) (l : List X) → all q (keep p l) ≡ all (λ x. not (p x) || q x) l
  every-keep p q [] = refl
  every-keep p q (x ∷ l) = go (p x) (every-keep p q l)
    where
      go : (c : Bool) → all q (keep p l) ≡ all (λ x. not (p x) || q x) l
          → all q (cond c (x ∷ keep p l) (keep p l)) ≡ ((not c || q x) && all (λ x. not (p x) || q x) l)
      go true e = ap (λ (d : Bool). q x && d) e
      go false e = e

  -- of no element and of every one: then there is none
  none_both : (p : X → Bool) (l : List X) → (all (λ x. not (p x) || false) l && any (λ x. p x && true) l) ≡ false
  none_both p l = false_of _ (λ t.
      let w = and_out (all (λ x. not (p x) || false) l) (any (λ x. p x && true) l) t in
      let x = any_out (λ x. p x && true) l w.1 in
      clash (p x.0) (all_out (λ x. not (p x) || false) x.1 w.0) x.2)
    where
      clash : (c : Bool) → T (not c || false) → T (c && true) → ⊥
      clash true s t = s
      clash false s t = t

module _ {X Y : Type 0} where
  over-map : (b : Bool) (f : X → Y) (q : Y → Bool) (l : List X) → over b q (map f l) ≡ over b (λ x. q (f x)) l
  over-map true f q [] = refl
  over-map false f q [] = refl
  over-map true f q (x ∷ l) = ap (λ (c : Bool). q (f x) || c) (over-map true f q l)
  over-map false f q (x ∷ l) = ap (λ (c : Bool). q (f x) && c) (over-map false f q l)

  over-gather : (b : Bool) (h : X → List Y) (q : Y → Bool) (l : List X) → over b q (gather h l) ≡ over b (λ x. over b q (h x)) l
  over-gather true h q [] = refl
  over-gather false h q [] = refl
  over-gather true h q (x ∷ l) = over-append true q (h x) (gather h l) ∙ ap (λ (c : Bool). any q (h x) || c) (over-gather true h q l)
  over-gather false h q (x ∷ l) = over-append false q (h x) (gather h l) ∙ ap (λ (c : Bool). all q (h x) && c) (over-gather false h q l)

-- ---- one state more in front

passes-step : (F G : List Bool) (s : ℕ) (l : List ℕ) → passes F G (s ∷ l) ≡ (mem G s || (mem F s && passes F G l))
passes-step F G s l = go (mem G s) (any (λ t. mem G t) l)
  where
    turn : (a c d : Bool) → (a && (c && d)) ≡ (c && (a && d))
    turn true c d = refl
    turn false c d = sym (and-false c)

    go : (g a : Bool)
        → ((g || a) && all (λ t. mem F t) (cond g [] (s ∷ before G l))) ≡ (g || (mem F s && (a && all (λ t. mem F t) (before G l))))
    go true a = refl
    go false a = turn a (mem F s) (all (λ t. mem F t) (before G l))

module _ (k : ℕ) (R : Pairs) where
  abbrev states : List ℕ
  states = table k (λ t. t)

  -- what the next states of s have to do with X: one is in it, or with `false` every one is and there is one
  abbrev step : Bool → ℕ → (ℕ → Bool) → Bool
  step true s X = any (λ t. pair R s t && X t) states
  step false s X = all (λ t. not (pair R s t) || X t) states && any (λ t. pair R s t && true) states

  not_stuck : (s : ℕ) → stuck k R s ≡ false → T (any (λ t. pair R s t && true) states)
  not_stuck s e = go (any (λ t. pair R s t) states) refl e
    where
      go : (c : Bool) → any (λ t. pair R s t) states ≡ c → not c ≡ false → T (any (λ t. pair R s t && true) states)
      go true h i =
          subst T (sym h ∙ over-same true (λ t. pair R s t) (λ t. pair R s t && true) states (λ t m. sym (and-true (pair R s t)))) tt
      go false h i = absurd (subst T i tt)

  nexts-some : (s : ℕ) → stuck k R s ≡ false → T (any (λ t. true) (nexts k R s))
  nexts-some s e = subst T (sym (some-keep (λ t. pair R s t) (λ t. true) states)) (not_stuck s e)

  stuck-some : (s : ℕ) (X : ℕ → Bool) → stuck k R s ≡ true → T (any (λ t. pair R s t && X t) states) → ⊥
  stuck-some s X e t =
      let w = any_out (λ t. pair R s t && X t) states t in
      T_not (any (λ t. pair R s t) states) (subst T (sym e) tt)
      (any_in (λ t. pair R s t) w.1 (and_out (pair R s w.0) (X w.0) w.2).0)

  stuck-step : (b : Bool) (s : ℕ) (X : ℕ → Bool) → stuck k R s ≡ true → step b s X ≡ false
  stuck-step true s X e = false_of _ (stuck-some s X e)
  stuck-step false s X e = false_of _ (λ t. stuck-some s (λ t. true) e (and_out (all (λ t. not (pair R s t) || X t) states) _ t).1)

  nexts-step : (b : Bool) (s : ℕ) (X : ℕ → Bool) → stuck k R s ≡ false → over b X (nexts k R s) ≡ step b s X
  nexts-step true s X e = some-keep (λ t. pair R s t) X states
  nexts-step false s X e =
      every-keep (λ t. pair R s t) X states
      ∙ sym (and-true (all (λ t. not (pair R s t) || X t) states))
      ∙ ap (λ (c : Bool). all (λ t. not (pair R s t) || X t) states && c) (sym (true_of _ (not_stuck s e)))

  step-none : (b : Bool) (s : ℕ) → step b s (λ t. false) ≡ false
  step-none true s = over-same true (λ t. pair R s t && false) (λ t. false) states (λ t m. and-false (pair R s t)) ∙ some-false states
  step-none false s = none_both (λ t. pair R s t) states

  step-further : (b : Bool) (A : List Bool) (X : ℕ → Bool) (s : ℕ) → s < k → ((t : ℕ) → t < k → mem A t ≡ X t)
      → mem (further b k R A) s ≡ step b s X
  step-further true A X s l h =
      get_or-table k _ s false l
      ∙ over-same true (λ t. pair R s t && mem A t) (λ t. pair R s t && X t) states
      (table_out k (λ t. t) (λ t. (pair R s t && mem A t) ≡ (pair R s t && X t)) (λ t i. ap (λ (c : Bool). pair R s t && c) (h t i)))
  step-further false A X s l h =
      get_or-table k _ s false l
      ∙ ap₂ ◌&&◌
      (get_or-table k _ s false l
      ∙ over-same false (λ t. not (pair R s t) || mem A t) (λ t. not (pair R s t) || X t) states
      (table_out k (λ t. t) (λ t. (not (pair R s t) || mem A t) ≡ (not (pair R s t) || X t))
      (λ t i. ap (λ (c : Bool). not (pair R s t) || c) (h t i))))
      (get_or-table k _ s false l
      ∙ over-same true (λ t. pair R s t && mem (all_states k) t) (λ t. pair R s t && true) states
      (table_out k (λ t. t) (λ t. (pair R s t && mem (all_states k) t) ≡ (pair R s t && true))
      (λ t i. ap (λ (c : Bool). pair R s t && c) (get_or-table k (λ u. true) t false i))))

  -- each state has a run
  walks_some : (j s : ℕ) → T (any (λ l. true) (walks k R j s))
  walks_some zero s = tt
  walks_some (suc j) s = go (λ t. over-map true (λ l. t ∷ l) (λ l. true) (walks k R j t) ∙ true_of _ (walks_some j t)) (stuck k R s) refl
    where
      go : ((t : ℕ) → any (λ l. true) (map (λ l. t ∷ l) (walks k R j t)) ≡ true) → (c : Bool) → stuck k R s ≡ c
          → T (any (λ l. true) (cond c ([] ∷ []) (gather (λ t. map (λ l. t ∷ l) (walks k R j t)) (nexts k R s))))
      go each true e = tt
      go each false e =
          subst T
          (sym (over-gather true (λ t. map (λ l. t ∷ l) (walks k R j t)) (λ l. true) (nexts k R s)
          ∙ over-same true _ (λ t. true) (nexts k R s) (λ t m. each t))) (nexts-some s e)

  module _ (b : Bool) (F G : List Bool) where
    -- the runs of at most j steps from s, some or every one, pass
    abbrev within : ℕ → ℕ → Bool
    within j s = over b (λ l. passes F G (s ∷ l)) (walks k R j s)

    alone : (s : ℕ) (X : ℕ → Bool) → step b s X ≡ false → over b (λ l. passes F G (s ∷ l)) ([] ∷ []) ≡ (mem G s || (mem F s && step b s X))
    alone s X e = single b (λ l. passes F G (s ∷ l)) ∙ passes-step F G s [] ∙ ap (λ (c : Bool). mem G s || (mem F s && c)) (sym e)
      where
        single : (b : Bool) (q : List ℕ → Bool) → over b q ([] ∷ []) ≡ q []
        single true q = or-false (q [])
        single false q = and-true (q [])

    within_step : (j s : ℕ) → within (suc j) s ≡ (mem G s || (mem F s && step b s (within j)))
    within_step j s = go (stuck k R s) refl
      where
        each : (t : ℕ) → over b (λ l. passes F G (s ∷ l)) (map (λ l. t ∷ l) (walks k R j t)) ≡ (mem G s || (mem F s && within j t))
        each t =
            over-map b (λ l. t ∷ l) (λ l. passes F G (s ∷ l)) (walks k R j t)
            ∙ over-same b _ _ (walks k R j t) (λ l m. passes-step F G s (t ∷ l))
            ∙ over-frame b (mem G s) (mem F s) (λ l. passes F G (t ∷ l)) (walks k R j t) (walks_some j t)

        go : (c : Bool) → stuck k R s ≡ c
            → over b (λ l. passes F G (s ∷ l)) (cond c ([] ∷ []) (gather (λ t. map (λ l. t ∷ l) (walks k R j t)) (nexts k R s)))
            ≡ (mem G s || (mem F s && step b s (within j)))
        go true e = alone s (within j) (stuck-step b s (within j) e)
        go false e =
            over-gather b (λ t. map (λ l. t ∷ l) (walks k R j t)) (λ l. passes F G (s ∷ l)) (nexts k R s)
            ∙ over-same b _ _ (nexts k R s) (λ t m. each t)
            ∙ over-frame b (mem G s) (mem F s) (within j) (nexts k R s) (nexts-some s e)
            ∙ ap (λ (c : Bool). mem G s || (mem F s && c)) (nexts-step b s (within j) e)

    -- ---- the sets

    abbrev round : List Bool → List Bool
    round A = onward b k R F G A

    round-mem : (A : List Bool) (X : ℕ → Bool) → ((t : ℕ) → t < k → mem A t ≡ X t) → (s : ℕ) → s < k
        → (mem G s || mem (inter k F (further b k R A)) s) ≡ (mem G s || (mem F s && step b s X))
    round-mem A X h s l =
        ap (λ (c : Bool). mem G s || c) (get_or-table k _ s false l ∙ ap (λ (c : Bool). mem F s && c) (step-further b A X s l h))

    -- the runs of at most j steps are j + 1 rounds
    within_iter : (j : ℕ) → table k (within j) ≡ iter round (suc j) (no_states k)
    within_iter zero = table_ext k _ _ (λ s l.
        alone s (λ t. false) (step-none b s) ∙ sym (round-mem (no_states k) (λ t. false) (λ t i. get_or-table k (λ u. false) t false i) s l))
    within_iter (suc j) =
        table_ext k _ _
        (λ s l. within_step j s ∙ sym (round-mem (table k (within j)) (within j) (λ t i. get_or-table k (within j) t false i) s l))
        ∙ ap round (within_iter j)

    pub onward-length : (A : List Bool) → length (onward b k R F G A) ≡ k
    onward-length A = length-table k _

  further_mono : (b : Bool) (A B : List Bool) → Below A B → Below (further b k R A) (further b k R B)
  further_mono true A B h = sometimes_mono k R A B h
  further_mono false A B h =
      inter_mono k (always k R A) (always k R B) (always_mono k R A B h) (sometimes k R (all_states k)) (sometimes k R (all_states k))
      (λ s p. p)

  -- a round grows with all its parts
  pub onward_grows : (b : Bool) (F F' : List Bool) → Below F F' → (G G' : List Bool) → Below G G' → (A B : List Bool) → Below A B
      → Below (onward b k R F G A) (onward b k R F' G' B)
  onward_grows b F F' f G G' g A B h =
      union_mono k G G' g (inter k F (further b k R A)) (inter k F' (further b k R B))
      (inter_mono k F F' f (further b k R A) (further b k R B) (further_mono b A B h))

  pub onward_mono : (b : Bool) (F G : List Bool) → Mono (onward b k R F G)
  onward_mono b F G = onward_grows b F F (λ s p. p) G G (λ s p. p)

  -- UNTIL BY RUNS IS THE LEAST FIXPOINT of a round, over any states that the rounds do not leave
  pub until-least : (b : Bool) (F G E : List Bool) → Into E (onward b k R F G) → until_set b k R F G ≡ least k E (onward b k R F G)
  until-least b F G E i =
      within_iter b F G k
      ∙ stable k E (onward b k R F G) (onward-length b F G) i (onward_mono b F G) true
      ∙ fix_iter k E (onward b k R F G) (onward-length b F G) i (onward_mono b F G) true

  pub until_mono : (b : Bool) (F F' : List Bool) → Below F F' → (G G' : List Bool) → Below G G'
      → Below (until_set b k R F G) (until_set b k R F' G')
  until_mono b F F' f G G' g =
      let i = into-all k (onward b k R F G) (onward-length b F G) in
      let j = into-all k (onward b k R F' G') (onward-length b F' G') in
      subst₂ Below (sym (until-least b F G (all_states k) i)) (sym (until-least b F' G' (all_states k) j))
      (fix_mono k (all_states k) (onward b k R F G) (onward b k R F' G') (onward-length b F G) (onward-length b F' G') i j
      (onward_mono b F G) (onward_mono b F' G') (onward_grows b F F' f G G' g) true)
