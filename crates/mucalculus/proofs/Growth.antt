-- The operations on sets grow with their parts; NOT shrinks. Assumes nothing.
use mathlib.Core.Path.{sym, subst, subst₂}
use mathlib.Core.Logic.{◌⊎◌, inl, inr}
use mathlib.Core.Bool.{Bool, true, false, not, ◌&&◌, ◌||◌}
use mathlib.Core.List.{List, [], ◌∷◌}
use Prim.Native.Nat.{ℕ}
use lib.Dec.{T, ltb}
use Rattle.mucalculus.specs.Sets.{mem, table, any}
use Rattle.mucalculus.proofs.Sets.{mem-table, and_in, and_out, or_left, or_right, or_out}
use Rattle.mucalculus.specs.Order.{Below}
use Rattle.mucalculus.specs.Form.{Pairs}
use Rattle.mucalculus.proofs.Laws.{box_dual}
use Rattle.mucalculus.specs.Means.{clip, compl, inter, union, pair, always, sometimes}

-- ---- tests and operations grow with their parts

not_mono : (a b : Bool) → (T a → T b) → T (not b) → T (not a)
not_mono true true h p = p
not_mono true false h p = h tt
not_mono false b h p = tt

and_mono : (a b c d : Bool) → (T a → T b) → (T c → T d) → T (a && c) → T (b && d)
and_mono a b c d h i p = let w = and_out a c p in and_in b d (h w.0) (i w.1)

or_mono : (a b c d : Bool) → (T a → T b) → (T c → T d) → T (a || c) → T (b || d)
or_mono a b c d h i p = go (or_out a c p)
  where
    go : T a ⊎ T c → T (b || d)
    go (inl q) = or_left b d (h q)
    go (inr q) = or_right b d (i q)

module _ {X : Type 0} (q r : X → Bool) (h : (x : X) → T (q x) → T (r x)) where
  any_mono : (l : List X) → T (any q l) → T (any r l)
  any_mono [] p = p
  any_mono (x ∷ l) p = or_mono (q x) (r x) (any q l) (any r l) (h x) (any_mono l) p

table_mono : (k : ℕ) (g h : ℕ → Bool) → ((s : ℕ) → T (g s) → T (h s)) → Below (table k g) (table k h)
table_mono k g h i s p =
    subst T (sym (mem-table k h s)) (and_mono (ltb s k) (ltb s k) (g s) (h s) (λ x. x) (i s) (subst T (mem-table k g s) p))

module _ (k : ℕ) (A B : List Bool) (h : Below A B) where
  pub clip_mono : Below (clip k A) (clip k B)
  clip_mono = table_mono k (mem A) (mem B) h

  pub compl_anti : Below (compl k B) (compl k A)
  compl_anti = table_mono k (λ s. not (mem B s)) (λ s. not (mem A s)) (λ s. not_mono (mem A s) (mem B s) (h s))

  module _ (C D : List Bool) (i : Below C D) where
    pub inter_mono : Below (inter k A C) (inter k B D)
    inter_mono =
        table_mono k (λ s. mem A s && mem C s) (λ s. mem B s && mem D s) (λ s. and_mono (mem A s) (mem B s) (mem C s) (mem D s) (h s) (i s))

    pub union_mono : Below (union k A C) (union k B D)
    union_mono =
        table_mono k (λ s. mem A s || mem C s) (λ s. mem B s || mem D s) (λ s. or_mono (mem A s) (mem B s) (mem C s) (mem D s) (h s) (i s))

-- diamond grows with its set
pub sometimes_mono : (k : ℕ) (R : Pairs) (A B : List Bool) → Below A B → Below (sometimes k R A) (sometimes k R B)
sometimes_mono k R A B h =
    table_mono k _ _
    (λ s. any_mono (λ t. pair R s t && mem A t) (λ t. pair R s t && mem B t)
    (λ t. and_mono (pair R s t) (pair R s t) (mem A t) (mem B t) (λ x. x) (h t)) (table k (λ t. t)))

-- and box, which is NOT, diamond, NOT
pub always_mono : (k : ℕ) (R : Pairs) (A B : List Bool) → Below A B → Below (always k R A) (always k R B)
always_mono k R A B h =
    subst₂ Below (sym (box_dual k R A)) (sym (box_dual k R B))
    (compl_anti k (sometimes k R (compl k B)) (sometimes k R (compl k A)) (sometimes_mono k R (compl k B) (compl k A) (compl_anti k A B h)))
