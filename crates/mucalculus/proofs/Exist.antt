-- Laws of what specs/Exist.antt defines. Assumes nothing.
use mathlib.Core.Path.{◌≡◌, refl, sym, ap, ◌∙◌, subst}
use mathlib.Core.Logic.{◌⊎◌, inl, inr}
use mathlib.Core.Bool.{Bool, true, false, not, ◌&&◌, ◌||◌}
use mathlib.Core.List.{List, []}
use Prim.Native.Nat.{ℕ, ◌<◌}
use lib.Dec.{T, ltb, ltb→lt}
use Rattle.mucalculus.specs.Sets.{all_states, mem, table, any}
use Rattle.mucalculus.proofs.Sets.{true_of, mem-table, mem-no_states, and_out, or_out, any_out}
use Rattle.mucalculus.specs.Order.{Below}
use Rattle.mucalculus.specs.Fixpoint.{Into}
use Rattle.mucalculus.proofs.Fixpoint.{fix_in}
use Rattle.mucalculus.specs.Form.{Form, bot, top, neg, conj, disj, now, next, var, reg, box, dia, mu, nu, until, Pairs, Model, Env}
use Rattle.mucalculus.specs.Form.{put, inside}
use Rattle.mucalculus.specs.Runs.{pair, until_set}
use Rattle.mucalculus.specs.Means.{compl, inter, union, bit_states, always, sometimes, size, exist, related, means}
use Rattle.mucalculus.proofs.Laws.{get_or-table, table_ext, table_out, box_dual}
use Rattle.mucalculus.specs.Until.{further, onward}
use Rattle.mucalculus.proofs.Until.{over-same, until-least}
use Rattle.mucalculus.specs.Exist.{Inside}

-- ---- parts of sets

pub inter_left : (k : ℕ) (A B : List Bool) → Below (inter k A B) A
inter_left k A B s p = (and_out (mem A s) (mem B s) (and_out (ltb s k) _ (subst T (mem-table k (λ t. mem A t && mem B t) s) p)).1).0

pub inter_right : (k : ℕ) (A B : List Bool) → Below (inter k A B) B
inter_right k A B s p = (and_out (mem A s) (mem B s) (and_out (ltb s k) _ (subst T (mem-table k (λ t. mem A t && mem B t) s) p)).1).1

pub union_in : (k : ℕ) (A B E : List Bool) → Below A E → Below B E → Below (union k A B) E
union_in k A B E h i s p = go (or_out (mem A s) (mem B s) (and_out (ltb s k) _ (subst T (mem-table k (λ t. mem A t || mem B t) s) p)).1)
  where
    go : T (mem A s) ⊎ T (mem B s) → T (mem E s)
    go (inl q) = h s q
    go (inr q) = i s q

-- a set and its existing states agree on the existing states
pub inter-agrees : (k : ℕ) (E A : List Bool) (u : ℕ) → u < k → T (mem E u) → mem (inter k A E) u ≡ mem A u
inter-agrees k E A u l t = get_or-table k (λ s. mem A s && mem E s) u false l ∙ go (mem A u) (mem E u) t
  where
    go : (a c : Bool) → T c → (a && c) ≡ a
    go true true x = refl
    go true false x = absurd x
    go false c x = refl

-- ---- pairs within a set

module _ (m : Model) (t : ℕ) where
  pub related-pair : (s u : ℕ) → s < size m → u < size m
      → pair (related m t) s u ≡ ((mem (exist m) s && mem (exist m) u) && pair (inside (m.rel t)) s u)
  related-pair s u l i =
      ap (λ (A : List Bool). mem A u)
      (get_or-table (size m) (λ s. table (size m) (λ u. (mem (exist m) s && mem (exist m) u) && pair (inside (m.rel t)) s u)) s [] l)
      ∙ get_or-table (size m) (λ u. (mem (exist m) s && mem (exist m) u) && pair (inside (m.rel t)) s u) u false i

  pub related-inside : Inside (size m) (exist m) (related m t)
  related-inside s u l i p =
      and_out (mem (exist m) s) (mem (exist m) u) (and_out (mem (exist m) s && mem (exist m) u) _ (subst T (related-pair s u l i) p)).0

module _ (k : ℕ) (E : List Bool) (Q : Pairs) (q : Inside k E Q) where
  -- a state with a next state exists
  pub sometimes_in : (A : List Bool) → Below (sometimes k Q A) E
  sometimes_in A s p =
      let w = and_out (ltb s k) _ (subst T (mem-table k (λ s. any (λ t. pair Q s t && mem A t) (table k (λ t. t))) s) p) in
      let x = any_out (λ t. pair Q s t && mem A t) (table k (λ t. t)) w.1 in
      let l : x.0 < k = table_out k (λ t. t) (λ t. t < k) (λ t i. i) x.0 x.1 in
      (q s x.0 (ltb→lt s k w.0) l (and_out (pair Q s x.0) (mem A x.0) x.2).0).0

  -- two sets that agree on the existing states have the same diamond, and the same box
  module _ (A B : List Bool) (h : (u : ℕ) → u < k → T (mem E u) → mem A u ≡ mem B u) where
    next-same : (s u : ℕ) → s < k → u < k → (pair Q s u && mem A u) ≡ (pair Q s u && mem B u)
    next-same s u l i = go (pair Q s u) (q s u l i)
      where
        go : (c : Bool) → (T c → T (mem E s) × T (mem E u)) → (c && mem A u) ≡ (c && mem B u)
        go true x = h u i (x tt).1
        go false x = refl

    every-same : (s u : ℕ) → s < k → u < k → (not (pair Q s u) || mem A u) ≡ (not (pair Q s u) || mem B u)
    every-same s u l i = go (pair Q s u) (q s u l i)
      where
        go : (c : Bool) → (T c → T (mem E s) × T (mem E u)) → (not c || mem A u) ≡ (not c || mem B u)
        go true x = h u i (x tt).1
        go false x = refl

    pub sometimes-same : sometimes k Q A ≡ sometimes k Q B
    sometimes-same =
        table_ext k _ _
        (λ s l. over-same true (λ t. pair Q s t && mem A t) (λ t. pair Q s t && mem B t) (table k (λ t. t))
        (table_out k (λ t. t) (λ t. (pair Q s t && mem A t) ≡ (pair Q s t && mem B t)) (λ t i. next-same s t l i)))

    pub always-same : always k Q A ≡ always k Q B
    always-same =
        table_ext k _ _
        (λ s l. over-same false (λ t. not (pair Q s t) || mem A t) (λ t. not (pair Q s t) || mem B t) (table k (λ t. t))
        (table_out k (λ t. t) (λ t. (not (pair Q s t) || mem A t) ≡ (not (pair Q s t) || mem B t)) (λ t i. every-same s t l i)))

  -- box and true over V are box and true over all states, where there is a next state
  pub further_in : (A : List Bool) → inter k (inter k (always k Q A) E) (sometimes k Q E) ≡ further false k Q A
  further_in A =
      ap (inter k (inter k (always k Q A) E))
      (sometimes-same E (all_states k) (λ u l h. true_of (mem E u) h ∙ sym (get_or-table k (λ s. true) u false l)))
      ∙ table_ext k _ _ (λ s l.
      ap (λ (c : Bool). c && mem (sometimes k Q (all_states k)) s) (get_or-table k (λ s. mem (always k Q A) s && mem E s) s false l)
      ∙ drop (mem (always k Q A) s) (mem E s) (mem (sometimes k Q (all_states k)) s) (sometimes_in (all_states k) s))
    where
      drop : (a c d : Bool) → (T d → T c) → ((a && c) && d) ≡ (a && d)
      drop true true d h = refl
      drop true false true h = absurd (h tt)
      drop true false false h = refl
      drop false c d h = refl

  -- "Box: NOT f, diamond, NOT", each NOT followed by AND with V
  pub box_in : (A : List Bool) → inter k (compl k (sometimes k Q (inter k (compl k A) E))) E ≡ inter k (always k Q A) E
  box_in A =
      ap (λ (B : List Bool). inter k (compl k B) E) (sometimes-same (inter k (compl k A) E) (compl k A) (inter-agrees k E (compl k A)))
      ∙ ap (λ (B : List Bool). inter k B E) (sym (box_dual k Q A))

-- relations with the same pairs
module _ (k : ℕ) (Q R : Pairs) (h : (s u : ℕ) → s < k → u < k → pair Q s u ≡ pair R s u) where
  pub sometimes-pairs : (A : List Bool) → sometimes k Q A ≡ sometimes k R A
  sometimes-pairs A =
      table_ext k _ _
      (λ s l. over-same true (λ t. pair Q s t && mem A t) (λ t. pair R s t && mem A t) (table k (λ t. t))
      (table_out k (λ t. t) (λ t. (pair Q s t && mem A t) ≡ (pair R s t && mem A t)) (λ t i. ap (λ (c : Bool). c && mem A t) (h s t l i))))

  pub always-pairs : (A : List Bool) → always k Q A ≡ always k R A
  always-pairs A =
      table_ext k _ _
      (λ s l. over-same false (λ t. not (pair Q s t) || mem A t) (λ t. not (pair R s t) || mem A t) (table k (λ t. t))
      (table_out k (λ t. t) (λ t. (not (pair Q s t) || mem A t) ≡ (not (pair R s t) || mem A t))
      (λ t i. ap (λ (c : Bool). not c || mem A t) (h s t l i))))

-- where a relation is within V, its pairs are those that exist
pub related_same : (m : Model) (t : ℕ) → Inside (size m) (exist m) (inside (m.rel t)) → (s u : ℕ) → s < size m → u < size m
    → pair (related m t) s u ≡ pair (inside (m.rel t)) s u
related_same m t q s u l i = related-pair m t s u l i ∙ go (mem (exist m) s) (mem (exist m) u) (pair (inside (m.rel t)) s u) (q s u l i)
  where
    go : (a c d : Bool) → (T d → T a × T c) → ((a && c) && d) ≡ d
    go true true d h = refl
    go true false true h = absurd (h tt).1
    go true false false h = refl
    go false c true h = absurd (h tt).0
    go false c false h = refl

-- ---- until

onward_in : (k : ℕ) (R : Pairs) (b : Bool) (F G E : List Bool) → Below F E → Below G E → Into E (onward b k R F G)
onward_in k R b F G E f g A = union_in k G (inter k F (further b k R A)) E g (λ s p. f s (inter_left k F (further b k R A) s p))

-- a round of until makes existing states of existing ones
pub onward-into : (m : Model) (t : ℕ) (b : Bool) (F G : List Bool) → Below F (exist m) → Below G (exist m)
    → Into (exist m) (onward b (size m) (related m t) F G)
onward-into m t b F G f g = onward_in (size m) (related m t) b F G (exist m) f g

until_in : (m : Model) (t : ℕ) (b : Bool) (F G : List Bool) → Below F (exist m) → Below G (exist m)
    → Below (until_set b (size m) (related m t) F G) (exist m)
until_in m t b F G f g =
    subst (λ (A : List Bool). Below A (exist m)) (sym (until-least (size m) (related m t) b F G (exist m) (onward-into m t b F G f g)))
    (fix_in true (size m) (exist m) (onward b (size m) (related m t) F G))

-- ---- EVERY MEANING IS WITHIN V

pub means_in : (m : Model) (e : Env) (f : Form) → Below (means m e f) (exist m)
means_in m e bot = λ s p. absurd (mem-no_states (size m) s p)
means_in m e top = λ s p. p
means_in m e (neg f) = inter_right (size m) (compl (size m) (means m e f)) (exist m)
means_in m e (conj f g) = λ s p. means_in m e f s (inter_left (size m) (means m e f) (means m e g) s p)
means_in m e (disj f g) = union_in (size m) (means m e f) (means m e g) (exist m) (means_in m e f) (means_in m e g)
means_in m e (now p) = inter_right (size m) (bit_states (size m) p) (exist m)
means_in m e (next p) = λ s p. absurd (mem-no_states (size m) s p)
means_in m e (var P) = inter_right (size m) (e P) (exist m)
means_in m e (reg r) = inter_right (size m) (inside (m.reg r)) (exist m)
means_in m e (box t f) = inter_right (size m) (always (size m) (related m t) (means m e f)) (exist m)
means_in m e (dia t f) = sometimes_in (size m) (exist m) (related m t) (related-inside m t) (means m e f)
means_in m e (mu P f) = fix_in true (size m) (exist m) (λ A. means m (put e P A) f)
means_in m e (nu P f) = fix_in false (size m) (exist m) (λ A. means m (put e P A) f)
means_in m e (until b t f g) = until_in m t b (means m e f) (means m e g) (means_in m e f) (means_in m e g)
