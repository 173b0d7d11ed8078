-- Laws of the operations on sets: membership in what they make, and box by diamond. Assumes nothing.
use mathlib.Core.Path.{◌≡◌, refl, sym, ap, ap₂, ◌∙◌, subst}
use mathlib.Core.Bool.{Bool, true, false, not, ◌&&◌, ◌||◌}
use mathlib.Core.List.Memᴰ
use mathlib.Core.List.{List, [], ◌∷◌, Memᴰ}
use Prim.Native.Nat.{ℕ, zero, suc, ◌<◌, suc-le-suc, zero-le}
use native.Mathlib.Nat.{le_of_suc-le-suc, not-suc-le-zero}
use lib.ListN.{get_or}
use Rattle.mucalculus.specs.Sets.{mem, table, all, any}
use Rattle.mucalculus.specs.Form.{Pairs}
use Rattle.mucalculus.specs.Means.{compl, pair, always, sometimes}

-- ---- tables

pub get_or-table : {X : Type 0} (k : ℕ) (h : ℕ → X) (i : ℕ) (d : X) → i < k → get_or (table k h) i d ≡ h i
get_or-table zero h i d l = absurd (not-suc-le-zero l)
get_or-table (suc k) h zero d l = refl
get_or-table (suc k) h (suc i) d l = get_or-table k (λ j. h (suc j)) i d (le_of_suc-le-suc l)

pub table_ext : {X : Type 0} (k : ℕ) (g h : ℕ → X) → ((i : ℕ) → i < k → g i ≡ h i) → table k g ≡ table k h
table_ext zero g h e = refl
table_ext {X} (suc k) g h e =
    ap₂ (λ (x : X) (l : List X). x ∷ l) (e zero (suc-le-suc zero-le))
    (table_ext k (λ i. g (suc i)) (λ i. h (suc i)) (λ i l. e (suc i) (suc-le-suc l)))

-- the elements of a table
pub table_out : {X : Type 0} (k : ℕ) (h : ℕ → X) (P : X → Type 0) → ((i : ℕ) → i < k → P (h i)) → (x : X) → Memᴰ x (table k h) → P x
table_out zero h P c x m = absurd (Memᴰ.not-nil m)
table_out (suc k) h P c x (Memᴰ.head e) = subst P (sym e) (c zero (suc-le-suc zero-le))
table_out (suc k) h P c x (Memᴰ.tail m) = table_out k (λ i. h (suc i)) P (λ i l. c (suc i) (suc-le-suc l)) x m

-- ---- box by diamond

all_any : {X : Type 0} (q r : X → Bool) (l : List X) → ((x : X) → Memᴰ x l → q x ≡ not (r x)) → all q l ≡ not (any r l)
all_any q r [] h = refl
all_any {X} q r (x ∷ l) h = ap₂ ◌&&◌ (h x (Memᴰ.head refl)) (all_any q r l (λ y m. h y (Memᴰ.tail m))) ∙ go (r x)
  where
    go : (a : Bool) → (not a && not (any r l)) ≡ not (a || any r l)
    go true = refl
    go false = refl

-- box is NOT, diamond, NOT
pub box_dual : (k : ℕ) (R : Pairs) (A : List Bool) → always k R A ≡ compl k (sometimes k R (compl k A))
box_dual k R A =
    table_ext k _ _
    (λ s l. all_any (λ t. not (pair R s t) || mem A t) (λ t. pair R s t && mem (compl k A) t) (table k (λ t. t))
    (table_out k (λ t. t) _ (λ t i. inner s t i)) ∙ sym (ap not (get_or-table k _ s false l)))
  where
    inner : (s t : ℕ) → t < k → (not (pair R s t) || mem A t) ≡ not (pair R s t && mem (compl k A) t)
    inner s t i = go (pair R s t) (mem A t) ∙ sym (ap (λ (b : Bool). not (pair R s t && b)) (get_or-table k (λ u. not (mem A u)) t false i))
      where
        go : (a b : Bool) → (not a || b) ≡ not (a && not b)
        go true true = refl
        go true false = refl
        go false b = refl
