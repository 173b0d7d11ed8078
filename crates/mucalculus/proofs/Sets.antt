-- Laws of what specs/Sets.antt defines. Assumes nothing.
use mathlib.Core.Path.{◌≡◌, refl, sym, ap, ◌∙◌, subst}
use mathlib.Core.Logic.{◌⊎◌, inl, inr}
use mathlib.Core.Bool.{Bool, true, false, ◌&&◌, ◌||◌, cond}
use mathlib.Core.List.Memᴰ
use mathlib.Core.List.{List, [], ◌∷◌, map, Memᴰ}
use Prim.Native.Nat.{ℕ, zero, suc, ◌<◌, zero-le, suc-le-suc}
use lib.Dec.{T, ltb, lt→ltb, leb-suc-suc, leb-suc-zero, leb-zero}
use lib.ListN.{length}
use Rattle.mucalculus.specs.Sets.{mem, table, no_states, all_states, all, any, keep, bit_lists, same}

-- ---- tests

pub and_in : (a b : Bool) → T a → T b → T (a && b)
and_in true b p q = q
and_in false b p q = absurd p

pub and_out : (a b : Bool) → T (a && b) → T a × T b
and_out true b p = (tt, p)
and_out false b p = absurd p

pub or_left : (a b : Bool) → T a → T (a || b)
or_left true b p = tt
or_left false b p = absurd p

pub or_right : (a b : Bool) → T b → T (a || b)
or_right true b p = tt
or_right false b p = p

pub or_out : (a b : Bool) → T (a || b) → T a ⊎ T b
or_out true b p = inl p
or_out false b p = inr p

pub true_of : (b : Bool) → T b → b ≡ true
true_of true p = refl
true_of false p = absurd p

pub false_of : (b : Bool) → (T b → ⊥) → b ≡ false
false_of true f = absurd (f tt)
false_of false f = refl

-- ---- membership and tables

pub length-table : {X : Type 0} (k : ℕ) (h : ℕ → X) → length (table k h) ≡ k
length-table zero h = refl
length-table (suc k) h = ap suc (length-table k (λ i. h (suc i)))

pub mem-table : (k : ℕ) (h : ℕ → Bool) (s : ℕ) → mem (table k h) s ≡ (ltb s k && h s)
mem-table zero h s = ap (λ (b : Bool). b && h s) (sym (leb-suc-zero s))
mem-table (suc k) h zero = ap (λ (b : Bool). b && h zero) (sym (leb-suc-suc zero k ∙ leb-zero k))
mem-table (suc k) h (suc s) = mem-table k (λ i. h (suc i)) s ∙ ap (λ (b : Bool). b && h (suc s)) (sym (leb-suc-suc (suc s) k))

pub mem-no_states : (k s : ℕ) → T (mem (no_states k) s) → ⊥
mem-no_states k s p = (and_out (ltb s k) false (subst T (mem-table k (λ i. false) s) p)).1

pub mem-all_states : (k s : ℕ) → s < k → T (mem (all_states k) s)
mem-all_states k s l = subst T (sym (mem-table k (λ i. true) s)) (and_in (ltb s k) true (lt→ltb s k l) tt)

pub mem-lt : (A : List Bool) (s : ℕ) → T (mem A s) → s < length A
mem-lt [] s p = absurd p
mem-lt (a ∷ A) zero p = suc-le-suc zero-le
mem-lt (a ∷ A) (suc s) p = suc-le-suc (mem-lt A s p)

-- ---- quantifiers over a list

module _ {X : Type 0} where
  module _ (q : X → Bool) where
    pub all_in : (l : List X) → ((x : X) → Memᴰ x l → T (q x)) → T (all q l)
    all_in [] h = tt
    all_in (x ∷ l) h = and_in (q x) (all q l) (h x (Memᴰ.head refl)) (all_in l (λ y m. h y (Memᴰ.tail m)))

    pub all_out : {x : X} {l : List X} → Memᴰ x l → T (all q l) → T (q x)
    all_out (Memᴰ.head {x = y} {xs = l} e) p = subst (λ (z : X). T (q z)) (sym e) (and_out (q y) (all q l) p).0
    all_out (Memᴰ.tail {x = y} {xs = l} m) p = all_out m (and_out (q y) (all q l) p).1

    pub any_in : {x : X} {l : List X} → Memᴰ x l → T (q x) → T (any q l)
    any_in (Memᴰ.head {x = y} {xs = l} e) p = or_left (q y) (any q l) (subst (λ (z : X). T (q z)) e p)
    any_in (Memᴰ.tail {x = y} {xs = l} m) p = or_right (q y) (any q l) (any_in m p)

    pub any_out : (l : List X) → T (any q l) → (x : X) × Memᴰ x l × T (q x)
    any_out [] p = absurd p
    any_out (x ∷ l) p = go (any_out l) (or_out (q x) (any q l) p)
      where
        go : (T (any q l) → (y : X) × Memᴰ y l × T (q y)) → T (q x) ⊎ T (any q l) → (y : X) × Memᴰ y (x ∷ l) × T (q y)
        go below (inl t) = (x, Memᴰ.head refl, t)
        go below (inr t) = let w = below t in (w.0, Memᴰ.tail w.1, w.2)

    pub keep_in : {x : X} {l : List X} → Memᴰ x l → T (q x) → Memᴰ x (keep q l)
    keep_in {x} (Memᴰ.head {x = y} {xs = l} e) p = go (q y) (subst (λ (z : X). T (q z)) e p)
      where
        go : (b : Bool) → T b → Memᴰ x (cond b (y ∷ keep q l) (keep q l))
        go true t = Memᴰ.head e
        go false t = absurd t
    keep_in {x} (Memᴰ.tail {x = y} {xs = l} m) p = go (q y) (keep_in m p)
      where
        go : (b : Bool) → Memᴰ x (keep q l) → Memᴰ x (cond b (y ∷ keep q l) (keep q l))
        go true t = Memᴰ.tail t
        go false t = t

    pub keep_out : {x : X} (l : List X) → Memᴰ x (keep q l) → T (q x)
    keep_out [] m = absurd (Memᴰ.not-nil m)
    keep_out {x} (y ∷ l) m = go (q y) refl (keep_out l) m
      where
        go : (b : Bool) → q y ≡ b → (Memᴰ x (keep q l) → T (q x)) → Memᴰ x (cond b (y ∷ keep q l) (keep q l)) → T (q x)
        go true e below (Memᴰ.head f) = subst (λ (z : X). T (q z)) (sym f) (subst T (sym e) tt)
        go true e below (Memᴰ.tail n) = below n
        go false e below n = below n

-- ---- all sets

pub map-mem : {X Y : Type 0} (f : X → Y) {x : X} {l : List X} → Memᴰ x l → Memᴰ (f x) (map f l)
map-mem f (Memᴰ.head e) = Memᴰ.head (ap f e)
map-mem f (Memᴰ.tail m) = Memᴰ.tail (map-mem f m)

-- each list of Booleans is among those of its length
pub bit_lists-all : (A : List Bool) → Memᴰ A (bit_lists (length A))
unfolding bit_lists
bit_lists-all [] = Memᴰ.head refl
bit_lists-all (false ∷ A) = Memᴰ.append_left _ (map-mem (λ (B : List Bool). false ∷ B) (bit_lists-all A))
bit_lists-all (true ∷ A) =
    Memᴰ.append_right (map (λ (B : List Bool). false ∷ B) (bit_lists (length A))) (map-mem (λ (B : List Bool). true ∷ B) (bit_lists-all A))

pub same_refl : (A : List Bool) → T (same A A)
same_refl [] = tt
same_refl (true ∷ A) = same_refl A
same_refl (false ∷ A) = same_refl A

pub same-eq : (A B : List Bool) → T (same A B) → A ≡ B
same-eq [] [] t = refl
same-eq [] (b ∷ B) t = absurd t
same-eq (a ∷ A) [] t = absurd t
same-eq (true ∷ A) (true ∷ B) t = ap (λ (l : List Bool). true ∷ l) (same-eq A B t)
same-eq (true ∷ A) (false ∷ B) t = absurd t
same-eq (false ∷ A) (true ∷ B) t = absurd t
same-eq (false ∷ A) (false ∷ B) t = ap (λ (l : List Bool). false ∷ l) (same-eq A B t)
