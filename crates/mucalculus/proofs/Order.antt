-- Laws of what specs/Order.antt defines. Assumes nothing.
use mathlib.Core.Path.{◌≡◌, refl, sym, ap, subst}
use mathlib.Core.Logic.{◌⊎◌, inl, inr}
use mathlib.Core.Bool.{Bool, true, false, not, beq}
use mathlib.Core.List.{List, [], ◌∷◌}
use Prim.Native.Nat.{ℕ, zero, suc, ◌≤◌, ◌<◌, zero-le, suc-le-suc}
use native.Mathlib.Nat.{suc_inj, suc-ne-zero, le_of_eq, le_of_lt, le-suc, le_trans}
use native.Mathlib.Omega.{arith}
use lib.Dec.{T, ltb, lt→ltb}
use lib.ListN.{length}
use Rattle.mucalculus.specs.Sets.{mem}
use Rattle.mucalculus.proofs.Sets.{mem-table, length-table, mem-no_states, mem-lt, and_in, and_out}
use Rattle.mucalculus.specs.Order.{Below, start, bump, weight}

-- A below B, or with `false` above it
abbrev pub Dir : Bool → List Bool → List Bool → Type 0
Dir true A B = Below A B
Dir false A B = Below B A

pub dir_refl : (b : Bool) (A : List Bool) → Dir b A A
dir_refl true A = λ s p. p
dir_refl false A = λ s p. p

pub dir_trans : (b : Bool) (A B C : List Bool) → Dir b A B → Dir b B C → Dir b A C
dir_trans true A B C h i = λ s p. i s (h s p)
dir_trans false A B C h i = λ s p. h s (i s p)

pub dir_flip : (b : Bool) (A B : List Bool) → Dir b A B → Dir (not b) B A
dir_flip true A B h = h
dir_flip false A B h = h

pub dir_eq : (b : Bool) {A B : List Bool} → A ≡ B → Dir b A B
dir_eq b {A} {B} e = subst (λ (C : List Bool). Dir b A C) e (dir_refl b A)

pub length-start : (b : Bool) (k : ℕ) (E : List Bool) → length (start b k E) ≡ k
length-start true k E = length-table k _
length-start false k E = length-table k _

pub start_dir : (b : Bool) (k : ℕ) (E A : List Bool) → length A ≡ k → Below A E → Dir b (start b k E) A
start_dir true k E A e i = λ s p. absurd (mem-no_states k s p)
start_dir false k E A e i =
    λ s p. subst T (sym (mem-table k (λ t. mem E t) s))
    (and_in (ltb s k) (mem E s) (lt→ltb s k (subst (λ (n : ℕ). s < n) e (mem-lt A s p))) (i s p))

-- no start leaves E
pub start_in : (b : Bool) (k : ℕ) (E : List Bool) → Below (start b k E) E
start_in true k E = λ s p. absurd (mem-no_states k s p)
start_in false k E = λ s p. (and_out (ltb s k) (mem E s) (subst T (mem-table k (λ t. mem E t) s) p)).1

-- ---- weight

pub weight-le : (b : Bool) (A : List Bool) → weight b A ≤ length A
weight-le b [] = zero-le
weight-le b (a ∷ A) = go (beq a b) (weight-le b A)
  where
    go : (c : Bool) → weight b A ≤ length A → bump c (weight b A) ≤ suc (length A)
    go true h = suc-le-suc h
    go false h = le_trans h (le-suc (length A))

-- a step in direction b either changes nothing or adds weight
pub rise : (b : Bool) (A B : List Bool) → length A ≡ length B → Dir b A B → (A ≡ B) ⊎ (weight b A < weight b B)
rise b [] [] e h = inl refl
rise b [] (c ∷ B) e h = absurd (suc-ne-zero (length B) (sym e))
rise b (a ∷ A) [] e h = absurd (suc-ne-zero (length A) e)
rise b (a ∷ A) (c ∷ B) e h = go b a c h (rise b A B (suc_inj e) (tail b h))
  where
    tail : (b : Bool) → Dir b (a ∷ A) (c ∷ B) → Dir b A B
    tail true h = λ s p. h (suc s) p
    tail false h = λ s p. h (suc s) p

    up : (b : Bool) → (A ≡ B) ⊎ (weight b A < weight b B) → weight b A ≤ weight b B
    up b (inl q) = le_of_eq (ap (weight b) q)
    up b (inr l) = le_of_lt l

    level : (b d : Bool) → (A ≡ B) ⊎ (weight b A < weight b B)
        → (d ∷ A ≡ d ∷ B) ⊎ (bump (beq d b) (weight b A) < bump (beq d b) (weight b B))
    level b d (inl q) = inl (ap (λ (l : List Bool). d ∷ l) q)
    level b d (inr l) = inr (lift (beq d b) l)
      where
        lift : (t : Bool) → weight b A < weight b B → bump t (weight b A) < bump t (weight b B)
        lift true l = suc-le-suc l
        lift false l = l

    go : (b a c : Bool) → Dir b (a ∷ A) (c ∷ B) → (A ≡ B) ⊎ (weight b A < weight b B)
        → (a ∷ A ≡ c ∷ B) ⊎ (weight b (a ∷ A) < weight b (c ∷ B))
    go b true true h o = level b true o
    go b false false h o = level b false o
    go true true false h o = absurd (h zero tt)
    go true false true h o = inr (suc-le-suc (up true o))
    go false true false h o = inr (suc-le-suc (up false o))
    go false false true h o = absurd (h zero tt)

pub dir_antisym : (b : Bool) (A B : List Bool) → length A ≡ length B → Dir b A B → Dir b B A → A ≡ B
dir_antisym b A B e h i = go (rise b A B e h) (rise b B A (sym e) i)
  where
    go : (A ≡ B) ⊎ (weight b A < weight b B) → (B ≡ A) ⊎ (weight b B < weight b A) → A ≡ B
    go (inl q) o = q
    go (inr l) (inl q) = sym q
    go (inr l) (inr m) = absurd (omega arith)
