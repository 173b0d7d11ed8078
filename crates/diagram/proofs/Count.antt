-- Laws of what specs/Count.antt defines. Assumes nothing.
use mathlib.Core.Path.{◌≡◌, refl, sym, ap, ◌∙◌}
use mathlib.Core.Logic.{◌≢◌, ⊎_elim}
use mathlib.Core.List.Memᴰ.{head as here}
use mathlib.Core.List.Memᴰ.{tail as there}
use mathlib.Core.List.{List, [], ◌∷◌, ◌++◌, map, Memᴰ as Mem}
use mathlib.Core.List.Memᴰ.{append_cases}
use mathlib.Core.List.Memᴰ.{cases_cons as mem-cases}
use mathlib.Core.List.Memᴰ.{not-nil as mem-nil}
use mathlib.Core.List.Memᴰ.{cast as mem_cast}
use mathlib.Core.List.Memᴰ.{of_map as mem-of-map}
use Prim.Native.Nat.{ℕ, zero, suc, ◌≤◌, ◌<◌}
use native.Mathlib.Decide.{ℕ_discrete}
use native.Mathlib.Omega.{arith}
use lib.ListN.{length}
use Rattle.diagram.specs.Count.{NoDup, Within, up_to}

module _ {A : Type 0} where
  -- The list without the member at one place.
  without : {x : A} {xs : List A} → Mem x xs → List A
  without (here {xs = xs} e) = xs
  without (there {x = y} m) = y ∷ without m

  length_without : {x : A} {xs : List A} (m : Mem x xs) → length xs ≡ suc (length (without m))
  unfolding without
  length_without (here e) = refl
  length_without (there m) = ap suc (length_without m)

  mem-without : {x y : A} {xs : List A} (m : Mem x xs) → Mem y xs → y ≢ x → Mem y (without m)
  unfolding without
  mem-without (here e) h ne = ⊎_elim (λ g. absurd (ne (g ∙ sym e))) (λ t. t) (mem-cases h)
  mem-without (there m) h ne = ⊎_elim (λ g. here g) (λ t. there (mem-without m t ne)) (mem-cases h)

  -- A list without repeats is no longer than one that has all its members.
  pub nodup-length : (xs ys : List A) → NoDup xs → Within xs ys → length xs ≤ length ys
  nodup-length [] ys d w = omega arith
  nodup-length (x ∷ xs) ys d w =
      let m = w x (here refl) in
      let s = length_without m in
      let h = nodup-length xs (without m) d.1 (λ y my. mem-without m (w y (there my)) (λ e. d.0 (mem_cast (sym e) my))) in
      omega arith

  pub nodup-same-length : (xs ys : List A) → NoDup xs → NoDup ys → Within xs ys → Within ys xs → length xs ≡ length ys
  nodup-same-length xs ys dx dy xy yx =
      let p = nodup-length xs ys dx xy in
      let q = nodup-length ys xs dy yx in
      omega arith

-- Two lists without repeats and without a common member.
pub nodup_append : {A : Type 0} (xs ys : List A) → NoDup xs → NoDup ys → ((x : A) → Mem x xs → Mem x ys → ⊥) → NoDup (xs ++ ys)
nodup_append [] ys dx dy apart = dy
nodup_append (x ∷ xs) ys dx dy apart = (
  (λ m. ⊎_elim (λ h. dx.0 h) (λ h. apart x (here refl) h) (append_cases xs m)),
  nodup_append xs ys dx.1 dy (λ y my h. apart y (there my) h),
)

-- A function that keeps the members apart keeps a list without repeats.
pub nodup-map : {A B : Type 0} (f : A → B) (xs : List A) → ((x y : A) → Mem x xs → Mem y xs → f x ≡ f y → x ≡ y) → NoDup xs
    → NoDup (map f xs)
nodup-map f [] inj d = tt
nodup-map f (x ∷ xs) inj d = (
  (λ m. let (y, my, e) = mem-of-map f xs m in d.0 (mem_cast (inj x y (here refl) (there my) (sym e)) my)),
  nodup-map f xs (λ y z my mz e. inj y z (there my) (there mz) e) d.1,
)

pub length-up_to : (n : ℕ) → length (up_to n) ≡ n
unfolding up_to
length-up_to zero = refl
length-up_to (suc n) = ap suc (length-up_to n)

pub mem-up_to : (n i : ℕ) → i < n → Mem i (up_to n)
unfolding up_to
mem-up_to zero i h = absurd (omega arith)
mem-up_to (suc n) i h = elim (ℕ_discrete i n) [ yes e ↦ here e | no ne ↦ there (mem-up_to n i (omega arith)) ]

pub up_to-below : (n i : ℕ) → Mem i (up_to n) → i < n
unfolding up_to
up_to-below zero i m = absurd (mem-nil m)
up_to-below (suc n) i m = ⊎_elim (λ e. omega arith) (λ t. let h = up_to-below n i t in omega arith) (mem-cases m)

pub nodup-up_to : (n : ℕ) → NoDup (up_to n)
unfolding up_to
nodup-up_to zero = tt
nodup-up_to (suc n) = ((λ m. let h = up_to-below n n m in omega arith), nodup-up_to n)

-- Pigeonhole: numbers below n without repeats are at most n.
pub pigeonhole : (n : ℕ) (xs : List ℕ) → NoDup xs → ((i : ℕ) → Mem i xs → i < n) → length xs ≤ n
pigeonhole n xs d h =
    let p = nodup-length xs (up_to n) d (λ i m. mem-up_to n i (h i m)) in
    let q = length-up_to n in
    omega arith
