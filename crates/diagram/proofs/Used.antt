-- Laws of what specs/Used.antt defines. Assumes nothing.
use mathlib.Core.Path.{◌≡◌, refl, sym, ap, ◌∙◌}
use mathlib.Core.Logic.{◌≢◌, ⊎_elim, by_cases}
use mathlib.Core.Bool.{Bool, true, false, cond, true≢false, Bool-discrete}
use mathlib.Core.List.Memᴰ.{cases_cons as mem-cases}
use mathlib.Core.List.Memᴰ.{head as here}
use mathlib.Core.List.Memᴰ.{tail as there}
use mathlib.Core.List.{◌∷◌, map, Memᴰ as Mem}
use mathlib.Core.List.Memᴰ.{cast as mem_cast}
use mathlib.Core.List.Memᴰ.{map as mem-map}
use mathlib.Core.List.Memᴰ.{not-nil as mem-nil}
use mathlib.Core.List.Memᴰ.{of_map as mem-of-map}
use Prim.Native.Nat.{ℕ, zero, suc, ◌≤◌, ◌<◌}
use native.Mathlib.Decide.{ℕ_discrete}
use native.Mathlib.Omega.{arith}
use lib.ListN.{length-map}
use Rattle.diagram.specs.Rows.{Rows, Extends}
use Rattle.diagram.specs.Count.{NoDup, up_to}
use Rattle.diagram.proofs.Count.{nodup-length, nodup-same-length, nodup-map, length-up_to, mem-up_to, up_to-below, nodup-up_to}
use Rattle.diagram.proofs.Count.{pigeonhole}
use Rattle.diagram.specs.Used.{used_rows, used_count}

module _ (rows : Rows) where
  pub mem-used_rows : (n i : ℕ) → i < n → rows.used i ≡ true → Mem i (used_rows rows n)
  unfolding used_rows
  mem-used_rows zero i h u = absurd (omega arith)
  mem-used_rows (suc n) i h u = pick (rows.used n) refl (λ g. mem-used_rows n i g u)
    where
      pick : (b : Bool) → rows.used n ≡ b → (i < n → Mem i (used_rows rows n)) → Mem i (cond b (n ∷ used_rows rows n) (used_rows rows n))
      pick true e rest = elim (ℕ_discrete i n) [ yes g ↦ here g | no g ↦ there (rest (omega arith)) ]
      pick false e rest = rest (let ne : i ≢ n = λ g. true≢false (sym u ∙ ap rows.used g ∙ e) in omega arith)

  pub used_rows-mem : (n i : ℕ) → Mem i (used_rows rows n) → (i < n) × (rows.used i ≡ true)
  unfolding used_rows
  used_rows-mem zero i m = absurd (mem-nil m)
  used_rows-mem (suc n) i m = pick (rows.used n) refl (λ g. used_rows-mem n i g) m
    where
      more : (i < n) × (rows.used i ≡ true) → (i < suc n) × (rows.used i ≡ true)
      more h = (omega (arith, h.0), h.1)

      pick : (b : Bool) → rows.used n ≡ b → (Mem i (used_rows rows n) → (i < n) × (rows.used i ≡ true))
          → Mem i (cond b (n ∷ used_rows rows n) (used_rows rows n)) → (i < suc n) × (rows.used i ≡ true)
      pick true e rest h = ⊎_elim (λ g. (omega arith, ap rows.used g ∙ e)) (λ g. more (rest g)) (mem-cases h)
      pick false e rest h = more (rest h)

  pub nodup-used_rows : (n : ℕ) → NoDup (used_rows rows n)
  unfolding used_rows
  nodup-used_rows zero = tt
  nodup-used_rows (suc n) = pick (rows.used n) (nodup-used_rows n)
    where
      pick : (b : Bool) → NoDup (used_rows rows n) → NoDup (cond b (n ∷ used_rows rows n) (used_rows rows n))
      pick true d = ((λ h. let (lt, u) = used_rows-mem n n h in omega arith), d)
      pick false d = d

-- A larger table has no fewer.
pub used_count_extends : {old new : Rows} (N : ℕ) → Extends old new → used_count old N ≤ used_count new N
used_count_extends {old} {new} N e =
    nodup-length (used_rows old N) (used_rows new N) (nodup-used_rows old N) (λ i h.
    let (lt, u) = used_rows-mem old N i h in
    mem-used_rows new N i lt (e.used i u))

-- All N rows are used exactly where N are.
pub used_count-all : (rows : Rows) (N : ℕ) → ((i : ℕ) → i < N → rows.used i ≡ true) → N ≤ used_count rows N
used_count-all rows N all =
    let n = nodup-length (up_to N) (used_rows rows N) (nodup-up_to N)
    (λ i h. let lt = up_to-below N i h in mem-used_rows rows N i lt (all i lt)) in
    let e = length-up_to N in
    omega arith

pub all-used : (rows : Rows) (N : ℕ) → N ≤ used_count rows N → (i : ℕ) → i < N → rows.used i ≡ true
all-used rows N many i lt =
    by_cases (Bool-discrete (rows.used i) true) (λ u. u)
    (λ no-use.
    let p = pigeonhole N (i ∷ used_rows rows N) ((λ h. no-use (used_rows-mem rows N i h).1), nodup-used_rows rows N)
    (λ j h. ⊎_elim (λ e. rw e lt) (λ g. (used_rows-mem rows N j g).0) (mem-cases h))
    in
    absurd (omega arith))

-- The used rows as a sparse set: the first `count` places of a list have one each, and each used row's rank is its place.
pub record SparseSet (rows : Rows) (count : ℕ) (list rank : ℕ → ℕ) : Type 0 where
  pub listed : (k : ℕ) → k < count → rows.used (list k) ≡ true
  pub back : (k : ℕ) → k < count → rank (list k) ≡ k
  pub place : (i : ℕ) → rows.used i ≡ true → rank i < count
  pub there : (i : ℕ) → rows.used i ≡ true → list (rank i) ≡ i

-- Then `count` rows are used.
pub sparse_count : {rows : Rows} {count : ℕ} {list rank : ℕ → ℕ} (N : ℕ) → ((i : ℕ) → rows.used i ≡ true → i < N)
    → SparseSet rows count list rank
    → used_count rows N ≡ count
sparse_count {rows} {count} {list} {rank} N bounded s =
    let at : (k : ℕ) → Mem k (up_to count) → rank (list k) ≡ k = λ k h. s.back k (up_to-below count k h) in
    nodup-same-length (used_rows rows N) (map list (up_to count)) (nodup-used_rows rows N)
    (nodup-map list (up_to count) (λ j k mj mk e. sym (at j mj) ∙ ap rank e ∙ at k mk) (nodup-up_to count))
    (λ i h.
    let u = (used_rows-mem rows N i h).1 in
    mem_cast (sym (s.there i u)) (mem-map list (mem-up_to count (rank i) (s.place i u))))
    (λ i h.
    let (k, mk, e) = mem-of-map list (up_to count) h in
    let u = s.listed k (up_to-below count k mk) in
    mem_cast (sym e) (mem-used_rows rows N (list k) (bounded (list k) u) u))
    ∙ length-map (up_to count) list ∙ length-up_to count
