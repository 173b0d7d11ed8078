-- Laws of what specs/Tally.antt defines. Assumes nothing.
use mathlib.Core.Path.{◌≡◌, refl, sym, ap, ◌∙◌, subst}
use mathlib.Core.Logic.{◌⊎◌, inl, inr, ⊎_elim, by_cases}
use mathlib.Core.Bool.{Bool, true, false, cond, true≢false}
use mathlib.Core.List.Memᴰ.{head as here}
use mathlib.Core.List.Memᴰ.{tail as there}
use mathlib.Core.List.{List, [], ◌∷◌, ◌++◌, Memᴰ as Mem}
use mathlib.Core.List.Memᴰ.{append_left as mem-left}
use mathlib.Core.List.Memᴰ.{cases_cons as mem-cases}
use mathlib.Core.List.Memᴰ.{not-nil as mem-nil}
use mathlib.Core.List.Memᴰ.{append_right as mem-right}
use Prim.Native.Nat.{ℕ, zero, suc, ◌+◌, ◌≤◌, ◌<◌}
use native.Mathlib.Decide.{ℕ_discrete}
use native.Mathlib.Omega.{arith}
use lib.ListN.{length, length-append}
use lib.Dec.{eqb, eqb_refl}
use Rattle.diagram.proofs.Level.{T_true}
use Rattle.diagram.specs.Rows.{Rows, Leads, level_of, den}
use Rattle.diagram.proofs.Rows.{leads-level}
use Rattle.diagram.specs.Reach.{Reach}
use Rattle.diagram.proofs.Reach.{Reached}
use Rattle.diagram.specs.Post.{Denotes}
use Rattle.diagram.specs.Odd.{odd_f, Follows}
use Rattle.diagram.specs.Tally.{sum_to, sum_from, those, arrows_at, rows_at}

-- The sum below z is that below k and that from k on: so code may take the second as a difference.
pub sum-split : (h : ℕ → ℕ) (k d z : ℕ) → k + d ≡ z → sum_to h z ≡ sum_to h k + sum_from h k d
unfolding sum_to sum_from
sum-split h k zero z e = let q : z ≡ k = omega arith in omega (arith, ap (sum_to h) q)
sum-split h k (suc d) z e = let i = sum-split h (suc k) d z (omega arith) in omega (arith, i)

-- What a survey of arrow a leaves: of every level at least as many as there are arrows to its rows, each with its sign (of a row that is
-- met with and without a NOT, two), among those that are followed from a, but for those to rows that are reached from `evens`.
pub record Surveyed (rows : Rows) (evens : List ℕ) (a : ℕ) (above : ℕ → ℕ) : Type 0 where
  pub arrows : ℕ → List ℕ
  pub all : (c i : ℕ) → Follows rows a c → Leads c i → Reach rows evens i ⊎ Mem c (arrows (rows.level i))
  pub counted : (l : ℕ) → length (arrows l) ≤ above l

-- What a count of the rows added leaves: of every level at least as many as there are rows reached from arrows bs and not from the roots.
pub record AddedRows (rows : Rows) (roots bs : List ℕ) (added : ℕ → ℕ) : Type 0 where
  pub listed : ℕ → List ℕ
  pub all : (i : ℕ) → Reach rows bs i → Reach rows roots i ⊎ Mem i (listed (rows.level i))
  pub counted : (l : ℕ) → length (listed l) ≤ added l

-- Every arrow that is followed from arrow a has its `odd_f` among what is reached from arrows bs.
abbrev pub CoveredBy : ℕ → Rows → List ℕ → ℕ → Type 0
CoveredBy m rows bs a = (c : ℕ) → Follows rows a c → (b : ℕ) × Reached rows bs b × Denotes m rows b (odd_f (den m rows c))

-- What passes the test of its own level is kept.
pub mem-those : (p : ℕ → Bool) {x : ℕ} (xs : List ℕ) → p x ≡ true → Mem x xs → Mem x (those p xs)
unfolding those
mem-those p [] e m = absurd (mem-nil m)
mem-those p {x} (y ∷ xs) e m = pick (p y) refl (λ h. mem-those p xs e h)
  where
    pick : (b : Bool) → p y ≡ b → (Mem x xs → Mem x (those p xs)) → Mem x (cond b (y ∷ those p xs) (those p xs))
    pick true q rest = ⊎_elim (λ h. here h) (λ h. there (rest h)) (mem-cases m)
    pick false q rest = ⊎_elim (λ h. absurd (true≢false (sym e ∙ ap p h ∙ q))) (λ h. rest h) (mem-cases m)

-- So one list of arrows, and one of rows, by level, are what surveys leave.
pub surveyed : (m : ℕ) (rows : Rows) (evens : List ℕ) (a : ℕ) (cs : List ℕ) (above : ℕ → ℕ)
    → ((c i : ℕ) → Follows rows a c → Leads c i → Reach rows evens i ⊎ Mem c cs) → ((l : ℕ) → length (arrows_at m rows cs l) ≤ above l)
    → Surveyed rows evens a above
surveyed m rows evens a cs above all counted = record {
  arrows = arrows_at m rows cs;
  all = λ c i t e. ⊎_elim (λ h. inl h)
      (λ h. inr
      (mem-those (λ x. eqb (level_of m rows x) (rows.level i)) cs (rw (leads-level m rows c i e) (T_true _ (eqb_refl (rows.level i)))) h))
      (all c i t e);
  counted = counted;
}

pub added-rows : (rows : Rows) (roots bs is : List ℕ) (added : ℕ → ℕ)
    → ((i : ℕ) → Reach rows bs i → Reach rows roots i ⊎ Mem i is) → ((l : ℕ) → length (rows_at rows is l) ≤ added l)
    → AddedRows rows roots bs added
added-rows rows roots bs is added all counted = record {
  listed = rows_at rows is;
  all = λ i t. ⊎_elim (λ h. inl h)
      (λ h. inr (mem-those (λ x. eqb (rows.level x) (rows.level i)) is (T_true _ (eqb_refl (rows.level i))) h)) (all i t);
  counted = counted;
}

-- The members of levels below k, and of the d levels from k on, in one list: at most the sum of the counts.
unfoldable pub list_to : (ℕ → List ℕ) → ℕ → List ℕ
list_to at zero = []
list_to at (suc k) = at k ++ list_to at k

unfoldable pub list_from : (ℕ → List ℕ) → ℕ → ℕ → List ℕ
list_from at k zero = []
list_from at k (suc d) = at k ++ list_from at (suc k) d

module _ (at : ℕ → List ℕ) where
  pub mem_list_to : {x : ℕ} (l k : ℕ) → l < k → Mem x (at l) → Mem x (list_to at k)
  unfolding list_to
  mem_list_to l zero h m = absurd (omega arith)
  mem_list_to {x} l (suc k) h m =
      by_cases (ℕ_discrete l k)
      (λ e. mem-left {s = at k} (list_to at k) (subst (λ (y : ℕ). Mem x (at y)) e m))
      (λ ne. mem-right (at k) (mem_list_to l k (omega arith) m))

  pub mem_list_from : {x : ℕ} (l k d : ℕ) → k ≤ l → l < k + d → Mem x (at l) → Mem x (list_from at k d)
  unfolding list_from
  mem_list_from l k zero a b m = absurd (omega arith)
  mem_list_from {x} l k (suc d) a b m =
      by_cases (ℕ_discrete l k)
      (λ e. mem-left {s = at k} (list_from at (suc k) d) (subst (λ (y : ℕ). Mem x (at y)) e m))
      (λ ne. mem-right (at k) (mem_list_from l (suc k) d (omega arith) (omega arith) m))

  module _ (h : ℕ → ℕ) (counted : (l : ℕ) → length (at l) ≤ h l) where
    pub length_list_to : (k : ℕ) → length (list_to at k) ≤ sum_to h k
    unfolding list_to sum_to
    length_list_to zero = omega arith
    length_list_to (suc k) = omega (arith, length-append (at k) (list_to at k), counted k, length_list_to k)

    pub length_list_from : (k d : ℕ) → length (list_from at k d) ≤ sum_from h k d
    unfolding list_from sum_from
    length_list_from k zero = omega arith
    length_list_from k (suc d) = omega (arith, length-append (at k) (list_from at (suc k) d), counted k, length_list_from (suc k) d)
