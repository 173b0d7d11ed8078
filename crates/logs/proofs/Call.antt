-- The call by the book, by its checks: what it comes to where the lengths fit, where the relation's number does, and where it is filled.
-- Assumes nothing.
use mathlib.Core.Path.{◌≡◌, refl, sym, ap, ◌∙◌, subst}
use mathlib.Core.Bool.{Bool, cond}
use mathlib.Core.List.{List}
use mathlib.Core.Option.{Option, none, some}
use Prim.Native.Nat.{ℕ, ◌%◌, ◌≤◌, ◌<◌}
use lib.Dec.{T, eqb, leb, ltb, ltb→lt, lt→ltb, leb→le, le→leb, eqb→eq, eqb_refl}
use lib.ListN.{length}
use Rattle.mucalculus.proofs.Sets.{true_of, false_of, and_in, and_out}
use Rattle.mucalculus.specs.Form.{Pairs, inside}
use Rattle.book.specs.Book.{Book, relations, live_of}
use Rattle.paths.specs.Call.{refuse}
use Rattle.logs.specs.Runs.{moment_at, log_outcome}
use Rattle.logs.specs.Call.{logs_fit, last_moment, log_ends, logged_over, logged}

-- the lengths fit: equal, two numbers for each entry, 1 to 1,024 entries
pub fits_in : (one two : ℕ) → one ≡ two → one % 2 ≡ 0 → 1 ≤ one → one ≤ 2_048 → T (logs_fit one two)
fits_in one two e w s m =
    and_in (eqb one two) _ (subst (λ (k : ℕ). T (eqb one k)) e (eqb_refl one))
    (and_in (eqb (one % 2) 0) _ (subst (λ (k : ℕ). T (eqb k 0)) (sym w) tt) (and_in (leb 1 one) _ (le→leb 1 one s) (le→leb one 2_048 m)))

pub fits_out : (one two : ℕ) → T (logs_fit one two) → (one ≡ two) × (one % 2 ≡ 0) × (1 ≤ one) × (one ≤ 2_048)
fits_out one two h =
    let a = and_out (eqb one two) _ h in
    let b = and_out (eqb (one % 2) 0) _ a.1 in
    let c = and_out (leb 1 one) _ b.1 in
    (eqb→eq one two a.0, eqb→eq (one % 2) 0 b.0, leb→le 1 one c.0, leb→le one 2_048 c.1)

-- "A log length out of range or unequal gives 1"
pub says-one : (bk : Book) (t : ℕ) (one two list : List ℕ) → (T (logs_fit (length one) (length two)) → ⊥)
    → logged bk t one two list ≡ refuse 1 list
says-one bk t one two list n =
    ap (λ (b : Bool). cond b (cond (ltb t relations) (logged_over bk (bk.rel t) one two list) (refuse 3 list)) (refuse 1 list))
    (false_of (logs_fit (length one) (length two)) n)

module _ (bk : Book) (t : ℕ) (one two list : List ℕ) (f : T (logs_fit (length one) (length two))) where
  by-range : {r : Bool} → ltb t relations ≡ r
      → logged bk t one two list ≡ cond r (logged_over bk (bk.rel t) one two list) (refuse 3 list)
  by-range {r} e =
      ap (λ (b : Bool). cond b (cond (ltb t relations) (logged_over bk (bk.rel t) one two list) (refuse 3 list)) (refuse 1 list))
      (true_of (logs_fit (length one) (length two)) f)
      ∙ ap (λ (b : Bool). cond b (logged_over bk (bk.rel t) one two list) (refuse 3 list)) e

  -- "register, relation or state number out of range"
  pub says_three : (t < relations → ⊥) → logged bk t one two list ≡ refuse 3 list
  says_three n = by-range (false_of (ltb t relations) (λ h. n (ltb→lt t relations h)))

  module _ (r : t < relations) where
    later : logged bk t one two list ≡ logged_over bk (bk.rel t) one two list
    later = by-range (true_of (ltb t relations) (lt→ltb t relations r))

    -- "register or relation named is empty"
    pub says_seven : bk.rel t ≡ none → logged bk t one two list ≡ refuse 7 list
    says_seven e = later ∙ ap (λ (o : Option Pairs). logged_over bk o one two list) e

    -- and then the outcome of the steps
    pub says-outcome : {R : Pairs} → bk.rel t ≡ some R
        → logged bk t one two list
        ≡ log_ends
        (log_outcome bk.n bk.N (live_of bk) (inside (bk.rel t)) bk.valid (moment_at one two) (last_moment one) (length list)) list
    says-outcome e = later ∙ go (bk.rel t) e
      where
        go : {R : Pairs} (o : Option Pairs) → o ≡ some R
            → logged_over bk o one two list
            ≡ log_ends (log_outcome bk.n bk.N (live_of bk) (inside o) bk.valid (moment_at one two) (last_moment one) (length list)) list
        go none e = cc
        go (some S) e = refl
