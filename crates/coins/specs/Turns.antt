-- A turn of the search: the state at the next place of the relation with the least mark, and others of its mark, give that mark to all that
-- lead to them.
-- Where the search stands, it stands after a turn. Assumes nothing.
use Rattle.std.specs.Prelude.{◌≡◌, ℕ, ◌≤◌, ◌<◌, T}
use Rattle.coins.specs.Runs.{Transitions}
use Rattle.coins.specs.Marks.{Marks, Listed}

-- some states more at the end, each with the mark m
pub record Grown (M N : Marks) (m : ℕ) : Type 0 where
  pub more : M.count ≤ N.count
  pub before : (i : ℕ) → i < M.count → N.at i ≡ M.at i
  pub kept : (t : ℕ) → 1 ≤ M.mark t → N.mark t ≡ M.mark t
  pub new : (t : ℕ) → M.mark t ≡ 0 → 1 ≤ N.mark t → N.mark t ≡ m
  pub late : (i : ℕ) → M.count ≤ i → i < N.count → N.mark (N.at i) ≡ m

-- from u relation r leads to a state with the mark of t
pub record LeadsLike (k : ℕ) (leads : Transitions) (M : Marks) (r t u : ℕ) : Type 0 where
  pub state : ℕ
  pub below : state < k
  pub like : M.mark state ≡ M.mark t
  pub step : T (leads r u state)

-- the order has got only such more that had no mark and from which r leads to a state like t, and all from which it leads to t
pub record Expanded (k : ℕ) (leads : Transitions) (M N : Marks) (r t m : ℕ) : Type 0 where
  pub order : Listed k N
  pub grown : Grown M N m
  pub only : (u : ℕ) → u < k → M.mark u ≡ 0 → 1 ≤ N.mark u → LeadsLike k leads M r t u
  pub complete : (u : ℕ) → u < k → T (leads r u t) → 1 ≤ N.mark u
