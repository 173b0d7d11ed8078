-- The list of used rows is a sparse set: its count is how many rows are used, and it leaves room while a row is unused. Assumes nothing.
use mathlib.Core.Path.{◌≡◌, sym, ◌∙◌}
use mathlib.Core.Bool.{true, false, true≢false}
use mathlib.Core.Logic.{by_cases}
use Prim.Native.Nat.{ℕ, ◌<◌}
use native.Mathlib.Decide.{dec_lt}
use native.Mathlib.Omega.{arith}
use Rattle.layout.specs.Places.{USED, RANK}
use Rattle.diagram.specs.Used.{used_count}
use Rattle.diagram.proofs.Used.{SparseSet, sparse_count, all-used}
use Rattle.layout.specs.View.{View}
use Rattle.rows.specs.Used.{used, Ranked, rows_of}
use Rattle.rows.proofs.Used.{used_in, InList, listed-used}

module _ (W : View) (r : Ranked W) where
  in_list : (i : ℕ) → used W i ≡ true → InList W.rows (W.header USED) (λ x. W.cell x RANK) W.list i
  in_list i u = used_in W.rows (W.header USED) (λ x. W.cell x RANK) W.list i u

  pub sparse : SparseSet (rows_of W) (W.header USED) W.list (λ i. W.cell i RANK)
  sparse = record { listed = listed-used W r; back = r.back; place = λ i u. (in_list i u).place; there = λ i u. (in_list i u).there }

  -- the count is how many rows are used
  pub count-used : W.header USED ≡ used_count (rows_of W) W.rows
  count-used = sym (sparse_count W.rows (λ i u. (in_list i u).row) sparse)

  -- while a row is unused, the list has room
  pub unused-room : (i : ℕ) → i < W.rows → used W i ≡ false → W.header USED < W.rows
  unused-room i h n =
      by_cases (dec_lt (W.header USED) W.rows) (λ l. l)
      (λ g. absurd (true≢false (sym (all-used (rows_of W) W.rows (let e = count-used in omega (arith, e, g)) i h) ∙ n)))
