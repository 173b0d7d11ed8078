-- A table's rows read off its words: which rows are used is a sparse set (Briggs and Torczon), a list and each row's place in it.
-- Assumes nothing.
use Rattle.std.specs.Prelude.{◌≡◌, Bool, false, cond, ℕ, ◌≤◌, ◌<◌, ltb, eqb}
use Rattle.layout.specs.Places.{MAX_BITS, MAX_ROWS, words_for, USED, LOW, HIGH, LEVEL, RANK}
use Rattle.diagram.specs.Rows.{Rows}
use Rattle.layout.specs.View.{View}

-- row i is one of N, its rank is below the count, and the list has it there
unfoldable pub used_at : ℕ → ℕ → (ℕ → ℕ) → (ℕ → ℕ) → ℕ → Bool
used_at N count rank list i = cond (ltb i N) (cond (ltb (rank i) count) (eqb (list (rank i)) i) false) false

-- row i of a table is used
abbrev pub used : View → ℕ → Bool
used W = used_at W.rows (W.header USED) (λ i. W.cell i RANK) W.list

-- the rows of a table
abbrev pub rows_of : View → Rows
rows_of W = record { used = used W; level = λ i. W.cell i LEVEL; low = λ i. W.cell i LOW; high = λ i. W.cell i HIGH }

-- the list of used rows: each place below the count has a row whose rank it is
pub record Ranked (W : View) : Type 0 where
  pub count-le : W.header USED ≤ W.rows
  pub within : (k : ℕ) → k < W.header USED → W.list k < W.rows
  pub back : (k : ℕ) → k < W.header USED → W.cell (W.list k) RANK ≡ k

-- "n and N are in range and the slice is long enough"
pub record Sizes (n N size : ℕ) : Type 0 where
  pub n_pos : 1 ≤ n
  pub n_max : n ≤ MAX_BITS
  pub N_pos : 1 ≤ N
  pub N-max : N ≤ MAX_ROWS
  pub room : words_for N ≤ size
