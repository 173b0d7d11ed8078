-- Gathering: all rows become unused, and those that are marked join the list and the index again, in their order. Assumes nothing.
use Rattle.std.specs.Prelude.{◌≡◌, true, ◌≢◌, List, ℕ, ◌*◌, ◌≤◌, ◌<◌}
use Rattle.layout.specs.Places.{MAX_ROWS, words_for, USED, LOW, HIGH, LEVEL, NEXT, RANK}
use Rattle.layout.specs.View.{View, put_header}
use Rattle.rows.specs.Used.{used, Ranked}
use Rattle.rows.specs.Index.{Index}
use Rattle.table.specs.Columns.{set_heads}
use Rattle.rows.specs.Bits.{On}

-- X is W but for its heads
pub record Headed (W X : View) : Type 0 where
  pub heads : ℕ → ℕ
  pub same : X ≡ set_heads W heads

-- no two used rows have the same three words
abbrev pub Shared : View → Type 0
Shared W =
    (i j : ℕ) → used W i ≡ true → used W j ≡ true → W.cell i LEVEL ≡ W.cell j LEVEL → W.cell i LOW ≡ W.cell j LOW
    → W.cell i HIGH ≡ W.cell j HIGH → i ≡ j

-- after the first k places of W's list: the marked rows there are used again
pub record Part (W : View) (mark : ℕ → Type 0) (k : ℕ) (X : View) : Type 0 where
  pub rows : X.rows ≡ W.rows
  pub size : X.size ≡ W.size
  pub header : (h : ℕ) → h ≢ USED → X.header h ≡ W.header h
  pub cells : (j l : ℕ) → l ≢ NEXT → l ≢ RANK → X.cell j l ≡ W.cell j l
  pub slot : X.slot ≡ W.slot
  pub beyond : X.beyond ≡ W.beyond
  pub count-le : X.header USED ≤ k
  pub left : (p : ℕ) → k ≤ p → X.list p ≡ W.list p
  pub ranked : Ranked X
  pub index : Index X
  pub from : (j : ℕ) → used X j ≡ true → (used W j ≡ true) × mark j × (W.cell j RANK < k)
  pub has : (j : ℕ) → used W j ≡ true → mark j → W.cell j RANK < k → used X j ≡ true

-- what gathering the rows of the first `total` places asks
pub record GatherPre (E : View) (total size : ℕ) : Type 0 where
  pub words : words_for E.rows ≤ E.size
  pub max : E.rows ≤ MAX_ROWS
  pub marks : E.rows ≤ 32 * size
  pub none : E.header USED ≡ 0
  pub ranked : Ranked (put_header E USED total)
  pub shared : Shared (put_header E USED total)

-- what gathering leaves: the marked rows are used, in the same order, and nothing but count, list, heads, links and ranks is written
pub record Gathered (W X : View) (m : List ℕ) : Type 0 where
  pub rows : X.rows ≡ W.rows
  pub size : X.size ≡ W.size
  pub header : (h : ℕ) → h ≢ USED → X.header h ≡ W.header h
  pub cells : (j l : ℕ) → l ≢ NEXT → l ≢ RANK → X.cell j l ≡ W.cell j l
  pub slot : X.slot ≡ W.slot
  pub beyond : X.beyond ≡ W.beyond
  pub ranked : Ranked X
  pub index : Index X
  pub from : (j : ℕ) → used X j ≡ true → (used W j ≡ true) × On m j
  pub has : (j : ℕ) → used W j ≡ true → On m j → used X j ≡ true
