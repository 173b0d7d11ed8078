-- Laws of what specs/View.antt defines. Assumes nothing.
use mathlib.Core.Path.{◌≡◌, refl, fun_ext, ◌∙◌}
use mathlib.Core.Bool.{Bool, true, false, cond}
use mathlib.Core.Logic.{◌≢◌}
use mathlib.Core.List.{List}
use Prim.Native.Nat.{ℕ, ◌+◌, ◌*◌, ◌≤◌, ◌<◌}
use native.Mathlib.Omega.{arith}
use lib.Dec.{ltb, eqb}
use lib.ListN.{length, get_or, set, length-set, get_or-eq_default}
use lib.Seq.{get_or-set_same, get_or-set_other}
use borrow.Author.Tests.{lt-ltb, le-ltb, ltb-true, ltb-false, eqb-true, eqb-false}
use Rattle.layout.specs.Places.{HEADER, CELLS, words_for, cells_at, list_at, heads_at, slots_at, beyond_at}
use Rattle.layout.specs.View.{block, header_of, cell_of, list_of, head_of, slot_of, beyond_of, view, upd, put_header, put_cell, put_list}
use Rattle.layout.specs.View.{put_head, put_slot}

-- reading
block-is : (s t : ℕ) (ws : List ℕ) (k : ℕ) → k < t → block s t ws k ≡ get_or ws (s + k) 0
unfolding block
block-is s t ws k l = rw (lt-ltb k t l)

pub header_is : (ws : List ℕ) (h : ℕ) → h < HEADER → header_of ws h ≡ get_or ws h 0
unfolding header_of
header_is ws h l = let e : 0 + h ≡ h = omega arith in rw (block-is 0 HEADER ws h l, e)

pub cell-is : (N : ℕ) (ws : List ℕ) (i k : ℕ) → i < N → k < CELLS → cell_of N ws i k ≡ get_or ws (cells_at i + k) 0
unfolding cell_of
cell-is N ws i k h l = rw (lt-ltb i N h) (block-is (cells_at i) CELLS ws k l)

pub list-is : (N : ℕ) (ws : List ℕ) (k : ℕ) → k < N → list_of N ws k ≡ get_or ws (list_at N + k) 0
unfolding list_of
list-is N ws k l = block-is (list_at N) N ws k l

pub head-is : (N : ℕ) (ws : List ℕ) (b : ℕ) → b < N → head_of N ws b ≡ get_or ws (heads_at N + b) 0
unfolding head_of
head-is N ws b l = block-is (heads_at N) N ws b l

pub slot_is : (N : ℕ) (ws : List ℕ) (p : ℕ) → p < 2 * N → slot_of N ws p ≡ get_or ws (slots_at N + p) 0
unfolding slot_of
slot_is N ws p l = block-is (slots_at N) (2 * N) ws p l

-- past the header, the heads, and the words, there is 0
block-past : (s t : ℕ) (ws : List ℕ) (k : ℕ) → t ≤ k → block s t ws k ≡ 0
unfolding block
block-past s t ws k l = rw (le-ltb k t l)

pub header-past : (ws : List ℕ) (h : ℕ) → HEADER ≤ h → header_of ws h ≡ 0
unfolding header_of
header-past ws h l = block-past 0 HEADER ws h l

pub head-past : (N : ℕ) (ws : List ℕ) (b : ℕ) → N ≤ b → head_of N ws b ≡ 0
unfolding head_of
head-past N ws b l = block-past (heads_at N) N ws b l

pub header-end : (ws : List ℕ) (h : ℕ) → h < HEADER → length ws ≤ h → header_of ws h ≡ 0
header-end ws h l e = header_is ws h l ∙ get_or-eq_default ws 0 e

-- writing: a word that is none of a block's, and one of them
module _ (s t : ℕ) (ws : List ℕ) where
  off : (p v : ℕ) → ((j : ℕ) → j < t → s + j ≢ p) → (k : ℕ) → block s t (set ws p v) k ≡ block s t ws k
  unfolding block
  off p v h k = go (ltb k t) refl
    where
      go : (b : Bool) → ltb k t ≡ b → cond b (get_or (set ws p v) (s + k) 0) 0 ≡ cond b (get_or ws (s + k) 0) 0
      go true e = get_or-set_other ws p (s + k) v 0 (h k (ltb-true k t e))
      go false e = refl

  on : (i p v : ℕ) → s + i ≡ p → i < t → p < length ws → (k : ℕ) → block s t (set ws p v) k ≡ upd (block s t ws) i v k
  unfolding block
  on i p v at h room k = go (eqb k i) refl (ltb k t) refl
    where
      go : (b : Bool) → eqb k i ≡ b → (c : Bool) → ltb k t ≡ c
          → cond c (get_or (set ws p v) (s + k) 0) 0 ≡ cond b v (cond c (get_or ws (s + k) 0) 0)
      go true e true f = let q : k ≡ i = eqb-true k i e in rw (q, at) (get_or-set_same ws p v 0 room)
      go true e false f = absurd (let q : k ≡ i = eqb-true k i e in let n : t ≤ k = ltb-false k t f in omega arith)
      go false e true f = let n : k ≢ i = eqb-false k i e in get_or-set_other ws p (s + k) v 0 (omega arith)
      go false e false f = refl

-- a word that is none of row j's, and one of row i
module _ (N : ℕ) (ws : List ℕ) where
  cell-off : (p v j : ℕ) → (j < N → (l : ℕ) → l < CELLS → cells_at j + l ≢ p) → (k : ℕ) → cell_of N (set ws p v) j k ≡ cell_of N ws j k
  unfolding cell_of
  cell-off p v j h k = go (ltb j N) refl
    where
      go : (b : Bool) → ltb j N ≡ b → cond b (block (cells_at j) CELLS (set ws p v) k) 0 ≡ cond b (block (cells_at j) CELLS ws k) 0
      go true e = off (cells_at j) CELLS ws p v (h (ltb-true j N e)) k
      go false e = refl

  row_is : (i : ℕ) → i < N → (xs : List ℕ) (l : ℕ) → cell_of N xs i l ≡ block (cells_at i) CELLS xs l
  unfolding cell_of
  row_is i h xs l = rw (lt-ltb i N h)

  cell-on : (i k v : ℕ) → i < N → k < CELLS → words_for N ≤ length ws → (j l : ℕ)
      → cell_of N (set ws (cells_at i + k) v) j l ≡ cond (eqb l k) (cond (eqb j i) v (cell_of N ws j l)) (cell_of N ws j l)
  cell-on i k v hi hk room j l = go (eqb j i) refl
    where
      same : (b : Bool) (x : ℕ) → x ≡ cond b x x
      same true x = refl
      same false x = refl

      go : (b : Bool) → eqb j i ≡ b
          → cell_of N (set ws (cells_at i + k) v) j l ≡ cond (eqb l k) (cond b v (cell_of N ws j l)) (cell_of N ws j l)
      go true e =
          rw (eqb-true j i e, row_is i hi (set ws (cells_at i + k) v) l, row_is i hi ws l)
          (on (cells_at i) CELLS ws k (cells_at i + k) v refl hk (omega arith) l)
      go false e =
          let n : j ≢ i = eqb-false j i e in cell-off (cells_at i + k) v j (λ y x m. omega arith) l ∙ same (eqb l k) (cell_of N ws j l)

  module _ (room : words_for N ≤ length ws) where
    -- a word of the header is written
    pub view-header : (h v : ℕ) → h < HEADER → view N (set ws h v) ≡ put_header (view N ws) h v
    unfolding header_of list_of head_of slot_of beyond_of
    view-header h v l = λ q. record {
      rows = N;
      size = length-set ws h v q;
      header = fun_ext (on 0 HEADER ws h h v (omega arith) l (omega arith)) q;
      cell = fun_ext (λ j. fun_ext (cell-off h v j (λ y x m. omega arith))) q;
      list = fun_ext (off (list_at N) N ws h v (λ j m. omega arith)) q;
      head = fun_ext (off (heads_at N) N ws h v (λ j m. omega arith)) q;
      slot = fun_ext (off (slots_at N) (2 * N) ws h v (λ j m. omega arith)) q;
      beyond = fun_ext (λ p. get_or-set_other ws h (beyond_at N + p) v 0 (omega arith)) q;
    }

    -- a word of a row is written
    pub view-cell : (i k v : ℕ) → i < N → k < CELLS → view N (set ws (cells_at i + k) v) ≡ put_cell (view N ws) i k v
    unfolding header_of list_of head_of slot_of beyond_of
    view-cell i k v hi hk = λ q. record {
      rows = N;
      size = length-set ws (cells_at i + k) v q;
      header = fun_ext (off 0 HEADER ws (cells_at i + k) v (λ j m. omega arith)) q;
      cell = fun_ext (λ j. fun_ext (cell-on i k v hi hk room j)) q;
      list = fun_ext (off (list_at N) N ws (cells_at i + k) v (λ j m. omega arith)) q;
      head = fun_ext (off (heads_at N) N ws (cells_at i + k) v (λ j m. omega arith)) q;
      slot = fun_ext (off (slots_at N) (2 * N) ws (cells_at i + k) v (λ j m. omega arith)) q;
      beyond = fun_ext (λ p. get_or-set_other ws (cells_at i + k) (beyond_at N + p) v 0 (omega arith)) q;
    }

    -- a place of the list is written
    pub view-list : (k v : ℕ) → k < N → view N (set ws (list_at N + k) v) ≡ put_list (view N ws) k v
    unfolding header_of list_of head_of slot_of beyond_of
    view-list k v l = λ q. record {
      rows = N;
      size = length-set ws (list_at N + k) v q;
      header = fun_ext (off 0 HEADER ws (list_at N + k) v (λ j m. omega arith)) q;
      cell = fun_ext (λ j. fun_ext (cell-off (list_at N + k) v j (λ y x m. omega arith))) q;
      list = fun_ext (on (list_at N) N ws k (list_at N + k) v refl l (omega arith)) q;
      head = fun_ext (off (heads_at N) N ws (list_at N + k) v (λ j m. omega arith)) q;
      slot = fun_ext (off (slots_at N) (2 * N) ws (list_at N + k) v (λ j m. omega arith)) q;
      beyond = fun_ext (λ p. get_or-set_other ws (list_at N + k) (beyond_at N + p) v 0 (omega arith)) q;
    }

    -- a head is written
    pub view-head : (b v : ℕ) → b < N → view N (set ws (heads_at N + b) v) ≡ put_head (view N ws) b v
    unfolding header_of list_of head_of slot_of beyond_of
    view-head b v l = λ q. record {
      rows = N;
      size = length-set ws (heads_at N + b) v q;
      header = fun_ext (off 0 HEADER ws (heads_at N + b) v (λ j m. omega arith)) q;
      cell = fun_ext (λ j. fun_ext (cell-off (heads_at N + b) v j (λ y x m. omega arith))) q;
      list = fun_ext (off (list_at N) N ws (heads_at N + b) v (λ j m. omega arith)) q;
      head = fun_ext (on (heads_at N) N ws b (heads_at N + b) v refl l (omega arith)) q;
      slot = fun_ext (off (slots_at N) (2 * N) ws (heads_at N + b) v (λ j m. omega arith)) q;
      beyond = fun_ext (λ p. get_or-set_other ws (heads_at N + b) (beyond_at N + p) v 0 (omega arith)) q;
    }

    -- a word of the slots is written
    pub view-slot : (p v : ℕ) → p < 2 * N → view N (set ws (slots_at N + p) v) ≡ put_slot (view N ws) p v
    unfolding header_of list_of head_of slot_of beyond_of
    view-slot p v l = λ q. record {
      rows = N;
      size = length-set ws (slots_at N + p) v q;
      header = fun_ext (off 0 HEADER ws (slots_at N + p) v (λ j m. omega arith)) q;
      cell = fun_ext (λ j. fun_ext (cell-off (slots_at N + p) v j (λ y x m. omega arith))) q;
      list = fun_ext (off (list_at N) N ws (slots_at N + p) v (λ j m. omega arith)) q;
      head = fun_ext (off (heads_at N) N ws (slots_at N + p) v (λ j m. omega arith)) q;
      slot = fun_ext (on (slots_at N) (2 * N) ws p (slots_at N + p) v refl l (omega arith)) q;
      beyond = fun_ext (λ k. get_or-set_other ws (slots_at N + p) (beyond_at N + k) v 0 (omega arith)) q;
    }
