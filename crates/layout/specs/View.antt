-- A table's words seen as functions: the header, the words of each row, the list of used rows, the heads of the chains, the slots for
-- remembered results, and what is beyond the table; and the same with one word put. Assumes nothing.
use Rattle.std.specs.Prelude.{cond, List, ℕ, ◌+◌, ◌*◌, ltb, eqb, length, get_or}
use Rattle.layout.specs.Places.{HEADER, CELLS, cells_at, list_at, heads_at, slots_at, beyond_at}

-- `total` words from `start` on, as a function that is 0 past them
unfoldable pub block : ℕ → ℕ → List ℕ → ℕ → ℕ
block start total ws k = cond (ltb k total) (get_or ws (start + k) 0) 0

-- word h of the header
unfoldable pub header_of : List ℕ → ℕ → ℕ
header_of ws = block 0 HEADER ws

-- word k of row i
unfoldable pub cell_of : ℕ → List ℕ → ℕ → ℕ → ℕ
cell_of N ws i k = cond (ltb i N) (block (cells_at i) CELLS ws k) 0

-- place k of the list of used rows
unfoldable pub list_of : ℕ → List ℕ → ℕ → ℕ
list_of N ws = block (list_at N) N ws

-- the head of bucket b
unfoldable pub head_of : ℕ → List ℕ → ℕ → ℕ
head_of N ws = block (heads_at N) N ws

-- word p of the slots for remembered binary results
unfoldable pub slot_of : ℕ → List ℕ → ℕ → ℕ
slot_of N ws = block (slots_at N) (2 * N) ws

-- word p of those that are "never changed"
unfoldable pub beyond_of : ℕ → List ℕ → ℕ → ℕ
beyond_of N ws p = get_or ws (beyond_at N + p) 0

-- a table's words, seen as functions
pub record View : Type 0 where
  pub rows : ℕ
  pub size : ℕ
  pub header : ℕ → ℕ
  pub cell : ℕ → ℕ → ℕ
  pub list : ℕ → ℕ
  pub head : ℕ → ℕ
  pub slot : ℕ → ℕ
  pub beyond : ℕ → ℕ

-- the words of a table of N rows
abbrev pub view : ℕ → List ℕ → View
view N ws =
    record {
      rows = N;
      size = length ws;
      header = header_of ws;
      cell = cell_of N ws;
      list = list_of N ws;
      head = head_of N ws;
      slot = slot_of N ws;
      beyond = beyond_of N ws;
    }

-- one function changed at one number
abbrev pub upd : (ℕ → ℕ) → ℕ → ℕ → ℕ → ℕ
upd f i v j = cond (eqb j i) v (f j)

abbrev pub put_header : View → ℕ → ℕ → View
put_header W h v =
    record {
      rows = W.rows;
      size = W.size;
      header = upd W.header h v;
      cell = W.cell;
      list = W.list;
      head = W.head;
      slot = W.slot;
      beyond = W.beyond;
    }

-- The field is tested first, so that at two numerals the test computes away.
abbrev pub put_cell : View → ℕ → ℕ → ℕ → View
put_cell W i k v =
    record {
      rows = W.rows;
      size = W.size;
      header = W.header;
      cell = λ j l. cond (eqb l k) (cond (eqb j i) v (W.cell j l)) (W.cell j l);
      list = W.list;
      head = W.head;
      slot = W.slot;
      beyond = W.beyond;
    }

abbrev pub put_list : View → ℕ → ℕ → View
put_list W k v =
    record {
      rows = W.rows;
      size = W.size;
      header = W.header;
      cell = W.cell;
      list = upd W.list k v;
      head = W.head;
      slot = W.slot;
      beyond = W.beyond;
    }

abbrev pub put_head : View → ℕ → ℕ → View
put_head W b v =
    record {
      rows = W.rows;
      size = W.size;
      header = W.header;
      cell = W.cell;
      list = W.list;
      head = upd W.head b v;
      slot = W.slot;
      beyond = W.beyond;
    }

abbrev pub put_slot : View → ℕ → ℕ → View
put_slot W p v =
    record {
      rows = W.rows;
      size = W.size;
      header = W.header;
      cell = W.cell;
      list = W.list;
      head = W.head;
      slot = upd W.slot p v;
      beyond = W.beyond;
    }
