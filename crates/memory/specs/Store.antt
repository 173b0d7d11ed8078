-- A result is stored: what is remembered stays right. Assumes nothing.
use Rattle.std.specs.Prelude.{◌≡◌, Bool, true, false, cond, ◌≢◌, ℕ, ◌+◌, ◌*◌, ◌≤◌, ◌<◌, eqb, ltb, Result, Ok, Err}
use Rattle.diagram.specs.Rows.{marked}
use Rattle.layout.specs.Places.{SLOTS, MEMO_KEY, MEMO_VALUE}
use Rattle.layout.specs.View.{View, put_cell, put_slot}
use Rattle.table.specs.declared.Full.{Full}
use Rattle.memory.specs.Frame.{MemoFrame, set_slots}
use Rattle.memory.specs.Memo.{MOST, kind_in, Slots}

-- X is W with the entries `from` up to `to` empty, and those before as they were
pub record Emptied (W X : View) (from to : ℕ) : Type 0 where
  pub slots : ℕ → ℕ
  pub same : X ≡ set_slots W slots
  pub empty : (s : ℕ) → from ≤ s → s < to → slots (3 * s) ≡ 0
  pub kept : (p : ℕ) → p < 3 * from → slots p ≡ W.slot p

-- X remembers of pairs at most what W does, and of rows the same
pub record Fewer (W X : View) : Type 0 where
  pub frame : MemoFrame W X
  pub sizes : Slots X
  pub cell : X.cell ≡ W.cell
  pub entries : (s : ℕ) → s < X.header SLOTS → X.slot (3 * s) ≢ 0
      → (s < W.header SLOTS) × ((p : ℕ) → 3 * s ≤ p → p < 3 * s + 3 → X.slot p ≡ W.slot p)

-- entry s becomes (x, y, r)
abbrev pub entry_put : View → ℕ → ℕ → ℕ → ℕ → View
entry_put W s x y r = put_slot (put_slot (put_slot W (3 * s) x) (3 * s + 1) y) (3 * s + 2) r

-- an active entry becomes (x, y, r), if there is one
pub data Wrote (W X : View) (x y r : ℕ) : Type 0 where
  no_slot : X ≡ W → Wrote W X x y r
  at_slot : (s : ℕ) → s < W.header SLOTS → X ≡ entry_put W s x y r → Wrote W X x y r

-- what remembering a pair does: it is counted, and written, if it was made
pub record Stored (W X : View) (x y r : ℕ) : Type 0 where
  pub mid : View
  pub counted : Fewer W mid
  pub wrote : Wrote mid X x y r

abbrev pub RememberPost : View → View → ℕ → ℕ → Result ℕ Full → Type 0
RememberPost W X x y (Ok r) = Stored W X x y r
RememberPost W X x y (Err _) = X ≡ W

-- the key and the value after a result r of a kind is stored for the arrow with or without a NOT: one of that kind for the other arrow
-- stays
abbrev pub new_key : Bool → ℕ → ℕ → ℕ → ℕ
new_key true kind r key = kind + 64 * (r + 1)
new_key false kind r key = cond (eqb (kind_in key) kind) key kind

abbrev pub new_value : Bool → ℕ → ℕ → ℕ → ℕ → ℕ
new_value true kind r key value = cond (eqb (kind_in key) kind) value 0
new_value false kind r key value = r + 1

-- row i remembers a result for arrow a, if it was made
abbrev pub stored_row : View → ℕ → ℕ → ℕ → ℕ → View
stored_row W a i kind r =
    put_cell (put_cell W i MEMO_KEY (new_key (marked a) kind r (W.cell i MEMO_KEY))) i MEMO_VALUE
    (new_value (marked a) kind r (W.cell i MEMO_KEY) (W.cell i MEMO_VALUE))

unfoldable pub keep_row : View → ℕ → ℕ → ℕ → Result ℕ Full → View
keep_row W a i kind (Ok r) = cond (ltb r MOST) (stored_row W a i kind r) W
keep_row W a i kind (Err _) = W
