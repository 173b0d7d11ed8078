-- What is remembered, and that an entry is absent or right. Assumes nothing.
use Rattle.std.specs.Prelude.{◌≡◌, Bool, true, false, ◌≢◌, ℕ, zero, suc, ◌+◌, ◌*◌, ◌/◌, ◌%◌, ◌≤◌, ◌<◌, Option, Some, None}
use Rattle.diagram.specs.Level.{Fn}
use Rattle.diagram.specs.Rows.{Rows, marked, row, carry, Arrow, den}
use Rattle.diagram.specs.Post.{Denotes}
use Rattle.diagram.specs.Steps.{and_f, shift_f, exists_f}
use Rattle.diagram.specs.Odd.{odd_f, Covered}
use Rattle.layout.specs.Places.{SLOTS, STORED, MEMO_KEY, MEMO_VALUE}
use Rattle.layout.specs.View.{View}
use Rattle.rows.specs.Used.{used, rows_of}

-- the kinds of unary results: 1 SHIFT, 2 EXISTS at every odd level, 3 + x EXISTS at level x
abbrev pub ODD : ℕ
ODD = 2

abbrev pub KINDS : ℕ
KINDS = 35

abbrev pub unary_f : ℕ → Fn → Fn
unary_f zero f = f
unary_f (suc zero) f = shift_f f
unary_f (suc (suc zero)) f = odd_f f
unary_f (suc (suc (suc x))) f = exists_f x f

-- a bound of arrows
abbrev pub MOST : ℕ
MOST = 131072

-- a row's key has the kind as its remainder by 64, and one more than the answer for the arrow with a NOT as the rest; the row's value is
-- one more than the answer for the arrow without: 0 where there is none
abbrev pub kind_in : ℕ → ℕ
kind_in key = key % 64

abbrev pub held : Bool → ℕ → ℕ → ℕ
held false key value = value
held true key value = key / 64

-- v is rightly remembered of arrow a; where it is of every odd level, what is followed from a has its own too
pub record RightFor (m : ℕ) (rows : Rows) (kind a v : ℕ) : Type 0 where
  pub answer : Denotes m rows v (unary_f kind (den m rows a))
  pub covered : kind ≡ ODD → Covered m rows a

-- what row i remembers by a key and a value is right
pub record Right (m : ℕ) (rows : Rows) (i key value : ℕ) : Type 0 where
  pub each : kind_in key ≢ 0 → (b : Bool) (v : ℕ) → held b key value ≡ suc v → RightFor m rows (kind_in key) (carry b (row i)) v

-- the entry (x, y, r) is right
pub record Entry (m : ℕ) (rows : Rows) (x y r : ℕ) : Type 0 where
  pub left : Arrow rows x
  pub right : Arrow rows y
  pub answer : Denotes m rows r (and_f (den m rows x) (den m rows y))

-- the active slots have room, and at most half as many results were stored as there are active slots
pub record Slots (W : View) : Type 0 where
  pub room : 3 * W.header SLOTS ≤ 2 * W.rows
  pub few : 2 * W.header STORED ≤ W.header SLOTS

-- every active slot is empty or holds a right entry, and every used row remembers nothing or a right result
pub record Remembers (m : ℕ) (W : View) : Type 0 where
  pub sizes : Slots W
  pub pairs : (s : ℕ) → s < W.header SLOTS → W.slot (3 * s) ≢ 0
      → Entry m (rows_of W) (W.slot (3 * s)) (W.slot (3 * s + 1)) (W.slot (3 * s + 2))
  pub singles : (i : ℕ) → used W i ≡ true → Right m (rows_of W) i (W.cell i MEMO_KEY) (W.cell i MEMO_VALUE)

-- an active slot holds (x, y, v)
pub record Held (W : View) (x y v : ℕ) : Type 0 where
  pub at : ℕ
  pub active : at < W.header SLOTS
  pub first : W.slot (3 * at) ≡ x
  pub second : W.slot (3 * at + 1) ≡ y
  pub value : v ≡ W.slot (3 * at + 2)

-- what recalling says of a pair, and of row i, an arrow to it and a kind
abbrev pub RecallPost : View → ℕ → ℕ → Option ℕ → Type 0
RecallPost W x y (Some v) = Held W x y v
RecallPost W x y None = Unit {0}

abbrev pub RowPost : View → ℕ → ℕ → ℕ → Option ℕ → Type 0
RowPost W a i kind (Some v) =
    (kind_in (W.cell i MEMO_KEY) ≡ kind) × (held (marked a) (W.cell i MEMO_KEY) (W.cell i MEMO_VALUE) ≡ suc v)
RowPost W a i kind None = Unit {0}
