-- What making tables of cells asks and leaves: each remembered table is right. Assumes nothing.
use Rattle.std.specs.Prelude.{◌≡◌, ◌≢◌, Bool, true, false, List, ℕ, ◌*◌, ◌/◌, ◌≤◌, length, get_or}
use Rattle.diagram.specs.Rows.{row, Arrow}
use Rattle.layout.specs.Places.{BITS, USED, LOW, HIGH, RANK}
use Rattle.layout.specs.View.{View}
use Rattle.layout.specs.Arrows.{is_row}
use Rattle.rows.specs.Used.{rows_of}
use Rattle.rows.specs.Sound.{Good}
use Rattle.soundness.specs.Masks.{swapped}
use Rattle.soundness.specs.Cells.{Shown, Tabled}

-- how many used rows are few
abbrev pub FEW : ℕ
FEW = 2048

-- how many places the tables of V have
abbrev pub SETS : ℕ
SETS = 1024

-- NOT where b
abbrev pub carried_cells : Bool → ℕ → ℕ
carried_cells false w = w
carried_cells true w = swapped w

-- each table remembered at a used row's rank is that row's; 0 is none
pub record Known (W : View) (base s t : ℕ) (memo : List ℕ) : Type 0 where
  pub at : (i : ℕ) → (rows_of W).used i ≡ true → get_or memo (W.cell i RANK) 0 ≢ 0
      → Tabled (2 * W.header BITS) (rows_of W) base s t (row i) (get_or memo (W.cell i RANK) 0)

-- each remembered table of a set has the cells that its arrow meets: the arrow is in the high half, the cells in the low one
pub record Sets (W : View) (base s : ℕ) (memo : List ℕ) : Type 0 where
  pub at : (k : ℕ) → get_or memo k 0 / 4294967296 ≢ 0
      → Shown (2 * W.header BITS) (rows_of W) base s s (get_or memo k 0 / 4294967296) (get_or memo k 0) false

-- what the table of a set asks
pub record SetPre (W : View) (base s b : ℕ) : Type 0 where
  pub good : Good W
  pub low-base : base ≤ 32
  pub shift : s ≤ 1
  pub arrow : Arrow (rows_of W) b

pub record SetsPre (W : View) (base s b : ℕ) (memo : List ℕ) : Type 0 where
  pub asked : SetPre W base s b
  pub is_row : is_row b ≡ true
  pub size : length memo ≡ SETS
  pub sets : Sets W base s memo

pub record SetsPost (W : View) (base s b r : ℕ) (memo : List ℕ) : Type 0 where
  pub shown : Shown (2 * W.header BITS) (rows_of W) base s s b r false
  pub sets : Sets W base s memo

pub record TablePre (W : View) (base s t a : ℕ) (memo : List ℕ) : Type 0 where
  pub good : Good W
  pub low-base : base ≤ 32
  pub shift : s ≤ 1
  pub up : t ≤ 1
  pub size : W.header USED ≤ length memo
  pub known : Known W base s t memo
  pub arrow : Arrow (rows_of W) a

pub record TablePost (W : View) (base s t a r : ℕ) (memo : List ℕ) : Type 0 where
  pub tabled : Tabled (2 * W.header BITS) (rows_of W) base s t a r
  pub known : Known W base s t memo

-- what the table of row i asks: those of its arrows
pub record RowPre (W : View) (base s t i w0 w1 : ℕ) : Type 0 where
  pub good : Good W
  pub low-base : base ≤ 32
  pub shift : s ≤ 1
  pub up : t ≤ 1
  pub used : (rows_of W).used i ≡ true
  pub low : Tabled (2 * W.header BITS) (rows_of W) base s t (W.cell i LOW) w0
  pub high : Tabled (2 * W.header BITS) (rows_of W) base s t (W.cell i HIGH) w1
