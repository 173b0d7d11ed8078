-- What the check of registers and relations against V asks and tells: to lie within V is to be apart from NOT V. Assumes nothing.
use Rattle.std.specs.Prelude.{◌≡◌, List, Bool, true, false, ℕ, suc, ◌+◌, ◌-◌, ◌*◌, ◌≤◌, ◌<◌, length}
use Rattle.diagram.specs.Rows.{Rows, Arrow, level_of, follow}
use Rattle.diagram.specs.Even.{ReadsOn, even}
use Rattle.layout.specs.Places.{HEADER, BITS, USED, FIRST_REGISTER, ROOTS_END}
use Rattle.layout.specs.View.{View}
use Rattle.layout.specs.Arrows.{row_of}
use Rattle.rows.specs.Used.{rows_of}
use Rattle.rows.specs.Says.{Says}
use Rattle.rows.specs.Within.{den_of}
use Rattle.rows.specs.Sound.{Good}
use Rattle.soundness.specs.Apart.{Apart}
use Rattle.rows.specs.Roots.{Ref}
use Rattle.soundness.specs.Tables.{SETS, Known, Sets}
use Rattle.soundness.specs.Pairs.{PAIR_WORDS, Right}

-- the roots from a word of the header up to, and not with, another are apart from arrow b
abbrev pub AllApart : View → ℕ → ℕ → ℕ → ℕ → Type 0
AllApart W s start stop b = (h : ℕ) → start ≤ h → h < stop → (a : ℕ) → W.header h ≡ suc a → Apart (2 * W.header BITS) (rows_of W) s a b

-- the base from which tables decide, that of the last ten levels, and the lists of tables: with a place for each used row, and those of
-- V's arrows; both right
pub record Lists (W : View) (s base : ℕ) (xs ys : List ℕ) : Type 0 where
  pub last : base ≡ 2 * W.header BITS - 10
  pub room : (W.header USED ≤ length xs) × (length ys ≡ SETS)
  pub first : Known W base s 0 xs
  pub second : Sets W base s ys

-- what the check asks: a good table, a shift of 0 or 1 levels, right pairs and tables
pub record Asks (W : View) (s base : ℕ) (memo xs ys : List ℕ) : Type 0 where
  pub good : Good W
  pub shift : s ≤ 1
  pub size : length memo ≡ PAIR_WORDS
  pub right : Right (2 * W.header BITS) (rows_of W) s memo
  pub lists : Lists W s base xs ys

-- the arrow of a set of states
pub record Against (W : View) (b : ℕ) : Type 0 where
  pub arrow : Arrow (rows_of W) b
  pub reads : ReadsOn even (den_of W b)

-- what it tells of P, with the pairs and tables that it leaves
pub record Tells (W : View) (s base : ℕ) (memo xs ys : List ℕ) (P : Type 0) (r : Bool) : Type 0 where
  pub says : Says P r
  pub right : Right (2 * W.header BITS) (rows_of W) s memo
  pub first : Known W base s 0 xs
  pub second : Sets W base s ys

-- an arrow leads to a level from the base on
pub record Deep (W : View) (base b : ℕ) : Type 0 where
  pub level : base ≤ level_of (2 * W.header BITS) (rows_of W) b

-- how many arrows a list has at most
abbrev pub MANY : ℕ
MANY = 64

-- what the roots in some words of the header ask
pub record RootsPre (W : View) (s start stop b : ℕ) : Type 0 where
  pub good : Good W
  pub shift : s ≤ 1
  pub against : Against W b
  pub order : start ≤ stop
  pub some : stop ≤ start + MANY
  pub within : stop ≤ HEADER
  pub refs : (h : ℕ) → start ≤ h → h < stop → Ref (rows_of W) (W.header h)

-- the same with tables of rows, none or right ones
pub record RefsPre (W : View) (s start stop b : ℕ) (xs : List ℕ) : Type 0 where
  pub roots : RootsPre W s start stop b
  pub room : W.header USED ≤ length xs
  pub first : Known W (2 * W.header BITS - 10) s 0 xs

pub record PassPre (W : View) (b : ℕ) : Type 0 where
  pub good : Good W
  pub against : Against W b
  pub refs : (h : ℕ) → FIRST_REGISTER ≤ h → h < ROOTS_END → Ref (rows_of W) (W.header h)

-- the halves of an arrow to a row at `own`, with the other arrow at `other`
pub record Halved (rows : Rows) (a own other lo hi : ℕ) : Type 0 where
  pub here : own ≤ other → (lo ≡ follow rows a (row_of a) false) × (hi ≡ follow rows a (row_of a) true)
  pub past : other < own → (lo ≡ a) × (hi ≡ a)
