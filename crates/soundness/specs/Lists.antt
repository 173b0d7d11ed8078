-- Lists of arrows in one room of words: what a walk of a list against one arrow asks and tells. Assumes nothing.
use Rattle.std.specs.Prelude.{◌≡◌, ◌≢◌, ◌⊎◌, List, Bool, true, false, ℕ, suc, ◌+◌, ◌-◌, ◌*◌, ◌≤◌, ◌<◌, length, get_or, set, eqb}
use Rattle.diagram.specs.Rows.{Rows, Arrow, marked, carry, level_of}
use Rattle.layout.specs.Places.{BITS, LEVEL}
use Rattle.layout.specs.View.{View}
use Rattle.layout.specs.Arrows.{is_row, row_of, flip_arrow}
use Rattle.rows.specs.Used.{rows_of}
use Rattle.rows.specs.Says.{Says}
use Rattle.rows.specs.Sound.{Good}
use Rattle.soundness.specs.Apart.{Apart, Half}
use Rattle.soundness.specs.Tables.{Known, Sets}
use Rattle.soundness.specs.Pairs.{PAIR_WORDS, Right, Seen}
use Rattle.soundness.specs.Contained.{MANY, Lists, Asks, Against, Deep, Tells}

-- how many words the lists have together: the first list, and two for each level before the base and for the one after
abbrev pub ROOM : ℕ
ROOM = 3008

-- by how many places an arrow is found again
abbrev pub FOUND : ℕ
FOUND = 512

-- the words from one place up to, and not with, another are as they were
abbrev pub Same : List ℕ → List ℕ → ℕ → ℕ → Type 0
Same list list' start stop = (k : ℕ) → start ≤ k → k < stop → get_or list' k 0 ≡ get_or list k 0

-- arrow a stands between two places of a list
pub record Among (list : List ℕ) (start stop a : ℕ) : Type 0 where
  pub at : ℕ
  pub lo : start ≤ at
  pub hi : at < stop
  pub is : get_or list at 0 ≡ a

-- each arrow between two places of a list is apart from b
abbrev pub ListApart : View → ℕ → List ℕ → ℕ → ℕ → ℕ → Type 0
ListApart W s list start stop b = (k : ℕ) → start ≤ k → k < stop → Apart (2 * W.header BITS) (rows_of W) s (get_or list k 0) b

-- a is an arrow, not nothing, that leads to a level from l on
pub record Listed (W : View) (l a : ℕ) : Type 0 where
  pub arrow : Arrow (rows_of W) a
  pub some : a ≢ 0
  pub level : l ≤ level_of (2 * W.header BITS) (rows_of W) a

abbrev pub AllListed : View → ℕ → List ℕ → ℕ → ℕ → Type 0
AllListed W l list start stop = (k : ℕ) → start ≤ k → k < stop → Listed W l (get_or list k 0)

-- arrow a is put at the end of a list, where it is not nothing and does not stand there
pub record Pushed (list list' : List ℕ) (start stop a r : ℕ) : Type 0 where
  pub kept : Same list list' 0 stop
  pub least : stop ≤ r
  pub most : r ≤ stop + 1
  pub new : (k : ℕ) → stop ≤ k → k < r → (a ≢ 0) × (get_or list' k 0 ≡ a)
  pub stood : a ≢ 0 → Among list' start r a

-- a and b are known to be apart: one is NOT of the other, or they are a remembered pair
abbrev pub Told : List ℕ → ℕ → ℕ → ℕ → Type 0
Told memo s a b = ((s ≡ 0) × (a ≡ flip_arrow b)) ⊎ Seen memo a b

-- a list keeps arrow a at place m, or P holds
pub data KeptOne (P : Type 0) (list : List ℕ) (m a : ℕ) : List ℕ → ℕ → Type 0 where
  left_out : P → KeptOne P list m a list m
  put : KeptOne P list m a (set list m a) (m + 1)

-- a list keeps arrows of its own only, and each that it does not keep is known to be apart from b
pub record KeptOpen (memo : List ℕ) (s b : ℕ) (list list' : List ℕ) (start stop r : ℕ) : Type 0 where
  pub least : start ≤ r
  pub most : r ≤ stop
  pub before : Same list list' 0 start
  pub after : (k : ℕ) → stop ≤ k → get_or list' k 0 ≡ get_or list k 0
  pub own : (k : ℕ) → start ≤ k → k < r → Among list start stop (get_or list' k 0)
  pub all : (k : ℕ) → start ≤ k → k < stop → Told memo s (get_or list k 0) b ⊎ Among list' start r (get_or list k 0)

-- remembered pairs stay right where a list is apart from b
pub record StaysRight (list : List ℕ) (start stop b : ℕ) (memo memo' : List ℕ) : Type 0 where
  pub right : (m : ℕ) (rows : Rows) (s : ℕ) → ((k : ℕ) → start ≤ k → k < stop → Apart m rows s (get_or list k 0) b) → Right m rows s memo
      → Right m rows s memo'

-- the least of a level and of those of a list's arrows
pub record Least (W : View) (list : List ℕ) (start stop top r : ℕ) : Type 0 where
  pub most : r ≤ top
  pub each : (k : ℕ) → start ≤ k → k < stop → r ≤ level_of (2 * W.header BITS) (rows_of W) (get_or list k 0)
  pub low : (l : ℕ) → l ≤ top → AllListed W l list start stop → l ≤ r

-- what looking for it asks
pub record LeastPre (W : View) (list : List ℕ) (start stop top : ℕ) : Type 0 where
  pub good : Good W
  pub each : AllListed W 0 list start stop
  pub order : start ≤ stop
  pub within : stop ≤ length list
  pub most : top ≤ 2 * W.header BITS

-- h where an arrow is at a row of the level, a where not
abbrev pub half_by : Bool → Bool → ℕ → ℕ → ℕ
half_by true true h a = h
half_by true false h a = a
half_by false e h a = a

-- the half of arrow a where level l, at most its own, is 0 (k is LOW) or 1 (k is HIGH)
unfoldable pub half_of : View → ℕ → ℕ → ℕ → ℕ
half_of W l k a = half_by (is_row a) (eqb (W.cell (row_of a) LEVEL) l) (carry (marked a) (W.cell (row_of a) k)) a

-- h is such a half of an arrow that stands between two places of a list
pub record HalfAmong (W : View) (l k : ℕ) (list : List ℕ) (start stop h : ℕ) : Type 0 where
  pub at : ℕ
  pub lo : start ≤ at
  pub hi : at < stop
  pub is : h ≡ half_of W l k (get_or list at 0)

-- the halves of the arrows from `start` up to `stop` are put at the end of a list that starts at `into`
pub record Halves (W : View) (l k : ℕ) (list list' : List ℕ) (start stop into end r : ℕ) : Type 0 where
  pub kept : Same list list' 0 end
  pub least : end ≤ r
  pub most : r ≤ end + (stop - start)
  pub new : (j : ℕ) → end ≤ j → j < r → (get_or list' j 0 ≢ 0) × HalfAmong W l k list start stop (get_or list' j 0)
  pub stood : (i : ℕ) → start ≤ i → i < stop → half_of W l k (get_or list i 0) ≢ 0 → Among list' into r (half_of W l k (get_or list i 0))

-- what laying the halves of a list asks
pub record HalvesPre (W : View) (l : ℕ) (list found : List ℕ) (start stop end : ℕ) : Type 0 where
  pub good : Good W
  pub each : AllListed W l list start stop
  pub order : (start ≤ stop) × (stop ≤ end) × (stop ≤ start + MANY)
  pub room : (length list ≡ ROOM) × (length found ≡ FOUND)

-- a list is laid out at a level as two, up to `mid` against b0 and up to `stop` against b1: these are apart where it is apart from b
pub record Laid (W : View) (s l b : ℕ) (list list' : List ℕ) (from to end b0 b1 mid stop : ℕ) : Type 0 where
  pub half : Half (2 * W.header BITS) (rows_of W) s l b b0 b1
  pub order : (end ≤ mid) × (mid ≤ stop) × (mid ≤ end + MANY) × (stop ≤ mid + MANY)
  pub kept : Same list list' 0 end
  pub each : AllListed W (l + 1) list' end stop
  pub forth : ListApart W s list from to b → ListApart W s list' end mid b0 × ListApart W s list' mid stop b1
  pub back : ListApart W s list' end mid b0 → ListApart W s list' mid stop b1 → ListApart W s list from to b

-- what laying a list out asks
pub record LayPre (W : View) (s l b : ℕ) (list found : List ℕ) (from to end : ℕ) : Type 0 where
  pub lists : HalvesPre W l list found from to end
  pub room : end + 2 * MANY ≤ ROOM
  pub shift : s ≤ 1
  pub arrow : Arrow (rows_of W) b
  pub is_row : is_row b ≡ true
  pub level : l ≤ level_of (2 * W.header BITS) (rows_of W) b + s
  pub shallow : l < 2 * W.header BITS

-- what a step of the walk asks
pub record StepPre (W : View) (s b : ℕ) (list found : List ℕ) (from to end : ℕ) (memo : List ℕ) : Type 0 where
  pub lists : HalvesPre W 0 list found from to end
  pub room : end + 2 * MANY ≤ ROOM
  pub size : length memo ≡ PAIR_WORDS
  pub shift : s ≤ 1
  pub arrow : Arrow (rows_of W) b
  pub is_row : is_row b ≡ true
  pub shallow : level_of (2 * W.header BITS) (rows_of W) b + s < 2 * W.header BITS

-- what it leaves: a list that keeps some of the arrows is laid out at a level l, from which on all are; `next` is the one after
pub record Stepped (W : View) (s b : ℕ) (memo list list' : List ℕ) (from to end last next b0 b1 mid stop : ℕ) : Type 0 where
  pub list1 : List ℕ
  pub l : ℕ
  pub kept : KeptOpen memo s b list list1 from to last
  pub laid : Laid W s l b list1 list' from last end b0 b1 mid stop
  pub above : (k : ℕ) → k ≤ level_of (2 * W.header BITS) (rows_of W) b + s → AllListed W k list from to → k ≤ l
  pub below : l ≤ level_of (2 * W.header BITS) (rows_of W) b + s
  pub after : next ≡ l + 1

-- what the tables of a list's arrows and of b ask
pub record TablesPre (W : View) (s base b : ℕ) (list : List ℕ) (from to : ℕ) (xs ys : List ℕ) : Type 0 where
  pub good : Good W
  pub shift : s ≤ 1
  pub lists : Lists W s base xs ys
  pub against : Against W b
  pub is_row : is_row b ≡ true
  pub deep : Deep W base b
  pub order : from ≤ to
  pub within : to ≤ length list
  pub arrows : (k : ℕ) → from ≤ k → k < to → Arrow (rows_of W) (get_or list k 0)

pub record TablesPost (W : View) (s base b : ℕ) (list : List ℕ) (from to : ℕ) (xs ys : List ℕ) (r : Bool) : Type 0 where
  pub says : Says (ListApart W s list from to b) r
  pub first : Known W base s 0 xs
  pub second : Sets W base s ys

-- what the walk asks: a list of arrows, not nothing, of levels from `level` on, and room past `end` for all lists that it lays
pub record WalkPre (W : View) (s base level b : ℕ) (list found : List ℕ) (from to end : ℕ) (memo xs ys : List ℕ) : Type 0 where
  pub asks : Asks W s base memo xs ys
  pub against : Against W b
  pub below : level ≤ level_of (2 * W.header BITS) (rows_of W) b + s
  pub lists : HalvesPre W level list found from to end
  pub room : end + 2 * MANY * (23 - level) ≤ ROOM

-- what it tells; the words before `from`, and from `to` up to `end`, are as they were
pub record WalkTold (W : View) (s base b : ℕ) (list list' : List ℕ) (from to end : ℕ) (memo xs ys : List ℕ) (r : Bool) : Type 0 where
  pub tells : Tells W s base memo xs ys (ListApart W s list from to b) r
  pub before : Same list list' 0 from
  pub between : Same list list' to end

-- a is the arrow of a root in the header's words
pub record RootAt (head : ℕ → ℕ) (start stop a : ℕ) : Type 0 where
  pub at : ℕ
  pub lo : start ≤ at
  pub hi : at < stop
  pub is : head at ≡ suc a

-- a list has the arrows, but nothing, of the roots from a word of the header up to, and not with, another
pub record RefsListed (head : ℕ → ℕ) (list : List ℕ) (start stop r : ℕ) : Type 0 where
  pub most : r ≤ stop - start
  pub own : (k : ℕ) → k < r → (get_or list k 0 ≢ 0) × RootAt head start stop (get_or list k 0)
  pub all : (h : ℕ) → start ≤ h → h < stop → head h - 1 ≢ 0 → Among list 0 r (head h - 1)
