-- The notes beside the work words: which states are marked, which goals are done, which arrows are spent. Assumes nothing.
use Rattle.std.specs.Prelude.{◌≡◌, ◌⊎◌, ◌≢◌, true, List, ℕ, ◌+◌, ◌*◌, ◌/◌, ◌%◌, ◌^◌, ◌≤◌, ◌<◌, length, get_or, set}
use Rattle.mucalculus.specs.Means.{bit}
use Rattle.layout.specs.View.{View}
use Rattle.seek.specs.Walk.{HoldsPre, holds_at}
use Rattle.seek.specs.Apart.{level_at}
use Rattle.coin_masks.specs.Masks.{LeadsTo, Masked, Beside}
use Rattle.coin_search.specs.Words.{mark_of}

-- how many of n bits are below the six of a word
pub record LowBits (n low : ℕ) : Type 0 where
  pub depth : low ≤ n
  pub wide : n ≤ low + 6
  pub small : low ≤ 10

-- t is a goal: its lower bits are q, and its six others one of the goals
pub record Goal (low q goals t : ℕ) : Type 0 where
  pub lower : t % 2 ^ low ≡ q
  pub upper : bit (t / 2 ^ low) goals ≡ true

-- from state u arrow x leads to a goal
pub record Led (W : View) (low q goals x u : ℕ) : Type 0 where
  pub goal : ℕ
  pub is : Goal low q goals goal
  pub step : holds_at W x u goal ≡ true

-- node s + 2^p has the states with the p lower bits s; bit j of its word says that all of them with the upper bits j are marked
abbrev pub Bitmap : ℕ → ℕ → List ℕ → List ℕ → Type 0
Bitmap n low w N = (p s u : ℕ) → p ≤ low → s < 2 ^ p → u < 2 ^ n → u % 2 ^ p ≡ s → bit (u / 2 ^ low) (get_or N (s + 2 ^ p) 0) ≡ true
    → 1 ≤ mark_of w u

-- word i has bit j more, where state s is marked
pub record Noted (w N M : List ℕ) (s i j : ℕ) : Type 0 where
  pub size : length M ≡ length N
  pub others : (k : ℕ) → k ≢ i → get_or M k 0 ≡ get_or N k 0
  pub bits : (l : ℕ) → bit l (get_or M i 0) ≡ true → (bit l (get_or N i 0) ≡ true) ⊎ ((l ≡ j) × (1 ≤ mark_of w s))

-- arrow x has done some goals: all states from which it leads to one are marked
pub record DoneAt (W : View) (n low : ℕ) (w : List ℕ) (x q goals : ℕ) : Type 0 where
  pub all : (u t : ℕ) → u < 2 ^ n → Goal low q goals t → holds_at W x u t ≡ true → 1 ≤ mark_of w u

-- arrow x is spent at a node for some goals, of whose lower bits it can read h: all states of the node that lead to one are marked
pub record Spent (W : View) (n low : ℕ) (w : List ℕ) (x node h goals : ℕ) : Type 0 where
  pub all : (p s u t : ℕ) → s < 2 ^ p → s + 2 ^ p ≡ node → u < 2 ^ n → u % 2 ^ p ≡ s → t % 2 ^ low / 2 ^ (level_at W x / 2) ≡ h
      → bit (t / 2 ^ low) goals ≡ true → holds_at W x u t ≡ true → 1 ≤ mark_of w u

-- that as a key
abbrev pub spent_key : ℕ → ℕ → ℕ → ℕ
spent_key x node h = x * 4_294_967_296 + node * 65_536 + h

-- a key that is remembered, and its goals
abbrev pub SpentAt : View → ℕ → ℕ → List ℕ → ℕ → ℕ → Type 0
SpentAt W n low w key goals = Spent W n low w (key / 4_294_967_296) (key / 65_536 % 65_536) (key % 65_536) goals

-- all that is noted is true
pub record NotesHold (W : View) (n low : ℕ) (w N : List ℕ) : Type 0 where
  pub bits : LowBits n low
  pub bitmap : Bitmap n low w N
  pub done : (q : ℕ) → q < 1_024 → DoneAt W n low w (get_or N (2_048 + q) 0) q (get_or N (3_072 + q) 0)
  pub spent : (k : ℕ) → k < 1_021 → SpentAt W n low w (get_or N (4_096 + k) 0) (get_or N (5_117 + k) 0)
  pub masks : Masked W low N

-- arrow x and goal j of the lower bits q stand among what is done
pub record DoneMet (N : List ℕ) (x q j : ℕ) : Type 0 where
  pub is : get_or N (2_048 + q) 0 ≡ x
  pub has : bit j (get_or N (3_072 + q) 0) ≡ true

-- a key stands among those that are remembered, with these goals or more
pub record KeyMet (N : List ℕ) (key goals : ℕ) : Type 0 where
  pub at : ℕ
  pub slot : at < 1_021
  pub is : get_or N (4_096 + at) 0 ≡ key
  pub has : (j : ℕ) → bit j goals ≡ true → bit j (get_or N (5_117 + at) 0) ≡ true

-- goals that are remembered at place k: each is one of these goals, or stands there with the key
pub record GoalsWith (N : List ℕ) (k key goals all : ℕ) : Type 0 where
  pub from : (j : ℕ) → bit j all ≡ true → (bit j goals ≡ true) ⊎ ((get_or N (4_096 + k) 0 ≡ key) × (bit j (get_or N (5_117 + k) 0) ≡ true))

-- nothing changed, or a key is remembered with its goals
pub data KeyPut (N : List ℕ) (key goals : ℕ) : List ℕ → Type 0 where
  none : KeyPut N key goals N
  put : (k all : ℕ) → k < 1_021 → GoalsWith N k key goals all → KeyPut N key goals (set (set N (4_096 + k) key) (5_117 + k) all)

-- what `is_spent` and `put_spent` ask
pub record SpentPre (N : List ℕ) (q node : ℕ) : Type 0 where
  pub size : length N ≡ 7_365
  pub lower : q < 65_536
  pub node-small : node < 65_536

-- what `new_bits` asks
pub record NewBitsPre (W : View) (low x : ℕ) (N : List ℕ) (node : ℕ) : Type 0 where
  pub arrow : HoldsPre W x
  pub small : low ≤ 10
  pub masked : Masked W low N
  pub place : node < 2_048

-- of the classes of a node those that are not known to be marked and that arrow x leads from, exactly where x reads no bit below `low`
pub record NewBits (W : View) (low x goals : ℕ) (N M : List ℕ) (node r : ℕ) : Type 0 where
  pub masked : Masked W low M
  pub beside : Beside N M
  pub has : (i : ℕ) → i < 64 → (2 * low ≤ level_at W x → LeadsTo W low x goals i) → (bit i (get_or N node 0) ≡ true) ⊎ (bit i r ≡ true)
  pub only : 2 * low ≤ level_at W x → (i : ℕ) → i < 64 → bit i r ≡ true → LeadsTo W low x goals i
