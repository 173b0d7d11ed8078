-- Masks of 64 states that differ in six bits only, and what is remembered of them. Assumes nothing.
use Rattle.std.specs.Prelude.{◌≡◌, true, false, cond, List, ℕ, zero, suc, ◌+◌, ◌*◌, ◌^◌, ◌≤◌, ◌<◌, length, get_or}
use Rattle.mucalculus.specs.Means.{bit}
use Rattle.layout.specs.View.{View}
use Rattle.seek.specs.Walk.{HoldsPre, holds_at}

-- the numbers below 64 whose bit k is 1, as bits of a word
abbrev pub column_of : ℕ → ℕ
column_of zero = 12_297_829_382_473_034_410
column_of (suc zero) = 14_757_395_258_967_641_292
column_of (suc (suc zero)) = 17_361_641_481_138_401_520
column_of (suc (suc (suc zero))) = 18_374_966_859_414_961_920
column_of (suc (suc (suc (suc zero)))) = 18_446_462_603_027_742_720
column_of (suc (suc (suc (suc (suc k))))) = 18_446_744_069_414_584_320

-- of two masks, one where bit k of the number is 1 and the other elsewhere
pub record Chosen (k low high r : ℕ) : Type 0 where
  pub cells : (j : ℕ) → j < 64 → bit j r ≡ cond (bit k j) (bit j high) (bit j low)

-- of the goals those whose bit k is 0
pub record Lower (k goals r : ℕ) : Type 0 where
  pub from : (j : ℕ) → j < 64 → bit j r ≡ true → (bit k j ≡ false) × (bit j goals ≡ true)
  pub has : (j : ℕ) → j < 64 → bit k j ≡ false → bit j goals ≡ true → bit j r ≡ true

-- of the goals those whose bit k is 1, with this bit 0
pub record Upper (k goals r : ℕ) : Type 0 where
  pub from : (j : ℕ) → j < 64 → bit j r ≡ true → (j + 2 ^ k < 64) × (bit k (j + 2 ^ k) ≡ true) × (bit (j + 2 ^ k) goals ≡ true)
  pub has : (j : ℕ) → j + 2 ^ k < 64 → bit k (j + 2 ^ k) ≡ true → bit (j + 2 ^ k) goals ≡ true → bit j r ≡ true

-- arrow x leads from state i of the 64 to one of the goals, which are such states too: their bits other than the six from `low` on are 0
pub record LeadsTo (W : View) (low x goals i : ℕ) : Type 0 where
  pub goal : ℕ
  pub below : goal < 64
  pub is : bit goal goals ≡ true
  pub step : holds_at W x (i * 2 ^ low) (goal * 2 ^ low) ≡ true

-- the mask has exactly those from which it does
pub record Mask (W : View) (low x goals mask : ℕ) : Type 0 where
  pub only : (i : ℕ) → i < 64 → bit i mask ≡ true → LeadsTo W low x goals i
  pub has : (i : ℕ) → i < 64 → LeadsTo W low x goals i → bit i mask ≡ true

-- what is remembered is true: arrows, goals and masks
pub record Masked (W : View) (low : ℕ) (N : List ℕ) : Type 0 where
  pub size : length N ≡ 7_365
  pub holds : (i : ℕ) → i < 409 → Mask W low (get_or N (6_138 + i) 0) (get_or N (6_547 + i) 0) (get_or N (6_956 + i) 0)

-- what a mask of arrow x asks
pub record MaskPre (W : View) (low x : ℕ) (N : List ℕ) : Type 0 where
  pub arrow : HoldsPre W x
  pub small : low ≤ 10
  pub masked : Masked W low N

-- only what is remembered changed
abbrev pub Beside : List ℕ → List ℕ → Type 0
Beside N M = (i : ℕ) → i < 6_138 → get_or M i 0 ≡ get_or N i 0

-- the mask, and what is remembered then
pub record MaskPost (W : View) (low x goals : ℕ) (N M : List ℕ) (mask : ℕ) : Type 0 where
  pub is : Mask W low x goals mask
  pub masked : Masked W low M
  pub beside : Beside N M
