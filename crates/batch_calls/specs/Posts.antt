-- A QUESTION FOR MANY STATES: when it is refused, and what it answers and leaves in the lists. Assumes nothing.
use Rattle.std.specs.Prelude.{◌≡◌, ◌≢◌, Bool, List, map, ℕ, ◌*◌, ◌^◌, ◌≤◌, ◌<◌, length, get_or, take, drop}
use Rattle.std.proofs.Math.Option.{none, some}
use Rattle.mucalculus.specs.Sets.{mem}
use Rattle.book.specs.Book.{registers, one_of}
use Rattle.book.specs.Table.{Reply, Refusal}
use Rattle.book.specs.BookOf.{book_of}
use Rattle.book.specs.Leaves.{valued}
use Rattle.contract.specs.Seen.{seen, SoundWords}
use Rattle.batch.specs.Visits.{row_reads}
use Rattle.batch.specs.Parts.{MAX_STATES}

-- not so: "More than 1,024 states, or an answer or order list shorter than the states, is refused by 1"
pub record ListsFit (states order answers : ℕ) : Type 0 where
  pub few : states ≤ MAX_STATES
  pub order-room : states ≤ order
  pub answer-room : states ≤ answers

-- the same of three lent lists
abbrev pub Fit : List ℕ → List ℕ → List ℕ → Type 0
Fit states order answers = ListsFit (length states) (length order) (length answers)

-- all are states of n bits
abbrev pub Below : ℕ → List ℕ → Type 0
Below n states = (i : ℕ) → i < length states → get_or states i 0 < 2 ^ n

-- not so: "a state out of range by 3", and so a register
pub record InRange (n r : ℕ) (states : List ℕ) : Type 0 where
  pub register : r < registers
  pub below : Below n states

-- "in the caller's order, one byte each, 0 or 1": 1 where the set A has the state
abbrev pub answers_of : List Bool → List ℕ → List ℕ
answers_of A states = map (λ s. one_of (mem A s)) states

-- place i stands once among the first k entries
pub record Stands (order : List ℕ) (k i : ℕ) : Type 0 where
  pub at : ℕ
  pub below : at < k
  pub is : get_or order at 0 ≡ i
  pub only : (j : ℕ) → j < k → get_or order j 0 ≡ i → j ≡ at

-- "ends as a rearrangement of the places, from 0 up": the first k entries are the places below k, each once, in an order that is free;
-- "entries past the states are unchanged"
pub record Rearranged (k : ℕ) (order order' : List ℕ) : Type 0 where
  pub size : length order' ≡ length order
  pub each : (i : ℕ) → i < k → Stands order' k i
  pub places : (j : ℕ) → j < k → get_or order' j 0 < k
  pub rest : drop k order' ≡ drop k order

-- an answered question for the set A, which the register holds by arrow a
pub record Answered (a : ℕ) (A : List Bool) (words states order order' answers answers' : List ℕ) (y : Reply) : Type 0 where
  -- "The result carries the row reads"
  pub reply : y ≡ valued (row_reads (2 * (seen words).n) (seen words).rows a states)
  -- "Answer all of them in the caller's order"; "entries past the states are unchanged in both lists"
  pub told : take (length states) answers' ≡ answers_of A states
  pub rest : drop (length states) answers' ≡ drop (length states) answers
  -- "An order list is lent for the work"
  pub rearranged : Rearranged (length states) order order'

-- THE CONTRACT: the checks in order, each of which assumes those before it; "every refusal keeps both lists". The words are lent to be read
pub record BatchPost (r : ℕ) (words states order order' answers answers' : List ℕ) (y : Reply) : Type 0 where
  pub sizes : (Fit states order answers → ⊥) → Refusal 1 y
  pub unsound : Fit states order answers → (SoundWords words → ⊥) → Refusal 2 y
  pub range : Fit states order answers → SoundWords words → (InRange (seen words).n r states → ⊥) → Refusal 3 y
  pub empty : Fit states order answers → SoundWords words → InRange (seen words).n r states → (seen words).reg r ≡ none → Refusal 7 y
  pub answered : Fit states order answers → SoundWords words → InRange (seen words).n r states → (a : ℕ) → (seen words).reg r ≡ some a
      → (A : List Bool) → (book_of (seen words)).reg r ≡ some A → Answered a A words states order order' answers answers' y
  pub kept : y.number ≢ 0 → (order' ≡ order) × (answers' ≡ answers)
