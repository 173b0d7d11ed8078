-- THE CALL FOR A CHEAPEST RUN: when it is refused, and what it answers and leaves in the lists. Assumes nothing.
use Rattle.std.specs.Prelude.{◌≡◌, ◌≢◌, ◌⊎◌, Bool, List, ℕ, suc, ◌^◌, ◌≤◌, ◌<◌, T, length, drop, Result, Ok, Err}
use Rattle.std.proofs.Math.Option.{none, some}
use Rattle.mucalculus.specs.Sets.{mem}
use Rattle.layout.specs.declared.Refusal.{Refusal}
use Rattle.layout.specs.Refusals.{keeps_all, refusal_number}
use Rattle.book.specs.Book.{Book, registers}
use Rattle.book.specs.BookOf.{book_of}
use Rattle.contract.specs.Seen.{seen, SoundWords}
use Rattle.paths.specs.Runs.{written}
use Rattle.coins.specs.declared.Fare.{Fare}
use Rattle.coins.specs.Runs.{Transitions, PricedStep, leads_in, is_mixed_run, total, states_along, relations_along, Cheapest, coins}

-- "The call returns total, charge and number of states", and a refusal's number or 0
pub record FareReply : Type 0 where
  pub number : ℕ
  pub total : ℕ
  pub charge : ℕ
  pub states : ℕ

-- "number, zeros"
abbrev pub fare_refused : ℕ → FareReply
fare_refused k = record { number = k; total = 0; charge = 0; states = 0 }

-- the number and the values of each case of the code's answer
abbrev pub fare_reply : Result Fare Refusal → FareReply
fare_reply (Ok f) = record { number = 0; total = f.total; charge = f.charge; states = f.states }
fare_reply (Err e) = fare_refused (refusal_number e)

-- a run of these steps: its total, "the total's coins", its states
abbrev pub paid : List ℕ → List PricedStep → FareReply
paid prices l = record { number = 0; total = total prices l; charge = coins (total prices l); states = suc (length l) }

-- the lists have a place for each state, and for the relation of each step
pub record RunFits (l : List PricedStep) (states relations : List ℕ) : Type 0 where
  pub for_states : suc (length l) ≤ length states
  pub for_steps : length l ≤ length relations

-- the two lists with a run at their first places: "unchanged .. past the run"
pub record Written (s : ℕ) (l : List PricedStep) (states states' relations relations' : List ℕ) : Type 0 where
  pub of_states : states' ≡ written (states_along s l) states
  pub of_steps : relations' ≡ written (relations_along l) relations

-- "Refusals 10 and 11, for either list, serve as in Slip 3": no run exists; a list is too short for the run, decided after 10
pub data FareTold (k : ℕ) (leads : Transitions) (A B : ℕ → Bool) (prices states states' relations relations' : List ℕ)
    : FareReply → Type 0 where
  told_none : ((s : ℕ) (l : List PricedStep) → T (is_mixed_run k leads A B s l) → ⊥)
      → FareTold k leads A B prices states states' relations relations' (fare_refused 10)
  told-short : (s : ℕ) (l : List PricedStep) → Cheapest k leads A B prices s l → (RunFits l states relations → ⊥)
      → FareTold k leads A B prices states states' relations relations' (fare_refused 11)
  -- "which of the remaining ties is written is free": the run is some cheapest one
  told-run : (s : ℕ) (l : List PricedStep) → Cheapest k leads A B prices s l → RunFits l states relations
      → Written s l states states' relations relations'
      → FareTold k leads A B prices states states' relations relations' (paid prices l)

-- both registers are there
pub record BothThere (a b : ℕ) : Type 0 where
  pub first : a < registers
  pub second : b < registers

-- THE CALL BY THE BOOK, after 1 for the prices and 2: its checks in order, each of which assumes those before it
pub record FareBy (c : Book) (a b : ℕ) (prices work states states' relations relations' : List ℕ) (y : FareReply) : Type 0 where
  -- "and so, directly after 2, does a shorter work list"
  pub work_fits : length work < 2 ^ c.n → y ≡ fare_refused 1
  pub range : 2 ^ c.n ≤ length work → (BothThere a b → ⊥) → y ≡ fare_refused 3
  pub empty : 2 ^ c.n ≤ length work → BothThere a b → (c.reg a ≡ none) ⊎ (c.reg b ≡ none) → y ≡ fare_refused 7
  -- "from register a into b, over any mix of filled relations"
  pub told : 2 ^ c.n ≤ length work → BothThere a b → (A B : List Bool) → c.reg a ≡ some A → c.reg b ≡ some B
      → FareTold (2 ^ c.n) (leads_in c.rel) (mem A) (mem B) prices states states' relations relations' y

-- THE CONTRACT, by the book that the words stand for. The words and the prices are lent to be read
pub record FarePost (a b : ℕ) (words prices work work' states states' relations relations' : List ℕ) (y : FareReply) : Type 0 where
  -- "A price list of another length gives 1"
  pub prices_fit : length prices ≢ 8 → y ≡ fare_refused 1
  pub unsound : length prices ≡ 8 → (SoundWords words → ⊥) → y ≡ fare_refused 2
  pub by-book : length prices ≡ 8 → SoundWords words → FareBy (book_of (seen words)) a b prices work states states' relations relations' y
  -- "The lists for states and relations are unchanged by a refusal"
  pub kept : y.number ≢ 0 → (states' ≡ states) × (relations' ≡ relations)
  -- "whose contents afterwards are free unless 1 to 7 is given"
  pub size : length work' ≡ length work
  pub work_kept : T (keeps_all y.number) → work' ≡ work
  -- "a work list of 2^n 64-bit numbers": what a longer list has past them stays
  pub work_past : SoundWords words → drop (2 ^ (book_of (seen words)).n) work' ≡ drop (2 ^ (book_of (seen words)).n) work
