-- A whole list of calls given as records: which calls there are, what each leaves and returns, and the third demand's claim for them.
-- Definitions alone.
use Rattle.std.specs.Prelude.{Option as Maybe, Some, None, Result, Ok, Err, ◌≡◌, Bool, cond, List, [], ◌∷◌, ◌++◌, ℕ, zero, suc, ◌+◌, ◌*◌, ◌≤◌, ◌<◌, eqb, length, drop}
use Rattle.std.proofs.Math.Option.{Option, none, some}
use Rattle.std.proofs.lemmas.List.Edits.{sets}
use Rattle.book.specs.Program.{Command, start, call, states, record_length, command_at}
use Rattle.book.specs.Demand.{Event, Session, Demand}
use Rattle.rows.specs.Says.{Says}
use Rattle.contract.specs.Seen.{seen, SoundWords}
use Rattle.contract.specs.Closed.{makes, performs, rests, asks}
use Rattle.commands.specs.declared.Outcome.{Outcome}
use Rattle.commands.specs.Obey.{Obeys, reply_of}
use Rattle.player.specs.declared.Unplayed.{Unplayed}
use Rattle.player.specs.declared.Unplayed.TheVariants.{Short, Unreadable}

-- ---- the calls of a byte slice

-- a command before others, where all can be read
abbrev pub added : Option Command → Option (List Command) → Option (List Command)
added none m = none
added (some c) none = none
added (some c) (some cs) = some (c ∷ cs)

-- the commands of records one after the other, none where one of them cannot be read; a record has 4 bytes or more, so the bytes' number is
-- enough fuel
abbrev pub commands_in : ℕ → List ℕ → Option (List Command)
commands_in zero bs = some []
commands_in (suc fuel) [] = some []
commands_in (suc fuel) (x ∷ xs) = let more = commands_in fuel (drop (2 + record_length (x ∷ xs)) (x ∷ xs)) in added (command_at (x ∷ xs)) more

-- the commands of a list of records
abbrev pub commands : List ℕ → Option (List Command)
commands bs = commands_in (length bs) bs

-- ---- what they return

-- a command with what it returned
pub record Entry : Type 0 where
  pub command : Command
  pub outcome : Outcome

-- how many words of the list an outcome takes
abbrev pub entry_words : ℕ
entry_words = 5

-- the list's words for an outcome: number, node, rounds, value, peak
abbrev pub outcome_words : Outcome → List ℕ
outcome_words x = x.number ∷ x.node ∷ x.rounds ∷ x.value ∷ x.peak ∷ []

-- the commands of a list of entries
abbrev pub commands_of : List Entry → List Command
commands_of [] = []
commands_of (e ∷ l) = e.command ∷ commands_of l

-- the words of a list of entries
abbrev pub words_of : List Entry → List ℕ
words_of [] = []
words_of (e ∷ l) = outcome_words e.outcome ++ words_of l

-- each command under its call's contract, on the words as the one before left them
pub data Chain : List ℕ → List Entry → List ℕ → Type 0 where
  done : {w : List ℕ} → Chain w [] w
  next : {w v w' : List ℕ} {e : Entry} {l : List Entry} → Obeys e.command w v e.outcome → Chain v l w' → Chain w (e ∷ l) w'

-- ---- the third demand's list

-- n and N of an answered fresh, and the calls since then with what they returned
pub record Since : Type 0 where
  pub n : ℕ
  pub N : ℕ
  pub events : List Event

-- one call more since the fresh
abbrev pub with_event : Option Since → Event → Option Since
with_event none e = none
with_event (some s) e = some record { n = s.n; N = s.N; events = s.events ++ (e ∷ []) }

-- after one command more: an answered fresh begins a list, a call goes on with it, and a count changes nothing
abbrev pub noted : Option Since → Command → Outcome → Option Since
noted s (start n N) x = cond (eqb x.number 0) (some record { n = n; N = N; events = [] }) s
noted s (call c) x = with_event s (c, reply_of c x)
noted s (states r) x = s

-- the list since the last answered fresh
abbrev pub since : Option Since → List Entry → Option Since
since s [] = s
since s (e ∷ l) = since (noted s e.command e.outcome) l

-- the words stand at the end of a session of the list since an answered fresh; of words before one nothing is asked
abbrev pub Standing : Option Since → List ℕ → Type 0
Standing none w = Unit {0}
Standing (some s) w = Session (List ℕ) makes performs rests s.n s.N s.events w

-- ---- what the functions promise

-- the size of the record at the front, none where none can be read
abbrev pub size_in : Option Command → List ℕ → Maybe ℕ
size_in none bs = None
size_in (some c) bs = Some (2 + record_length bs)

pub record SizePost (bs : List ℕ) (r : Maybe ℕ) : Type 0 where
  pub is : r ≡ size_in (command_at bs) bs
  pub within : (size : ℕ) → r ≡ Some size → size ≤ length bs

abbrev pub CountPost : List ℕ → Maybe ℕ → Type 0
CountPost bs (Some k) = (cs : List Command) × (commands bs ≡ some cs) × (length cs ≡ k)
CountPost bs None = commands bs ≡ none

-- every record can be read
abbrev pub Readable : List ℕ → Type 0
Readable bs = (cs : List Command) × (commands bs ≡ some cs)

-- one command more can be obeyed: there are bytes, every record can be read, there is room for its outcome, and `sound` says whether the
-- words are a sound table
abbrev pub NextPre : (bs w l : List ℕ) (at : ℕ) (sound : Bool) → Type 0
NextPre bs w l at sound = (1 ≤ length bs) × Readable bs × (at + entry_words ≤ length l) × Says (SoundWords w) sound

-- one record
pub record NextPost (bs w w' l l' : List ℕ) (at r : ℕ) : Type 0 where
  pub entry : Entry
  pub read : command_at bs ≡ some entry.command
  pub size : r ≡ 2 + record_length bs
  pub within : r ≤ length bs
  pub obeyed : Obeys entry.command w w' entry.outcome
  pub listed : l' ≡ sets l at (outcome_words entry.outcome)

-- there is room for every outcome
abbrev pub AllPre : List ℕ → List ℕ → Type 0
AllPre bs l = (cs : List Command) × (commands bs ≡ some cs) × (length cs * entry_words ≤ length l)

-- every record was obeyed in order, and its outcome stands in the list, all else of which is as it was
pub record AllPost (bs w w' l l' : List ℕ) : Type 0 where
  pub entries : List Entry
  pub read : commands bs ≡ some (commands_of entries)
  pub chain : Chain w entries w'
  pub listed : l' ≡ sets l 0 (words_of entries)

-- THE THIRD DEMAND for the list that was played, and for what was called before it: the words stand at the end of the longer list, from
-- which the next call goes on, and after the last answered fresh the whole claim holds
pub record DonePost (bs w w' l l' : List ℕ) (k : ℕ) : Type 0 where
  pub all : AllPost bs w w' l l'
  pub count : k ≡ length all.entries
  pub stands : (before : Option Since) → Standing before w → Standing (since before all.entries) w'
  pub demand : (before : Option Since) → Standing before w → (s : Since) → since before all.entries ≡ some s
      → Demand SoundWords seen asks s.n s.N s.events w'

-- a refusal, of `play` itself, keeps the words and the list
abbrev pub Unchanged : List ℕ → List ℕ → List ℕ → List ℕ → Type 0
Unchanged w w' l l' = (w' ≡ w) × (l' ≡ l)

-- the list's room decides, once all records can be read
abbrev pub PlayPost : List ℕ → List ℕ → List ℕ → List ℕ → List ℕ → Result ℕ Unplayed → Type 0
PlayPost bs w w' l l' (Ok k) = (k * entry_words ≤ length l) × DonePost bs w w' l l' k
PlayPost bs w w' l l' (Err Short) =
    ((cs : List Command) × (commands bs ≡ some cs) × (length l < length cs * entry_words)) × Unchanged w w' l l'
PlayPost bs w w' l l' (Err Unreadable) = (commands bs ≡ none) × Unchanged w w' l l'

-- the commands that were obeyed, with what they returned
abbrev pub entries_of : (bs w w' l l' : List ℕ) (x : Result ℕ Unplayed) → PlayPost bs w w' l l' x → List Entry
entries_of bs w w' l l' (Ok k) p = p.1.all.entries
entries_of bs w w' l l' (Err Short) p = []
entries_of bs w w' l l' (Err Unreadable) p = []
