-- What a record's command leaves and returns, by the contracts of its calls. Definitions alone.
use Rattle.std.specs.Prelude.{◌≡◌, Bool, cond, List, ℕ, ◌≤◌, Result, Ok}
use Rattle.layout.specs.declared.Refusal.{Refusal}
use Rattle.book.specs.Book.{Call, relation, set, valid, clear, collect, effect, count}
use Rattle.book.specs.Program.{Command, start, call, states, op_of}
use Rattle.book.specs.Table.{Reply}
use Rattle.book.specs.Leaves.{valued}
use Rattle.contract.specs.Posts.{FreshPost, CallPost, AskPost}
use Rattle.calls.specs.Replies.{answer_reply}
use Rattle.calls.specs.Fresh.{FreshWords}
use Rattle.records.specs.declared.Found.{Found}
use Rattle.records.specs.declared.Found.TheVariants as found
use Rattle.records.specs.Record.{read_record, asked}
use Rattle.commands.specs.declared.Outcome.{Outcome}
use Rattle.commands.specs.declared.Taken.{Taken}
use Rattle.commands.specs.declared.Taken.TheVariants.{Done, End, More, Bad}

-- "Operations: 1 fresh; 2 relation; 3 set; 4 clear; 5 count; 6 collect"
abbrev pub operation_of : Command → ℕ
operation_of (start n N) = 1
operation_of (call c) = op_of c
operation_of (states r) = 5

-- an outcome without a node number, without rounds and without a peak
abbrev pub plain_outcome : ℕ → ℕ → ℕ → Outcome
plain_outcome op k v = record { operation = op; number = k; node = 0; rounds = 0; value = v; peak = 0 }

-- number, rounds, peak and the value shown, as a reply
abbrev pub shown_reply : Outcome → Reply
shown_reply x = record { number = x.number; rounds = x.rounds; peak = x.peak; value = x.value }

-- set "returns node number and rounds", and its peak
abbrev pub node_reply : Outcome → Reply
node_reply x = record { number = x.number; rounds = x.rounds; peak = x.peak; value = x.node }

-- a call's reply in an outcome
abbrev pub reply_of : Call → Outcome → Reply
reply_of c x = cond (effect c).fills (node_reply x) (shown_reply x)

-- what else an outcome tells of a call: of an answered set the states in r, as count answers them; node numbers of set alone
abbrev pub Beside : Call → List ℕ → Outcome → Type 0
Beside (relation t bs) new x = x.node ≡ 0
Beside (set acc r R bs) new x = (x.number ≡ 0 → AskPost (count r) new (valued x.value)) × (1 ≤ x.number → x.value ≡ 0)
Beside (valid bs) new x = x.node ≡ 0
Beside (clear r) new x = x.node ≡ 0
Beside collect new x = x.node ≡ 0

-- the value of a count of register r, 0 where it is refused
abbrev pub StatesIn : ℕ → List ℕ → ℕ → Type 0
StatesIn r ws k = (v : Result ℕ Refusal) × AskPost (count r) ws (answer_reply v) × (k ≡ (answer_reply v).value)

-- a command under the contract of its call
abbrev pub Posted : Command → List ℕ → List ℕ → Outcome → Type 0
Posted (start n N) old new x = FreshPost n N 1 old new (shown_reply x) × (x.number ≡ 0 → FreshWords n N old new (Ok tt)) × (x.node ≡ 0)
Posted (call c) old new x = CallPost c old new (reply_of c x) × Beside c new x
Posted (states r) old new x = (new ≡ old) × AskPost (count r) old (shown_reply x) × (x.node ≡ 0)

-- a command under its call's contract, with the number of its operation
pub record Obeys (c : Command) (old new : List ℕ) (x : Outcome) : Type 0 where
  pub operation : x.operation ≡ operation_of c
  pub posted : Posted c old new x

-- what became of the bytes at hand, by what stands in them: a record is obeyed; else no word changes
abbrev pub Takes : List ℕ → List ℕ → List ℕ → Found → Taken → Type 0
Takes bs old new found.End r = (r ≡ End) × (new ≡ old)
Takes bs old new found.More r = (r ≡ More) × (new ≡ old)
Takes bs old new found.Bad r = (r ≡ Bad) × (new ≡ old)
Takes bs old new (found.Record c size) r = (x : Outcome) × (r ≡ Done x size) × Obeys (asked bs size c) old new x

-- what became of the bytes at hand, by what the reader finds in them
abbrev pub TakePost : List ℕ → Bool → List ℕ → List ℕ → Taken → Type 0
TakePost bs ended old new r = Takes bs old new (read_record bs ended) r
