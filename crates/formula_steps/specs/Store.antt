-- What set and relation store of an evaluation, and what they answer. Assumes nothing.
use Rattle.std.specs.Prelude.{◌≡◌, List, ℕ, suc, ◌<◌, T, Result, Ok, Err}
use Rattle.accounts.specs.declared.Terms.{Terms}
use Rattle.accounts.specs.Terms.{named}
use Rattle.layout.specs.Places.{REGISTERS}
use Rattle.layout.specs.View.{View}
use Rattle.layout.specs.declared.Refusal.{Refusal}
use Rattle.layout.specs.declared.Refusal.TheVariants as refusal
use Rattle.tokens.specs.declared.Kind.TheVariants as kind
use Rattle.table.specs.declared.Full.{Full}
use Rattle.counting.specs.declared.Taken.{Taken}
use Rattle.book.specs.Book.{checks}
use Rattle.book.specs.BookOf.{book_of}
use Rattle.contract.specs.Seen.{seen, SoundWords}
use Rattle.evaluator.specs.Stops.{stopped_refusal}
use Rattle.evaluator.specs.declared.Stopped.{Stopped}
use Rattle.evaluator.specs.declared.Value.{Value}
use Rattle.formula_steps.specs.Evaluated.{register_stored, relation_stored, valid_stored}
use Rattle.formula_steps.specs.declared.Stored.{Stored}
use Rattle.formula_steps.specs.declared.Loaded.{Loaded}

-- an arrow whose word fits
abbrev pub Holds : Result Value Stopped → Type 0
Holds (Ok v) = suc v.arrow < 4_294_967_296
Holds (Err s) = Unit {0}

-- set's answer, and the words with the arrow
abbrev pub stored_of : Result Value Stopped → Result Stored Refusal
stored_of (Ok v) = Ok (record { number = v.arrow; rounds = v.count.rounds; peak = v.count.peak })
stored_of (Err s) = Err (stopped_refusal s)

abbrev pub set_stored : View → ℕ → Result Value Stopped → View
set_stored X r (Ok v) = register_stored X r v.arrow
set_stored X r (Err s) = X

-- relation's answer, and the words with the arrow
abbrev pub Carries : Result Taken Full → Type 0
Carries (Ok t) = suc t.arrow < 4_294_967_296
Carries (Err x) = Unit {0}

abbrev pub loaded_of : Result Taken Full → Result Loaded Refusal
loaded_of (Ok t) = Ok (record { peak = t.count.peak })
loaded_of (Err x) = Err refusal.Full

abbrev pub relation_loaded : View → ℕ → Result Taken Full → View
relation_loaded X t (Ok o) = relation_stored X t o.arrow
relation_loaded X t (Err x) = X

-- valid's answer, and the words with V's arrow
abbrev pub confined_of : Result Taken Full → Result (Unit {0}) Refusal
confined_of (Ok t) = Ok tt
confined_of (Err x) = Err refusal.Full

abbrev pub valid_confined : View → Result Taken Full → View
valid_confined X (Ok t) = valid_stored X t.arrow
valid_confined X (Err x) = X

-- ---- the steps of `set_steps`: `rows`, `n` and `R` are what the code reads and hands on

-- what a set call asks after its checks
pub record SetReady (acc : Terms) (r : ℕ) (old bs : List ℕ) : Type 0 where
  pub sound : SoundWords old
  pub range : r < REGISTERS
  pub listed : T (named acc)
  pub passed : checks (book_of (seen old)) kind.Set bs ≡ 0
