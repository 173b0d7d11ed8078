-- The second call after its checks: what it answers by the rounds. Assumes nothing.
use Rattle.std.specs.Prelude.{◌≡◌, Bool, true, not, cond, ◌&&◌, List, ℕ, suc, ◌+◌, ◌^◌, ◌<◌, ltb, Result, Ok, Err}
use Rattle.accounts.specs.declared.Terms.{Terms}
use Rattle.accounts.specs.Terms.{named}
use Rattle.layout.specs.Places.{BITS, ROWS, FIRST_REGISTER, FIRST_RELATION}
use Rattle.layout.specs.Refusals.{refusal_number}
use Rattle.layout.specs.View.{View, view, header_of}
use Rattle.layout.specs.declared.Refusal.{Refusal}
use Rattle.layout.specs.declared.Refusal.TheVariants as refusal
use Rattle.diagram.specs.Keep.{Keeps}
use Rattle.rows.specs.Used.{rows_of}
use Rattle.rows.specs.Sound.{Sound, table_of}
use Rattle.rows.specs.Filled.{filled}
use Rattle.operations.specs.Work.{OpFrame}
use Rattle.book.specs.Book.{registers, relations}
use Rattle.book.specs.Table.{Reply}
use Rattle.book.specs.BookOf.{book_of}
use Rattle.book.specs.Leaves.{plain, valued}
use Rattle.contract.specs.Seen.{seen, SoundWords}
use Rattle.seek.specs.Walk.{holds_at}
use Rattle.games.specs.Game.{answerable, answer_to}
use Rattle.games.specs.Call.{numbers_in_range, presses, reactions, goals, game_verdict, verdict_reply}
use Rattle.evaluator.specs.declared.Stopped.{Stopped}
use Rattle.evaluator.specs.declared.Stopped.TheVariants as stopped

-- "For each answer that is an enum, a definition gives this paper's number and values for each of the enum's cases"
abbrev pub response_reply : Result ℕ Refusal → Reply
response_reply (Ok u) = valued u
response_reply (Err e) = plain (refusal_number e)

-- the press is a guest move of a state outside the goal, by their arrows
abbrev pub open_move_at : View → ℕ → ℕ → ℕ → ℕ → Bool
open_move_at W goal guest s t = not (holds_at W goal s 0) && holds_at W guest s t

-- what is answered by what was iterated
abbrev pub response_of : ℕ → Result ℕ Stopped → Result ℕ Refusal
response_of n (Err stopped.Full) = Err refusal.Full
response_of n (Err stopped.Spent) = Err refusal.Spent
response_of n (Ok u) = cond (ltb u (2 ^ n)) (Ok u) (Err refusal.NoAnswer)

-- a sound table, numbers in range, and the account named: checks 2, 3 and 14 are passed
pub record NamedPre (acc : Terms) (old : List ℕ) (goal guest machine s t : ℕ) : Type 0 where
  pub sound : SoundWords old
  pub ranges : numbers_in_range goal guest machine ≡ true
  pub state : s < 2 ^ header_of old BITS
  pub press : t < 2 ^ header_of old BITS
  pub listed : named acc ≡ true

-- a sound table, whose goal, guest and machine have these arrows, and a state and a press of it
pub record ReactingPre (old : List ℕ) (goal guest machine x y z s t : ℕ) : Type 0 where
  pub sound : SoundWords old
  pub goal_in : goal < registers
  pub guest_in : guest < relations
  pub machine_in : machine < relations
  pub goal-is : header_of old (FIRST_REGISTER + goal) ≡ suc x
  pub guest-is : header_of old (FIRST_RELATION + guest) ≡ suc y
  pub machine-is : header_of old (FIRST_RELATION + machine) ≡ suc z
  pub state : s < 2 ^ header_of old BITS
  pub press : t < 2 ^ header_of old BITS

-- what is left of the words, and the book's answer
pub record Reacting (acc : Terms) (R goal guest machine s t : ℕ) (old new : List ℕ) (y : Reply) : Type 0 where
  pub sound : Sound (view (header_of old ROWS) new)
  pub frame : OpFrame (table_of old) (view (header_of old ROWS) new)
  pub kept : Keeps (rows_of (table_of old)) (rows_of (view (header_of old ROWS) new)) (filled (table_of old))
  pub reply : y ≡ verdict_reply (game_verdict (book_of (seen old)) goal guest machine acc R)
      (answerable (2 ^ (book_of (seen old)).n) (presses (book_of (seen old)) guest) (reactions (book_of (seen old)) machine)
      (goals (book_of (seen old)) goal) s t)
      (answer_to (2 ^ (book_of (seen old)).n) (presses (book_of (seen old)) guest) (reactions (book_of
      (seen old)) machine)
      (goals (book_of (seen old)) goal) s t)
