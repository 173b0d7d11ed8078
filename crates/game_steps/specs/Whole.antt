-- The rounds from a sound table: their outcome is the verdict of the book that the table stands for. Assumes nothing.
use Rattle.std.specs.Prelude.{◌≡◌, true, List, ℕ, suc, ◌+◌, ◌^◌, ◌≤◌, ◌<◌, Result, Ok, Err}
use Rattle.accounts.specs.declared.Count.{Count}
use Rattle.accounts.specs.Count.{nothing}
use Rattle.mucalculus.specs.Form.{no_env}
use Rattle.layout.specs.Places.{BITS, FIRST_RELATION}
use Rattle.layout.specs.View.{View}
use Rattle.diagram.specs.Keep.{Keeps}
use Rattle.rows.specs.Used.{rows_of}
use Rattle.rows.specs.Sound.{Sound}
use Rattle.rows.specs.Filled.{filled}
use Rattle.operations.specs.Work.{OpFrame}
use Rattle.book.specs.Over.{states}
use Rattle.book.specs.Ticks.{ticks, Verdict, counted, full, spent, verdict}
use Rattle.book.specs.Book.{model_of, live_of, registers, relations}
use Rattle.modal.specs.declared.Limits.{Limits}
use Rattle.evaluator.specs.Whole.{book_in}
use Rattle.evaluator.specs.declared.Stopped.{Stopped}
use Rattle.evaluator.specs.declared.Stopped.TheVariants as stopped
use Rattle.games.specs.Game.{open_move}
use Rattle.games.specs.Call.{game_form, game_bytes, presses, reactions, goals, all_filled}
use Rattle.game_steps.specs.Iterate.{AnswerNoted}
use Rattle.game_steps.specs.declared.Asked.{Asked}

-- goal, guest and machine are filled, the bytes are those of their game, the asked arrow is the machine's, and whether the press is open is
-- known
pub record Given (L : Limits) (W : View) (bs : List ℕ) (a : Asked) (goal guest machine : ℕ) : Type 0 where
  pub goal_in : goal < registers
  pub guest_in : guest < relations
  pub machine_in : machine < relations
  pub filled : all_filled (book_in W) goal guest machine ≡ true
  pub bytes : bs ≡ game_bytes goal guest machine
  pub machine-is : W.header (FIRST_RELATION + machine) ≡ suc a.machine
  pub state : a.state < 2 ^ L.bits
  pub press : a.press < 2 ^ L.bits
  pub open_is : a.open_move ≡ open_move (presses (book_in W) guest) (goals (book_in W) goal) a.state a.press

-- what the rounds ask of a sound table: the limits are its own, or less, and some game is given
pub record RoundsPre (L : Limits) (W : View) (bs : List ℕ) (a : Asked) : Type 0 where
  pub sound : Sound W
  pub bits : L.bits ≡ W.header BITS
  pub rows : L.rows ≡ W.rows
  pub limit : L.limit ≤ L.rows
  pub goal : ℕ
  pub guest : ℕ
  pub machine : ℕ
  pub given : Given L W bs a goal guest machine

-- the verdict of the steps, and what was noted where all are counted
pub data RoundsSay (P : ℕ → Type 0) : Verdict → Result ℕ Stopped → Type 0 where
  is_made : {q : Count} {x : ℕ} → P x → RoundsSay P (counted q) (Ok x)
  is-full : RoundsSay P full (Err stopped.Full)
  is_spent : RoundsSay P spent (Err stopped.Spent)

-- a sound table, nothing touched but unneeded rows, the index and remembered results, and the book's verdict
pub record Rounds (L : Limits) (W X : View) (a : Asked) (goal guest machine : ℕ) (r : Result ℕ Stopped) : Type 0 where
  pub sound : Sound X
  pub frame : OpFrame W X
  pub kept : Keeps (rows_of W) (rows_of X) (filled W)
  pub says : RoundsSay
      (AnswerNoted (2 ^ (book_in W).n) (presses (book_in W) guest) (reactions (book_in W) machine)
      (goals (book_in W) goal) a.state a.press)
      (verdict L.limit L.rounds nothing (ticks (states (model_of (book_in W)) no_env) (live_of (book_in W))
      (game_form goal guest machine))) r

-- what they promise, of every game that is given
abbrev pub RoundsPost : Limits → View → View → List ℕ → Asked → Result ℕ Stopped → Type 0
RoundsPost L W X bs a r = (goal guest machine : ℕ) → Given L W bs a goal guest machine → Rounds L W X a goal guest machine r
