-- The rounds of the game with one eye on a state and a press: what the making of them asks, and what it ends with. Assumes nothing.
use Rattle.std.specs.Prelude.{◌≡◌, Bool, true, false, cond, List, ℕ, suc, ◌+◌, ◌^◌, ◌≤◌, ◌<◌, T, set, Result, Ok, Err}
use Rattle.accounts.specs.declared.Count.{Count}
use Rattle.accounts.specs.Count.{nothing}
use Rattle.mucalculus.specs.Form.{Pairs, inside}
use Rattle.tokens.specs.declared.Grammar.TheVariants.{Runs}
use Rattle.layout.specs.Places.{FIRST_RELATION}
use Rattle.layout.specs.View.{View}
use Rattle.book.specs.Book.{relations}
use Rattle.modal.specs.declared.Limits.{Limits}
use Rattle.evaluator.specs.Scene.{evaluated, Scene, Ready, Part, Answers, holds_reg, holds_rel}
use Rattle.evaluator.specs.Whole.{no_places}
use Rattle.evaluator.specs.declared.Stopped.{Stopped}
use Rattle.evaluator.specs.declared.Stopped.TheVariants as stopped
use Rattle.evaluator.specs.declared.Value.{Value}
use Rattle.paths.specs.Runs.{first_of}
use Rattle.seek.specs.Walk.{HoldsPre, holds_at}
use Rattle.seek.specs.Search.{next_in}
use Rattle.games.specs.Game.{answer_to, open_move, answerable}
use Rattle.games.specs.Call.{body_form, game_form}
use Rattle.game_steps.specs.declared.Asked.{Asked}

-- ---- one round

-- what is noted after a round that made the set of arrow `next` from the one of arrow `last`: of an open press the round in which the state
-- enters decides
abbrev pub note_by : ℕ → View → Asked → ℕ → ℕ → ℕ → ℕ
note_by n W a noted last next =
    let found = first_of (2 ^ n) (next_in W a.machine a.press last) in
    let entered = cond (holds_at W next a.state 0) found noted in
    let open-press = cond (holds_at W last a.state 0) noted entered in
    cond a.open_move open-press noted

-- the three arrows are the table's
pub record NotePre (n : ℕ) (W : View) (a : Asked) (last next : ℕ) : Type 0 where
  pub bits : n ≤ 16
  pub machine : HoldsPre W a.machine
  pub last-is : HoldsPre W last
  pub next-is : HoldsPre W next

-- ---- all rounds

-- the scene holds a game, whose body stands in the bytes; the asked state and press are among its states, and whether the press is open is
-- known
pub record HoldsGame (L : Limits) (W : View) (stack bs : List ℕ) (a : Asked) (σ : Scene) (goal guest machine : ℕ) : Type 0 where
  pub ready : Ready L W stack no_places 0 σ
  pub part : Part Runs L.bits bs 4 63 (set σ.scope 0 true) (holds_reg σ) (holds_rel σ) (body_form goal guest machine) 12
  pub machine_in : machine < relations
  pub machine-is : W.header (FIRST_RELATION + machine) ≡ suc a.machine
  pub state : a.state < 2 ^ L.bits
  pub press : a.press < 2 ^ L.bits
  pub open_is : a.open_move ≡ open_move (inside (σ.rel guest)) (inside (σ.reg goal)) a.state a.press

-- what the rounds ask: words and stack hold some game's scene
pub record IteratePre (L : Limits) (W : View) (stack bs : List ℕ) (a : Asked) : Type 0 where
  pub scene : Scene
  pub goal : ℕ
  pub guest : ℕ
  pub machine : ℕ
  pub plays : HoldsGame L W stack bs a scene goal guest machine

-- what is noted when the set is made, of the state s and the press t: the answer, where there is one, else k
pub record AnswerNoted (k : ℕ) (G M : Pairs) (B : List Bool) (s t x : ℕ) : Type 0 where
  pub none : answerable k G M B s t ≡ false → x ≡ k
  pub found : T (answerable k G M B s t) → (x ≡ answer_to k G M B s t) × (x < k)

-- the rounds' answer: what was noted, where the set is made
pub data AnswerOf (P : ℕ → Type 0) : Result Value Stopped → Result ℕ Stopped → Type 0 where
  is_made : {a e x : ℕ} {q : Count} → P x → AnswerOf P (evaluated a e q) (Ok x)
  is-full : AnswerOf P (Err stopped.Full) (Err stopped.Full)
  is_spent : AnswerOf P (Err stopped.Spent) (Err stopped.Spent)

-- the rounds are those of the game's formula
pub record Iterates (L : Limits) (W X : View) (stack : List ℕ) (a : Asked) (σ : Scene) (goal guest machine : ℕ)
    (r : Result ℕ Stopped) : Type 0 where
  pub value : Result Value Stopped
  pub last : List ℕ
  pub answers : Answers true L W X stack last 0 nothing σ (game_form goal guest machine) 12 value
  pub told : AnswerOf
      (AnswerNoted (2 ^ L.bits) (inside (σ.rel guest)) (inside (σ.rel machine)) (inside (σ.reg goal)) a.state a.press) value r

-- what they promise, of every game whose scene words and stack hold
abbrev pub IteratePost : Limits → View → View → List ℕ → List ℕ → Asked → Result ℕ Stopped → Type 0
IteratePost L W X stack bs a r =
    (σ : Scene) (goal guest machine : ℕ) → HoldsGame L W stack bs a σ goal guest machine → Iterates L W X stack a σ goal guest machine r
