-- The two calls by the book. The first is a set call on the bytes of the game's formula, so that it stands in lists of calls as a set; what
-- it does is said here over the game. The second changes nothing in the book. Assumes nothing.
use Rattle.std.specs.Prelude.{Bool, true, false, cond, ◌&&◌, List, [], ◌∷◌, ℕ, ◌+◌, ◌^◌, ltb}
use Rattle.mucalculus.specs.Form.{Form, top, conj, disj, var, reg, box, dia, mu, Pairs, no_env, inside}
use Rattle.accounts.specs.declared.Terms.{Terms}
use Rattle.accounts.specs.Terms.{named, rows_under, rounds_under}
use Rattle.accounts.specs.Count.{nothing}
use Rattle.book.specs.Over.{states}
use Rattle.book.specs.Ticks.{ticks, Verdict, counted, full, spent, verdict}
use Rattle.book.specs.Book.{Book, Call, set, Done, registers, relations, model_of, live_of, reg_filled, rel_filled, refuse, ended, set_done}
use Rattle.book.specs.Table.{Reply}
use Rattle.book.specs.Leaves.{plain, valued}
use Rattle.games.specs.Game.{forced, answer_to, answerable}

-- ---- the formula

-- its body, P being variable 0: "goal or (box guest of diamond machine of P, and diamond guest of true)"
abbrev pub body_form : ℕ → ℕ → ℕ → Form
body_form goal guest machine = disj (reg goal) (conj (box guest (dia machine (var 0))) (dia guest top))

-- "mu P (goal or (box guest of diamond machine of P, and diamond guest of true))"
abbrev pub game_form : ℕ → ℕ → ℕ → Form
game_form goal guest machine = mu 0 (body_form goal guest machine)

-- its bytes, by document 01's table
abbrev pub game_bytes : ℕ → ℕ → ℕ → List ℕ
game_bytes goal guest machine =
    0 ∷ 10 ∷ 1 ∷ 0x70 ∷ 0x04 ∷ (0x40 + goal) ∷ 0x03 ∷ (0x60 + guest) ∷ (0x68 + machine) ∷ 0x30 ∷ (0x68 + guest) ∷ 0x01 ∷ []

-- there are such a register and such relations
abbrev pub numbers_in_range : ℕ → ℕ → ℕ → Bool
numbers_in_range goal guest machine = ltb goal registers && (ltb guest relations && ltb machine relations)

-- ---- the first call

-- the register of the set call that it is: none where a number is out of range, so that 3 is given
abbrev pub game_target : ℕ → ℕ → ℕ → ℕ → ℕ
game_target r goal guest machine = cond (numbers_in_range goal guest machine) r registers

-- "The first call may stand in the third demand's list as a set"
abbrev pub game_call : Terms → ℕ → ℕ → ℕ → ℕ → ℕ → Call
game_call acc r R goal guest machine = set acc (game_target r goal guest machine) R (game_bytes goal guest machine)

-- what a book holds of a game: the guest's moves, the machine's moves and the goal; none where the relation or register is empty
abbrev pub presses : Book → ℕ → Pairs
presses b guest = inside (b.rel guest)

abbrev pub reactions : Book → ℕ → Pairs
reactions b machine = inside (b.rel machine)

abbrev pub goals : Book → ℕ → List Bool
goals b goal = inside (b.reg goal)

-- the second call's reply when the rounds have ended: 8 and 9 by the steps; the answer u where there is one, and "15, the state is in
-- the goal or outside the set, or the press is no guest move, decided once the set is made"
abbrev pub verdict_reply : Verdict → Bool → ℕ → Reply
verdict_reply full ok u = plain 8
verdict_reply spent ok u = plain 9
verdict_reply (counted q) true u = valued u
verdict_reply (counted q) false u = plain 15

module _ (b : Book) (goal guest machine : ℕ) where
  -- "the set of states from which the machine can force the goal"
  abbrev pub forced_in : List Bool
  forced_in = forced (2 ^ b.n) (presses b guest) (reactions b machine) (goals b goal)

  -- "The steps are those of mu P (goal or (box guest of diamond machine of P, and diamond guest of true))", under both limits
  abbrev pub game_verdict : Terms → ℕ → Verdict
  game_verdict acc R =
      verdict (rows_under b.N acc) (rounds_under R acc) nothing (ticks (states (model_of b) no_env) (live_of b)
      (game_form goal guest machine))

  -- check 7: the goal's register and both relations are filled
  abbrev pub all_filled : Bool
  all_filled = reg_filled b goal && (rel_filled b guest && rel_filled b machine)

  -- "store, as a set call with its account and R does": 3, 14, 7, then the steps
  abbrev pub force_done : Terms → ℕ → ℕ → Done
  force_done acc r R =
      let stored = ended b (game_verdict acc R) (λ q. set_done b r forced_in q) in
      let filled = cond all_filled stored (refuse b 7) in
      let listed = cond (named acc) filled (refuse b 14) in
      cond (numbers_in_range goal guest machine && ltb r registers) listed (refuse b 3)

  -- ---- the second call

  -- the state s and the press t: "either out of range gives 3"; then 14, 7 and the steps
  abbrev pub reacts : Terms → ℕ → ℕ → ℕ → Reply
  reacts acc R s t =
      let k = 2 ^ b.n in
      let G = presses b guest in
      let M = reactions b machine in
      let B = goals b goal in
      let told = verdict_reply (game_verdict acc R) (answerable k G M B s t) (answer_to k G M B s t) in
      let filled = cond all_filled told (plain 7) in
      let listed = cond (named acc) filled (plain 14) in
      cond (numbers_in_range goal guest machine && (ltb s k && ltb t k)) listed (plain 3)
