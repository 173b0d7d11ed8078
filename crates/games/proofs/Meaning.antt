-- The two calls by the book in plain words. Assumes nothing.
use mathlib.Core.Path.{◌≡◌, refl, sym, ap, ◌∙◌, subst}
use mathlib.Core.Logic.{◌⊎◌, inl, inr}
use mathlib.Core.Bool.{Bool, true, false, not, cond, ◌&&◌}
use mathlib.Core.List.{List}
use mathlib.Core.Option.{some}
use Prim.Native.Nat.{ℕ, ◌^◌, ◌<◌}
use native.Mathlib.Omega.{arith}
use borrow.Author.Tests.{eq-eqb}
use lib.Dec.{T, ltb, ltb→lt}
use Rattle.mucalculus.specs.Sets.{mem}
use Rattle.mucalculus.proofs.Sets.{and_out, false_of}
use Rattle.mucalculus.specs.Form.{Pairs}
use Rattle.mucalculus.specs.Means.{pair}
use Rattle.accounts.specs.declared.Terms.{Terms}
use Rattle.accounts.specs.Terms.{named}
use Rattle.book.specs.Ticks.{Verdict, counted, full, spent}
use Rattle.book.specs.Book.{Book, Done, registers, refuse, ended, set_done, does}
use Rattle.book.specs.Stored.{Whole}
use Rattle.book.specs.Leaves.{plain}
use Rattle.games.specs.Game.{forced, enters, answer_to, answerable}
use Rattle.games.specs.Call.{numbers_in_range, game_call, presses, reactions, goals, forced_in, game_verdict, all_filled, verdict_reply}
use Rattle.games.specs.Call.{reacts}
use Rattle.games.specs.Meaning.{ForcedSet, AnswerIs, NoAnswerTo}
use Rattle.games.proofs.Rounds.{forced-least, not_out, answer-good, answer-least}
use Rattle.games.proofs.Plays.{machine_strategy, machine_forces, guest_strategy, guest-stays}
use Rattle.games.proofs.Only.{force_only}
use Rattle.games.proofs.Call.{force_does, near}

-- WHAT THE FIRST CALL STORES
pub forced-set : (k : ℕ) (G M : Pairs) (B : List Bool) → ForcedSet k G M B (forced k G M B)
forced-set k G M B = record {
  least = forced-least k G M B;
  machine_can = λ s p. (machine_strategy k G M B, enters k G M B s, machine_forces k G M B s p);
  only = λ s l h bound F. force_only k G M B h bound s l F;
  guest_can = λ s l p. (guest_strategy k G M B, guest-stays k G M B s l p);
}

-- WHAT THE SECOND CALL ANSWERS
pub answer-is : (k : ℕ) (G M : Pairs) (B : List Bool) (s t : ℕ) → t < k → T (answerable k G M B s t)
    → AnswerIs k G M B (forced k G M B) s t (answer_to k G M B s t)
answer-is k G M B s t l p =
    let x = and_out (mem (forced k G M B) s) _ p in
    let y = and_out (not (mem B s)) _ x.1 in
    let g = answer-good k G M B s t l (not_out (mem B s) y.0) y.1 x.0 in
    record {
      in-set = x.0;
      outside = false_of (mem B s) (not_out (mem B s) y.0);
      press = y.1;
      state = g.state;
      move = g.move;
      back = g.in-set;
      earlier = g.earlier;
      least = answer-least k G M B s t;
    }

-- ---- the checks

-- an answered second call had an answer, which is its value
answered-by : (a c d f : Bool) (v : Verdict) (u : ℕ)
    → (cond a (cond c (cond d (verdict_reply v f u) (plain 7)) (plain 14)) (plain 3)).number ≡ 0
    → (a ≡ true) × (f ≡ true)
    × ((cond a (cond c (cond d (verdict_reply v f u) (plain 7)) (plain 14)) (plain 3)).value ≡ u)
answered-by false c d f v u e = absurd (omega (arith, e))
answered-by true false d f v u e = absurd (omega (arith, e))
answered-by true true false f v u e = absurd (omega (arith, e))
answered-by true true true f full u e = absurd (omega (arith, e))
answered-by true true true f spent u e = absurd (omega (arith, e))
answered-by true true true false (counted q) u e = absurd (omega (arith, e))
answered-by true true true true (counted q) u e = (refl, refl, refl)

-- 15 says that it had none
fifteen_by : (a c d f : Bool) (v : Verdict) (u : ℕ)
    → (cond a (cond c (cond d (verdict_reply v f u) (plain 7)) (plain 14)) (plain 3)).number ≡ 15 → f ≡ false
fifteen_by false c d f v u e = absurd (omega (arith, e))
fifteen_by true false d f v u e = absurd (omega (arith, e))
fifteen_by true true false f v u e = absurd (omega (arith, e))
fifteen_by true true true f full u e = absurd (omega (arith, e))
fifteen_by true true true f spent u e = absurd (omega (arith, e))
fifteen_by true true true false (counted q) u e = refl
fifteen_by true true true true (counted q) u e = absurd (omega (arith, e))

-- and which of its parts is why
why_none : (a b c : Bool) → (a && (not b && c)) ≡ false → T b ⊎ ((a ≡ false) ⊎ (c ≡ false))
why_none true true c e = inl tt
why_none true false true e = absurd (subst T e tt)
why_none true false false e = inr (inr refl)
why_none false b c e = inr (inl refl)

-- ---- by the book

module _ (b : Book) (goal guest machine : ℕ) where
  -- an answered first call stores the set
  stored-by : (a c d : Bool) (v : Verdict) (r : ℕ)
      → (let stored = ended b v (λ q. set_done b r (forced_in b goal guest machine) q) in
      (cond a (cond c (cond d stored (refuse b 7)) (refuse b 14)) (refuse b 3)).1.number) ≡ 0
      → (let stored = ended b v (λ q. set_done b r (forced_in b goal guest machine) q) in
      (cond a (cond c (cond d stored (refuse b 7)) (refuse b 14)) (refuse b 3)).0.reg r) ≡ some (forced_in b goal guest machine)
  stored-by false c d v r e = absurd (omega (arith, e))
  stored-by true false d v r e = absurd (omega (arith, e))
  stored-by true true false v r e = absurd (omega (arith, e))
  stored-by true true true full r e = absurd (omega (arith, e))
  stored-by true true true spent r e = absurd (omega (arith, e))
  stored-by true true true (counted q) r e =
      ap (λ (x : Bool). cond x (some (forced_in b goal guest machine)) (b.reg r)) (eq-eqb r r refl)

  pub force_stores : Whole b → (acc : Terms) (r R : ℕ) → (does b (game_call acc r R goal guest machine)).1.number ≡ 0
      → (does b (game_call acc r R goal guest machine)).0.reg r ≡ some (forced_in b goal guest machine)
  force_stores w acc r R e =
      let same = force_does b w acc r R goal guest machine in
      ap (λ (d : Done). d.0.reg r) same
      ∙ stored-by (numbers_in_range goal guest machine && ltb r registers) (named acc) (all_filled b goal guest machine)
      (game_verdict b goal guest machine acc R) r (sym (ap (λ (d : Done). d.1.number) same) ∙ e)

  pub react-answers : (acc : Terms) (R s t : ℕ) → (reacts b goal guest machine acc R s t).number ≡ 0
      → AnswerIs (2 ^ b.n) (presses b guest) (reactions b machine) (goals b goal)
      (forced_in b goal guest machine) s t (reacts b goal guest machine acc R s t).value
  react-answers acc R s t e =
      let k = 2 ^ b.n in
      let G = presses b guest in
      let M = reactions b machine in
      let B = goals b goal in
      let w = answered-by (near b acc R goal guest machine s t) (named acc) (all_filled b goal guest machine) (answerable k G M B s t)
      (game_verdict b goal guest machine acc R) (answer_to k G M B s t) e in
      let x = and_out (numbers_in_range goal guest machine) _ (subst T (sym w.0) tt) in
      let y = and_out (ltb s k) _ x.1 in
      subst (AnswerIs k G M B (forced_in b goal guest machine) s t) (sym w.2)
      (answer-is k G M B s t (ltb→lt t k y.1) (subst T (sym w.1) tt))

  -- "15, the state is in the goal or outside the set, or the press is no guest move"
  pub react_fifteen : (acc : Terms) (R s t : ℕ) → (reacts b goal guest machine acc R s t).number ≡ 15
      → NoAnswerTo (presses b guest) (goals b goal) (forced_in b goal guest machine) s t
  react_fifteen acc R s t e =
      let k = 2 ^ b.n in
      let G = presses b guest in
      let M = reactions b machine in
      let B = goals b goal in
      why_none (mem (forced k G M B) s) (mem B s) (pair G s t)
      (fifteen_by (near b acc R goal guest machine s t) (named acc) (all_filled b goal guest machine) (answerable k G M B s t)
      (game_verdict b goal guest machine acc R) (answer_to k G M B s t) e)
