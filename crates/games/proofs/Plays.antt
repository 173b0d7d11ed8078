-- The machine forces the goal from every state of the set, and from every other state the guest stays outside for good, or has no move.
-- Assumes nothing.
use mathlib.Core.Path.{◌≡◌, refl, sym, ap, ◌∙◌, subst}
use mathlib.Core.Logic.{◌⊎◌, inl, inr}
use mathlib.Core.Bool.{Bool, true, false, not, ◌&&◌, ◌||◌}
use mathlib.Core.List.{List, [], ◌∷◌}
use Prim.Native.Nat.{ℕ, ◌≤◌, ◌<◌}
use native.Mathlib.Nat.{lt_of_not-le}
use native.Mathlib.Omega.{arith}
use lib.Dec.{T, ltb, ltb→lt, eqb, eqb→eq}
use lib.ListN.{length}
use Rattle.mucalculus.specs.Sets.{mem}
use Rattle.mucalculus.proofs.Sets.{and_in, and_out, false_of}
use Rattle.mucalculus.specs.Form.{Pairs}
use Rattle.mucalculus.specs.Means.{pair}
use Rattle.paths.specs.Runs.{first_of}
use Rattle.paths.proofs.First.{first_found, first-least}
use Rattle.games.specs.Game.{has_move, has_answer, forced, enters, answer_to}
use Rattle.games.specs.Plays.{Turn, is_play, play_end, play_meets, by_guest, by_machine, Forces, Stays}
use Rattle.games.proofs.Rounds.{not_in, not_out, answers_in, forcing_out, forcing-goal, forcing_moves, forced-least}
use Rattle.games.proofs.Rounds.{enters-some}
use Rattle.games.proofs.Rounds.{answer-good, Good}

or-false : (a b : Bool) → (a || b) ≡ false → (a ≡ false) × (b ≡ false)
or-false false b e = (refl, e)
or-false true b e = absurd (subst T e tt)

-- a press and an answer of a play
pub record Played (k : ℕ) (G M : Pairs) (s : ℕ) (x : Turn) (l : List Turn) : Type 0 where
  pub press-lt : x.press < k
  pub press : T (pair G s x.press)
  pub answer_lt : x.answer < k
  pub answer : T (pair M x.press x.answer)
  pub rest : T (is_play k G M x.answer l)

pub played : (k : ℕ) (G M : Pairs) (s : ℕ) (x : Turn) (l : List Turn) → T (is_play k G M s (x ∷ l)) → Played k G M s x l
played k G M s x l p =
    let w = and_out (ltb x.press k && pair G s x.press) _ p in
    let v = and_out (ltb x.press k) _ w.0 in
    let y = and_out (ltb x.answer k && pair M x.press x.answer) _ w.1 in
    let z = and_out (ltb x.answer k) _ y.0 in
    record { press-lt = ltb→lt x.press k v.0; press = v.1; answer_lt = ltb→lt x.answer k z.0; answer = z.1; rest = y.1 }

module _ (k : ℕ) (G M : Pairs) (B : List Bool) where
  -- ---- the machine's strategy: the answers of the second call

  abbrev pub machine_strategy : ℕ → ℕ → ℕ
  machine_strategy s t = answer_to k G M B s t

  -- the answer to the first press of a play by it
  next : (s : ℕ) (x : Turn) (l : List Turn) → T (mem (forced k G M B) s) → T (is_play k G M s (x ∷ l)) → T
      (by_machine machine_strategy s (x ∷ l))
      → mem B s ≡ false → Good k G M B s x.press x.answer
  next s x l i p q out =
      let w = played k G M s x l p in
      let e : x.answer ≡ machine_strategy s x.press = eqb→eq x.answer (machine_strategy s x.press)
      (and_out (eqb x.answer _) _ q).0 in
      subst (Good k G M B s x.press) (sym e) (answer-good k G M B s x.press w.press-lt (λ b. subst T out b) w.press i)

  -- a play by it that has not met the goal ends in the set, outside the goal
  ends_in : (s : ℕ) (l : List Turn) → T (mem (forced k G M B) s) → T (is_play k G M s l) → T (by_machine machine_strategy s l)
      → play_meets B s l ≡ false
      → T (mem (forced k G M B) (play_end s l)) × (mem B (play_end s l) ≡ false)
  ends_in s [] i p q out = (i, out)
  ends_in s (x ∷ l) i p q out =
      let o = or-false (mem B s) (play_meets B x.answer l) out in
      ends_in x.answer l (next s x l i p q o.0).in-set (played k G M s x l p).rest (and_out (eqb x.answer (machine_strategy s
      x.press)) _ q).1
      o.1

  shorter : (s : ℕ) (l : List Turn) → T (mem (forced k G M B) s) → T (is_play k G M s l) → T (by_machine machine_strategy s l)
      → play_meets B s l ≡ false
      → length l < enters k G M B s
  shorter s [] i p q out = enters-some k G M B s
  shorter s (x ∷ l) i p q out =
      let o = or-false (mem B s) (play_meets B x.answer l) out in
      let g = next s x l i p q o.0 in
      let sooner = g.earlier in
      let h = shorter x.answer l g.in-set (played k G M s x l p).rest
      (and_out (eqb x.answer (machine_strategy s x.press)) _ q).1
      o.1 in
      omega arith

  -- "the set of states from which the machine can force the goal": from each of them, by the answers of the second call, in fewer turns
  -- than the round in which it enters
  pub machine_forces : (s : ℕ) → T (mem (forced k G M B) s) → Forces k G M B machine_strategy (enters k G M B s) s
  machine_forces s i = record {
    goes_on = λ l p q out. let w = ends_in s l i p q out in goes (play_end s l) w.0 w.1;
    ends = λ l p q out. shorter s l i p q out;
  }
    where
      goes : (e : ℕ) → T (mem (forced k G M B) e) → mem B e ≡ false
          → T (has_move k G e) × ((t : ℕ) → t < k → T (pair G e t) → (machine_strategy e t < k) × T (pair M t (machine_strategy e t)))
      goes e j out = (
        can (forcing_out k G M B (forced k G M B) e (subst (λ (A : List Bool). T (mem A e)) (sym (forced-least k G M B).fixed) j)),
        λ t l g. let w = answer-good k G M B e t l (λ b. subst T out b) g j in (w.state, w.move),
      )
        where
          can : T (mem B e) ⊎ (T (has_move k G e) × ((t : ℕ) → t < k → T (pair G e t) → T (has_answer k M (forced k G M B) t))) → T
              (has_move k G e)
          can (inl b) = absurd (subst T out b)
          can (inr (m, r)) = m

  -- ---- the guest's strategy: the least press after which no machine move leads into the set

  abbrev pub guest_strategy : ℕ → ℕ
  guest_strategy s = first_of k (λ t. pair G s t && not (has_answer k M (forced k G M B) t))

  -- it is a move where the guest has one, outside the set
  pub guest_moves : (s : ℕ) → s < k → mem (forced k G M B) s ≡ false → T (has_move k G s) → (guest_strategy s < k) × T
      (pair G s (guest_strategy s))
  guest_moves s l out m =
      let lt : guest_strategy s < k = lt_of_not-le (λ h. subst T out
      (subst (λ (A : List Bool). T (mem A s)) (forced-least k G M B).fixed
      (forcing_moves k G M B (forced k G M B) s l m (λ t i g. sure t i g h)))) in
      (lt, (and_out (pair G s (guest_strategy s)) _ (first_found k (λ t. pair G s t && not (has_answer k M (forced k G M B) t)) lt)).0)
    where
      sure : (t : ℕ) → t < k → T (pair G s t) → k ≤ guest_strategy s → T (has_answer k M (forced k G M B) t)
      sure t i g h = by (has_answer k M (forced k G M B) t) refl
        where
          by : (b : Bool) → has_answer k M (forced k G M B) t ≡ b → T b
          by true e = tt
          by false e =
              let z = first-least k (λ t. pair G s t && not (has_answer k M (forced k G M B) t)) t i
              (and_in (pair G s t) _ g (not_in (has_answer k M (forced k G M B) t) (λ a. subst T e a))) in
              absurd (omega arith)

  -- and leads the play outside again
  leads_out : (s : ℕ) (x : Turn) (l : List Turn) → T (is_play k G M s (x ∷ l)) → T (by_guest guest_strategy s (x ∷ l))
      → mem (forced k G M B) x.answer ≡ false
  leads_out s x l p q =
      let w = played k G M s x l p in
      let e : x.press ≡ guest_strategy s = eqb→eq x.press (guest_strategy s) (and_out (eqb x.press (guest_strategy s)) _ q).0 in
      let lt : guest_strategy s < k = subst (λ (t : ℕ). t < k) e w.press-lt in
      let no_answer = (and_out (pair G s (guest_strategy s)) _ (first_found k
      (λ t. pair G s t && not (has_answer k M (forced k G M B) t)) lt)).1 in
      false_of (mem (forced k G M B) x.answer) (λ i.
      not_out (has_answer k M (forced k G M B) (guest_strategy s)) no_answer
      (answers_in k M (forced k G M B) (guest_strategy s) x.answer w.answer_lt (subst (λ (t : ℕ). T (pair M t x.answer)) e
      w.answer) i))

  stays_out : (s : ℕ) (l : List Turn) → s < k → mem (forced k G M B) s ≡ false → T (is_play k G M s l) → T (by_guest guest_strategy s l)
      → (play_meets (forced k G M B) s l ≡ false) × (play_end s l < k) × (mem (forced k G M B) (play_end s l) ≡ false)
  stays_out s [] l out p q = (out, l, out)
  stays_out s (x ∷ xs) l out p q =
      let w = played k G M s x xs p in
      let r = stays_out x.answer xs w.answer_lt (leads_out s x xs p q) w.rest
      (and_out (eqb x.press (guest_strategy s)) _ q).1 in
      (ap (λ (b : Bool). b || play_meets (forced k G M B) x.answer xs) out ∙ r.0, r.1, r.2)

  -- "In every state outside the set the guest has a way to stay outside for good, or no move"
  pub guest-stays : (s : ℕ) → s < k → mem (forced k G M B) s ≡ false → Stays k G M (forced k G M B) guest_strategy s
  guest-stays s l out = record {
    outside = λ xs p q. (stays_out s xs l out p q).0;
    moves_on = λ xs p q m. let r = stays_out s xs l out p q in guest_moves (play_end s xs) r.1 r.2 m;
  }

  -- the goal is part of the set, so such a play never meets the goal
  pub goal_in : (s : ℕ) → s < k → T (mem B s) → T (mem (forced k G M B) s)
  goal_in s l p = subst (λ (A : List Bool). T (mem A s)) (forced-least k G M B).fixed (forcing-goal k G M B (forced k G M B) s l p)
