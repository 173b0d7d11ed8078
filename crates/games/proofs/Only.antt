-- The set is exactly that from which the machine can force the goal: no strategy of the machine's forces it from another state.
-- Assumes nothing.
use mathlib.Core.Path.{◌≡◌, refl, sym, ap, ◌∙◌, subst}
use mathlib.Core.Bool.{Bool, true, false, not, ◌&&◌, ◌||◌}
use mathlib.Core.List.{List, [], ◌∷◌}
use Prim.Native.Nat.{ℕ, zero, suc, ◌<◌}
use native.Mathlib.Omega.{arith}
use borrow.Author.Tests.{eq-eqb}
use lib.Dec.{T, ltb, lt→ltb, eqb}
use Rattle.mucalculus.specs.Sets.{mem}
use Rattle.mucalculus.proofs.Sets.{and_in, and_out, false_of}
use Rattle.mucalculus.specs.Form.{Pairs}
use Rattle.mucalculus.specs.Means.{pair}
use Rattle.paths.proofs.First.{first_found}
use Rattle.games.specs.Game.{has_answer, forced}
use Rattle.games.specs.Plays.{Turn, is_play, play_meets, by_machine, Forces}
use Rattle.games.proofs.Rounds.{not_out, answers_in}
use Rattle.games.proofs.Plays.{guest_strategy, guest_moves, goal_in}

module _ (k : ℕ) (G M : Pairs) (B : List Bool) (h : ℕ → ℕ → ℕ) where
  -- after a turn the machine still forces the goal, in one turn less
  forces_next : (m s t : ℕ) → Forces k G M B h (suc m) s → mem B s ≡ false → t < k → T (pair G s t) → h s t < k → T (pair M t (h s t))
      → Forces k G M B h m (h s t)
  forces_next m s t F out l g i p = record {
    goes_on = λ xs plays by away. F.goes_on (x ∷ xs) (longer xs plays) (by_h xs by) (past xs away);
    ends = λ xs plays by away. let n = F.ends (x ∷ xs) (longer xs plays) (by_h xs by) (past xs away) in omega arith;
  }
    where
      x : Turn
      x = record { press = t; answer = h s t }

      longer : (xs : List Turn) → T (is_play k G M (h s t) xs) → T (is_play k G M s (record { press = t; answer = h s t } ∷ xs))
      longer xs q =
          and_in (ltb t k && pair G s t) _ (and_in (ltb t k) _ (lt→ltb t k l) g)
          (and_in (ltb (h s t) k && pair M t (h s t)) _ (and_in (ltb (h s t) k) _ (lt→ltb (h s t) k i) p) q)

      by_h : (xs : List Turn) → T (by_machine h (h s t) xs) → T (by_machine h s (record { press = t; answer = h s t } ∷ xs))
      by_h xs q = and_in (eqb (h s t) (h s t)) _ (subst T (sym (eq-eqb (h s t) (h s t) refl)) tt) q

      past : (xs : List Turn) → play_meets B (h s t) xs ≡ false → play_meets B s (record { press = t; answer = h s t } ∷ xs) ≡ false
      past xs e = ap (λ (b : Bool). b || play_meets B (h s t) xs) out ∙ e

  -- against the guest's strategy no strategy of the machine's forces the goal from outside
  only-inside : (bound s : ℕ) → s < k → mem (forced k G M B) s ≡ false → Forces k G M B h bound s → ⊥
  only-inside zero s l out F = let n = F.ends [] tt tt (false_of (mem B s) (λ b. subst T out (goal_in k G M B s l b))) in omega arith
  only-inside (suc m) s l out F = go (only-inside m)
    where
      away : mem B s ≡ false
      away = false_of (mem B s) (λ b. subst T out (goal_in k G M B s l b))

      go : ((s : ℕ) → s < k → mem (forced k G M B) s ≡ false → Forces k G M B h m s → ⊥) → ⊥
      go below =
          let on = F.goes_on [] tt tt away in
          let g = guest_moves k G M B s l out on.0 in
          let t = guest_strategy k G M B s in
          let a = on.1 t g.0 g.1 in
          let no_answer = (and_out (pair G s t) _ (first_found k (λ t. pair G s t && not (has_answer k M (forced k G M B) t)) g.0)).1 in
          below (h s t) a.0
          (false_of (mem (forced k G M B) (h s t)) (λ i.
          not_out (has_answer k M (forced k G M B) t) no_answer (answers_in k M (forced k G M B) t (h s t) a.0 a.1 i)))
          (forces_next m s t F away g.0 g.1 a.0 a.1)

  -- THE SET OF STATES FROM WHICH THE MACHINE CAN FORCE THE GOAL: with `machine_forces`, exactly it
  pub force_only : (bound s : ℕ) → s < k → Forces k G M B h bound s → T (mem (forced k G M B) s)
  force_only bound s l F = go (mem (forced k G M B) s) refl
    where
      go : (b : Bool) → mem (forced k G M B) s ≡ b → T b
      go true e = tt
      go false e = absurd (only-inside bound s l e F)
