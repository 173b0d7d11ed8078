-- Laws of what specs/Write.antt defines. Assumes nothing.
use mathlib.Core.Path.{◌≡◌, refl, sym, ap, ◌∙◌, subst}
use mathlib.Core.Logic.{◌⊎◌, inl, inr, by_cases}
use mathlib.Core.Bool.{Bool}
use mathlib.Core.List.{List, [], ◌∷◌, ◌++◌, map, append_assoc, append-nil}
use Prim.Native.Nat.{ℕ, suc, ◌+◌, ◌-◌, ◌*◌, ◌%◌, ◌^◌, ◌≤◌, ◌<◌}
use native.Mathlib.Decide.{dec_lt}
use native.Mathlib.Omega.{arith}
use lib.Dec.{T, ltb, lt→ltb}
use lib.ListN.{length, set}
use Rattle.mucalculus.proofs.Sets.{and_in}
use Rattle.layout.specs.View.{View}
use Rattle.paths.specs.Runs.{written}
use Rattle.coins.specs.Runs.{Transitions, PricedStep, price_of, mixed_into, states_along, relations_along}
use Rattle.coins.specs.Cost.{CREDIT, step_cost, cost}
use Rattle.coins.specs.Marks.{Marks, Backed, Standing}
use Rattle.coin_search.specs.Words.{mark_of, state_at, marks_of}
use Rattle.coin_search.specs.Hall.{leads_at}
use Rattle.coin_calls.specs.Steps.{ExactStep, Ahead}
use Rattle.coin_calls.specs.Write.{WriteRunPre, RunWritten}

-- ---- lists

-- one place more is written
put_next : (g : PricedStep → ℕ) (l : List PricedStep) (p : PricedStep) (k : List ℕ)
    → set (written (map g l) k) (length l) (g p) ≡ written (map g (l ++ (p ∷ []))) k
put_next g [] p [] = refl
put_next g [] p (y ∷ k) = refl
put_next g (q ∷ l) p [] = refl
put_next g (q ∷ l) p (y ∷ k) = ap (λ (m : List ℕ). g q ∷ m) (put_next g l p k)

put_state_lem : (f : ℕ) (l : List PricedStep) (p : PricedStep) (k : List ℕ)
    → set (written (states_along f l) k) (suc (length l)) p.state ≡ written (states_along f (l ++ (p ∷ []))) k
put_state_lem f l p [] = refl
put_state_lem f l p (y ∷ k) = ap (λ (m : List ℕ). f ∷ m) (put_next (λ q. q.state) l p k)

-- the first place is written already
put_first : (f : ℕ) (k : List ℕ) → set k 0 f ≡ written (f ∷ []) (set k 0 f)
put_first f [] = refl
put_first f (y ∷ k) = refl

first-over : (f : ℕ) (l : List ℕ) (k : List ℕ) → written (f ∷ l) (set k 0 f) ≡ written (f ∷ l) k
first-over f l [] = refl
first-over f l (y ∷ k) = refl

cost-more : (prices : List ℕ) (l : List PricedStep) (p : PricedStep)
    → cost prices (l ++ (p ∷ [])) ≡ cost prices l + step_cost prices p.relation
cost-more prices [] p = omega arith
cost-more prices (q ∷ l) p = let e = cost-more prices l p in omega arith

length_more : (l : List PricedStep) (p : PricedStep) → length (l ++ (p ∷ [])) ≡ length l + 1
length_more [] p = refl
length_more (q ∷ l) p = let e = length_more l p in omega arith

-- ---- marks

-- a marked state has fewer steps to go than there are states
module _ {k : ℕ} {leads : Transitions} {B : ℕ → Bool} {prices : List ℕ} {M : Marks} (S : Standing k leads B prices M) where
  pub steps-below : (s : ℕ) → s < k → 1 ≤ M.mark s → (M.mark s - 1) % CREDIT < 65_536
  steps-below s l y = go (S.order.placed s l y)
    where
      go : (i : ℕ) × (i < M.count) × (M.at i ≡ s) → (M.mark s - 1) % CREDIT < 65_536
      go (i, h, e) =
          let q : (M.mark s - 1) % CREDIT ≤ i = subst (λ (x : ℕ). (M.mark x - 1) % CREDIT ≤ i) e (S.steps i h) in
          let c = S.order.counted in
          let f = S.order.few in
          omega arith

-- a step's mark has one step more
pub one_more : (m p x : ℕ) → 1 ≤ m → (m - 1) % CREDIT < 65_536 → x ≡ m + (p * CREDIT + 1) → (x - 1) % CREDIT ≡ (m - 1) % CREDIT + 1
one_more m p x y f e = omega arith

-- ---- the loop

-- so many steps are written, and s is the last state
pub record Writing (W : View) (n : ℕ) (prices w states states' relations relations' : List ℕ) (f steps s at : ℕ) : Type 0 where
  pub run : List PricedStep
  pub onward : (B : ℕ → Bool) (l : List PricedStep) → T (mixed_into (2 ^ n) (leads_at W) B s l)
      → T (mixed_into (2 ^ n) (leads_at W) B f (run ++ l))
  pub exact : mark_of w f ≡ cost prices run + mark_of w s
  pub length-is : length run ≡ at
  pub of_states : states' ≡ written (states_along f run) states
  pub of_steps : relations' ≡ written (relations_along run) relations
  pub below : s < 2 ^ n
  pub marked : 1 ≤ mark_of w s
  pub left : (mark_of w s - 1) % CREDIT + at ≡ steps

module _ {W : View} {n : ℕ} {prices w st rel : List ℕ} {f steps : ℕ} (a : WriteRunPre W n prices w st rel f steps) where
  -- the order ends before the last place
  pub order-ends : {i : ℕ} → i ≡ 2 ^ n → i < a.count → ⊥
  order-ends e l = let c = a.standing.order.counted in omega arith

  pub write_starts : Writing W n prices w (set st 0 f) (set st 0 f) rel rel f steps f 0
  write_starts = record {
    run = [];
    onward = λ B l t. t;
    exact = omega arith;
    length-is = refl;
    of_states = put_first f st;
    of_steps = refl;
    below = a.below;
    marked = a.marked;
    left = let e = a.steps_are in omega arith;
  }

  module _ {states states' relations relations' : List ℕ} {s at : ℕ}
      (x : Writing W n prices w states states' relations relations' f steps s at) where
    -- a step from s that is left leads to a state of the order
    backed : at < steps → Backed (2 ^ n) (leads_at W) prices (marks_of w a.count) s (mark_of w s)
    backed l = go (a.standing.reason s x.below x.marked)
      where
        go : (T (a.goal s) × (mark_of w s ≡ 1)) ⊎ Backed (2 ^ n) (leads_at W) prices (marks_of w a.count) s (mark_of w s)
            → Backed (2 ^ n) (leads_at W) prices (marks_of w a.count) s (mark_of w s)
        go (inl (g, e)) = absurd (let h = x.left in let z = one_left (mark_of w s) e in omega arith)
          where
            one_left : (m : ℕ) → m ≡ 1 → (m - 1) % CREDIT ≡ 0
            one_left m e = omega arith
        go (inr b) = b

    -- it stands before s, wherever s was found
    pub step_ahead : {i : ℕ} → at < steps → (i < a.count → state_at w i ≡ s) → Ahead W n prices w s i
    step_ahead {i} l f = go (backed l)
      where
        place : (b : Backed (2 ^ n) (leads_at W) prices (marks_of w a.count) s (mark_of w s))
            → (j : ℕ) × (j < a.count) × (state_at w j ≡ b.state) → Ahead W n prices w s i
        place b (j, h, e) = record {
          place = j;
          relation = b.relation;
          before = by_cases (dec_lt j i) (λ k. k) (λ k. absurd (late k));
          step = subst (λ (t : ℕ). ExactStep W n prices w s b.relation t) (sym e)
              (record { below = b.below; leads = b.step; marked = b.marked; exact = b.exact });
        }
          where
            late : (j < i → ⊥) → ⊥
            late k =
                let o : mark_of w (state_at w i) ≤ mark_of w (state_at w j) = a.standing.ordered i j (omega arith) h in
                let p : mark_of w s ≤ mark_of w (state_at w j) = subst (λ (t : ℕ). mark_of w t ≤ mark_of w (state_at w j)) (f (omega arith)) o in
                let q : mark_of w s ≤ mark_of w b.state = subst (λ (t : ℕ). mark_of w s ≤ mark_of w t) e p in
                let g = b.exact in
                omega arith

        go : Backed (2 ^ n) (leads_at W) prices (marks_of w a.count) s (mark_of w s) → Ahead W n prices w s i
        go b = place b (a.standing.order.placed b.state b.below b.marked)

    module _ {r t : ℕ} (e : ExactStep W n prices w s r t) where
      abbrev step : PricedStep
      step = record { relation = r; state = t }

      pub write_turns : Writing W n prices w states (set states' (at + 1) t) relations (set relations' at r) f steps t (at + 1)
      write_turns = record {
        run = x.run ++ (step ∷ []);
        onward = λ B l g.
            subst (λ (m : List PricedStep). T (mixed_into (2 ^ n) (leads_at W) B f m)) (sym (append_assoc x.run (step ∷ []) l))
            (x.onward B (step ∷ l) (and_in (ltb s (2 ^ n)) _ (lt→ltb s (2 ^ n) x.below) (and_in (leads_at W r s t) _ e.leads g)));
        exact = let c = cost-more prices x.run step in let h = x.exact in let g = e.exact in omega arith;
        length-is = let c = length_more x.run step in let h = x.length-is in omega arith;
        of_states =
            let q : at + 1 ≡ suc (length x.run) = (let h = x.length-is in omega arith) in
            ap (λ (i : ℕ). set states' i t) q
            ∙ ap (λ (m : List ℕ). set m (suc (length x.run)) t) x.of_states
            ∙ put_state_lem f x.run step states;
        of_steps =
            ap (λ (i : ℕ). set relations' i r) (sym x.length-is)
            ∙ ap (λ (m : List ℕ). set m (length x.run) r) x.of_steps
            ∙ put_next (λ q. q.relation) x.run step relations;
        below = e.below;
        marked = e.marked;
        left =
            let k = steps-below a.standing t e.below e.marked in
            let o = one_more (mark_of w t) (price_of prices r) (mark_of w s) e.marked k e.exact in
            let h = x.left in
            omega arith;
      }

  -- all steps are written: the last state is in the goal
  module _ {states' relations' : List ℕ} {s at : ℕ} (x : Writing W n prices w (set st 0 f) states' rel relations' f steps s at) where
    pub write_ends : steps ≤ at → (B : ℕ → Bool) (count : ℕ) → Standing (2 ^ n) (leads_at W) B prices (marks_of w count)
        → RunWritten W n B prices w st states' rel relations' f steps
    write_ends l B count S = go (S.reason s x.below x.marked)
      where
        go : (T (B s) × (mark_of w s ≡ 1)) ⊎ Backed (2 ^ n) (leads_at W) prices (marks_of w count) s (mark_of w s)
            → RunWritten W n B prices w st states' rel relations' f steps
        go (inl (g, e)) = record {
          run = x.run;
          is_run = subst (λ (m : List PricedStep). T (mixed_into (2 ^ n) (leads_at W) B f m)) (append-nil x.run)
              (x.onward B [] (and_in (ltb s (2 ^ n)) _ (lt→ltb s (2 ^ n) x.below) g));
          exact = let h = x.exact in omega arith;
          length-is = let h = x.length-is in let k = x.left in omega arith;
          lists = record { of_states = x.of_states ∙ first-over f (map (λ p. p.state) x.run) st; of_steps = x.of_steps };
        }
        go (inr b) = absurd (
            let k = steps-below S b.state b.below b.marked in
            let o = one_more (mark_of w b.state) (price_of prices b.relation) (mark_of w s) b.marked k b.exact in
            let h = x.left in
            omega arith)
