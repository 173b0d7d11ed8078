-- The writing of a found run meets its contract: its mark says credits and steps of a cheapest run. Assumes nothing.
use mathlib.Core.Path.{◌≡◌, refl, sym, ap, ◌∙◌, subst}
use mathlib.Core.Logic.{◌⊎◌, inl, inr}
use mathlib.Core.Bool.{Bool}
use mathlib.Core.List.{List, [], ◌∷◌}
use Prim.Native.Nat.{ℕ, zero, suc, ◌+◌, ◌-◌, ◌*◌, ◌/◌, ◌%◌, ◌^◌, ◌≤◌, ◌<◌}
use native.Mathlib.Omega.{arith}
use lib.Dec.{T, ltb, lt→ltb}
use lib.ListN.{length}
use Rattle.mucalculus.proofs.Sets.{and_in}
use Rattle.layout.specs.View.{View}
use Rattle.coins.specs.Runs.{Transitions, PricedStep, price_of, total, mixed_into, coins}
use Rattle.coins.specs.Cost.{CREDIT, cost}
use Rattle.coins.specs.Marks.{Marks, Reason, Standing}
use Rattle.coins.specs.Post.{FareReply, fare_refused, paid, RunFits, FareTold, told-short, told-run}
use Rattle.coins.proofs.Found.{found-cheapest, credits_are}
use Rattle.coin_search.specs.Words.{mark_of}
use Rattle.coin_search.specs.Hall.{leads_at, in_set}
use Rattle.coin_search.specs.Search.{FoundAt}
use Rattle.coin_calls.specs.Write.{WriteRunPre, WriteRunGives}
use Rattle.coin_calls.proofs.Write.{steps-below, one_more}
use Rattle.coin_calls.specs.Asks.{PayPre, PayPost}

-- ---- the run that a mark stands for, written or not

pub record Reaches (k : ℕ) (leads : Transitions) (B : ℕ → Bool) (prices : List ℕ) (M : Marks) (s d : ℕ) : Type 0 where
  pub steps : List PricedStep
  pub is_run : T (mixed_into k leads B s steps)
  pub exact : M.mark s ≡ cost prices steps + 1
  pub length-is : length steps ≡ d

module _ {k : ℕ} {leads : Transitions} {B : ℕ → Bool} {prices : List ℕ} {M : Marks} (S : Standing k leads B prices M) where
  abbrev Reached : ℕ → Type 0
  Reached d = (s : ℕ) → s < k → 1 ≤ M.mark s → (M.mark s - 1) % CREDIT ≡ d → Reaches k leads B prices M s d

  reach-end : (s : ℕ) → s < k → (M.mark s - 1) % CREDIT ≡ 0 → Reason k leads B prices M s (M.mark s)
      → Reaches k leads B prices M s 0
  reach-end s l e (inl (g, m)) = record {
    steps = [];
    is_run = and_in (ltb s k) _ (lt→ltb s k l) g;
    exact = omega arith;
    length-is = refl;
  }
  reach-end s l e (inr b) = absurd (
      let f = steps-below S b.state b.below b.marked in
      let o = one_more (M.mark b.state) (price_of prices b.relation) (M.mark s) b.marked f b.exact in
      omega arith)

  reach_step : (d : ℕ) → Reached d → (s : ℕ) → s < k → (M.mark s - 1) % CREDIT ≡ suc d → Reason k leads B prices M s (M.mark s)
      → Reaches k leads B prices M s (suc d)
  reach_step d h s l e (inl (g, m)) = absurd (let z = one_left (M.mark s) m in omega arith)
    where
      one_left : (m : ℕ) → m ≡ 1 → (m - 1) % CREDIT ≡ 0
      one_left m e = omega arith
  reach_step d h s l e (inr b) = go (h b.state b.below b.marked (omega arith))
    where
      f : (M.mark b.state - 1) % CREDIT < 65_536
      f = steps-below S b.state b.below b.marked

      o : (M.mark s - 1) % CREDIT ≡ (M.mark b.state - 1) % CREDIT + 1
      o = one_more (M.mark b.state) (price_of prices b.relation) (M.mark s) b.marked f b.exact

      go : Reaches k leads B prices M b.state d → Reaches k leads B prices M s (suc d)
      go r = record {
        steps = record { relation = b.relation; state = b.state } ∷ r.steps;
        is_run = and_in (ltb s k) _ (lt→ltb s k l) (and_in (leads b.relation s b.state) _ b.step r.is_run);
        exact = let x = r.exact in let y = b.exact in omega arith;
        length-is = let x = r.length-is in omega arith;
      }

  pub reaches : (d : ℕ) → Reached d
  reaches zero s l y e = reach-end s l e (S.reason s l y)
  reaches (suc d) s l y e = reach_step d (reaches d) s l e (S.reason s l y)

  -- credits of a mark are few
  pub mark-small : (s : ℕ) → s < k → 1 ≤ M.mark s → M.mark s < 2_190_433_320_000
  mark-small s l y = go (S.order.placed s l y)
    where
      go : (i : ℕ) × (i < M.count) × (M.at i ≡ s) → M.mark s < 2_190_433_320_000
      go (i, h, e) =
          let q : M.mark s ≤ 1 + i * 33_423_361 = subst (λ (x : ℕ). M.mark x ≤ 1 + i * 33_423_361) e (S.height i h) in
          let c = S.order.counted in
          let f = S.order.few in
          omega arith

-- ---- the call

abbrev reply : ℕ → ℕ → ℕ → FareReply
reply t c k = record { number = 0; total = t; charge = c; states = k }

module _ {W : View} {n : ℕ} {prices w : List ℕ} {f : ℕ} (a : PayPre W n prices w f) where
  pub first_in_lem : f < length w
  first_in_lem = let l = a.found.below in let r = a.hall.room in omega arith

  module _ {m : ℕ} (em : m ≡ mark_of w f) where
    pub mark-some : 1 ≤ m
    mark-some = let y = a.found.marked in omega arith

    pub credits_small : (m - 1) / 131_072 < 4_294_967_296
    credits_small = let y = mark-small a.found.standing f a.found.below a.found.marked in omega arith

    steps-eq : (mark_of w f - 1) % CREDIT ≡ (m - 1) % 131_072
    steps-eq = ap (λ (x : ℕ). (x - 1) % CREDIT) (sym em)

    pub steps-small : (m - 1) % 131_072 < 65_536
    steps-small = let y = steps-below a.found.standing f a.found.below a.found.marked in let e = steps-eq in omega arith

    -- some list is too short
    pub pay-short : {states relations : List ℕ} → (length states ≤ (m - 1) % 131_072) ⊎ (length relations < (m - 1) % 131_072)
        → PayPost W n prices w states states relations relations f (fare_refused 11)
    pay-short {states} {relations} no_room = record { told = told_of; kept = λ _. (refl, refl); late = λ h. h }
      where
        too_short : (l : List PricedStep) → length l ≡ (m - 1) % 131_072
            → (length states ≤ (m - 1) % 131_072) ⊎ (length relations < (m - 1) % 131_072) → RunFits l states relations → ⊥
        too_short l e (inl h) r = let x = r.for_states in absurd (omega arith)
        too_short l e (inr h) r = let x = r.for_steps in absurd (omega arith)

        told_of : (x y : ℕ) → FoundAt W n prices w x y f
            → FareTold (2 ^ n) (leads_at W) (in_set W x) (in_set W y) prices states states relations relations (fare_refused 11)
        told_of x y g =
            let q = reaches g.standing ((m - 1) % 131_072) f g.below g.marked steps-eq in
            told-short f q.steps
            (found-cheapest f q.steps g.no_less (and_in (in_set W x f) _ g.from q.is_run) q.exact
            (let e = q.length-is in let s = steps-small in omega arith))
            (too_short q.steps q.length-is no_room)

    module _ {states relations : List ℕ} (ls : (m - 1) % 131_072 < length states) (lr : (m - 1) % 131_072 ≤ length relations) where
      pub write_asks : WriteRunPre W n prices w states relations f ((m - 1) % 131_072)
      write_asks = record {
        hall = a.hall;
        goal = in_set W a.into;
        count = a.found.count;
        standing = a.found.standing;
        below = a.found.below;
        marked = a.found.marked;
        steps_are = steps-eq;
        for_states = ls;
        for_steps = lr;
      }

      pub pay-paid : {states' relations' : List ℕ} {c : ℕ} → c ≡ coins ((m - 1) / 131_072)
          → WriteRunGives W n prices w states states' relations relations' f ((m - 1) % 131_072)
          → PayPost W n prices w states states' relations relations' f
          (record { number = 0; total = (m - 1) / 131_072; charge = c; states = (m - 1) % 131_072 + 1 })
      pay-paid {states'} {relations'} {c} ec v = record { told = told_of; kept = λ q. absurd (q refl); late = λ h. h }
        where
          same-reply : (l : List PricedStep) → (m - 1) / 131_072 ≡ total prices l → length l ≡ (m - 1) % 131_072
              → paid prices l ≡ reply ((m - 1) / 131_072) c ((m - 1) % 131_072 + 1)
          same-reply l et el =
              let q : suc (length l) ≡ (m - 1) % 131_072 + 1 = omega arith in
              ap (λ (k : ℕ). reply (total prices l) (coins (total prices l)) k) q
              ∙ ap (λ (t : ℕ). reply t (coins t) ((m - 1) % 131_072 + 1)) (sym et)
              ∙ ap (λ (k : ℕ). reply ((m - 1) / 131_072) k ((m - 1) % 131_072 + 1)) (sym ec)

          told_of : (x y : ℕ) → FoundAt W n prices w x y f
              → FareTold (2 ^ n) (leads_at W) (in_set W x) (in_set W y) prices states states' relations relations'
              (reply ((m - 1) / 131_072) c ((m - 1) % 131_072 + 1))
          told_of x y g =
              let q = v (in_set W y) g.count g.standing in
              let e = q.length-is in
              let s = steps-small in
              let few : length q.run < CREDIT = omega arith in
              subst (FareTold (2 ^ n) (leads_at W) (in_set W x) (in_set W y) prices states states' relations relations')
              (same-reply q.run (credits_are prices q.run (em ∙ q.exact) few) e)
              (told-run f q.run (found-cheapest f q.run g.no_less (and_in (in_set W x f) _ g.from q.is_run) q.exact few)
              (record { for_states = omega arith; for_steps = omega arith }) q.lists)
