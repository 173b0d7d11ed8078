-- Laws of what specs/Search.antt defines. Assumes nothing.
use mathlib.Core.Path.{◌≡◌, refl, sym, ap, ◌∙◌, subst}
use mathlib.Core.Logic.{by_cases}
use mathlib.Core.Bool.{true}
use mathlib.Core.List.{List, [], ◌∷◌}
use Prim.Native.Nat.{ℕ, zero, suc, ◌+◌, ◌-◌, ◌/◌, ◌^◌, ◌≤◌, ◌<◌}
use native.Mathlib.Decide.{dec_lt}
use native.Mathlib.Omega.{arith}
use lib.Dec.{T}
use lib.ListN.{length, get_or, set, replicate, length-set}
use lib.Seq.{get_or-set_same, get_or-set_other}
use Rattle.layout.specs.View.{View}
use Rattle.coins.specs.Runs.{PricedStep, price_of, is_mixed_run, total}
use Rattle.coins.specs.Cost.{CREDIT, cost}
use Rattle.coins.proofs.Marks.{Least}
use Rattle.coins.proofs.Turns.{Searching, OneMore, none-less, no-run, turned}
use Rattle.coins.specs.Found.{NoLess}
use Rattle.coin_search.specs.Words.{mark_of, state_at, marks_of}
use Rattle.coin_search.specs.Hall.{filled_at, leads_at, in_set, Hall}
use Rattle.coin_search.proofs.Hall.{filled-below, filled-used}
use Rattle.coin_search.specs.Start.{Cleared, Bare, Started, FirstIn}
use Rattle.coin_search.proofs.StartLaws.{few-states, searching_start}
use Rattle.coin_search.specs.Choice.{Placed, key_of, Best}
use Rattle.coin_search.proofs.Choice.{best_least}
use Rattle.coin_search.specs.Turn.{TurnPre, TurnPost}
use Rattle.coin_search.specs.Search.{SearchPre, FoundAt, SearchPost}

-- nothing is done
pub zeros-at : (k q : ℕ) → ◌≡◌ {A = ℕ} (get_or (replicate k 0) q 0) 0
zeros-at zero q = refl
zeros-at (suc k) zero = refl
zeros-at (suc k) (suc q) = zeros-at k q

-- what is left to do, which falls in each turn
abbrev pub leftover : ℕ → List ℕ → ℕ
leftover k [] = 0
leftover k (d ∷ l) = (k - d) + leftover k l

pub left_less : (k : ℕ) (done : List ℕ) (r : ℕ) → r < length done → get_or done r 0 < k
    → leftover k (set done r (get_or done r 0 + 1)) < leftover k done
left_less k [] r l h = absurd (omega arith)
left_less k (d ∷ l) zero i h = omega arith
left_less k (d ∷ l) (suc r) i h = let q = left_less k l r (omega arith) h in omega arith

-- the loop's invariant: where the search stands, and the relation that is next
pub record Turning (W : View) (n : ℕ) (prices w done : List ℕ) (a b count r : ℕ) : Type 0 where
  pub hall : Hall W n prices w
  pub cheap : (q : ℕ) → price_of prices q ≤ 255
  pub searching : Searching (2 ^ n) (leads_at W) (filled_at W.header) (in_set W a) (in_set W b) prices (marks_of w count) (λ q. get_or done q 0)
      count
  pub best : Best W.header prices w done count 8 r
  pub most : r ≤ 8
  pub eight : length done ≡ 8

-- ---- before the loop

module _ {W : View} {n : ℕ} {prices w : List ℕ} {a b : ℕ} (p : SearchPre W n prices w a b) where
  pub clear-asks : {states : ℕ} → states ≡ 2 ^ n → (states ≤ 65_536) × (states ≤ length w)
  clear-asks e = let f = few-states n p.hall.small in let r = p.hall.room in (omega arith, omega arith)

  pub start_bare : {v : List ℕ} {states : ℕ} → states ≡ 2 ^ n → Cleared w v states → Bare n v
  start_bare e c = record {
    small = p.hall.small;
    room = let r = p.hall.room in let s = c.size in omega arith;
    zeros = λ i l. c.zeros i (omega arith);
  }

module _ {W : View} {n : ℕ} {v : List ℕ} {b count : ℕ} (d : Started W n v b (2 ^ n) count) where
  pub started-places : count ≤ length v
  started-places = let c = d.order.counted in let r = d.room in omega arith

  pub started-placed : Placed v count
  started-placed = record { places = started-places; states = λ i l. let h = (d.order.listed i l).0 in let r = d.room in omega arith }

  -- a state of both sets
  pub first-post : {f : ℕ} (a : ℕ) (prices : List ℕ) → FirstIn W a v 0 count f → (f ≡ 65_536 → ⊥) → SearchPost W n prices v a b f
  first-post {f} a prices x q = record { found = λ _. at (x.found q); none = λ e. absurd (q e) }
    where
      at : (i : ℕ) × (0 ≤ i) × (i < count) × (state_at v i ≡ f) × (in_set W a f ≡ true) → FoundAt W n prices v a b f
      at (i, h, l, e, t) =
          let (below, some) = d.order.listed i l in
          let one = (d.only (state_at v i) below some).2 in
          let m : mark_of v f ≡ 1 = sym (ap (mark_of v) e) ∙ one in
          record {
            count = count;
            standing = (searching_start a prices (λ _. 0) d (λ _. refl)).standing;
            below = subst (λ (y : ℕ). y < 2 ^ n) e below;
            from = subst T (sym t) tt;
            marked = omega arith;
            no_less = record { by-cost = λ s l t. omega arith; by_total = λ s l t. omega arith };
          }

  -- none: the loop begins
  pub turning_start : {prices done : List ℕ} {f r : ℕ} (a : ℕ) → Hall W n prices v → ((q : ℕ) → price_of prices q ≤ 255)
      → FirstIn W a v 0 count f → f ≡ 65_536 → ((q : ℕ) → get_or done q 0 ≡ 0) → length done ≡ 8
      → Best W.header prices v done count 8 r × (r ≤ 8) → Turning W n prices v done a b count r
  turning_start {prices} {done} a h cheap x e z eight (best, most) = record {
    hall = h;
    cheap = cheap;
    searching =
        let s = searching_start a prices (λ q. get_or done q 0) d z in
        record {
          standing = s.standing;
          goal = s.goal;
          over = s.over;
          within = s.within;
          top = s.top;
          some = s.some;
          greatest = s.greatest;
          left = s.left;
          unseen = λ i l. x.none e i (omega arith) l;
        };
    best = best;
    most = most;
    eight = eight;
  }

-- ---- in the loop

module _ {W : View} {n : ℕ} {prices w done : List ℕ} {a b count r : ℕ} (t : Turning W n prices w done a b count r) where
  -- nothing is left
  pub none-post : r ≡ 8 → SearchPost W n prices w a b 65_536
  none-post e = record {
    found = λ q. absurd (q refl);
    none = λ _. no-run (2 ^ n) (leads_at W) (filled_at W.header) (in_set W a) (in_set W b) prices (marks_of w count) (λ q. get_or done q 0)
        (filled-used W) t.searching
        (λ q f. t.best.none e q (filled_eight q f) f);
  }
    where
      filled_eight : (q : ℕ) → T (filled_at W.header q) → q < 8
      filled_eight q f = filled-below W.header q f

  module _ (o : r ≡ 8 → ⊥) where
    abbrev key : ℕ
    key = key_of prices w r (get_or done r 0)

    pub in-eight : r < 8
    in-eight = (t.best.some o).0

    next_place : get_or done r 0 < count
    next_place = (t.best.some o).2

    pub counted : count ≤ 65_536
    counted = let c = t.searching.standing.order.counted in let f = t.searching.standing.order.few in omega arith

    pub next_small : get_or done r 0 < 65_536
    next_small = let l = next_place in let c = counted in omega arith

    least : Least (filled_at W.header) prices (marks_of w count) (λ q. get_or done q 0) key
    least = best_least t.best o t.searching.standing.ordered

    pub turn-asks : TurnPre W n prices w r (get_or done r 0) count
    turn-asks = record {
      hall = t.hall;
      order = t.searching.standing.order;
      filled = (t.best.some o).1;
      next = next_place;
      fits =
          let h = t.searching.standing.height (get_or done r 0) next_place in
          let c = t.cheap r in
          let k = counted in
          let l = next_place in
          omega arith;
    }

    module _ {v : List ℕ} {more : ℕ} (x : TurnPost W n prices w v r (get_or done r 0) count more) where
      pub more-places : more ≤ length v
      more-places = let c = x.expanded.order.counted in let h = t.hall.room in let s = x.size in omega arith

      pub more-placed : Placed v more
      more-placed =
          record {
            places = more-places;
            states = λ i l. let h = (x.expanded.order.listed i l).0 in
                let g = t.hall.room in let s = x.size in omega arith;
          }

      next : List ℕ
      next = set done r (get_or done r 0 + 1)

      one_more : OneMore (λ q. get_or done q 0) (λ q. get_or (set done r (get_or done r 0 + 1)) q 0) r
      one_more = (
        (let l = in-eight in let e = t.eight in let g = get_or-set_same done r (get_or done r 0 + 1) 0 (omega arith) in omega arith),
        λ q n. get_or-set_other done r q (get_or done r 0 + 1) 0 n,
      )

      after : Searching (2 ^ n) (leads_at W) (filled_at W.header) (in_set W a) (in_set W b) prices (marks_of v more)
          (λ q. get_or (set done r (get_or done r 0 + 1)) q 0) count
      after =
          turned (2 ^ n) (leads_at W) (filled_at W.header) (in_set W a) (in_set W b) prices (marks_of w count) (λ q. get_or done q 0)
          (filled-used W) t.searching
          (marks_of v more) (λ q. get_or (set done r (get_or done r 0 + 1)) q 0) r key (t.best.some o).1 next_place refl least x.expanded
          t.cheap one_more

      -- a state of a has got a mark: it is the least
      pub turn-post : {f : ℕ} → FirstIn W a v count more f → (f ≡ 65_536 → ⊥) → SearchPost W n prices v a b f
      turn-post {f} y q = record { found = λ _. at (y.found q); none = λ e. absurd (q e) }
        where
          at : (i : ℕ) × (count ≤ i) × (i < more) × (state_at v i ≡ f) × (in_set W a f ≡ true) → FoundAt W n prices v a b f
          at (i, h, l, e, s) =
              let (below, some) = x.expanded.order.listed i l in
              let m : mark_of v f ≡ key = sym (ap (mark_of v) e) ∙ x.expanded.grown.late i h l in
              record {
                count = more;
                standing = after.standing;
                below = subst (λ (c : ℕ). c < 2 ^ n) e below;
                from = subst T (sym s) tt;
                marked = subst (λ (c : ℕ). 1 ≤ mark_of v c) e some;
                no_less = subst (NoLess (2 ^ n) (leads_at W) (in_set W a) (in_set W b) prices) (sym m) (record {
                  by-cost = λ u k z. (less u k z).0;
                  by_total = λ u k z. (less u k z).1;
                });
              }
            where
              less : (u : ℕ) (k : List PricedStep) → T (is_mixed_run (2 ^ n) (leads_at W) (in_set W a) (in_set W b) u k)
                  → (key ≤ cost prices k + 1) × ((key - 1) / CREDIT ≤ total prices k)
              less = none-less (2 ^ n) (leads_at W) (filled_at W.header) (in_set W a) (in_set W b) prices (marks_of w count)
                  (λ q. get_or done q 0) (filled-used W) t.searching key least

      -- none: the loop goes on
      pub turning_next : {f q : ℕ} → FirstIn W a v count more f → f ≡ 65_536
          → Best W.header prices v (set done r (get_or done r 0 + 1)) more 8 q × (q ≤ 8)
          → Turning W n prices v (set done r (get_or done r 0 + 1)) a b more q
      turning_next y e (best, most) = record {
        hall = record {
          small =
              t.hall.small;
          priced =
              t.hall.priced;
          room = (let h = t.hall.room in let s = x.size in omega arith);
          arrows = t.hall.arrows;
        };
        cheap = t.cheap;
        searching = record {
          standing = after.standing;
          goal = after.goal;
          over = after.over;
          within = after.within;
          top = after.top;
          some = after.some;
          greatest = after.greatest;
          left = after.left;
          unseen = λ i l. by_cases (dec_lt i count) (λ h. after.unseen i h) (λ h. y.none e i (omega arith) l);
        };
        best = best;
        most = most;
        eight = length-set done r (get_or done r 0 + 1) ∙ t.eight;
      }

      -- and there is less to do
      pub turn-less : leftover (2 ^ n) (set done r (get_or done r 0 + 1)) < leftover (2 ^ n) done
      turn-less =
          let c = t.searching.standing.order.counted in
          let l = next_place in
          left_less (2 ^ n) done r (let e = t.eight in let i = in-eight in omega arith) (omega arith)
