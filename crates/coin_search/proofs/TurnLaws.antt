-- Laws of what specs/Turn.antt defines. Assumes nothing.
use mathlib.Core.Path.{◌≡◌, refl, sym, ap, ◌∙◌, subst}
use mathlib.Core.Bool.{Bool, true}
use mathlib.Core.List.{List}
use Prim.Native.Nat.{ℕ, ◌+◌, ◌-◌, ◌*◌, ◌/◌, ◌%◌, ◌^◌, ◌≤◌, ◌<◌}
use native.Mathlib.Nat.{mod-lt}
use native.Mathlib.Omega.{arith}
use lib.Dec.{T}
use lib.ListN.{length, set}
use lib.Pow.{pow_pos, pow_mono, split}
use Rattle.mucalculus.specs.Means.{bit}
use Rattle.mucalculus.proofs.Sets.{and_in, and_out, true_of}
use Rattle.layout.specs.View.{View}
use Rattle.seek.specs.Walk.{HoldsPre, holds_at}
use Rattle.coins.specs.Cost.{step_cost}
use Rattle.coins.specs.Marks.{Listed}
use Rattle.coins.specs.Turns.{Grown, LeadsLike, Expanded}
use Rattle.coins.proofs.Turns.{grown-none}
use Rattle.coin_search.specs.Words.{mark_of, state_at, marks_of}
use Rattle.coin_search.specs.Adds.{Adds}
use Rattle.coin_search.specs.Notes.{Goal, Led, NotesHold, DoneMet}
use Rattle.coin_search.specs.Expand.{ExpandPre, Reached}
use Rattle.coin_search.specs.Gather.{GatherPre, OwnState, Goals}
use Rattle.coin_search.specs.Hall.{root_at, filled_at, leads_at}
use Rattle.coin_search.specs.Choice.{key_of}
use Rattle.coin_search.specs.Turn.{TurnPre, TurnPost}
use Rattle.coin_search.proofs.Hall.{filled-below, filled-some}
use Rattle.coin_search.proofs.Nodes.{power_is, state-bit, state_of}
use Rattle.coin_search.proofs.NotesLaws.{notes-done}

module _ {W : View} {n : ℕ} {prices w : List ℕ} {r done count : ℕ} (a : TurnPre W n prices w r done count) where
  -- the next state is one of the words
  pub place_in : done < length w
  place_in = let c = a.order.counted in let r = a.hall.room in let d = a.next in omega arith

  pub state_in : {t : ℕ} → t ≡ state_at w done → t < length w
  state_in e = let (l, y) = a.order.listed done a.next in let r = a.hall.room in omega arith

  pub below_eight : r < 8
  below_eight = filled-below W.header r a.filled

  pub price_in : r < length prices
  price_in = let l = below_eight in let e = a.hall.priced in omega arith

  pub root-some : {x : ℕ} → x ≡ root_at W.header r → 1 ≤ x
  root-some e = let y = filled-some W.header r a.filled in omega arith

  pub key_small : {t m c : ℕ} → t ≡ state_at w done → m ≡ mark_of w t → c ≡ step_cost prices r → m + c < 70_368_744_177_664
  key_small {t} et em ec = let q : mark_of w t ≡ mark_of w (state_at w done) = ap (mark_of w) et in let f = a.fits in omega arith

  module _ {t m c x : ℕ} (et : t ≡ state_at w done) (em : m ≡ mark_of w t) (ec : c ≡ step_cost prices r) (ex : x ≡ root_at W.header r) where
    key_is : m + c ≡ key_of prices w r done
    key_is = let q : mark_of w t ≡ mark_of w (state_at w done) = ap (mark_of w) et in omega arith

    arrow-is : root_at W.header r - 1 ≡ x - 1
    arrow-is = ap (λ (y : ℕ). y - 1) (sym ex)

    -- the turn's promise, from what it says of arrow and state
    expanded-from : (v : List ℕ) (most : ℕ) → Listed (2 ^ n) (marks_of v most) → Grown (marks_of w count) (marks_of v most) (m + c)
        → ((u : ℕ) → u < 2 ^ n → mark_of w u ≡ 0 → 1 ≤ mark_of v u → LeadsLike (2 ^ n) (leads_at W) (marks_of w count) r t u)
        → ((u : ℕ) → u < 2 ^ n → holds_at W (x - 1) u t ≡ true → 1 ≤ mark_of v u)
        → Expanded (2 ^ n) (leads_at W) (marks_of w count) (marks_of v most) r (state_at w done) (key_of prices w r done)
    expanded-from v most o g f h =
        subst (λ (k : ℕ). Expanded (2 ^ n) (leads_at W) (marks_of w count) (marks_of v most) r (state_at w done) k) key_is
        (subst (λ (k : ℕ). Expanded (2 ^ n) (leads_at W) (marks_of w count) (marks_of v most) r k (m + c)) et (record {
          order = o;
          grown = g;
          only = f;
          complete =
              λ u l y. h u l
              (ap (λ (k : ℕ). holds_at W k u t) (sym arrow-is)
              ∙ true_of (holds_at W (root_at W.header r - 1) u t) (and_out (filled_at W.header r) _ y).1);
        }))

    -- the lower bits of the state, and its others
    module _ {low : ℕ} {N : List ℕ} (h : NotesHold W n low w N) where
      pub lower-is : t % (1 * 2 ^ low % 4_294_967_296) ≡ t % 2 ^ low
      lower-is = ap (λ (y : ℕ). t % y) (power_is low (let b = h.bits.small in omega arith))

      lower-below : t % (1 * 2 ^ low % 4_294_967_296) < 2 ^ low
      lower-below = let e = lower-is in let l = mod-lt t (pow_pos low) in omega arith

      whole : t % (1 * 2 ^ low % 4_294_967_296) + t / 2 ^ low * 2 ^ low ≡ t
      whole = let e = split t low in let f = lower-is in omega arith

      state-below : t < 2 ^ n
      state-below = let (l, y) = a.order.listed done a.next in omega arith

      upper-few : t / 2 ^ low < 64
      upper-few = state-bit h.bits t state-below

      pub done-asks : (length N ≡ 7_365) × (t % (1 * 2 ^ low % 4_294_967_296) < 1_024) × (t / 2 ^ low < 64)
      done-asks = (
        h.masks.size,
        (let l = lower-below in let m : 2 ^ low ≤ 2 ^ 10 = pow_mono {i = low} {j = 10} h.bits.small in omega arith),
        upper-few,
      )

      own-goal : {goals : ℕ} → bit (t / 2 ^ low) goals ≡ true → Goal low (t % (1 * 2 ^ low % 4_294_967_296)) goals t
      own-goal b = record { lower = sym lower-is; upper = b }

      -- it was done
      pub turn-done : {b : Bool} → (b ≡ true → DoneMet N (x - 1) (t % (1 * 2 ^ low % 4_294_967_296)) (t / 2 ^ low)) → b ≡ true
          → TurnPost W n prices w w r done count count
      turn-done f e = record {
        size = refl;
        expanded = expanded-from w count a.order (grown-none (marks_of w count) (m + c)) (λ u l z y. absurd (omega arith))
            (λ u l y. (h.done (t % (1 * 2 ^ low % 4_294_967_296)) done-asks.1).all u t l (own-goal (f e).has)
            (ap (λ (k : ℕ). holds_at W k u t) (f e).is ∙ y));
      }

      pub gather-asks : GatherPre n low w (t % (1 * 2 ^ low % 4_294_967_296))
          × OwnState n low w (t % (1 * 2 ^ low % 4_294_967_296)) (t / 2 ^ low) m count × (done < 65_536)
      gather-asks = (
        record { bits = h.bits; few = a.hall.small; lower = lower-below; room = a.hall.room },
        record {
          below = let b = whole in let l = state-below in omega arith;
          mark = ap (mark_of w) whole ∙ sym em;
          placed = record {
            places = let c = a.order.counted in let r = a.hall.room in omega arith;
            states = λ i l. let (y, z) = a.order.listed i l in let r = a.hall.room in omega arith;
          };
          counted = let c = a.order.counted in let f = a.order.few in omega arith;
        },
        let c = a.order.counted in let f = a.order.few in let d = a.next in omega arith,
      )

      pub expand-asks : ExpandPre W n low w N (t % (1 * 2 ^ low % 4_294_967_296)) (m + c) (x - 1) 0 0 count
      expand-asks = record {
        adds = record {
          small = a.hall.small;
          room = a.hall.room;
          order = a.order;
          some = omega arith;
          fits = let k = key_is in let f = a.fits in omega arith;
        };
        notes = h;
        arrow = subst (HoldsPre W) arrow-is (a.hall.arrows r a.filled);
        deep = omega arith;
        depth = omega arith;
        lower = pow_pos 0;
        goal = lower-below;
      }

      module _ {v M : List ℕ} {goals most : ℕ} (g : Goals n low w (t % (1 * 2 ^ low % 4_294_967_296)) (t / 2 ^ low) m goals)
          (e : Adds n w v (m + c) count most (Reached W low (t % (1 * 2 ^ low % 4_294_967_296)) goals (x - 1) 0 0)
          × NotesHold W n low v M) where
        pub turn-ends : {O : List ℕ}
            → O ≡ set (set M (2_048 + t % (1 * 2 ^ low % 4_294_967_296)) (x - 1)) (3_072 + t % (1 * 2 ^ low % 4_294_967_296)) goals
            → TurnPost W n prices w v r done count most × NotesHold W n low v O
        turn-ends d = (
          record {
            size = e.0.size;
            expanded = expanded-from v most e.0.order e.0.grown (λ u l z y. like u (e.0.only u l z y).1)
                (λ u l y. e.0.complete u l (omega arith, record { goal = t; is = own-goal g.has; step = y }));
          },
          notes-done e.1 done-asks.1
              (record { all = λ u k l i y. e.0.complete u l (omega arith, record { goal = k; is = i; step = y }) }) d,
        )
          where
            like : (u : ℕ) → Led W low (t % (1 * 2 ^ low % 4_294_967_296)) goals (x - 1) u
                → LeadsLike (2 ^ n) (leads_at W) (marks_of w count) r t u
            like u b =
                let k = state_of low b.goal b.is.lower refl in
                let (l, y) = g.from (b.goal / 2 ^ low) b.is.upper in
                record {
                  state = b.goal;
                  below = omega arith;
                  like = ap (mark_of w) k ∙ y ∙ em;
                  step = and_in (filled_at W.header r) _ a.filled
                      (subst T (sym (ap (λ (j : ℕ). holds_at W j u b.goal) arrow-is ∙ b.step)) tt);
                }
