-- Laws of what specs/Start.antt defines. Assumes nothing.
use mathlib.Core.Path.{◌≡◌, sym, ap, ◌∙◌, subst}
use mathlib.Core.Logic.{inl, by_cases}
use mathlib.Core.Bool.{Bool, true, false, true≢false}
use mathlib.Core.List.{List}
use Prim.Native.Nat.{ℕ, suc, ◌+◌, ◌^◌, ◌≤◌, ◌<◌}
use native.Mathlib.Decide.{ℕ_discrete, dec_le}
use native.Mathlib.Omega.{arith}
use lib.Dec.{T}
use lib.ListN.{length}
use lib.Pow.{pow_mono}
use Rattle.mucalculus.proofs.Sets.{true_of}
use Rattle.layout.specs.View.{View}
use Rattle.coins.proofs.Added.{room as order-room, added-listed}
use Rattle.coins.specs.Turns.{Grown}
use Rattle.coins.proofs.Turns.{grown-one, Searching}
use Rattle.coin_search.specs.Words.{mark_of, state_at, marks_of, AddPost}
use Rattle.coin_search.specs.Hall.{filled_at, leads_at, in_set}
use Rattle.coin_search.specs.Start.{Started}

pub few-states : (n : ℕ) → n ≤ 16 → 2 ^ n ≤ 65_536
few-states n l = pow_mono {i = n} {j = 16} l

module _ {W : View} {n : ℕ} {v : List ℕ} {b s count : ℕ} (d : Started W n v b s count) (l : s < 2 ^ n) where
  -- a state that is not in the set is passed over
  pub started_pass : {r : Bool} → r ≡ in_set W b s → r ≡ false → Started W n v b (s + 1) count
  started_pass h f = record {
    small = d.small;
    room = d.room;
    order = d.order;
    most = let m = d.most in omega arith;
    only = λ u lu y. let (a, e, m) = d.only u lu y in (omega arith, e, m);
    complete =
        λ u lu e. by_cases (ℕ_discrete u s) (λ q. absurd (true≢false (sym e ∙ ap (in_set W b) q ∙ sym h ∙ f)))
        (λ q. d.complete u (omega arith) e);
  }

  bare : mark_of v s ≡ 0
  bare = by_cases (dec_le 1 (mark_of v s)) (λ y. let (a, e, m) = d.only s l y in absurd (omega arith)) (λ y. omega arith)

  pub start-asks : (s < length v) × (s < 65_536) × (1 < 70_368_744_177_664) × (count < length v) × (count < 65_536)
  start-asks =
      let f = few-states n d.small in
      let r = d.room in
      let c = order-room d.order s l bare in
      (omega arith, omega arith, omega arith, omega arith, omega arith)

  pub started-add : {x : List ℕ} {r : Bool} {c : ℕ} → r ≡ in_set W b s → r ≡ true → AddPost v x s 1 count × (c ≡ count + 1)
      → Started W n x b (s + 1) c
  started-add {x} {r} {c} h f (p, ec) =
      let g : Grown (marks_of v count) (marks_of x (suc count)) 1 = grown-one bare p.added in
      let eq : suc count ≡ c = omega arith in
      subst (λ (y : ℕ). Started W n x b (s + 1) y) eq (record {
        small = d.small;
        room = let r = d.room in let e = p.size in omega arith;
        order = added-listed d.order s l bare p.added (omega arith);
        most = let m = d.most in omega arith;
        only = λ u lu y. by_cases (ℕ_discrete u s)
            (λ q. (omega arith, ap (in_set W b) q ∙ sym h ∙ f, ap (mark_of x) q ∙ p.added.mark))
            (λ q. let o = p.added.others u q in let (a, e, m) = d.only u lu (omega arith) in (omega arith, e, o ∙ m));
        complete =
            λ u lu e. by_cases (ℕ_discrete u s) (λ q. ap (mark_of x) q ∙ p.added.mark)
            (λ q. p.added.others u q ∙ d.complete u (omega arith) e);
      })

-- the search stands
pub searching_start : {W : View} {n : ℕ} {v : List ℕ} {b count : ℕ} (a : ℕ) (prices : List ℕ) (done : ℕ → ℕ) → Started W n v b (2 ^ n) count
    → ((r : ℕ) → done r ≡ 0)
    → Searching (2 ^ n) (leads_at W) (filled_at W.header) (in_set W a) (in_set W b) prices (marks_of v count) done 0
searching_start {W} {n} {v} {b} {count} a prices done d zero-done = record {
  standing = record {
    order = d.order;
    ordered = λ i j h l. let x = one i (omega arith) in let y = one j l in omega arith;
    reason = λ s l y. let (h, e, m) = d.only s l y in inl (subst T (sym e) tt, m);
    steps = λ i l. let x = one i l in omega arith;
    height = λ i l. let x = one i l in omega arith;
  };
  goal = λ s l t. d.complete s l (true_of (in_set W b s) t);
  over = λ r i s l ls h. let z = zero-done r in absurd (omega arith);
  within = λ r. let z = zero-done r in omega arith;
  top = 1;
  some = omega arith;
  greatest = λ i l. let x = one i l in omega arith;
  left = λ r i f l h. let x = one i h in omega arith;
  unseen = λ i l. absurd (omega arith);
}
  where
    one : (i : ℕ) → i < count → mark_of v (state_at v i) ≡ 1
    one i l = let (h, y) = d.order.listed i l in (d.only (state_at v i) h y).2
