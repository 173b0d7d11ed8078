-- That the parts of the check decide whether a table is sound. Assumes nothing.
use mathlib.Core.Path.{◌≡◌, sym, ◌∙◌, subst}
use mathlib.Core.Bool.{Bool, true}
use mathlib.Core.Logic.{⊎_elim, ◌≢◌}
use mathlib.Core.List.{List}
use Prim.Native.Nat.{ℕ, zero, suc, ◌-◌, ◌*◌, ◌%◌, ◌≤◌, ◌<◌}
use native.Mathlib.Omega.{arith}
use borrow.Author.Tests.{eq-eqb, eqb-true}
use Rattle.layout.specs.Places.{BITS, ROWS, USED, LAYOUT, CURRENT, VALID, FIRST_RELATION, ROOTS_END, LOW, HIGH, LEVEL, RANK}
use Rattle.diagram.specs.Rows.{target, ArrowTo, level_to, RowOk, WellFormed}
use Rattle.diagram.proofs.Reach.{one-root}
use Rattle.layout.specs.View.{View}
use Rattle.rows.specs.Used.{Sizes, used, Ranked, rows_of}
use Rattle.rows.proofs.Used.{used_in, listed-used}
use Rattle.rows.proofs.Index.{hit_one}
use Rattle.rows.specs.Bits.{On}
use Rattle.rows.specs.Mark.{OnArrow, Closed}
use Rattle.rows.proofs.MarkLaws.{closed-reach, reaches_used}
use Rattle.rows.specs.Roots.{Ref, Held, MarksAll}
use Rattle.rows.specs.Lookup.{Room}
use Rattle.soundness.specs.Checks.{Placed, LeadsTo, RowGood, Finds, Links, EvenMarked}
use Rattle.soundness.specs.Triples.{Ready}
use Rattle.soundness.proofs.Triples.{small_of}
use Rattle.rows.specs.Says.{Says, holds, fails}
use Rattle.rows.specs.Within.{Within}
use Rattle.rows.specs.Sound.{EvenSets, Good, Sound}
use Rattle.rows.proofs.Sound.{room_of}

-- what the parts of the check find
pub record Parts (W : View) : Type 0 where
  pub sizes : Sizes (W.header BITS) W.rows W.size
  pub rows_is : W.header ROWS ≡ W.rows
  pub layout_is : W.header LAYOUT ≡ CURRENT
  pub count-le : W.header USED ≤ W.rows
  pub list : (k : ℕ) → k < W.header USED → Placed W k
  pub rows : (k : ℕ) → k < W.header USED → RowGood W (2 * W.header BITS) (W.list k)
  pub index : (k : ℕ) → k < W.header USED → Finds W (W.list k)

module _ (W : View) where
  abbrev m : ℕ
  m = 2 * W.header BITS

  pub ranked_of : W.header USED ≤ W.rows → ((k : ℕ) → k < W.header USED → Placed W k) → Ranked W
  ranked_of c p = record { count-le = c; within = λ k h. (p k h).0; back = λ k h. (p k h).1 }

  -- what holds along the list holds of each used row
  pub along : (P : ℕ → Type 0) → ((k : ℕ) → k < W.header USED → P (W.list k)) → (i : ℕ) → used W i ≡ true → P i
  along P h i u =
      let q = used_in W.rows (W.header USED) (λ x. W.cell x RANK) W.list i u in subst P q.there (h (W.cell i RANK) q.place)

  pub links_of : Room W → ((k : ℕ) → k < W.header USED → RowGood W m (W.list k)) → Links W
  links_of r h = record { room = r; nexts = λ i u. (along (λ i. RowGood W m i) h i u).next }

  -- what the index is looked at with
  pub ready_of : {n : ℕ} → Sizes (W.header BITS) W.rows W.size → n ≡ W.header USED → n ≤ W.rows
      → ((k : ℕ) → k < n → Placed W k) → ((k : ℕ) → k < n → RowGood W m (W.list k)) → Ready W n
  ready_of z e c p g =
      let r : Room W = room_of W z (omega arith) in
      record {
        count = e;
        ranked = ranked_of (omega arith) (λ k h. p k (omega arith));
        links = links_of r (λ k h. g k (omega arith));
        small = λ k h. small_of r (let b = z.n_max in omega arith) (g k h);
      }

  leads-arrow : (above k : ℕ) → LeadsTo W above k → ArrowTo (rows_of W) k
  leads-arrow above zero l = tt
  leads-arrow above (suc i) l = l.0

  leads_deeper : (above k : ℕ) → above < m → LeadsTo W above k → above < level_to m (rows_of W) k
  leads_deeper above zero h l = h
  leads_deeper above (suc j) h l = l.1

  arrow-leads : (above k : ℕ) → ArrowTo (rows_of W) k → above < level_to m (rows_of W) k → LeadsTo W above k
  arrow-leads above zero u g = tt
  arrow-leads above (suc j) u g = (u, g)

  module _ (p : Parts W) where
    good-row : (i : ℕ) → used W i ≡ true → RowGood W m i
    good-row = along (λ i. RowGood W m i) p.rows

    finds : (i : ℕ) → used W i ≡ true → Finds W i
    finds = along (λ i. Finds W i) p.index

    ok_of : (i : ℕ) → used W i ≡ true → RowOk m (rows_of W) i
    ok_of i u = let g = good-row i u in record {
      shallow = g.level;
      low-arrow = leads-arrow (W.cell i LEVEL) (target (W.cell i LOW)) g.low;
      high-arrow = leads-arrow (W.cell i LEVEL) (target (W.cell i HIGH)) g.high;
      low_deeper = leads_deeper (W.cell i LEVEL) (target (W.cell i LOW)) g.level g.low;
      high_deeper = leads_deeper (W.cell i LEVEL) (target (W.cell i HIGH)) g.level g.high;
      reduced = g.differ;
      plain = g.plain;
    }

    shared_of : (i j : ℕ) → used W i ≡ true → used W j ≡ true → W.cell i LEVEL ≡ W.cell j LEVEL → W.cell i LOW ≡ W.cell j LOW
        → W.cell i HIGH ≡ W.cell j HIGH → i ≡ j
    shared_of i j u v el elo ehi = let a : Finds W i = finds i u in hit_one (rw (el, elo, ehi) at a) (finds j v)

    pub good_of : Good W
    good_of = record {
      sizes = p.sizes;
      rows_is = p.rows_is;
      layout_is = p.layout_is;
      ranked = ranked_of p.count-le p.list;
      rows = record {
        bounded = λ i u. (used_in W.rows (W.header USED) (λ x. W.cell x RANK) W.list i u).row;
        ok = ok_of;
        shared = shared_of;
      };
      index = record { nexts = λ i u. (good-row i u).next; found = finds };
    }

  module _ (g : Good W) where
    row-good : (i : ℕ) → used W i ≡ true → RowGood W m i
    row-good i u = let o : RowOk m (rows_of W) i = g.rows.ok i u in record {
      level = o.shallow;
      differ = o.reduced;
      plain = o.plain;
      low = arrow-leads (W.cell i LEVEL) (target (W.cell i LOW)) o.low-arrow o.low_deeper;
      high = arrow-leads (W.cell i LEVEL) (target (W.cell i HIGH)) o.high-arrow o.high_deeper;
      next = g.index.nexts i u;
    }

    pub of_good : Parts W
    of_good = record {
      sizes = g.sizes;
      rows_is = g.rows_is;
      layout_is = g.layout_is;
      count-le = g.ranked.count-le;
      list = λ k h. (g.ranked.within k h, g.ranked.back k h);
      rows = λ k h. row-good (W.list k) (listed-used W g.ranked k h);
      index = λ k h. g.index.found (W.list k) (listed-used W g.ranked k h);
    }

-- where the other parts hold, the index decides
pub index-tells : {n : ℕ} {r : Bool} (W : View) → Sizes (W.header BITS) W.rows W.size → W.header ROWS ≡ W.rows
    → W.header LAYOUT ≡ CURRENT → n ≡ W.header USED → n ≤ W.rows
    → ((k : ℕ) → k < n → Placed W k) → ((k : ℕ) → k < n → RowGood W (2 * W.header BITS) (W.list k))
    → Says ((k : ℕ) → k < n → Finds W (W.list k)) r → Says (Good W) r
index-tells W z e l q c p g (holds f) = holds (good_of W (record {
  sizes = z;
  rows_is = e;
  layout_is = l;
  count-le = omega arith;
  list = λ k h. p k (omega arith);
  rows = λ k h. g k (omega arith);
  index = λ k h. f k (omega arith);
}))
index-tells W z e l q c p g (fails f) = fails (λ x. f (λ k h. (of_good W x).index k (omega arith)))

-- where the rows are sound and the roots arrows, what lies within V decides
pub within-tells : {k : ℕ} {r : Bool} {W : View} → Good W → ((h : ℕ) → VALID ≤ h → h < ROOTS_END → Ref (rows_of W) (W.header h))
    → k ≡ W.header VALID → k ≢ 0 → EvenSets W
    → Says (Within W (k - 1)) r → Says (Sound W) r
within-tells {W = W} g u e n v (holds w) =
    holds (record { good = g; refs = u; valid = λ z. n (e ∙ z); even = v; within = subst (λ (k : ℕ). Within W (k - 1)) e w })
within-tells {W = W} g u e n v (fails f) = fails (λ s. f (subst (λ (k : ℕ). Within W (k - 1)) (sym e) s.within))

-- the rows of V and of the registers are those that were marked from them
module _ (W : View) (ranked : Ranked W) (wf : WellFormed (2 * W.header BITS) W.rows (rows_of W)) (z z' : List ℕ)
    (none : (i : ℕ) → On z i → ⊥)
    (k : MarksAll (rows_of W) z z' (Held W VALID FIRST_RELATION))
    (refs : (h : ℕ) → VALID ≤ h → h < FIRST_RELATION → Ref (rows_of W) (W.header h)) where
  pub marked-even : EvenMarked W z' → EvenSets W
  marked-even e h a b x q i r =
      let d : Held W VALID FIRST_RELATION x = record { at = h; from = a; below = b; holds = q } in
      let c : Closed (rows_of W) z' = k.closed (record { low = λ j o. absurd (none j o); high = λ j o. absurd (none j o) }) in
      let o : On z' i = closed-reach c (one-root (OnArrow z') (k.has x d)) r in
      let u : used W i ≡ true = reaches_used wf (subst (Ref (rows_of W)) q (refs h a b)) r in
      eq-eqb _ _ (along W (λ j. On z' j → W.cell j LEVEL % 2 ≡ 0) e i u o)

  pub even-marked : EvenSets W → EvenMarked W z'
  even-marked e p l o =
      ⊎_elim (λ n. absurd (none (W.list p) n))
      (λ t. let d = t.1 in eqb-true _ _ (e d.at d.from d.below t.0 d.holds (W.list p) t.2))
      (k.only (W.list p) o)
