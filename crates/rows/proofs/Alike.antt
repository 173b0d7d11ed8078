-- What of a table's words soundness does not depend on: remembered results, header words that are neither sizes nor roots, spare words of
-- rows, rows that are not in the list, and heads of buckets that no listed row has. Assumes nothing.
use mathlib.Core.Path.{◌≡◌, ap, sym, ◌∙◌, subst}
use mathlib.Core.Bool.{true}
use mathlib.Core.List.{List, [], ◌∷◌}
use Prim.Native.Nat.{ℕ, zero, suc, ◌*◌, ◌≤◌, ◌<◌}
use native.Mathlib.Omega.{arith}
use lib.ListN.{get_or}
use Rattle.diagram.specs.Rows.{Arrow, WellFormed, Same}
use Rattle.diagram.proofs.Grow.{arrow_extends, same_well_formed}
use Rattle.diagram.specs.Reach.{Reach}
use Rattle.diagram.proofs.Reach.{one-root}
use Rattle.diagram.specs.Keep.{Keeps}
use Rattle.diagram.proofs.Keep.{extends_keeps, keeps_reach_back}
use Rattle.diagram.specs.Even.{even}
use Rattle.layout.specs.Places.{BITS, ROWS, USED, LAYOUT, CURRENT, VALID, ROOTS_END, LOW, HIGH, LEVEL, NEXT, RANK}
use Rattle.layout.specs.View.{View}
use Rattle.layout.proofs.View.{header_is}
use Rattle.rows.specs.Used.{used, rows_of}
use Rattle.rows.proofs.Used.{used-yes, used_in, InList}
use Rattle.rows.specs.Index.{key_of, live, Hit, Down, Index}
use Rattle.rows.proofs.Index.{live_link}
use Rattle.rows.proofs.Framed.{hit_frame, live_more}
use Rattle.rows.specs.Roots.{Ref}
use Rattle.rows.specs.Sound.{Good, Sound, table_of}
use Rattle.rows.proofs.Kept.{valid-kept, within_extends}

-- the two agree in sizes, layout and roots, in the list of used rows, and in the listed rows' level, arrows, link, rank and bucket
pub record Alike (W X : View) : Type 0 where
  pub rows : X.rows ≡ W.rows
  pub size : X.size ≡ W.size
  pub bits : X.header BITS ≡ W.header BITS
  pub count : X.header ROWS ≡ W.header ROWS
  pub used : X.header USED ≡ W.header USED
  pub layout : X.header LAYOUT ≡ W.header LAYOUT
  pub roots : (h : ℕ) → VALID ≤ h → h < ROOTS_END → X.header h ≡ W.header h
  pub list : (k : ℕ) → k < W.header USED → X.list k ≡ W.list k
  pub cell : (k : ℕ) → k < W.header USED → (l : ℕ) → l ≤ RANK → X.cell (W.list k) l ≡ W.cell (W.list k) l
  pub head : (k : ℕ) → k < W.header USED → X.head (key_of W (W.list k)) ≡ W.head (key_of W (W.list k))

module _ {W X : View} (e : Alike W X) where
  place : (Y : View) (i : ℕ) → used Y i ≡ true → InList Y.rows (Y.header USED) (λ x. Y.cell x RANK) Y.list i
  place Y i u = used_in Y.rows (Y.header USED) (λ x. Y.cell x RANK) Y.list i u

  -- a used row's words
  cell-is : (i : ℕ) → used W i ≡ true → (l : ℕ) → l ≤ RANK → X.cell i l ≡ W.cell i l
  cell-is i u l h = let p = place W i u in subst (λ (j : ℕ). X.cell j l ≡ W.cell j l) p.there (e.cell (W.cell i RANK) p.place l h)

  forth : (i : ℕ) → used W i ≡ true → used X i ≡ true
  forth i u =
      let p = place W i u in
      let r : X.cell i RANK ≡ W.cell i RANK = cell-is i u RANK (omega arith) in
      used-yes _ _ _ _ _ (record {
        row = rw e.rows p.row;
        place = rw (r, e.used) p.place;
        there = rw r (e.list (W.cell i RANK) p.place ∙ p.there);
      })

  -- a row that is used in X is listed, and so used in W
  back : (i : ℕ) → used X i ≡ true → used W i ≡ true
  back i u =
      let p = place X i u in
      let k : ℕ = X.cell i RANK in
      let l : k < W.header USED = rw e.used at p.place in
      let t : W.list k ≡ i = sym (e.list k l) ∙ p.there in
      let r : W.cell i RANK ≡ k = sym (subst (λ (j : ℕ). X.cell j RANK ≡ W.cell j RANK) t (e.cell k l RANK (omega arith))) in
      used-yes _ _ _ _ _ (record { row = rw e.rows at p.row; place = rw r l; there = rw r t })

  same : Same (rows_of W) (rows_of X)
  same = record {
    forth =
        record {
          used = forth;
          level = λ i u. cell-is i u LEVEL (omega arith);
          low = λ i u. cell-is i u LOW (omega arith);
          high = λ i u. cell-is i u HIGH (omega arith);
        };
    back = record {
      used = back;
      level = λ i u. sym (cell-is i (back i u) LEVEL (omega arith));
      low = λ i u. sym (cell-is i (back i u) LOW (omega arith));
      high = λ i u. sym (cell-is i (back i u) HIGH (omega arith));
    };
  }

  down : (k p : ℕ) → Down W k p → Down X k p
  down k zero d = tt
  down k (suc j) d = (forth j d.0, rw (cell-is j d.0 RANK (omega arith)) d.1)

  key : (i : ℕ) → used W i ≡ true → key_of X i ≡ key_of W i
  key i u = rw (e.rows, cell-is i u LEVEL (omega arith), cell-is i u LOW (omega arith), cell-is i u HIGH (omega arith))

  head-is : (i : ℕ) → used W i ≡ true → X.head (key_of W i) ≡ W.head (key_of W i)
  head-is i u =
      let p = place W i u in subst (λ (j : ℕ). X.head (key_of W j) ≡ W.head (key_of W j)) p.there (e.head (W.cell i RANK) p.place)

  index : Index W → Index X
  index x = record {
    nexts =
        λ i u. let w = back i u in
        rw (cell-is i w RANK (omega arith), cell-is i w NEXT (omega arith)) (down (W.cell i RANK) (W.cell i NEXT) (x.nexts i w));
    found = λ i u.
        let w = back i u in
        let f = x.found i w in
        let r : Hit X (W.cell i LEVEL) (W.cell i LOW) (W.cell i HIGH) (live (used W) (W.head (key_of W i))) i =
        hit_frame W X x.nexts (λ j v. cell-is j v LEVEL (omega arith)) (λ j v. cell-is j v LOW (omega arith))
        (λ j v. cell-is j v HIGH (omega arith))
        (λ j v. cell-is j v NEXT (omega arith)) f (live_link (used W) (W.head (key_of W i))) in
        let m = live_more (used W) (used X) forth (W.head (key_of W i)) f in
        let h : X.head (key_of X i) ≡ W.head (key_of W i) = ap X.head (key i w) ∙ head-is i w in
        rw (h, m, cell-is i w LEVEL (omega arith), cell-is i w LOW (omega arith), cell-is i w HIGH (omega arith)) r;
  }

  -- such words leave a good table good
  pub alike_good : Good W → Good X
  alike_good g = record {
    sizes = rw (e.bits, e.rows, e.size) g.sizes;
    rows_is = e.count ∙ g.rows_is ∙ sym e.rows;
    layout_is = e.layout ∙ g.layout_is;
    ranked = record {
      count-le = rw (e.used, e.rows) g.ranked.count-le;
      within = λ k h. let l = rw e.used at h in rw (e.list k l, e.rows) (g.ranked.within k l);
      back = λ k h. let l = rw e.used at h in rw (e.list k l) (e.cell k l RANK (omega arith) ∙ g.ranked.back k l);
    };
    rows = subst (λ (n : ℕ). WellFormed (2 * X.header BITS) n (rows_of X)) (sym e.rows)
        (subst (λ (b : ℕ). WellFormed (2 * b) W.rows (rows_of X)) (sym e.bits) (same_well_formed same g.rows));
    index = index g.index;
  }

  ref : (r : ℕ) → Ref (rows_of W) r → Ref (rows_of X) r
  ref zero u = tt
  ref (suc a) u = arrow_extends same.forth a u

  -- and a sound one sound
  pub alike_sound : Sound W → Sound X
  alike_sound s = record {
    good = alike_good s.good;
    refs = λ h a l. rw (e.roots h a l) (ref (W.header h) (s.refs h a l));
    even = λ h a l b q i r.
        let q' : W.header h ≡ suc b = sym (e.roots h a (omega arith)) ∙ q in
        let u : Arrow (rows_of W) b = subst (Ref (rows_of W)) q' (s.refs h a (omega arith)) in
        let k : Keeps (rows_of W) (rows_of X) (b ∷ []) = extends_keeps s.good.rows (one-root (Arrow (rows_of W)) u) same.forth in
        let t : Reach (rows_of W) (b ∷ []) i = keeps_reach_back k r in
        ap even (k.level i t) ∙ s.even h a l b q' i t;
    valid = valid-kept W X e.roots s.valid;
    within = within_extends W X e.roots s.valid e.bits s.good.rows s.refs same.forth s.within;
  }

-- "All zero words are unsound."
pub zeros-unsound : (ws : List ℕ) → ((k : ℕ) → get_or ws k 0 ≡ 0) → Sound (table_of ws) → ⊥
zeros-unsound ws z s = let e = header_is ws BITS (omega arith) ∙ z BITS in let p = s.good.sizes.n_pos in omega arith

-- "Old lent words are refused by 2": the words of the first layout have 0 for it, as nothing wrote that word, and those without V have 2.
pub old_unsound : (ws : List ℕ) → get_or ws LAYOUT 0 < CURRENT → Sound (table_of ws) → ⊥
old_unsound ws z s = let e = header_is ws LAYOUT (omega arith) in let p = s.good.layout_is in omega (arith, e, p, z)
