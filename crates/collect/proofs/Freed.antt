-- Laws of what specs/Freed.antt defines. Assumes nothing.
use mathlib.Core.Path.{◌≡◌, ap, sym, ◌∙◌, subst}
use mathlib.Core.List.{List, [], ◌∷◌, map, Memᴰ as Mem}
use Prim.Native.Nat.{ℕ, zero, suc, ◌*◌, ◌≤◌, ◌<◌}
use native.Mathlib.Omega.{arith}
use Rattle.diagram.specs.Rows.{Arrow, WellFormed, den}
use Rattle.diagram.specs.Need.{need}
use Rattle.diagram.specs.Used.{used_count}
use Rattle.diagram.specs.Reach.{Reach}
use Rattle.diagram.proofs.Reach.{reach-used, one-root}
use Rattle.diagram.specs.Keep.{Keeps}
use Rattle.diagram.proofs.Keep.{keeps_arrow, keeps_map, keeps_within, keeps_reach_back}
use Rattle.diagram.specs.Collect.{Collects}
use Rattle.diagram.proofs.Collect.{collects_keeps, collects_well_formed, collects-count}
use Rattle.diagram.specs.Even.{even}
use Rattle.layout.specs.Places.{BITS, ROWS, USED, LAYOUT, VALID, ROOTS_END, LOW, HIGH, LEVEL}
use Rattle.layout.specs.View.{View}
use Rattle.rows.specs.Used.{used, rows_of}
use Rattle.rows.specs.Bits.{On}
use Rattle.rows.specs.Roots.{Ref, MarksAll}
use Rattle.rows.specs.Sound.{Good, Sound, EvenSets}
use Rattle.rows.specs.Filled.{filled}
use Rattle.rows.proofs.Filled.{root-filled}
use Rattle.rows.proofs.Kept.{valid-kept, within_keeps}
use Rattle.table.proofs.Count.{count-used}
use Rattle.collect.proofs.Lent.{marked-reach, reach-marked}
use Rattle.collect.specs.Gather.{Gathered}
use Rattle.collect.specs.Freed.{Freed}

-- the roots are arrows, with V and all registers and relations among them
module _ (W : View) (s : Sound W) (roots : List ℕ) (arrows : (a : ℕ) → Mem a roots → Arrow (rows_of W) a)
    (all : (a : ℕ) → Mem a (filled W) → Mem a roots)
    (z m : List ℕ) (none : (i : ℕ) → On z i → ⊥) (k : MarksAll (rows_of W) z m (λ a. Mem a roots)) (X : View) (g : Gathered W X m) where
  cell : (j l : ℕ) → l < 3 → X.cell j l ≡ W.cell j l
  cell j l h = g.cells j l (omega arith) (omega arith)

  collects : Collects (rows_of W) (rows_of X) roots
  collects = record {
    kept = record {
      used = λ i u. (g.from i u).0;
      level = λ i u. sym (cell i LEVEL (omega arith));
      low = λ i u. sym (cell i LOW (omega arith));
      high = λ i u. sym (cell i HIGH (omega arith));
    };
    only = λ i u. marked-reach none k i (g.from i u).1;
    all = λ i r. g.has i (reach-used s.good.rows arrows r) (reach-marked none k i r);
  }

  keeps : Keeps (rows_of W) (rows_of X) roots
  keeps = collects_keeps collects

  good : Good X
  good = record {
    sizes = rw (g.header BITS (omega arith), g.rows, g.size) s.good.sizes;
    rows_is = g.header ROWS (omega arith) ∙ s.good.rows_is ∙ sym g.rows;
    layout_is = g.header LAYOUT (omega arith) ∙ s.good.layout_is;
    ranked = g.ranked;
    rows = subst (λ (n : ℕ). WellFormed (2 * X.header BITS) n (rows_of X)) (sym g.rows)
        (subst (λ (b : ℕ). WellFormed (2 * b) W.rows (rows_of X)) (sym (g.header BITS (omega arith)))
        (collects_well_formed s.good.rows collects));
    index = g.index;
  }

  root : (b h : ℕ) → VALID ≤ h → h < ROOTS_END → W.header h ≡ suc b → Mem b roots
  root b h a l e = all b (root-filled W h b a l e)

  ref : (r h : ℕ) → VALID ≤ h → h < ROOTS_END → W.header h ≡ r → Ref (rows_of X) r
  ref zero h a l e = tt
  ref (suc b) h a l e = keeps_arrow keeps b (root b h a l e)

  evens : EvenSets X
  evens h a l b e i r =
      let e' : W.header h ≡ suc b = sym (g.header h (omega arith)) ∙ e in
      let one : Keeps (rows_of W) (rows_of X) (b ∷ []) = keeps_within (one-root (λ c. Mem c roots) (root b h a (omega arith) e')) keeps in
      let t : Reach (rows_of W) (b ∷ []) i = keeps_reach_back one r in
      ap even (one.level i t) ∙ s.even h a l b e' i t

  pub freed : Freed W X roots
  freed = record {
    sound = record {
      good = good;
      refs = λ h a l. ref (X.header h) h a l (sym (g.header h (omega arith)));
      valid = valid-kept W X (λ h a l. g.header h (omega arith)) s.valid;
      even = evens;
      within = within_keeps W X (λ h a l. g.header h (omega arith)) s.valid (g.header BITS (omega arith)) all keeps s.within;
    };
    frame = record {
      rows = g.rows;
      size = g.size;
      header = λ h a b. g.header h a;
      memo = λ j l h. g.cells j l (omega arith) (omega arith);
      slot = g.slot;
      beyond = g.beyond;
    };
    collects = collects;
  }

-- the rows that are used after a collection are as many as the roots need
pub freed-count : (W X : View) (roots : List ℕ) → Sound W → Freed W X roots
    → X.header USED ≡ need (2 * W.header BITS) (map (den (2 * W.header BITS) (rows_of W)) roots)
freed-count W X roots s c =
    let m : ℕ = 2 * W.header BITS in
    count-used X c.sound.good.ranked ∙ ap (used_count (rows_of X)) c.frame.rows ∙ collects-count s.good.rows c.collects
    ∙ ap (need m) (keeps_map (collects_keeps c.collects) m)
