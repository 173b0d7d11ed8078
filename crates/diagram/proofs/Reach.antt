-- Laws of what specs/Reach.antt defines. Assumes nothing.
use mathlib.Core.Path.{◌≡◌, refl, sym, ap, ◌∙◌, subst}
use mathlib.Core.Logic.{by_cases}
use mathlib.Core.Bool.{Bool, true, false}
use mathlib.Core.List.Memᴰ.{eq_of_singleton as mem-only}
use mathlib.Core.List.Memᴰ.{head as here}
use mathlib.Core.List.{List, [], ◌∷◌, map, Memᴰ as Mem}
use mathlib.Core.List.Memᴰ.{cast as mem_cast}
use mathlib.Core.List.Memᴰ.{map as mem-map}
use mathlib.Core.List.Memᴰ.{of_map as mem-of-map}
use Prim.Native.Nat.{ℕ, zero, suc, ◌+◌, ◌≤◌, ◌<◌}
use native.Mathlib.Decide.{dec_le}
use native.Mathlib.Omega.{arith}
use lib.ListN.{length, length-map}
use Rattle.diagram.specs.Level.{Val, Fn, turn, splice, CofactorOf, PartOf, Varies}
use Rattle.diagram.proofs.Level.{turn-back, splice-below, splice-above, Reads, reads_from, part-cofactor, part_trans, part_turned}
use Rattle.diagram.proofs.Level.{varies-not, splits_low, splits_high}
use Rattle.diagram.specs.Rows.{Rows, marked, target, Leads, row, carry, Arrow, ArrowTo, level_of, level_to, child, follow, den}
use Rattle.diagram.specs.Rows.{WellFormed}
use Rattle.diagram.proofs.Rows.{row-arrow, carry-target, carry_arrow, leads-used, leads-level}
use Rattle.diagram.proofs.Den.{den-carry, den-leads, den_constant, den_reads, row_splits, follow-arrow, follow_deeper, den_chosen}
use Rattle.diagram.proofs.Canon.{canonical, row-varies}
use Rattle.diagram.specs.Count.{NoDup, Within}
use Rattle.diagram.proofs.Count.{nodup-same-length, nodup-map}
use Rattle.diagram.specs.Need.{need}
use Rattle.diagram.proofs.Needed.{class, classes, class_turn, class_eq, need-length, needed_source, mem-needed, nodup-needed}
use Rattle.diagram.specs.Reach.{Reach, root, by-low, by_high}

-- An arrow is reached: it is 0 or 1, or its row is.
abbrev pub ReachedTo : Rows → List ℕ → ℕ → Type 0
ReachedTo rows roots zero = Unit {0}
ReachedTo rows roots (suc i) = Reach rows roots i

abbrev pub Reached : Rows → List ℕ → ℕ → Type 0
Reached rows roots a = ReachedTo rows roots (target a)

-- An arrow of which P holds and that denotes f.
pub record Arrived (m : ℕ) (rows : Rows) (P : ℕ → Type 0) (f : Fn) : Type 0 where
  pub arrow : ℕ
  pub holds : P arrow
  pub is-arrow : Arrow rows arrow
  pub same : (v : Val) → den m rows arrow v ≡ f v

module _ (rows : Rows) (roots : List ℕ) where
  reached_to : (k : ℕ) → ((i : ℕ) → k ≡ suc i → Reach rows roots i) → ReachedTo rows roots k
  reached_to zero r = tt
  reached_to (suc i) r = r i refl

  pub reached_root : (a : ℕ) → Mem a roots → Reached rows roots a
  reached_root a m = reached_to (target a) (λ i e. root m e)

  pub reached_low : {i : ℕ} → Reach rows roots i → (a : ℕ) → rows.low i ≡ a → Reached rows roots a
  reached_low r a e = reached_to (target a) (λ j q. by-low r (ap target e ∙ q))

  pub reached_high : {i : ℕ} → Reach rows roots i → (a : ℕ) → rows.high i ≡ a → Reached rows roots a
  reached_high r a e = reached_to (target a) (λ j q. by_high r (ap target e ∙ q))

  reached_child : {i : ℕ} (b : Bool) → Reach rows roots i → Reached rows roots (child rows i b)
  reached_child false r = reached_low r _ refl
  reached_child true r = reached_high r _ refl

  -- What is followed from a reached arrow is reached.
  pub reached_follow : (a i : ℕ) (b : Bool) → Reached rows roots a → Leads a i → Reached rows roots (follow rows a i b)
  reached_follow a i b r e =
      subst (ReachedTo rows roots) (sym (carry-target (marked a) (child rows i b))) (reached_child b (subst (ReachedTo rows roots) e r))

-- From one root: what holds of it holds of every root.
pub one-root : (P : ℕ → Type 0) {a : ℕ} → P a → (b : ℕ) → Mem b (a ∷ []) → P b
one-root P p b h = subst P (sym (mem-only h)) p

module _ {rows : Rows} {roots : List ℕ} where
  -- What a reached arrow reaches is reached.
  pub reach-on : {a j : ℕ} → Reached rows roots a → Reach rows (a ∷ []) j → Reach rows roots j
  reach-on {a} r (root {a = b} h e) = subst (ReachedTo rows roots) e (one-root (Reached rows roots) r b h)
  reach-on r (by-low t e) = by-low (reach-on r t) e
  reach-on r (by_high t e) = by_high (reach-on r t) e

  -- What is reached is reached from one of the roots.
  pub reach-from : {j : ℕ} → Reach rows roots j → (a : ℕ) × Mem a roots × Reach rows (a ∷ []) j
  reach-from (root {a = a} h e) = (a, h, root (here refl) e)
  reach-from (by-low t e) = let (a, ma, s) = reach-from t in (a, ma, by-low s e)
  reach-from (by_high t e) = let (a, ma, s) = reach-from t in (a, ma, by_high s e)

module _ {m N : ℕ} {rows : Rows} (wf : WellFormed m N rows) where
  -- An arrow denotes a function of the m levels.
  pub den_reads_all : (a : ℕ) → Arrow rows a → Reads 0 m (den m rows a)
  den_reads_all a u = reads_from 0 (omega arith) (den_reads wf m a u)

  -- An arrow leads to a level below m, or is 0 or 1.
  level-le : (k : ℕ) → ArrowTo rows k → level_to m rows k ≤ m
  level-le zero u = omega arith
  level-le (suc i) u = let o = wf.ok i u in omega arith

  -- What a row denotes is a part of what an arrow to it denotes.
  leads-part : (a i : ℕ) → Leads a i → PartOf (den m rows a) (den m rows (row i))
  leads-part a i e =
      part_turned {f = den m rows a} (marked a)
      (λ v. sym (turn-back (marked a) (den m rows (row i) v)) ∙ sym (ap (turn (marked a)) (den-leads m rows a i e v)))

  module _ {roots : List ℕ} (arrows : (a : ℕ) → Mem a roots → Arrow rows a) where
    -- A reached row is used.
    pub reach-used : {i : ℕ} → Reach rows roots i → rows.used i ≡ true
    reach-used (root {a = a} {i = i} h e) = leads-used rows a i e (arrows a h)
    reach-used (by-low {i = i} {j = j} r e) = leads-used rows (rows.low i) j e (wf.ok i (reach-used r)).low-arrow
    reach-used (by_high {i = i} {j = j} r e) = leads-used rows (rows.high i) j e (wf.ok i (reach-used r)).high-arrow

    -- It denotes a part of what some root denotes.
    pub reach-part : {i : ℕ} → Reach rows roots i → (a : ℕ) × Mem a roots × PartOf (den m rows a) (den m rows (row i))
    reach-part (root {a = a} {i = i} h e) = (a, h, leads-part a i e)
    reach-part (by-low {i = i} {j = j} r e) =
        let (a, ma, c) = reach-part r in
        (a, ma, part_trans c (part_trans (part-cofactor (splits_low (row_splits wf i (reach-used r)))) (leads-part (rows.low i) j e)))
    reach-part (by_high {i = i} {j = j} r e) =
        let (a, ma, c) = reach-part r in
        (a, ma, part_trans c (part_trans (part-cofactor (splits_high (row_splits wf i (reach-used r)))) (leads-part (rows.high i) j e)))

  -- Every row that an arrow reaches is of its level or a deeper one; so a row's arrows do not reach it.
  reach-level : (a : ℕ) → Arrow rows a → {i : ℕ} → Reach rows (a ∷ []) i → level_of m rows a ≤ rows.level i
  reach-level a u (root {a = b} {i = i} h e) = let l = leads-level m rows a i (rw (mem-only h) at e) in omega arith
  reach-level a u (by-low {i = i} {j = j} r e) =
      let o = (wf.ok i (reach-used (one-root (Arrow rows) u) r)).low_deeper in
      let h = reach-level a u r in
      let l = leads-level m rows (rows.low i) j e in
      omega arith
  reach-level a u (by_high {i = i} {j = j} r e) =
      let o = (wf.ok i (reach-used (one-root (Arrow rows) u) r)).high_deeper in
      let h = reach-level a u r in
      let l = leads-level m rows (rows.high i) j e in
      omega arith

  pub low-apart : (i : ℕ) → rows.used i ≡ true → Reach rows (rows.low i ∷ []) i → ⊥
  low-apart i u r = let o = wf.ok i u in let h = reach-level (rows.low i) o.low-arrow r in let d = o.low_deeper in omega arith

  pub high-apart : (i : ℕ) → rows.used i ≡ true → Reach rows (rows.high i ∷ []) i → ⊥
  high-apart i u r = let o = wf.ok i u in let h = reach-level (rows.high i) o.high-arrow r in let d = o.high_deeper in omega arith

  -- Every cofactor of what an arrow of P denotes is denoted by one of P, where P goes on from an arrow to those that are followed: the walk
  -- along the fixed bits.
  module _ (P : ℕ → Type 0) (on : (a i : ℕ) (b : Bool) → P a → Leads a i → P (follow rows a i b)) where
    module _ (k : ℕ) (u : Val) where
      abbrev Walked : ℕ → Type 0
      Walked a = Arrived m rows P (λ v. den m rows a (splice k u v))

      -- A row of a level below k is left by the arrow of the fixed bit.
      walk-on : (a i : ℕ) (b : Bool) → Leads a i → u (rows.level i) ≡ b → rows.used i ≡ true → rows.level i < k
          → Walked (follow rows a i b) → Walked a
      walk-on a i b l e w h c = record {
        arrow = c.arrow;
        holds = c.holds;
        is-arrow = c.is-arrow;
        same = λ v. c.same v ∙ sym (den_chosen wf a i l b w (splice k u v) (splice-below k u v (rows.level i) h ∙ e));
      }

      walk_step : (a x : ℕ) → target a ≡ x → P a → Arrow rows a
          → ((c : ℕ) → level_of m rows a < level_of m rows c → P c → Arrow rows c → Walked c) → Walked a
      walk_step a zero e p w below =
          record { arrow = a; holds = p; is-arrow = w; same = λ v. den_constant m rows a e v ∙ sym (den_constant m rows a e _) }
      walk_step a (suc i) e p w below =
          let b = u (rows.level i) in
          let ui = leads-used rows a i e w in
          let l = leads-level m rows a i e in
          by_cases (dec_le k (rows.level i))
          (λ h. record {
            arrow = a;
            holds = p;
            is-arrow = w;
            same = λ v. den_reads wf m a w v _ (λ j q _. sym (splice-above k u v j (omega arith)));
          })
          (λ h. walk-on a i b e refl ui (omega arith)
          (below (follow rows a i b) (rw l (follow_deeper wf a i e b ui)) (on a i b p e) (follow-arrow wf a i e b ui)))

      walk-by : (d a : ℕ) → m ≤ level_of m rows a + d → P a → Arrow rows a → Walked a
      walk-by zero a h p w = walk_step a (target a) refl p w (λ c g p' w'. let q = level-le (target c) w' in absurd (omega arith))
      walk-by (suc d) a h p w = walk_step a (target a) refl p w (λ c g p' w'. walk-by d c (omega arith) p' w')

    pub walk : (a : ℕ) (f : Fn) → P a → Arrow rows a → CofactorOf (den m rows a) f → Arrived m rows P f
    walk a f p w c =
        let t = walk-by c.upto c.fixed m a (omega arith) p w in
        record { arrow = t.arrow; holds = t.holds; is-arrow = t.is-arrow; same = λ v. t.same v ∙ sym (c.same v) }

  -- The class of what row i denotes. Different rows have different classes.
  abbrev pub tab : ℕ → List Bool
  tab i = class m (den m rows (row i))

  pub tab_inj : (i j : ℕ) → rows.used i ≡ true → rows.used j ≡ true → tab i ≡ tab j → i ≡ j
  tab_inj i j u w e =
      let (b, q) = class_eq (den_reads_all (row i) (row-arrow rows i u)) (den_reads_all (row j) (row-arrow rows j w)) e in
      let c = canonical wf (carry b (row i)) (row j) (carry_arrow rows b (row i) (row-arrow rows i u)) (row-arrow rows j w)
      (λ v. den-carry m rows b (row i) v ∙ q v) in
      let t = carry-target b (row i) in
      let s : target (row i) ≡ target (row j) = sym t ∙ ap target c in
      omega arith

  -- An arrow that denotes no constant leads to a row.
  varying_row : {f : Fn} → Varies f → (a x : ℕ) → target a ≡ x → ((v : Val) → den m rows a v ≡ f v) → (i : ℕ) × Leads a i
  varying_row y a zero e s = absurd (varies-not (marked a) y (λ v. sym (s v) ∙ den_constant m rows a e v))
  varying_row y a (suc i) e s = (i, e)

  -- Every non-constant cofactor of what an arrow denotes is of the class of a row that is reached from it.
  pub cofactor-row : (roots : List ℕ) (a : ℕ) (f : Fn) → Mem a roots → Arrow rows a → CofactorOf (den m rows a) f → Varies f
      → (i : ℕ) × Reach rows roots i × (rows.used i ≡ true) × (tab i ≡ class m f)
  cofactor-row roots a f ma w c y =
      let t = walk (Reached rows roots) (reached_follow rows roots) a f (reached_root rows roots a ma) w c in
      let (i, e) = varying_row y t.arrow (target t.arrow) refl t.same in (
        i,
        subst (ReachedTo rows roots) e t.holds,
        leads-used rows t.arrow i e t.is-arrow,
        sym (class_turn m (marked t.arrow) (den m rows (row i)) (λ v. sym (t.same v) ∙ den-leads m rows t.arrow i e v)),
      )

  -- THE COUNT: the rows reachable from the roots are as many as what the roots denote needs.
  module _ (roots : List ℕ) (arrows : (a : ℕ) → Mem a roots → Arrow rows a) (is : List ℕ)
      (only : (i : ℕ) → Mem i is → Reach rows roots i) (all : (i : ℕ) → Reach rows roots i → Mem i is) where
    tabs_needed : Within (map tab is) (classes m (map (den m rows) roots))
    tabs_needed t h =
        let (i, mi, e) = mem-of-map tab is h in
        let (a, ma, c) = reach-part arrows (only i mi) in
        mem_cast (sym e)
        (mem-needed (map (den m rows) roots) (mem-map (den m rows) ma) (den_reads_all a (arrows a ma)) c
        (row-varies wf i (reach-used arrows (only i mi))))

    needed_tabs : Within (classes m (map (den m rows) roots)) (map tab is)
    needed_tabs t h =
        let s = needed_source m (map (den m rows) roots) t h in
        let (a, ma, e) = mem-of-map (den m rows) roots s.listed in
        let (i, r, w, q) = cofactor-row roots a s.part ma (arrows a ma) (subst (λ f. CofactorOf f s.part) (sym e) s.cofactor)
        s.varies in
        mem_cast (sym (q ∙ s.told)) (mem-map tab (all i r))

    pub reach-count : NoDup is → length is ≡ need m (map (den m rows) roots)
    reach-count d =
        let inj : (i j : ℕ) → Mem i is → Mem j is → tab i ≡ tab j
        → i ≡ j = λ i j mi mj e. tab_inj i j (reach-used arrows (only i mi)) (reach-used arrows (only j mj)) e in
        sym (length-map is tab)
        ∙ nodup-same-length (map tab is) (classes m (map (den m rows) roots)) (nodup-map tab is inj d)
        (nodup-needed m (map (den m rows) roots)) tabs_needed needed_tabs
        ∙ need-length m (map (den m rows) roots)
