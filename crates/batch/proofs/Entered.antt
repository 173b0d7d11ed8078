-- Laws of what specs/Entered.antt defines. Assumes nothing.
use mathlib.Core.Path.{◌≡◌, refl, sym, ap, ap₂, ◌∙◌, subst}
use mathlib.Core.Logic.{⊎_elim}
use mathlib.Core.Bool.{Bool, true, false, true≢false}
use mathlib.Core.List.Memᴰ.{head as here}
use mathlib.Core.List.Memᴰ.{tail as there}
use mathlib.Core.List.{List, [], ◌∷◌, ◌++◌, map, Memᴰ as Mem}
use mathlib.Core.List.Memᴰ.{cases_cons as mem-cases}
use mathlib.Core.List.Memᴰ.{map as mem-map}
use mathlib.Core.List.Memᴰ.{not-nil as mem-nil}
use mathlib.Core.List.Memᴰ.{of_map as mem-of-map}
use mathlib.Core.List.Memᴰ.{append_cases}
use mathlib.Core.List.Memᴰ.{append_left as mem-left}
use mathlib.Core.List.Memᴰ.{append_right as mem-right}
use Prim.Native.Nat.{ℕ, zero, suc, ◌+◌, ◌/◌, ◌≤◌, ◌<◌}
use native.Mathlib.Omega.{arith}
use lib.ListN.{length-map, length-append}
use Rattle.mucalculus.specs.Means.{bit}
use Rattle.diagram.specs.Rows.{Rows, target, marked, Leads, level_of, child, follow}
use Rattle.diagram.proofs.Rows.{carry-target, leads-level}
use Rattle.diagram.proofs.Count.{nodup_append}
use Rattle.batch.specs.Visits.{Visit, after, visits, visits_all, row_reads}
use Rattle.batch.specs.Counted.{Counted}
use Rattle.batch.proofs.Counted.{counted_same, distinct-counted, start-apart, nodup-after}
use Rattle.batch.specs.Entered.{Visited, Entered}

nothing : {P : Visit → Type 0} → ((v : Visit) → P v → ⊥) → Counted P 0
nothing h = record { list = []; nodup = tt; only = λ v m. absurd (mem-nil m); all = λ v p. absurd (h v p); size = refl }

-- where there is no state, none
pub entered_none : (m : ℕ) (rows : Rows) (S : ℕ → Type 0) (a : ℕ) → ((s : ℕ) → S s → ⊥) → Entered m rows S a 0
entered_none m rows S a h = record { counted = λ f l. nothing (λ v p. h p.state p.among) }

constant_visits : (f : ℕ) (rows : Rows) (s : ℕ) (v : Visit) → Mem v (visits f rows 0 s) → ⊥
unfolding visits
constant_visits zero rows s v m = mem-nil m
constant_visits (suc f) rows s v m = mem-nil m

-- at a constant, none
pub entered_constant : (m : ℕ) (rows : Rows) (S : ℕ → Type 0) (a : ℕ) → target a ≡ 0 → Entered m rows S a 0
entered_constant m rows S a e = record {
  counted = λ f l. nothing (λ v p. constant_visits f rows p.state v
      (subst (λ (k : ℕ). Mem v (visits f rows k p.state)) e p.visit));
}

-- what one state visits from an arrow to row i
visits-row : (f : ℕ) (rows : Rows) (a i s : ℕ) (b : Bool) → Leads a i → bit (rows.level i / 2) s ≡ b
    → visits (suc f) rows (target a) s ≡ (i, []) ∷ map (after b) (visits f rows (target (follow rows a i b)) s)
unfolding visits
visits-row f rows a i s b l e =
    ap (λ (k : ℕ). visits (suc f) rows k s) l
    ∙ ap (λ (c : Bool). (i, []) ∷ map (after c) (visits f rows (target (child rows i c)) s)) e
    ∙ ap (λ (k : ℕ). (i, []) ∷ map (after b) (visits f rows k s)) (sym (carry-target (marked a) (child rows i b)))

-- what is visited after either answer
abbrev joined : List Visit → List Visit → List Visit
joined lows highs = map (after false) lows ++ map (after true) highs

abbrev first : List Bool → Bool
first [] = true
first (x ∷ xs) = x

halves-apart : (lows highs : List Visit) (v : Visit) → Mem v (map (after false) lows) → Mem v (map (after true) highs) → ⊥
halves-apart lows highs v p q =
    let (w, mw, e) = mem-of-map (after false) lows p in
    let (z, mz, g) = mem-of-map (after true) highs q in
    true≢false (ap (λ (t : Visit). first t.1) (g ∙ sym e))

-- S0 are the states of S whose bit is b
pub record Half (S S0 : ℕ → Type 0) (p : ℕ) (b : Bool) : Type 0 where
  pub only : (s : ℕ) → S0 s → S s
  pub bit_is : (s : ℕ) → S0 s → bit p s ≡ b
  pub all : (s : ℕ) → S s → bit p s ≡ b → S0 s

module _ (f : ℕ) (rows : Rows) (a i : ℕ) (S : ℕ → Type 0) (l : Leads a i) where
  -- what the states of a half visit below the row
  down : (b : Bool) {T : ℕ → Type 0} → Half S T (rows.level i / 2) b → (v : Visit) → Visited f rows T (follow rows a i b) v
      → Visited (suc f) rows S a (after b v)
  down b h v p = record {
    state = p.state;
    among = h.only p.state p.among;
    visit = subst (λ (vs : List Visit). Mem (after b v) vs)
        (sym (visits-row f rows a i p.state b l (h.bit_is p.state p.among)))
        (there (mem-map (after b) p.visit));
  }

  -- a visit is that of the row, or one below it
  up : {S0 S1 : ℕ → Type 0} (P : Visit → Type 0) → Half S S0 (rows.level i / 2) false → Half S S1 (rows.level i / 2) true → (v : Visit)
      → P (i, []) → ((w : Visit) → Visited f rows S0 (follow rows a i false) w → P (after false w))
      → ((w : Visit) → Visited f rows S1 (follow rows a i true) w → P (after true w))
      → Visited (suc f) rows S a v → P v
  up P h0 h1 v at lo hi p = go (bit (rows.level i / 2) p.state) refl
    where
      go : (b : Bool) → bit (rows.level i / 2) p.state ≡ b → P v
      go false e = ⊎_elim (λ q. subst P (sym q) at)
          (λ t. let (w, mw, q) = mem-of-map (after false) _ t in subst P q
          (lo w (record { state = p.state; among = h0.all p.state p.among e; visit = mw })))
          (mem-cases (subst (λ (vs : List Visit). Mem v vs) (visits-row f rows a i p.state false l e) p.visit))
      go true e = ⊎_elim (λ q. subst P (sym q) at)
          (λ t. let (w, mw, q) = mem-of-map (after true) _ t in subst P q
          (hi w (record { state = p.state; among = h1.all p.state p.among e; visit = mw })))
          (mem-cases (subst (λ (vs : List Visit). Mem v vs) (visits-row f rows a i p.state true l e) p.visit))

  -- the row, and what either half visits
  counted-row : {S0 S1 : ℕ → Type 0} {x y : ℕ} (s : ℕ) → S s → Half S S0 (rows.level i / 2) false → Half S S1 (rows.level i / 2) true
      → Counted (Visited f rows S0 (follow rows a i false)) x → Counted (Visited f rows S1 (follow rows a i true)) y
      → Counted (Visited (suc f) rows S a) (suc (x + y))
  counted-row {S0} {S1} {x} {y} s some h0 h1 c d = record {
    list = (i, []) ∷ joined c.list d.list;
    nodup = (
      (λ m. ⊎_elim (λ p. start-apart i false c.list p) (λ p. start-apart i true d.list p)
          (append_cases (map (after false) c.list) m)),
      nodup_append (map (after false) c.list) (map (after true) d.list) (nodup-after false c.list c.nodup)
          (nodup-after true d.list d.nodup) (halves-apart c.list d.list),
    );
    only = λ v m. ⊎_elim (λ q. subst (Visited (suc f) rows S a) (sym q) (top (bit (rows.level i / 2) s) refl))
        (λ t. ⊎_elim
        (λ p. let (w, mw, q) = mem-of-map (after false) c.list p in subst (Visited (suc f) rows S a) q (down false h0 w (c.only w mw)))
        (λ p. let (w, mw, q) = mem-of-map (after true) d.list p in subst (Visited (suc f) rows S a) q (down true h1 w (d.only w mw)))
        (append_cases (map (after false) c.list) t))
        (mem-cases m);
    all = λ v p. up (λ z. Mem z ((i, []) ∷ joined c.list d.list)) h0 h1 v (here refl)
        (λ w q. there (mem-left {s = map (after false) c.list} (map (after true) d.list) (mem-map (after false) (c.all w q))))
        (λ w q. there (mem-right (map (after false) c.list) (mem-map (after true) (d.all w q)))) p;
    size = ap suc (length-append (map (after false) c.list) (map (after true) d.list)
        ∙ ap₂ (λ (u v : ℕ). u + v) (length-map c.list (after false) ∙ c.size) (length-map d.list (after true) ∙ d.size));
  }
    where
      top : (b : Bool) → bit (rows.level i / 2) s ≡ b → Visited (suc f) rows S a (i, [])
      top b e =
          let read = subst (λ (vs : List Visit). Mem (i, []) vs) (sym (visits-row f rows a i s b l e)) (here refl) in
          record { state = s; among = some; visit = read }

-- ENTERING A ROW with some state: it is read, and each half goes on
pub entered_row : {m : ℕ} {rows : Rows} {a i x y : ℕ} {S S0 S1 : ℕ → Type 0} (s : ℕ) → Leads a i → rows.level i < m
    → rows.level i < level_of m rows (follow rows a i false) → rows.level i < level_of m rows (follow rows a i true)
    → S s → Half S S0 (rows.level i / 2) false → Half S S1 (rows.level i / 2) true
    → Entered m rows S0 (follow rows a i false) x → Entered m rows S1 (follow rows a i true) y → Entered m rows S a (suc (x + y))
entered_row {m} {rows} {a} {i} {x} {y} {S} {S0} {S1} s l shallow dl dh some h0 h1 c d = record { counted = by_fuel }
  where
    at : level_of m rows a ≡ rows.level i
    at = leads-level m rows a i l

    by_fuel : (f : ℕ) → m ≤ level_of m rows a + f → Counted (Visited f rows S a) (suc (x + y))
    by_fuel zero g = absurd (let e = at in omega arith)
    by_fuel (suc f) g = let e = at in counted-row f rows a i S l s some h0 h1 (c.counted f (omega arith)) (d.counted f (omega arith))

-- ---- all of the listed states: the definition's figure

mem-all : (m : ℕ) (rows : Rows) (a : ℕ) (ss : List ℕ) (v : Visit) → Visited m rows (λ s. Mem s ss) a v → Mem v (visits_all m rows a ss)
unfolding visits_all
mem-all m rows a [] v p = absurd (mem-nil p.among)
mem-all m rows a (s ∷ ss) v p = ⊎_elim
    (λ e. mem-left {s = visits m rows (target a) s} (visits_all m rows a ss)
    (subst (λ (t : ℕ). Mem v (visits m rows (target a) t)) e p.visit))
    (λ t. mem-right (visits m rows (target a) s) (mem-all m rows a ss v (record { state = p.state; among = t; visit = p.visit })))
    (mem-cases p.among)

all-mem : (m : ℕ) (rows : Rows) (a : ℕ) (ss : List ℕ) (v : Visit) → Mem v (visits_all m rows a ss) → Visited m rows (λ s. Mem s ss) a v
unfolding visits_all
all-mem m rows a [] v h = absurd (mem-nil h)
all-mem m rows a (s ∷ ss) v h = ⊎_elim
    (λ p. record { state = s; among = here refl; visit = p })
    (λ q. let z = all-mem m rows a ss v q in record { state = z.state; among = there z.among; visit = z.visit })
    (append_cases (visits m rows (target a) s) h)

-- THE ROWS THAT ARE ENTERED are the definition's
pub entered_reads : {m : ℕ} {rows : Rows} {S : ℕ → Type 0} {a r : ℕ} (ss : List ℕ) → ((s : ℕ) → S s → Mem s ss) → ((s : ℕ) → Mem s ss → S s)
    → Entered m rows S a r → r ≡ row_reads m rows a ss
unfolding row_reads
entered_reads {m} {rows} {S} {a} ss to back e = counted_same
    (λ v p. mem-all m rows a ss v (record { state = p.state; among = to p.state p.among; visit = p.visit }))
    (λ v h. let z = all-mem m rows a ss v h in record { state = z.state; among = back z.state z.among; visit = z.visit })
    (e.counted m (omega arith))
    (distinct-counted (visits_all m rows a ss))
