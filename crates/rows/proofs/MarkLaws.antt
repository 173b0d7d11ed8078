-- Laws of what specs/Mark.antt defines. Assumes nothing.
use mathlib.Core.Path.{◌≡◌, refl, ap, sym, ◌∙◌, subst}
use mathlib.Core.Logic.{◌⊎◌, inl, inr, ⊎_elim, by_cases}
use mathlib.Core.List.Memᴰ.{head as here}
use mathlib.Core.List.{List, [], ◌∷◌, Memᴰ as Mem}
use mathlib.Core.Bool.{true, false}
use Prim.Native.Nat.{ℕ, zero, suc, ◌+◌, ◌*◌, ◌<◌}
use native.Mathlib.Omega.{arith}
use native.Mathlib.Decide.{ℕ_discrete}
use Rattle.layout.specs.Places.{BITS, LOW, HIGH}
use Rattle.diagram.specs.Rows.{Rows, target, Leads, Arrow, RowOk, WellFormed}
use Rattle.diagram.proofs.Rows.{leads-used, leads-level}
use Rattle.diagram.specs.Reach.{Reach, root, by-low, by_high}
use Rattle.diagram.proofs.Reach.{reached_low, reached_high, reach-on, reach-used, one-root}
use Rattle.layout.specs.View.{View}
use Rattle.layout.specs.Arrows.{is_row, row_of}
use Rattle.layout.proofs.Arrows.{row_is, no_row-leads}
use Rattle.rows.specs.Used.{rows_of}
use Rattle.rows.specs.Bits.{On, Sets}
use Rattle.rows.specs.Mark.{OnTo, OnArrow, Closed, Marks, MarkPre, depth}

-- what marking asks of a row's two arrows, which lie nearer to the last level
pub record Step (w : View) (size a i : ℕ) : Type 0 where
  pub row : i < w.rows
  pub low : MarkPre w size (w.cell i LOW)
  pub high : MarkPre w size (w.cell i HIGH)
  pub low-less : depth w (w.cell i LOW) < depth w a
  pub high-less : depth w (w.cell i HIGH) < depth w a

pub step : {w : View} {size i : ℕ} (a : ℕ) → MarkPre w size a → is_row a ≡ true → i ≡ row_of a → Step w size a i
step {w} {size} a p h e =
    let j : ℕ = row_of a in
    let u : (rows_of w).used j ≡ true = leads-used (rows_of w) a j (row_is a h) p.arrow in
    let o : RowOk (2 * w.header BITS) (rows_of w) j = p.base.rows.ok j u in
    let l = leads-level (2 * w.header BITS) (rows_of w) a j (row_is a h) in
    let s : Step w size a j = record {
      row = p.base.rows.bounded j u;
      low = record { base = p.base; arrow = o.low-arrow };
      high = record { base = p.base; arrow = o.high-arrow };
      low-less = let x = o.shallow in let y = o.low_deeper in omega arith;
      high-less = let x = o.shallow in let y = o.high_deeper in omega arith;
    } in
    rw e s

-- a call for one of them, with r for the arrow and s for the size: the measures are 2 d for the work on a row and 2 d + 1 for any arrow
pub called : {w : View} {size x d t r s : ℕ} → MarkPre w size x → depth w x < d → 2 * d ≡ t → r ≡ x → s ≡ size
    → (2 * depth w r + 1 < t) × MarkPre w s r
called {w} {x = x} {d = d} p l e q z = let h : 2 * depth w x + 1 < 2 * d = double (depth w x) d l in rw (q, z) (rw (← e) h, p)
  where
    double : (a b : ℕ) → a < b → 2 * a + 1 < 2 * b
    double a b k = omega arith

on_to_le : (m m' : List ℕ) → ((i : ℕ) → On m i → On m' i) → (k : ℕ) → OnTo m k → OnTo m' k
on_to_le m m' f zero o = tt
on_to_le m m' f (suc i) o = f i o

pub on_arrow_le : (m m' : List ℕ) → ((i : ℕ) → On m i → On m' i) → (a : ℕ) → OnArrow m a → OnArrow m' a
on_arrow_le m m' f a o = on_to_le m m' f (target a) o

-- arrows 0 and 1 mark nothing
pub marks_constant : (rows : Rows) (m : List ℕ) (a : ℕ) → is_row a ≡ false → Marks rows m m a
marks_constant rows m a h =
    record { kept = λ i o. o; has = subst (OnTo m) (sym (no_row-leads a h)) tt; only = λ i o. inl o; closed = λ c. c }

-- a row that is marked marks nothing
pub marks_again : {i : ℕ} (rows : Rows) (m : List ℕ) (a : ℕ) → is_row a ≡ true → i ≡ row_of a → On m i → Marks rows m m a
marks_again rows m a h e o =
    record { kept = λ j p. p; has = subst (OnTo m) (sym (row_is a h)) (rw e at o); only = λ j p. inl p; closed = λ c. c }

-- a row is marked after its two arrows
module _ (rows : Rows) (m₀ m₁ m₂ m₃ : List ℕ) (a i : ℕ) (leads : Leads a i) (new : Sets m₂ m₃ i)
    (lo : Marks rows m₀ m₁ (rows.low i)) (hi : Marks rows m₁ m₂ (rows.high i)) where
  on-set : (j : ℕ) → On m₂ j → On m₃ j
  on-set j o = by_cases (ℕ_discrete j i) (λ e. subst (On m₃) (sym e) new.has) (λ n. new.other j n ∙ o)

  set_on : (j : ℕ) → On m₃ j → (j ≡ i) ⊎ On m₂ j
  set_on j o = by_cases (ℕ_discrete j i) (λ e. inl e) (λ n. inr (sym (new.other j n) ∙ o))

  top : Reach rows (a ∷ []) i
  top = root (here refl) leads

  only_row : (j : ℕ) → (j ≡ i) ⊎ On m₂ j → On m₀ j ⊎ Reach rows (a ∷ []) j
  only_row j (inl e) = inr (rw e top)
  only_row j (inr o) =
      ⊎_elim (λ p. ⊎_elim (λ q. inl q) (λ r. inr (reach-on (reached_low rows (a ∷ []) top (rows.low i) refl) r)) (lo.only j p))
      (λ r. inr (reach-on (reached_high rows (a ∷ []) top (rows.high i) refl) r)) (hi.only j o)

  closed-row : Closed rows m₀ → Closed rows m₃
  closed-row c =
      let c₂ : Closed rows m₂ = hi.closed (lo.closed c) in
      let l : OnArrow m₂ (rows.low i) = on_arrow_le m₁ m₂ hi.kept (rows.low i) lo.has in
      record {
        low = λ j o. on_arrow_le m₂ _ on-set (rows.low j) (⊎_elim (λ e. rw e l) (λ p. c₂.low j p) (set_on j o));
        high = λ j o. on_arrow_le m₂ _ on-set (rows.high j) (⊎_elim (λ e. rw e hi.has) (λ p. c₂.high j p) (set_on j o));
      }

  marks-row_of : Marks rows m₀ m₃ a
  marks-row_of = record {
    kept = λ j o. on-set j (hi.kept j (lo.kept j o));
    has = subst (OnTo m₃) (sym leads) new.has;
    only = λ j o. only_row j (set_on j o);
    closed = closed-row;
  }

pub marks-row : {rows : Rows} {m₀ m₁ m₂ m₃ : List ℕ} {x y i : ℕ} (a : ℕ) → is_row a ≡ true → i ≡ row_of a → Sets m₂ m₃ i
    → Marks rows m₀ m₁ x → x ≡ rows.low i → Marks rows m₁ m₂ y → y ≡ rows.high i → Marks rows m₀ m₃ a
marks-row {rows} {m₀} {m₁} {m₂} {m₃} {i = i} a h e s lo el hi eh =
    marks-row_of rows m₀ m₁ m₂ m₃ a i (row_is a h ∙ ap suc (sym e)) s (rw el at lo) (rw eh at hi)

-- what a closed set of marked rows reaches is marked
pub closed-reach : {rows : Rows} {m : List ℕ} {roots : List ℕ} → Closed rows m → ((a : ℕ) → Mem a roots → OnArrow m a) → {j : ℕ}
    → Reach rows roots j → On m j
closed-reach {m = m} c o (root {a = a} h e) = subst (OnTo m) e (o a h)
closed-reach {m = m} c o (by-low {i = i} r e) = subst (OnTo m) e (c.low i (closed-reach c o r))
closed-reach {m = m} c o (by_high {i = i} r e) = subst (OnTo m) e (c.high i (closed-reach c o r))

-- a well-formed table's arrow reaches used rows only
pub reaches_used : {m N : ℕ} {rows : Rows} → WellFormed m N rows → {a j : ℕ} → Arrow rows a → Reach rows (a ∷ []) j → rows.used j ≡ true
reaches_used {rows = rows} wf u r = reach-used wf (one-root (Arrow rows) u) r
