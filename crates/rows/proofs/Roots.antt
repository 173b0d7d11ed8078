-- Laws of what specs/Roots.antt defines. Assumes nothing.
use mathlib.Core.Path.{◌≡◌, refl, ap, sym, ◌∙◌, subst}
use mathlib.Core.Logic.{◌⊎◌, inl, inr, ⊎_elim, by_cases, ◌≢◌}
use mathlib.Core.List.{List}
use Prim.Native.Nat.{ℕ, zero, suc, ◌+◌, ◌-◌, ◌≤◌}
use native.Mathlib.Omega.{arith}
use native.Mathlib.Decide.{dec_lt}
use Rattle.diagram.specs.Rows.{Rows, Arrow}
use Rattle.layout.specs.View.{View}
use Rattle.rows.specs.Mark.{OnArrow, Marks}
use Rattle.rows.proofs.MarkLaws.{on_arrow_le}
use Rattle.rows.specs.Roots.{MarksAll, Ref, Held}

pub ref-empty : (rows : Rows) (r : ℕ) → r ≡ 0 → Ref rows r
ref-empty rows zero h = tt
ref-empty rows (suc a) h = absurd (omega arith)

pub ref-arrow : (rows : Rows) (r : ℕ) → r ≢ 0 → Ref rows r → Arrow rows (r - 1)
ref-arrow rows zero h u = absurd (h refl)
ref-arrow rows (suc a) h u = let e : suc a - 1 ≡ a = omega arith in rw e u

pub arrow-ref : (rows : Rows) (r : ℕ) → r ≢ 0 → Arrow rows (r - 1) → Ref rows r
arrow-ref rows zero h u = tt
arrow-ref rows (suc a) h u = let e : suc a - 1 ≡ a = omega arith in rw e at u

pub marks-none : {rows : Rows} {root : ℕ → Type 0} (m : List ℕ) → ((a : ℕ) → root a → ⊥) → MarksAll rows m m root
marks-none m f = record { kept = λ i o. o; has = λ a r. absurd (f a r); only = λ i o. inl o; closed = λ c. c }

pub marks-one : {rows : Rows} {m m' : List ℕ} {root : ℕ → Type 0} (a : ℕ) → Marks rows m m' a → root a → ((b : ℕ) → root b → b ≡ a)
    → MarksAll rows m m' root
marks-one {m' = m'} a k r f = record {
  kept = k.kept;
  has = λ b q. subst (λ (x : ℕ). OnArrow m' x) (sym (f b q)) k.has;
  only = λ i o. ⊎_elim (λ p. inl p) (λ q. inr (a, r, q)) (k.only i o);
  closed = k.closed;
}

-- marking from the same roots, told otherwise
pub marks-same : {rows : Rows} {m m' : List ℕ} {r q : ℕ → Type 0} → MarksAll rows m m' r → ((a : ℕ) → r a → q a) → ((a : ℕ) → q a → r a)
    → MarksAll rows m m' q
marks-same k f g = record {
  kept = k.kept;
  has = λ a x. k.has a (g a x);
  only = λ i o. ⊎_elim (λ p. inl p) (λ t. inr (t.0, f t.0 t.1, t.2)) (k.only i o);
  closed = k.closed;
}

-- marking from some roots and then from others
pub marks-more : {rows : Rows} {m₀ m₁ m₂ : List ℕ} {r₁ r₂ r : ℕ → Type 0} → MarksAll rows m₀ m₁ r₁ → MarksAll rows m₁ m₂ r₂
    → ((a : ℕ) → r₁ a → r a) → ((a : ℕ) → r₂ a → r a) → ((a : ℕ) → r a → r₁ a ⊎ r₂ a) → MarksAll rows m₀ m₂ r
marks-more {m₁ = m₁} {m₂} p q f g h = record {
  kept = λ i o. q.kept i (p.kept i o);
  has = λ a r. ⊎_elim (λ x. on_arrow_le m₁ m₂ q.kept a (p.has a x)) (λ y. q.has a y) (h a r);
  only = λ i o. ⊎_elim (λ o₁. ⊎_elim (λ o₀. inl o₀) (λ x. inr (x.0, f x.0 x.1, x.2)) (p.only i o₁))
      (λ y. inr (y.0, g y.0 y.1, y.2)) (q.only i o);
  closed = λ c. q.closed (p.closed c);
}

-- one word of the header more
module _ {w : View} {rows : Rows} {m₀ m₁ m₂ : List ℕ} {start k r : ℕ} (lo : start ≤ k) (e : r ≡ w.header k) where
  pub held_more : MarksAll rows m₀ m₁ (Held w start k) → MarksAll rows m₁ m₂ (λ a. r ≡ suc a) → MarksAll rows m₀ m₂ (Held w start (k + 1))
  held_more p q = marks-more p q
      (λ a x. record { at = x.at; from = x.from; below = let l = x.below in omega arith; holds = x.holds })
      (λ a x. record { at = k; from = lo; below = omega arith; holds = sym e ∙ x })
      (λ a x. by_cases (dec_lt x.at k)
      (λ l. inl (record { at = x.at; from = x.from; below = l; holds = x.holds }))
      (λ n. let z : x.at ≡ k = let l = x.below in omega arith in inr (e ∙ sym (ap w.header z) ∙ x.holds)))
