-- Laws of what specs/Lent.antt defines. Assumes nothing.
use mathlib.Core.Path.{◌≡◌, refl, subst}
use mathlib.Core.Logic.{inl, inr, ⊎_elim}
use mathlib.Core.List.Memᴰ.{head as first}
use mathlib.Core.List.Memᴰ.{tail as later}
use mathlib.Core.List.{List, [], ◌∷◌, ◌++◌, append_assoc, Memᴰ as Mem}
use mathlib.Core.List.Memᴰ.{append_cases}
use mathlib.Core.List.Memᴰ.{eq_of_singleton as mem-only}
use mathlib.Core.List.Memᴰ.{not-nil as mem-nil}
use mathlib.Core.List.Memᴰ.{append_left}
use mathlib.Core.List.Memᴰ.{append_right}
use Prim.Native.Nat.{ℕ, zero, suc, ◌+◌, ◌≤◌, ◌<◌}
use native.Mathlib.Numerals.{add-one}
use native.Mathlib.Omega.{arith}
use lib.ListN.{length, get_or, take}
use lib.Seq.{take-suc, take_all}
use Rattle.diagram.specs.Rows.{Rows}
use Rattle.diagram.specs.Reach.{Reach}
use Rattle.diagram.proofs.Reach.{reached_root, reach-on}
use Rattle.layout.specs.Places.{VALID, ROOTS_END}
use Rattle.layout.specs.View.{View}
use Rattle.rows.specs.Used.{rows_of}
use Rattle.rows.specs.Bits.{On}
use Rattle.rows.specs.Mark.{Marks}
use Rattle.rows.proofs.MarkLaws.{closed-reach}
use Rattle.rows.specs.Roots.{MarksAll, Held}
use Rattle.rows.proofs.Roots.{marks-none, marks-one, marks-more, marks-same}
use Rattle.rows.specs.Filled.{filled}
use Rattle.rows.proofs.Filled.{mem-filled, filled-mem}
use Rattle.collect.specs.Lent.{live}

pub get_or-mem : (xs : List ℕ) (k : ℕ) → k < length xs → Mem (get_or xs k 0) xs
get_or-mem [] k h = absurd (omega arith)
get_or-mem (x ∷ xs) zero h = first refl
get_or-mem (x ∷ xs) (suc k) h = later (get_or-mem xs k (omega arith))

-- the rows that the first k of a list reach are marked
pub record Lent (rows : Rows) (m m' xs : List ℕ) (k : ℕ) : Type 0 where
  pub marks : MarksAll rows m m' (λ a. Mem a (take k xs))

pub lent_none : {rows : Rows} (m xs : List ℕ) → Lent rows m m xs 0
lent_none m xs = record { marks = marks-none m (λ a h. mem-nil h) }

pub lent-more : {rows : Rows} {m₀ m₁ m₂ xs : List ℕ} {k : ℕ} → k < length xs → Lent rows m₀ m₁ xs k → Marks rows m₁ m₂ (get_or xs k 0)
    → Lent rows m₀ m₂ xs (k + 1)
lent-more {rows} {m₀} {m₁} {m₂} {xs} {k} l p q =
    let one : MarksAll rows m₁ m₂ (λ b. b ≡ get_or xs k 0) = marks-one (get_or xs k 0) q refl (λ b x. x) in
    let two : MarksAll rows m₀ m₂ (λ a. Mem a (take k xs ++ get_or xs k 0 ∷ [])) = marks-more p.marks one
    (λ a h. append_left (get_or xs k 0 ∷ []) h)
    (λ a e. append_right (take k xs) (first e))
    (λ a h. ⊎_elim (λ x. inl x) (λ y. inr (mem-only y)) (append_cases (take k xs) h))
    in
    record { marks = rw (add-one k, take-suc xs k 0 l) two }

pub lent-all : {rows : Rows} {m m' : List ℕ} (xs : List ℕ) (k : ℕ) → length xs ≤ k → Lent rows m m' xs k
    → MarksAll rows m m' (λ a. Mem a xs)
lent-all {rows} {m} {m'} xs k l p = subst (λ (ys : List ℕ). MarksAll rows m m' (λ a. Mem a ys)) (take_all k xs l) p.marks

pub live-marks : {W : View} {m₀ m₁ m₂ xs : List ℕ} → MarksAll (rows_of W) m₀ m₁ (Held W VALID ROOTS_END)
    → MarksAll (rows_of W) m₁ m₂ (λ a. Mem a xs)
    → MarksAll (rows_of W) m₀ m₂ (λ a. Mem a (live W xs))
live-marks {W} {xs = xs} p q = marks-more p q
    (λ a x. append_left xs (filled-mem W a x))
    (λ a h. append_right (filled W) h)
    (λ a h. ⊎_elim (λ x. inl (mem-filled W a x)) (λ y. inr y) (append_cases (filled W) h))

-- and from a second list
pub more-marks : (W : View) {m₀ m₁ m₂ : List ℕ} (xs ys : List ℕ) → MarksAll (rows_of W) m₀ m₁ (λ a. Mem a (live W xs))
    → MarksAll (rows_of W) m₁ m₂ (λ a. Mem a ys)
    → MarksAll (rows_of W) m₀ m₂ (λ a. Mem a (live W (xs ++ ys)))
more-marks W xs ys p q =
    rw (← append_assoc (filled W) xs ys)
    (marks-more p q (λ a h. append_left ys h) (λ a h. append_right (live W xs) h) (λ a h. append_cases (live W xs) h))

pub filled-marks : {W : View} {m m' : List ℕ} → MarksAll (rows_of W) m m' (Held W VALID ROOTS_END)
    → MarksAll (rows_of W) m m' (λ a. Mem a (filled W))
filled-marks {W} p = marks-same p (filled-mem W) (mem-filled W)

-- where nothing was marked before, a row is marked exactly where the roots reach it
module _ {rows : Rows} {z m roots : List ℕ} (none : (i : ℕ) → On z i → ⊥) (k : MarksAll rows z m (λ a. Mem a roots)) where
  pub marked-reach : (i : ℕ) → On m i → Reach rows roots i
  marked-reach i o = ⊎_elim (λ p. absurd (none i p)) (λ t. reach-on (reached_root rows roots t.0 t.1) t.2) (k.only i o)

  pub reach-marked : (i : ℕ) → Reach rows roots i → On m i
  reach-marked i r = closed-reach (k.closed (record { low = λ j o. absurd (none j o); high = λ j o. absurd (none j o) })) k.has r
