-- Laws of what specs/Sizes.antt defines. Assumes nothing.
use mathlib.Core.Path.{◌≡◌, refl, sym, ap, ◌∙◌, subst}
use mathlib.Core.Logic.{◌≢◌, inl, by_cases}
use mathlib.Core.List.Memᴰ.{eq_of_singleton as mem-only}
use mathlib.Core.List.Memᴰ.{head as here}
use mathlib.Core.List.{List, [], ◌∷◌, Memᴰ as Mem}
use Prim.Native.Nat.{ℕ, ◌+◌, ◌*◌, ◌/◌, ◌%◌, ◌≤◌}
use native.Mathlib.Decide.{ℕ_discrete}
use native.Mathlib.Omega.{arith}
use lib.ListN.{length, get_or, set, length-set}
use lib.Seq.{get_or-set_same, get_or-set_other}
use Rattle.diagram.specs.Rows.{Rows, target, Arrow, ArrowTo, WellFormed, Extends}
use Rattle.diagram.proofs.Grow.{arrow_extends}
use Rattle.diagram.specs.Reach.{Reach, root, by-low, by_high}
use Rattle.diagram.proofs.Reach.{Reached, reach-on, one-root}
use Rattle.diagram.proofs.Keep.{extends_keeps}
use Rattle.diagram.specs.Sizes.{Outside}
use Rattle.diagram.proofs.Sizes.{outside_keeps}
use Rattle.counting.specs.Sizes.{SIZES, PAIRS, place_of, Remembered, put_size}

-- an arrow to no row reaches none
reach-none : {rows : Rows} {a i : ℕ} → target a ≡ 0 → Reach rows (a ∷ []) i → ⊥
reach-none e (root h l) = let q = ap target (mem-only h) in omega (arith, q, e, l)
reach-none e (by-low r l) = reach-none e r
reach-none e (by_high r l) = reach-none e r

pub outside-none : {rows : Rows} {base : List ℕ} {a k : ℕ} → target a ≡ 0 → Outside rows base a k
outside-none e = record { rest = []; all = λ i r. absurd (reach-none e r); counted = omega arith }

-- an arrow that the base reaches reaches nothing beside it
pub outside-base : {rows : Rows} {base : List ℕ} {a k : ℕ} → Reached rows base a → Outside rows base a k
outside-base b = record { rest = []; all = λ i r. inl (reach-on b r); counted = omega arith }

-- where an arrow leads is all that counts
reach-told : {rows : Rows} {x y i : ℕ} → target x ≡ target y → Reach rows (y ∷ []) i → Reach rows (x ∷ []) i
reach-told e (root h l) = root (here refl) (e ∙ sym (ap target (mem-only h)) ∙ l)
reach-told e (by-low r l) = by-low (reach-told e r) l
reach-told e (by_high r l) = by_high (reach-told e r) l

outside_told : {rows : Rows} {base : List ℕ} {x y k : ℕ} → target x ≡ target y → Outside rows base x k → Outside rows base y k
outside_told e o = record { rest = o.rest; all = λ i r. o.all i (reach-told e r); counted = o.counted }

-- nothing is remembered
pub remembered_none : {rows : Rows} {base c : List ℕ} → ((k : ℕ) → SIZES ≤ k → get_or c k 0 ≡ 0) → Remembered rows base c
remembered_none {rows} {c = c} z = record {
  arrow = λ s l. subst (λ (t : ℕ). Arrow rows (2 * t)) (sym (z (SIZES + 2 * s) (omega arith))) tt;
  right = λ s l. outside-none (let e = z (SIZES + 2 * s) (omega arith) in omega (arith, e));
}

-- rows are only added
pub remembered_extends : {m N : ℕ} {old new : Rows} {base c : List ℕ} → WellFormed m N old → Extends old new
    → ((b : ℕ) → Mem b base → Arrow old b)
    → Remembered old base c → Remembered new base c
remembered_extends {old = old} {c = c} wf e arrows p = record {
  arrow = λ s l. arrow_extends e (2 * get_or c (SIZES + 2 * s) 0) (p.arrow s l);
  right = λ s l. outside_keeps (extends_keeps wf arrows e) (extends_keeps wf (one-root (Arrow old) (p.arrow s l)) e) (p.right s l);
}

-- the pair of an arrow is found
pub remembered_seen : {rows : Rows} {base c : List ℕ} (a : ℕ) → Remembered rows base c → get_or c (place_of a) 0 ≡ a / 2
    → Outside rows base a (get_or c (place_of a + 1) 0)
remembered_seen a p e = outside_told (omega (arith, e)) (p.right (a / 2 % PAIRS) (omega arith))

module _ (c : List ℕ) (a k : ℕ) (l : SIZES + 2 * PAIRS ≤ length c) where
  put_key : get_or (put_size c a k) (place_of a) 0 ≡ a / 2
  put_key =
      get_or-set_other (set c (place_of a) (a / 2)) (place_of a + 1) (place_of a) k 0 (omega arith)
      ∙ get_or-set_same c (place_of a) (a / 2) 0 (omega arith)

  put_size_lem : get_or (put_size c a k) (place_of a + 1) 0 ≡ k
  put_size_lem = get_or-set_same (set c (place_of a) (a / 2)) (place_of a + 1) k 0 (let e = length-set c (place_of a) (a / 2) in omega (arith, e))

  put_other : (j : ℕ) → j ≢ place_of a → j ≢ place_of a + 1 → get_or (put_size c a k) j 0 ≡ get_or c j 0
  put_other j n o = get_or-set_other (set c (place_of a) (a / 2)) (place_of a + 1) j k 0 o ∙ get_or-set_other c (place_of a) j (a / 2) 0 n

  pub remembered_put : {rows : Rows} {base : List ℕ} → Arrow rows a → Outside rows base a k → Remembered rows base c
      → Remembered rows base (put_size c a k)
  remembered_put {rows} {base} u o p = record {
    arrow = λ s h. by_cases (ℕ_discrete s (a / 2 % PAIRS))
        (λ e. rw e (subst (λ (t : ℕ). Arrow rows (2 * t)) (sym put_key) (plain u)))
        (λ n. subst (λ (t : ℕ). Arrow rows (2 * t)) (sym (put_other (SIZES + 2 * s) (omega arith) (omega arith))) (p.arrow s h));
    right = λ s h. by_cases (ℕ_discrete s (a / 2 % PAIRS))
        (λ e. rw e (pair (sym put_key) (sym put_size_lem) (outside_told (omega arith) o)))
        (λ n. pair (sym (put_other (SIZES + 2 * s) (omega arith) (omega arith)))
        (sym (put_other (SIZES + 2 * s + 1) (omega arith) (omega arith))) (p.right s h));
  }
    where
      plain : Arrow rows a → Arrow rows (2 * (a / 2))
      plain v = let e : a / 2 ≡ 2 * (a / 2) / 2 = omega arith in subst (λ (t : ℕ). ArrowTo rows t) e v

      pair : {x y n j : ℕ} → x ≡ y → n ≡ j → Outside rows base (2 * x) n → Outside rows base (2 * y) j
      pair ex en q = rw (← ex, ← en) q
