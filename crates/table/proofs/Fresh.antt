-- Laws of what specs/Fresh.antt defines. Assumes nothing.
use mathlib.Core.Path.{◌≡◌, refl, ap, sym, ◌∙◌, subst}
use mathlib.Core.Bool.{true}
use mathlib.Core.Logic.{◌≢◌, by_cases}
use mathlib.Core.List.{List}
use Prim.Native.Nat.{ℕ, ◌+◌, ◌≤◌, ◌<◌}
use native.Mathlib.Omega.{arith}
use native.Mathlib.Decide.{ℕ_discrete}
use lib.ListN.{get_or}
use Rattle.layout.specs.Places.{HEADER, BITS, ROWS, USED, LAYOUT, CURRENT, VALID, ROOTS_END, ALL_STATES, RANK}
use Rattle.layout.specs.View.{View, view, header_of, put_header, put_head}
use Rattle.layout.proofs.View.{header_is, header-past, head-past}
use Rattle.layout.specs.Header.{header_words}
use Rattle.layout.proofs.HeaderLaws.{header-bits, header-rows, header_layout, header-valid, header-zero}
use Rattle.layout.proofs.Arrows.{row-no}
use Rattle.rows.specs.Used.{Sizes, used, rows_of}
use Rattle.rows.proofs.Used.{used_in, arrow_constant}
use Rattle.rows.proofs.MarkLaws.{reaches_used}
use Rattle.rows.specs.Roots.{Ref}
use Rattle.rows.specs.Within.{valid_of}
use Rattle.rows.proofs.Within.{within_all}
use Rattle.rows.specs.Sound.{Good, Sound}
use Rattle.table.proofs.Columns.{over, over_none, over-more, over-all}
use Rattle.table.specs.Columns.{set_header, set_heads}
use Rattle.table.specs.Fresh.{emptied}

-- the first k heads are emptied
pub record HeadsBelow (old new : View) (k : ℕ) : Type 0 where
  pub is : new ≡ set_heads old (over k (λ b. 0) old.head)

pub heads-none : (W : View) → HeadsBelow W W 0
heads-none W = record { is = ap (set_heads W) (over_none (λ b. 0) W.head) }

pub heads-more : {W X Y : View} (k : ℕ) → HeadsBelow W X k → Y ≡ put_head X k 0 → HeadsBelow W Y (k + 1)
heads-more {W} k h e = record { is = e ∙ ap (λ (v : View). put_head v k 0) h.is ∙ ap (set_heads W) (over-more (λ b. 0) W.head k) }

pub heads-all : (N : ℕ) (old new : List ℕ) → HeadsBelow (view N old) (view N new) N → view N new ≡ set_heads (view N old) (λ b. 0)
heads-all N old new h = h.is ∙ ap (set_heads (view N old)) (over-all (λ b. 0) (view N old).head N (head-past N old))

-- the first k words of the header are those of a list
pub record HeaderBelow (old new : View) (xs : List ℕ) (k : ℕ) : Type 0 where
  pub is : new ≡ set_header old (over k (header_of xs) old.header)

pub header-none : (W : View) (xs : List ℕ) → HeaderBelow W W xs 0
header-none W xs = record { is = ap (set_header W) (over_none (header_of xs) W.header) }

pub header-more : {W X Y : View} {xs : List ℕ} (k : ℕ) → k < HEADER → HeaderBelow W X xs k → Y ≡ put_header X k (get_or xs k 0)
    → HeaderBelow W Y xs (k + 1)
header-more {W} {xs = xs} k l h e = record {
  is = e ∙ ap (put_header _ k) (sym (header_is xs k l)) ∙ ap (λ (v : View). put_header v k (header_of xs k)) h.is
      ∙ ap (set_header W) (over-more (header_of xs) W.header k);
}

pub header-all : (N : ℕ) (old new xs : List ℕ) → HeaderBelow (view N old) (view N new) xs HEADER
    → view N new ≡ set_header (view N old) (header_of xs)
header-all N old new xs h =
    h.is ∙ ap (set_header (view N old))
    (over-all (header_of xs) (header_of old) HEADER (λ j l. header-past old j l ∙ sym (header-past xs j l)))

-- a table with a fresh header is sound
module _ (W : View) (n : ℕ) (z : Sizes n W.rows W.size) (e : (h : ℕ) → W.header h ≡ header_of (header_words n W.rows) h) where
  pub zero-at : (h : ℕ) → h < HEADER → h ≢ BITS → h ≢ ROWS → h ≢ LAYOUT → h ≢ VALID → W.header h ≡ 0
  zero-at h l a b c d = e h ∙ header_is (header_words n W.rows) h l ∙ header-zero n W.rows h l a b c d

  pub bits_is : W.header BITS ≡ n
  bits_is = e BITS ∙ header_is (header_words n W.rows) BITS (omega arith) ∙ header-bits n W.rows

  pub rows_is : W.header ROWS ≡ W.rows
  rows_is = e ROWS ∙ header_is (header_words n W.rows) ROWS (omega arith) ∙ header-rows n W.rows

  pub layout_is : W.header LAYOUT ≡ CURRENT
  layout_is = e LAYOUT ∙ header_is (header_words n W.rows) LAYOUT (omega arith) ∙ header_layout n W.rows

  -- "after fresh, V is every state"
  pub valid-is : W.header VALID ≡ ALL_STATES
  valid-is = e VALID ∙ header_is (header_words n W.rows) VALID (omega arith) ∙ header-valid n W.rows

  none : W.header USED ≡ 0
  none = zero-at USED (omega arith) (omega arith) (omega arith) (omega arith) (omega arith)

  pub none-used : (i : ℕ) → used W i ≡ true → ⊥
  none-used i u = let q = (used_in W.rows (W.header USED) (λ x. W.cell x RANK) W.list i u).place in let r = none in omega arith

  fresh-good : Good W
  fresh-good = record {
    sizes = rw bits_is z;
    rows_is = rows_is;
    layout_is = layout_is;
    ranked = let r = none in record { count-le = omega arith; within = λ k h. absurd (omega arith); back = λ k h. absurd (omega arith) };
    rows = record { bounded = λ i u. absurd (none-used i u); ok = λ i u. absurd (none-used i u); shared = λ i j u. absurd (none-used i u) };
    index = record { nexts = λ j u. absurd (none-used j u); found = λ i u. absurd (none-used i u) };
  }

  fresh-refs : (h : ℕ) → VALID ≤ h → h < ROOTS_END → Ref (rows_of W) (W.header h)
  fresh-refs h a l = by_cases (ℕ_discrete h VALID)
      (λ q. subst (Ref (rows_of W)) (sym (ap W.header q ∙ valid-is)) (arrow_constant (rows_of W) 1 (row-no 1 (omega arith))))
      (λ n. subst (Ref (rows_of W)) (sym (zero-at h (omega arith) (omega arith) (omega arith) (omega arith) n)) tt)

  pub fresh-sound : Sound W
  fresh-sound = record {
    good = fresh-good;
    refs = fresh-refs;
    valid = λ q. let o = valid-is in absurd (omega arith);
    even = λ h a l b q i r. absurd
        (none-used i (reaches_used fresh-good.rows (subst (Ref (rows_of W)) q (fresh-refs h a (omega arith))) r));
    within = within_all W (valid_of W) (let o = valid-is in omega arith);
  }

-- the steps of `make_empty`: mid has its heads emptied
pub emptied-by : (W : View) (n N : ℕ) {X Y : View} {xs : List ℕ} → X ≡ set_heads W (λ b. 0) → xs ≡ header_words n N
    → Y ≡ set_header X (header_of xs) → Y ≡ emptied W n N
emptied-by W n N {xs = xs} eh ex e =
    e ∙ ap (λ (v : View). set_header v (header_of xs)) eh ∙ ap (λ (ys : List ℕ). set_header (set_heads W (λ b. 0)) (header_of ys)) ex

-- so an empty table is sound, whatever the words were
pub emptied-sound : (W : View) (n : ℕ) → Sizes n W.rows W.size → Sound (emptied W n W.rows)
emptied-sound W n z = fresh-sound (emptied W n W.rows) n z (λ h. refl)
