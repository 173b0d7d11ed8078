-- Laws of what specs/Tables.antt defines. Assumes nothing.
use mathlib.Core.Path.{◌≡◌, refl, sym, ap, ◌∙◌, subst}
use mathlib.Core.Logic.{◌≢◌, ◌⊎◌, ⊎_elim, by_cases}
use mathlib.Core.Bool.{Bool, true, false, ◌&&◌, true≢false}
use mathlib.Core.List.{List}
use Prim.Native.Nat.{ℕ, suc, ◌+◌, ◌-◌, ◌*◌, ◌/◌, ◌%◌, ◌^◌, ◌<◌}
use native.Mathlib.Nat.{zero-div}
use native.Mathlib.Omega.{arith}
use native.Mathlib.Decide.{ℕ_discrete}
use lib.Bits.{bit_and}
use lib.Dec.{eqb}
use lib.ListN.{length, get_or, set, replicate}
use lib.Seq.{get_or-set_same, get_or-set_other}
use Rattle.diagram.specs.Rows.{Rows, row, marked, target, flip, carry, Arrow, level_of}
use Rattle.diagram.proofs.Rows.{row-leads, row_plain, marked-odd, marked-even, leads-used, leads-level}
use Rattle.layout.specs.Places.{BITS, USED, LOW, HIGH, LEVEL, RANK}
use Rattle.layout.specs.View.{View}
use Rattle.layout.specs.Arrows.{is_row, row_of}
use Rattle.layout.proofs.Arrows.{row_is, row-yes}
use Rattle.rows.specs.Used.{rows_of}
use Rattle.rows.proofs.Used.{used_in}
use Rattle.rows.proofs.Bits.{zeros}
use Rattle.rows.specs.Sound.{Good}
use Rattle.soundness.specs.Apart.{Half}
use Rattle.soundness.proofs.ApartLaws.{half-here}
use Rattle.soundness.specs.Masks.{has, swapped}
use Rattle.soundness.proofs.Masks.{has-and, has-low, some-bit}
use Rattle.soundness.specs.Cells.{Classed, Shown, Tabled, Disjoint, joined}
use Rattle.soundness.proofs.CellsLaws.{tabled-join, tabled-flip, and-true}
use Rattle.soundness.specs.Tables.{carried_cells, Known, Sets, SetPre, SetsPre, SetsPost, TablePre, TablePost, RowPre}

pub row_fits : {W : View} {i : ℕ} → Good W → (rows_of W).used i ≡ true → (i < W.rows) × (W.cell i LEVEL < 32)
row_fits {W} {i} g u = let o = (g.rows.ok i u).shallow in let n = g.sizes.n_max in (g.rows.bounded i u, omega arith)

-- the halves of a row's own arrow
row-half : {W : View} {t i : ℕ} → Good W → (rows_of W).used i ≡ true
    → Half (2 * W.header BITS) (rows_of W) t (W.cell i LEVEL + t) (row i) (W.cell i LOW) (W.cell i HIGH)
row-half {W} {t} {i} g u =
    subst (λ (b : Bool). Half (2 * W.header BITS) (rows_of W) t (W.cell i LEVEL + t) (row i) (carry b (W.cell i LOW))
    (carry b (W.cell i HIGH))) (row_plain i)
    (half-here g.rows t (W.cell i LEVEL + t) (row i) i (row-leads i) u refl)

pub row-tabled : {W : View} {base s t i w0 w1 l k r : ℕ} → RowPre W base s t i w0 w1 → l ≡ W.cell i LEVEL → Classed base s (l + t) k
    → r ≡ joined k w0 w1
    → Tabled (2 * W.header BITS) (rows_of W) base s t (row i) r
row-tabled {W} {base} {s} {t} {i} {w0} {w1} {l} {k} p e c f =
    subst (Tabled (2 * W.header BITS) (rows_of W) base s t (row i)) (sym f)
    (tabled-join (row-half p.good p.used) (subst (λ (x : ℕ). Classed base s (x + t) k) e c) p.low p.high)

-- the row that an arrow leads to
pub record RowOf (W : View) (a i : ℕ) : Type 0 where
  pub used : (rows_of W).used i ≡ true
  pub below : i < W.rows
  pub place : W.cell i RANK < W.header USED
  pub leads : target a ≡ suc i

pub row_led : {W : View} {i : ℕ} (a : ℕ) → Good W → Arrow (rows_of W) a → is_row a ≡ true → i ≡ row_of a → RowOf W a i
row_led {W} {i} a g u t e =
    let l : target a ≡ suc i = row_is a t ∙ ap suc (sym e) in
    let o = leads-used (rows_of W) a i l u in
    let b = g.rows.bounded i o in
    record { used = o; below = b; place = (used_in _ _ _ _ i o).place; leads = l }

-- an arrow's table is its row's, carried
pub carried-tabled : {m base s t i w r : ℕ} {rows : Rows} (a : ℕ) → target a ≡ suc i → Tabled m rows base s t (row i) w
    → r ≡ carried_cells (marked a) w → Tabled m rows base s t a r
carried-tabled {m} {base} {s} {t} {i} {w} {r} {rows} a l p e = subst (Tabled m rows base s t a) (sym e) (go (marked a) refl)
  where
    go : (b : Bool) → marked a ≡ b → Tabled m rows base s t a (carried_cells b w)
    go false f = subst (λ (x : ℕ). Tabled m rows base s t x w) (let q = marked-even a f in let z : row i ≡ a = omega arith in z) p
    go true f =
        subst (λ (x : ℕ). Tabled m rows base s t x (swapped w))
        (let q = marked-odd a f in let z : flip (row i) ≡ a = omega arith in z) (tabled-flip p)

pub known-none : (n : ℕ) {base s t : ℕ} (W : View) → Known W base s t (replicate n 0)
known-none n W = record { at = λ i u q. absurd (q (zeros n (W.cell i RANK))) }

-- two used rows with one rank are one row
same_rank : (W : View) (i j : ℕ) → (rows_of W).used i ≡ true → (rows_of W).used j ≡ true → W.cell j RANK ≡ W.cell i RANK → j ≡ i
same_rank W i j u v e = sym (used_in _ _ _ _ j v).there ∙ ap W.list e ∙ (used_in _ _ _ _ i u).there

pub known_more : {base s t w : ℕ} {memo : List ℕ} (W : View) (i : ℕ) → (rows_of W).used i ≡ true → W.cell i RANK < length memo
    → Known W base s t memo
    → Tabled (2 * W.header BITS) (rows_of W) base s t (row i) w → Known W base s t (set memo (W.cell i RANK) w)
known_more {base} {s} {t} {w} {memo} W i u h k p = record {
  at = λ j v q. by_cases (ℕ_discrete (W.cell j RANK) (W.cell i RANK))
      (λ e. subst
      (λ (x : ℕ). Tabled (2 * W.header BITS) (rows_of W) base s t (row x) (get_or (set memo (W.cell i RANK) w) (W.cell x RANK) 0))
      (sym (same_rank W i j u v e))
      (subst (Tabled (2 * W.header BITS) (rows_of W) base s t (row i)) (sym (get_or-set_same memo (W.cell i RANK) w 0 h)) p))
      (λ n. let z = get_or-set_other memo (W.cell i RANK) (W.cell j RANK) w 0 n in
      subst (Tabled (2 * W.header BITS) (rows_of W) base s t (row j)) (sym z) (k.at j v (λ y. q (z ∙ y))));
}

-- how far an arrow's level is from the last, and that a row's arrows are nearer
abbrev pub far_to : View → ℕ → ℕ
far_to W a = 2 * W.header BITS - level_of (2 * W.header BITS) (rows_of W) a

pub asked-arrow : {W : View} {base s t a i x k : ℕ} {memo : List ℕ} → TablePre W base s t a memo → RowOf W a i → far_to W a ≡ k
    → ((x ≡ W.cell i LOW) ⊎ (x ≡ W.cell i HIGH)) → {memo' : List ℕ} → length memo' ≡ length memo
    → Known W base s t memo'
    → (far_to W x < k) × TablePre W base s t x memo'
asked-arrow {W} {base} {s} {t} {a} {i} {x} {k} p r f c e n =
    let o = p.good.rows.ok i r.used in
    let z = leads-level (2 * W.header BITS) (rows_of W) a i r.leads in
    let h = o.shallow in
    let dl = o.low_deeper in
    let dh = o.high_deeper in
    ⊎_elim
    (λ q. rw q (
      omega arith,
      record {
        good = p.good;
        low-base = p.low-base;
        shift = p.shift;
        up = p.up;
        size = let q = p.size in omega arith;
        known = n;
        arrow = o.low-arrow;
      },
    ))
    (λ q. rw q (
      omega arith,
      record {
        good = p.good;
        low-base = p.low-base;
        shift = p.shift;
        up = p.up;
        size = let q = p.size in omega arith;
        known = n;
        arrow = o.high-arrow;
      },
    ))
    c

-- as `table_of` goes
pub led : {W : View} {base s t a i : ℕ} {memo : List ℕ} → TablePre W base s t a memo → a ≢ 0 → a ≢ 1 → i ≡ row_of a → RowOf W a i
led {a = a} p n k e = row_led a p.good p.arrow (row-yes a (omega arith)) e

pub recalled : {W : View} {base s t a i w r : ℕ} {memo : List ℕ} → TablePre W base s t a memo → RowOf W a i
    → w ≡ get_or memo (W.cell i RANK) 0
    → w ≢ 0
    → r ≡ carried_cells (marked a) w
    → TablePost W base s t a r memo
recalled {W} {base} {s} {t} {a} {i} p o e n c = record {
  tabled =
      carried-tabled a o.leads
      (subst (Tabled (2 * W.header BITS) (rows_of W) base s t (row i)) (sym e) (p.known.at i o.used (λ z. n (e ∙ z)))) c;
  known = p.known;
}

pub row-asked : {W : View} {base s t a i x y w0 w1 : ℕ} {memo : List ℕ} → TablePre W base s t a memo → RowOf W a i → x ≡ W.cell i LOW
    → y ≡ W.cell i HIGH
    → Tabled (2 * W.header BITS) (rows_of W) base s t x w0 → Tabled (2 * W.header BITS) (rows_of W) base s t y w1
    → RowPre W base s t i w0 w1
row-asked {W} {base} {s} {t} {w0 = w0} {w1} p o e f u v = record {
  good = p.good;
  low-base = p.low-base;
  shift = p.shift;
  up = p.up;
  used = o.used;
  low = subst (λ (z : ℕ). Tabled (2 * W.header BITS) (rows_of W) base s t z w0) e u;
  high = subst (λ (z : ℕ). Tabled (2 * W.header BITS) (rows_of W) base s t z w1) f v;
}

pub made_table : {W : View} {base s t a i w r : ℕ} {memo memo' : List ℕ} → RowOf W a i → W.cell i RANK < length memo
    → Known W base s t memo
    → Tabled (2 * W.header BITS) (rows_of W) base s t (row i) w → memo' ≡ set memo (W.cell i RANK) w → r ≡ carried_cells (marked a) w
    → TablePost W base s t a r memo'
made_table {W} {base} {s} {t} {a} {i} o h k p e c = record {
  tabled = carried-tabled a o.leads p c;
  known = subst (Known W base s t) (sym e) (known_more W i o.used h k p);
}

-- as `set_table` goes
pub set_led : {W : View} {base s b i : ℕ} → SetPre W base s b → b ≢ 0 → b ≢ 1 → i ≡ row_of b → RowOf W b i
set_led {b = b} p n k e = row_led b p.good p.arrow (row-yes b (omega arith)) e

pub set-asked : {W : View} {base s b i x k : ℕ} → SetPre W base s b → RowOf W b i → far_to W b ≡ k
    → ((x ≡ W.cell i LOW) ⊎ (x ≡ W.cell i HIGH))
    → (far_to W x < k) × SetPre W base s x
set-asked {W} {base} {s} {b} {i} {x} {k} p r f c =
    let o = p.good.rows.ok i r.used in
    let z = leads-level (2 * W.header BITS) (rows_of W) b i r.leads in
    let h = o.shallow in
    let dl = o.low_deeper in
    let dh = o.high_deeper in
    ⊎_elim
    (λ q. rw q (omega arith, record { good = p.good; low-base = p.low-base; shift = p.shift; arrow = o.low-arrow }))
    (λ q. rw q (omega arith, record { good = p.good; low-base = p.low-base; shift = p.shift; arrow = o.high-arrow }))
    c

pub set-row-asked : {W : View} {base s b i x y w0 w1 : ℕ} → SetPre W base s b → RowOf W b i → x ≡ W.cell i LOW → y ≡ W.cell i HIGH
    → Tabled (2 * W.header BITS) (rows_of W) base s s x w0 → Tabled (2 * W.header BITS) (rows_of W) base s s y w1
    → RowPre W base s s i w0 w1
set-row-asked {W} {base} {s} {w0 = w0} {w1} p o e f u v = record {
  good = p.good;
  low-base = p.low-base;
  shift = p.shift;
  up = p.shift;
  used = o.used;
  low = subst (λ (z : ℕ). Tabled (2 * W.header BITS) (rows_of W) base s s z w0) e u;
  high = subst (λ (z : ℕ). Tabled (2 * W.header BITS) (rows_of W) base s s z w1) f v;
}

-- tables of sets: none, one that is found, and one more
pub sets-none : (n : ℕ) {base s : ℕ} (W : View) → Sets W base s (replicate n 0)
sets-none n W = record { at = λ k q. absurd (q (ap (λ (x : ℕ). x / 4294967296) (zeros n k))) }

pub set_found : {W : View} {base s b w : ℕ} {memo : List ℕ} (k : ℕ) → SetsPre W base s b memo → w ≡ get_or memo k 0 → w / 4294967296 ≡ b
    → SetsPost W base s b w memo
set_found {W} {base} {s} {b} {w} {memo} k p e f =
    let g : get_or memo k 0 / 4294967296 ≡ b = ap (λ (x : ℕ). x / 4294967296) (sym e) ∙ f in
    record {
      shown = subst (λ (x : ℕ). Shown (2 * W.header BITS) (rows_of W) base s s b x false) (sym e)
          (subst (λ (x : ℕ). Shown (2 * W.header BITS) (rows_of W) base s s x (get_or memo k 0) false) g
          (p.sets.at k (λ z. let t = row_is b p.is_row in let u : b ≡ 0 = sym g ∙ z in omega arith)));
      sets = p.sets;
    }

-- the low half alone shows what the word does, whatever is in the high half
entry-shown : {m base s t a w : ℕ} {rows : Rows} (b : ℕ) → Shown m rows base s t a w false
    → Shown m rows base s t a (b * 4294967296 + w % 4294967296) false
entry-shown {w = w} b p = record {
  yes = λ c h e. p.yes c h (sym (same c h) ∙ e);
  no = λ c h o. same c h ∙ p.no c h o;
}
  where
    same : (c : ℕ) → c < 32 → has (b * 4294967296 + w % 4294967296) c ≡ has w c
    same c h =
        let e : (b * 4294967296 + w % 4294967296) % 4294967296 ≡ w % 4294967296 = omega arith in
        sym (has-low (b * 4294967296 + w % 4294967296) c h) ∙ ap (λ (z : ℕ). has z c) e ∙ has-low w c h

pub set_more : {W : View} {base s b k w r : ℕ} {memo memo' : List ℕ} → SetsPre W base s b memo → k < length memo
    → Tabled (2 * W.header BITS) (rows_of W) base s s b w → r ≡ b * 4294967296 + w % 4294967296 → memo' ≡ set memo k r
    → SetsPost W base s b r memo'
set_more {W} {base} {s} {b} {k} {w} {r} {memo} p h t e f =
    let x : Shown (2 * W.header BITS) (rows_of W) base s s b r false = subst
    (λ (y : ℕ). Shown (2 * W.header BITS) (rows_of W) base s s b y false) (sym e) (entry-shown b t.plain) in
    let q : r / 4294967296 ≡ b = omega arith in
    record { shown = x; sets = subst (Sets W base s) (sym f) (more x q) }
  where
    more : Shown (2 * W.header BITS) (rows_of W) base s s b r false → r / 4294967296 ≡ b → Sets W base s (set memo k r)
    more x q = record {
      at = λ j n. by_cases (ℕ_discrete j k)
          (λ z. subst
          (λ (i : ℕ).
          Shown (2 * W.header BITS) (rows_of W) base s s (get_or (set memo k r) i 0 / 4294967296) (get_or (set memo k r) i 0) false)
          (sym z)
          (subst (λ (y : ℕ). Shown (2 * W.header BITS) (rows_of W) base s s (y / 4294967296) y false) (sym (get_or-set_same memo k r 0 h))
          (subst (λ (y : ℕ). Shown (2 * W.header BITS) (rows_of W) base s s y r false) (sym q) x)))
          (λ z. let g = get_or-set_other memo k j r 0 z in
          subst (λ (y : ℕ). Shown (2 * W.header BITS) (rows_of W) base s s (y / 4294967296) y false) (sym g)
          (p.sets.at j (λ y. n (ap (λ (i : ℕ). i / 4294967296) g ∙ y))));
    }

-- a number whose low half is 0 has no cell
pub disjoint-yes : (x y : ℕ) → bit_and x y % 4294967296 ≡ 0 → Disjoint x y
disjoint-yes x y e c h f g = true≢false (sym (has-low (bit_and x y) c h ∙ has-and x y c ∙ both f g) ∙ ap (λ (z : ℕ). has z c) e ∙ no-bit c)
  where
    both : has x c ≡ true → has y c ≡ true → has x c && has y c ≡ true
    both p q = rw (p, q)

    no-bit : (c : ℕ) → has 0 c ≡ false
    no-bit c = ap (λ (z : ℕ). eqb (z % 2) 1) (zero-div (2 ^ c))

pub disjoint-no : (x y : ℕ) → bit_and x y % 4294967296 ≢ 0 → Disjoint x y → ⊥
disjoint-no x y n d =
    let p = some-bit 32 (bit_and x y % 4294967296) (omega arith) n in
    let e : has x p.0 && has y p.0 ≡ true = sym (has-and x y p.0) ∙ sym (has-low (bit_and x y) p.0 p.1) ∙ p.2 in
    let f = and-true (has x p.0) (has y p.0) e in
    d p.0 p.1 f.0 f.1
