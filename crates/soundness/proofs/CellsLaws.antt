-- Laws of what specs/Cells.antt defines. Assumes nothing.
use mathlib.Core.Path.{◌≡◌, refl, sym, ap, ◌∙◌, subst}
use mathlib.Core.Logic.{◌⊎◌, inl, inr, ⊎_elim, by_cases}
use mathlib.Core.Bool.{Bool, true, false, not, cond, ◌&&◌, ◌||◌, true≢false}
use Prim.Native.Nat.{ℕ, zero, suc, ◌+◌, ◌-◌, ◌*◌, ◌/◌, ◌%◌, ◌≤◌, ◌<◌}
use native.Mathlib.Omega.{arith}
use native.Mathlib.Decide.{ℕ_discrete, dec_lt}
use lib.Bits.{bit_and}
use Rattle.diagram.specs.Level.{Val, upd}
use Rattle.diagram.proofs.Level.{upd_same, upd_other}
use Rattle.diagram.specs.Rows.{Rows, flip, Arrow, level_of, den, WellFormed}
use Rattle.diagram.proofs.Rows.{carry_arrow, carry-level}
use Rattle.diagram.proofs.Den.{den-zero, den-one, den-flip, den_reads}
use Rattle.diagram.specs.Even.{ReadsOn, even}
use borrow.Author.Tests.{eqb-true}
use Rattle.rows.specs.Says.{Says}
use Rattle.rows.proofs.Says.{says_map}
use Rattle.soundness.specs.Apart.{lift, Apart, Half}
use Rattle.soundness.proofs.ApartLaws.{lift-none, upd-kept}
use Rattle.soundness.specs.Masks.{has, low_mask, high_mask, swapped, bit_of}
use Rattle.soundness.proofs.Masks.{has-and, has-or, has-swapped-low, has-swapped-high, low_mask_lem, high_mask_lem, low_mask-past}
use Rattle.soundness.proofs.Masks.{high_mask-past, NOTHING_CELLS, ALL_CELLS, nothing-low, nothing-high, all-low, all-high}
use Rattle.soundness.specs.Cells.{InCell, Classed, Meets, Shown, Tabled, joined, Disjoint}

-- some valuation of a cell, and the cell of a valuation
some_in : (base s c : ℕ) → InCell base s c (λ l. has c ((l - (base + s)) / 2))
some_in base s c = record { at = λ q l. ap (has c) (let e : (base + 2 * q + s - (base + s)) / 2 ≡ q = omega arith in e) }

pub record Cell (base s : ℕ) (v : Val) : Type 0 where
  pub number : ℕ
  pub small : number < 32
  pub is : InCell base s number v

five : (x y z w u : Bool)
    → (c : ℕ) × (c < 32) × (has c 0 ≡ x) × (has c 1 ≡ y) × (has c 2 ≡ z) × (has c 3 ≡ w) × (has c 4 ≡ u)
five false false false false false = (0, omega arith, refl, refl, refl, refl, refl)
five true false false false false = (1, omega arith, refl, refl, refl, refl, refl)
five false true false false false = (2, omega arith, refl, refl, refl, refl, refl)
five true true false false false = (3, omega arith, refl, refl, refl, refl, refl)
five false false true false false = (4, omega arith, refl, refl, refl, refl, refl)
five true false true false false = (5, omega arith, refl, refl, refl, refl, refl)
five false true true false false = (6, omega arith, refl, refl, refl, refl, refl)
five true true true false false = (7, omega arith, refl, refl, refl, refl, refl)
five false false false true false = (8, omega arith, refl, refl, refl, refl, refl)
five true false false true false = (9, omega arith, refl, refl, refl, refl, refl)
five false true false true false = (10, omega arith, refl, refl, refl, refl, refl)
five true true false true false = (11, omega arith, refl, refl, refl, refl, refl)
five false false true true false = (12, omega arith, refl, refl, refl, refl, refl)
five true false true true false = (13, omega arith, refl, refl, refl, refl, refl)
five false true true true false = (14, omega arith, refl, refl, refl, refl, refl)
five true true true true false = (15, omega arith, refl, refl, refl, refl, refl)
five false false false false true = (16, omega arith, refl, refl, refl, refl, refl)
five true false false false true = (17, omega arith, refl, refl, refl, refl, refl)
five false true false false true = (18, omega arith, refl, refl, refl, refl, refl)
five true true false false true = (19, omega arith, refl, refl, refl, refl, refl)
five false false true false true = (20, omega arith, refl, refl, refl, refl, refl)
five true false true false true = (21, omega arith, refl, refl, refl, refl, refl)
five false true true false true = (22, omega arith, refl, refl, refl, refl, refl)
five true true true false true = (23, omega arith, refl, refl, refl, refl, refl)
five false false false true true = (24, omega arith, refl, refl, refl, refl, refl)
five true false false true true = (25, omega arith, refl, refl, refl, refl, refl)
five false true false true true = (26, omega arith, refl, refl, refl, refl, refl)
five true true false true true = (27, omega arith, refl, refl, refl, refl, refl)
five false false true true true = (28, omega arith, refl, refl, refl, refl, refl)
five true false true true true = (29, omega arith, refl, refl, refl, refl, refl)
five false true true true true = (30, omega arith, refl, refl, refl, refl, refl)
five true true true true true = (31, omega arith, refl, refl, refl, refl, refl)

pub cell_of : (base s : ℕ) (v : Val) → Cell base s v
cell_of base s v =
    let p = five (v (base + 2 * 0 + s)) (v (base + 2 * 1 + s)) (v (base + 2 * 2 + s)) (v (base + 2 * 3 + s)) (v (base + 2 * 4 + s)) in
    record { number = p.0; small = p.1; is = record { at = at p.0 p.2 p.3 p.4 p.5 p.6 } }
  where
    at : (c : ℕ) → has c 0 ≡ v (base + 2 * 0 + s) → has c 1 ≡ v (base + 2 * 1 + s) → has c 2 ≡ v (base + 2 * 2 + s)
        → has c 3 ≡ v (base + 2 * 3 + s) → has c 4 ≡ v (base + 2 * 4 + s)
        → (q : ℕ) → q < 5 → v (base + 2 * q + s) ≡ has c q
    at c a b d e f zero h = sym a
    at c a b d e f (suc zero) h = sym b
    at c a b d e f (suc (suc zero)) h = sym d
    at c a b d e f (suc (suc (suc zero))) h = sym e
    at c a b d e f (suc (suc (suc (suc zero)))) h = sym f
    at c a b d e f (suc (suc (suc (suc (suc q))))) h = absurd (omega arith)

or_cases : (x y : Bool) → x || y ≡ true → (x ≡ true) ⊎ (y ≡ true)
or_cases true y e = inl refl
or_cases false y e = inr e

pub and-true : (x y : Bool) → x && y ≡ true → (x ≡ true) × (y ≡ true)
and-true true y e = (refl, e)
and-true false y e = absurd (true≢false (sym e))

or_left : (x y : Bool) → x ≡ true → x || y ≡ true
or_left true y e = refl
or_left false y e = absurd (true≢false (sym e))

or_right : (x y : Bool) → y ≡ true → x || y ≡ true
or_right true y e = refl
or_right false y e = e

both : (x y : Bool) → x ≡ true → y ≡ true → x && y ≡ true
both true y e f = f
both false y e f = absurd (true≢false (sym e))

not_yes : (b : Bool) → not b ≡ true → b ≡ false
not_yes true e = absurd (true≢false (sym e))
not_yes false e = refl

-- a cell's valuation with one level changed that is not tested, or has the value of the cell
in-upd : {base s c l : ℕ} {v : Val} (b : Bool) → InCell base s c v → ((q : ℕ) → q < 5 → base + 2 * q + s ≡ l → b ≡ has c q)
    → InCell base s c (upd v l b)
in-upd {base} {s} {c} {l} {v} b i f = record {
  at = λ q h. by_cases (ℕ_discrete (base + 2 * q + s) l)
      (λ e. subst (λ (x : ℕ). upd v l b x ≡ has c q) (sym e) (upd_same v l b ∙ f q h e))
      (λ n. upd_other v l b (base + 2 * q + s) n ∙ i.at q h);
}

-- NOT of an arrow has the NOTs of its halves
half-flip : {m : ℕ} {rows : Rows} {t l a lo hi : ℕ} → Half m rows t l a lo hi → Half m rows t l (flip a) (flip lo) (flip hi)
half-flip {m} {rows} {t} {l} {a} {lo} {hi} x = record {
  low-arrow = carry_arrow rows true lo x.low-arrow;
  high-arrow = carry_arrow rows true hi x.high-arrow;
  low_deeper = rw (carry-level m rows true lo) x.low_deeper;
  high_deeper = rw (carry-level m rows true hi) x.high_deeper;
  low-is = λ v. den-flip m rows a (lift t (upd v l false)) ∙ ap not (x.low-is v) ∙ sym (den-flip m rows lo (lift t v));
  high_is = λ v. den-flip m rows a (lift t (upd v l true)) ∙ ap not (x.high_is v) ∙ sym (den-flip m rows hi (lift t v));
}

flip-back : (a : ℕ) → flip (flip a) ≡ a
flip-back a = omega arith

module _ {m : ℕ} {rows : Rows} {base s : ℕ} where
  module _ {t l k a lo hi : ℕ} (x : Half m rows t l a lo hi) (z : Classed base s l k) where
    -- the level's number among the tested ones
    number : (q : ℕ) → q < 5 → base + 2 * q + s ≡ l → (k < 5) × (k ≡ q)
    number q h e = by_cases (dec_lt k 5)
        (λ g. let w = z.here g in (g, omega arith))
        (λ g. absurd (z.past (omega arith) q h (sym e)))

    meets-low : {c : ℕ} (side : Bool) → c < 32 → has (low_mask k) (bit_of side c) ≡ true → Meets m rows base s t lo c
        → Meets m rows base s t a c
    meets-low {c} side h g p = record {
      val = upd p.val l false;
      cell = in-upd false p.cell
          (λ q j e. let n = number q j e in
          sym (not_yes (has c q) (subst (λ (y : ℕ). not (has c y) ≡ true) n.1 (sym (low_mask_lem k side n.0 c h) ∙ g))));
      on = x.low-is p.val ∙ p.on;
    }

    meets-high : {c : ℕ} (side : Bool) → c < 32 → has (high_mask k) (bit_of side c) ≡ true → Meets m rows base s t hi c
        → Meets m rows base s t a c
    meets-high {c} side h g p = record {
      val = upd p.val l true;
      cell = in-upd true p.cell
          (λ q j e. let n = number q j e in sym (subst (λ (y : ℕ). has c y ≡ true) n.1 (sym (high_mask_lem k side n.0 c h) ∙ g)));
      on = x.high_is p.val ∙ p.on;
    }

    mask-low_at : {c : ℕ} (side : Bool) {v : Val} → c < 32 → InCell base s c v → v l ≡ false → has (low_mask k) (bit_of side c) ≡ true
    mask-low_at {c} side {v} h i e = by_cases (dec_lt k 5)
        (λ g. low_mask_lem k side g c h ∙ ap not (sym (i.at k g) ∙ ap v (sym (z.here g)) ∙ e))
        (λ g. low_mask-past k side (omega arith) c h)

    mask-high_at : {c : ℕ} (side : Bool) {v : Val} → c < 32 → InCell base s c v → v l ≡ true → has (high_mask k) (bit_of side c) ≡ true
    mask-high_at {c} side {v} h i e = by_cases (dec_lt k 5)
        (λ g. high_mask_lem k side g c h ∙ (sym (i.at k g) ∙ ap v (sym (z.here g)) ∙ e))
        (λ g. high_mask-past k side (omega arith) c h)

    meets-split : {c : ℕ} (side : Bool) → c < 32 → Meets m rows base s t a c
        → ((has (low_mask k) (bit_of side c) ≡ true) × Meets m rows base s t lo c)
        ⊎ ((has (high_mask k) (bit_of side c) ≡ true) × Meets m rows base s t hi c)
    meets-split {c} side h p = by (p.val l) refl
      where
        by : (b : Bool) → p.val l ≡ b
            → ((has (low_mask k) (bit_of side c) ≡ true) × Meets m rows base s t lo c)
            ⊎ ((has (high_mask k) (bit_of side c) ≡ true) × Meets m rows base s t hi c)
        by false e = inl (
          mask-low_at side h p.cell e,
          record {
            val = p.val;
            cell = p.cell;
            on = sym (x.low-is p.val) ∙ ap (λ (u : Val). den m rows a (lift t u)) (upd-kept p.val l false e) ∙ p.on;
          },
        )
        by true e = inr (
          mask-high_at side h p.cell e,
          record {
            val = p.val;
            cell = p.cell;
            on = sym (x.high_is p.val) ∙ ap (λ (u : Val). den m rows a (lift t u)) (upd-kept p.val l true e) ∙ p.on;
          },
        )

    shown-join : {w0 w1 : ℕ} (side : Bool) → Shown m rows base s t lo w0 side → Shown m rows base s t hi w1 side
        → Shown m rows base s t a (joined k w0 w1) side
    shown-join {w0} {w1} side p q = record {
      yes = λ c h e. ⊎_elim
          (λ f. let g = and-true (has w0 (bit_of side c)) (has (low_mask k) (bit_of side c))
          (sym (has-and w0 (low_mask k) (bit_of side c)) ∙ f) in meets-low side h g.1 (p.yes c h g.0))
          (λ f. let g = and-true (has w1 (bit_of side c)) (has (high_mask k) (bit_of side c))
          (sym (has-and w1 (high_mask k) (bit_of side c)) ∙ f) in meets-high side h g.1 (q.yes c h g.0))
          (or_cases (has (bit_and w0 (low_mask k)) (bit_of side c)) (has (bit_and w1 (high_mask k)) (bit_of side c))
          (sym (has-or (bit_and w0 (low_mask k)) (bit_and w1 (high_mask k)) (bit_of side c)) ∙ e));
      no = λ c h o. has-or (bit_and w0 (low_mask k)) (bit_and w1 (high_mask k)) (bit_of side c) ∙ ⊎_elim
          (λ f. or_left (has (bit_and w0 (low_mask k)) (bit_of side c)) _
          (has-and w0 (low_mask k) (bit_of side c) ∙ both (has w0 (bit_of side c)) _ (p.no c h f.1) f.0))
          (λ f. or_right (has (bit_and w0 (low_mask k)) (bit_of side c)) _
          (has-and w1 (high_mask k) (bit_of side c) ∙ both (has w1 (bit_of side c)) _ (q.no c h f.1) f.0))
          (meets-split side h o);
    }

  -- the tables of halves make that of the arrow
  pub tabled-join : {t l k a lo hi w0 w1 : ℕ} → Half m rows t l a lo hi → Classed base s l k → Tabled m rows base s t lo w0
      → Tabled m rows base s t hi w1
      → Tabled m rows base s t a (joined k w0 w1)
  tabled-join x z p q =
      record { plain = shown-join x z false p.plain q.plain; turned = shown-join (half-flip x) z true p.turned q.turned }

  -- NOT of an arrow has the halves of its table exchanged
  pub tabled-flip : {t a w : ℕ} → Tabled m rows base s t a w → Tabled m rows base s t (flip a) (swapped w)
  tabled-flip {t} {a} {w} p = record {
    plain =
        record {
          yes = λ c h e. p.turned.yes c h (sym (has-swapped-low w c h) ∙ e);
          no = λ c h o. has-swapped-low w c h ∙ p.turned.no c h o;
        };
    turned = subst (λ (x : ℕ). Shown m rows base s t x (swapped w) true) (sym (flip-back a))
        (record {
          yes = λ c h e. p.plain.yes c h (sym (has-swapped-high w c h) ∙ e);
          no = λ c h o. has-swapped-high w c h ∙ p.plain.no c h o;
        });
  }

  -- nothing and everything
  meets-one : {t : ℕ} (c : ℕ) → Meets m rows base s t 1 c
  meets-one {t} c =
      record {
        val = (λ l. has c ((l - (base + s)) / 2));
        cell = some_in base s c;
        on = den-one m rows (lift t (λ l. has c ((l - (base + s)) / 2)));
      }

  meets-zero : {t c : ℕ} → Meets m rows base s t 0 c → ⊥
  meets-zero {t} p = true≢false (sym p.on ∙ den-zero m rows (lift t p.val))

  nothing_is : {t : ℕ} → Tabled m rows base s t 0 NOTHING_CELLS
  nothing_is = record {
    plain = record { yes = λ c h e. absurd (true≢false (sym e ∙ nothing-low c h)); no = λ c h o. absurd (meets-zero o) };
    turned = record { yes = λ c h e. meets-one c; no = λ c h o. nothing-high c h };
  }

  everything-is : {t : ℕ} → Tabled m rows base s t 1 ALL_CELLS
  everything-is = record {
    plain = record { yes = λ c h e. meets-one c; no = λ c h o. all-low c h };
    turned = record { yes = λ c h e. absurd (true≢false (sym e ∙ all-high c h)); no = λ c h o. absurd (meets-zero o) };
  }

  pub tabled-nothing : {t : ℕ} (a : ℕ) → a ≡ 0 → Tabled m rows base s t a NOTHING_CELLS
  tabled-nothing {t} a e = subst (λ (x : ℕ). Tabled m rows base s t x NOTHING_CELLS) (sym e) nothing_is

  pub tabled-everything : {t : ℕ} (a : ℕ) → a ≡ 1 → Tabled m rows base s t a ALL_CELLS
  tabled-everything {t} a e = subst (λ (x : ℕ). Tabled m rows base s t x ALL_CELLS) (sym e) everything-is

-- an arrow of even levels from the base on, counted s higher, is told by the cell
module _ {m N : ℕ} {rows : Rows} (wf : WellFormed m N rows) (base s : ℕ) (eb : base % 2 ≡ 0) (em : m % 2 ≡ 0) (fit : m ≤ base + 10) where
  module _ (b : ℕ) (u : Arrow rows b) (deep : base ≤ level_of m rows b) (r : ReadsOn even (den m rows b)) where
    cell-tells : (c : ℕ) (v w : Val) → InCell base s c v → InCell base s c w → den m rows b (lift s v) ≡ den m rows b (lift s w)
    cell-tells c v w i j =
        r (lift s v) x (λ l p. sym (ap (λ (b : Bool). cond b (v (l + s)) (w (l + s))) p))
        ∙ den_reads wf m b u x (lift s w) (λ l lo hi. pick l (even l) refl lo hi)
      where
        x : Val
        x l = cond (even l) (v (l + s)) (w (l + s))

        agree : (l : ℕ) → base ≤ l → l < m → l % 2 ≡ 0 → v (l + s) ≡ w (l + s)
        agree l lo hi e =
            let q : ℕ = (l - base) / 2 in
            let z : base + 2 * q + s ≡ l + s = omega arith in
            let h : q < 5 = omega arith in
            ap v (sym z) ∙ i.at q h ∙ sym (j.at q h) ∙ ap w z

        pick : (l : ℕ) (y : Bool) → even l ≡ y → level_of m rows b ≤ l → l < m → cond y (v (l + s)) (w (l + s)) ≡ w (l + s)
        pick l true e lo hi = agree l (omega arith) hi (eqb-true _ _ e)
        pick l false e lo hi = refl

    -- so it is apart from another exactly where their tables are
    pub tables_tell : {a x y : ℕ} {k : Bool} → Tabled m rows base s 0 a x → Shown m rows base s s b y false → Says (Disjoint x y) k
        → Says (Apart m rows s a b) k
    tables_tell {a} p q = says_map
        (λ d. record {
          none = λ v g h. let c = cell_of base s v in
              d c.number c.small
              (p.plain.no c.number c.small (record { val = v; cell = c.is; on = ap (den m rows a) (lift-none v) ∙ g }))
              (q.no c.number c.small (record { val = v; cell = c.is; on = h }));
        })
        (λ f c h e g.
        let i = p.plain.yes c h e in
        let j = q.yes c h g in
        f.none i.val (sym (ap (den m rows a) (lift-none i.val)) ∙ i.on)
        (cell-tells c i.val j.val i.cell j.cell ∙ j.on))
