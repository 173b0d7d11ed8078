-- A word of the header is written: what of a table stays good and sound. Assumes nothing.
use mathlib.Core.Path.{◌≡◌, refl, ap, sym, ◌∙◌, subst}
use mathlib.Core.Bool.{true}
use mathlib.Core.List.{[], ◌∷◌}
use mathlib.Core.Logic.{◌≢◌, by_cases}
use Prim.Native.Nat.{ℕ, zero, suc, ◌-◌, ◌*◌, ◌≤◌, ◌<◌}
use native.Mathlib.Omega.{arith}
use native.Mathlib.Decide.{ℕ_discrete}
use borrow.Author.Tests.{eq-eqb, ne_eqb}
use Rattle.layout.specs.Places.{BITS, ROWS, USED, LAYOUT, VALID, FIRST_REGISTER, FIRST_RELATION, ROOTS_END, LOW, HIGH, LEVEL, NEXT, RANK}
use Rattle.diagram.specs.Level.{Val}
use Rattle.diagram.specs.Rows.{Rows, Arrow, den, WellFormed}
use Rattle.diagram.specs.Steps.{shift_f}
use Rattle.layout.specs.View.{View, put_header}
use Rattle.rows.specs.Used.{used, used_at, rows_of, Sizes}
use Rattle.rows.specs.Index.{key_of, live, Hit, Down}
use Rattle.rows.proofs.Index.{live_link}
use Rattle.rows.proofs.Framed.{hit_frame}
use Rattle.diagram.specs.Reach.{Reach}
use Rattle.diagram.specs.Even.{even}
use Rattle.rows.specs.Roots.{Ref}
use Rattle.rows.specs.Within.{den_of, valid_of}
use Rattle.rows.specs.Sound.{Good, Sound}

-- what may be stored in word h of the header: where it is a register or relation, nothing or an arrow, of even levels in a register, within
-- V, and in a relation within SHIFT of V
pub record Storable (W : View) (h v : ℕ) : Type 0 where
  pub ref : FIRST_REGISTER ≤ h → h < ROOTS_END → Ref (rows_of W) v
  pub even : FIRST_REGISTER ≤ h → h < FIRST_RELATION → (a : ℕ) → v ≡ suc a → (i : ℕ) → Reach (rows_of W) (a ∷ []) i
      → even (W.cell i LEVEL) ≡ true
  pub within : FIRST_REGISTER ≤ h → h < ROOTS_END → (a : ℕ) → v ≡ suc a → (x : Val) → den_of W a x ≡ true → den_of W (valid_of W) x ≡ true
  pub shifted : FIRST_RELATION ≤ h → h < ROOTS_END → (a : ℕ) → v ≡ suc a → (x : Val) → den_of W a x ≡ true
      → shift_f (den_of W (valid_of W)) x ≡ true

-- nothing may be stored anywhere
pub storable_empty : (W : View) (h : ℕ) → Storable W h 0
storable_empty W h =
    record {
      ref = λ _ _. tt;
      even = λ _ _ a e. absurd (omega arith);
      within = λ _ _ a e. absurd (omega arith);
      shifted = λ _ _ a e. absurd (omega arith);
    }

-- the rows, if c of them are used
abbrev rows_at : View → ℕ → Rows
rows_at W c =
    record {
      used = used_at W.rows c (λ i. W.cell i RANK) W.list;
      level = λ i. W.cell i LEVEL;
      low = λ i. W.cell i LOW;
      high = λ i. W.cell i HIGH;
    }

-- word h, which is none of n, N, the count and the layout, becomes v
module _ (W : View) (h v : ℕ) (n0 : h ≢ BITS) (n1 : h ≢ ROWS) (n3 : h ≢ USED) (n7 : h ≢ LAYOUT) where
  abbrev X : View
  X = put_header W h v

  kept : (k : ℕ) → k ≢ h → X.header k ≡ W.header k
  kept k n = rw (ne_eqb k h n)

  bits-kept : X.header BITS ≡ W.header BITS
  bits-kept = kept 0 (λ e. n0 (sym e))

  count_kept : X.header USED ≡ W.header USED
  count_kept = kept 3 (λ e. n3 (sym e))

  pub rows-kept : rows_of X ≡ rows_of W
  rows-kept = ap (rows_at W) count_kept

  used-kept : (j : ℕ) → used X j ≡ true → used W j ≡ true
  used-kept j u = subst (λ (r : Rows). r.used j ≡ true) rows-kept u

  kept-used : (j : ℕ) → used W j ≡ true → used X j ≡ true
  kept-used j u = subst (λ (r : Rows). r.used j ≡ true) (sym rows-kept) u

  down_kept : (k p : ℕ) → Down W k p → Down X k p
  down_kept k zero d = tt
  down_kept k (suc j) d = (kept-used j d.0, d.1)

  live-kept : (p : ℕ) → live (used X) p ≡ live (used W) p
  live-kept p = ap (λ (r : Rows). live r.used p) rows-kept

  pub good_store : Good W → Good X
  good_store g = record {
    sizes = subst (λ (b : ℕ). Sizes b W.rows W.size) (sym bits-kept) g.sizes;
    rows_is = kept 1 (λ e. n1 (sym e)) ∙ g.rows_is;
    layout_is = kept LAYOUT (λ e. n7 (sym e)) ∙ g.layout_is;
    ranked = let e = count_kept in record {
      count-le = subst (λ (c : ℕ). c ≤ W.rows) (sym e) g.ranked.count-le;
      within = λ k l. g.ranked.within k (subst (λ (c : ℕ). k < c) e l);
      back = λ k l. g.ranked.back k (subst (λ (c : ℕ). k < c) e l);
    };
    rows = subst (λ (r : Rows). WellFormed (2 * X.header BITS) W.rows r) (sym rows-kept)
        (subst (λ (b : ℕ). WellFormed (2 * b) W.rows (rows_of W)) (sym bits-kept) g.rows);
    index = record {
      nexts = λ j u. down_kept (W.cell j RANK) (W.cell j NEXT) (g.index.nexts j (used-kept j u));
      found = λ j u.
          let r : Hit X (W.cell j LEVEL) (W.cell j LOW) (W.cell j HIGH) (live (used W) (W.head (key_of W j))) j =
          hit_frame W X g.index.nexts (λ x w. refl) (λ x w. refl) (λ x w. refl) (λ x w. refl) (g.index.found j (used-kept j u))
          (live_link (used W) (W.head (key_of W j))) in
          subst (λ (p : ℕ). Hit X (W.cell j LEVEL) (W.cell j LOW) (W.cell j HIGH) p j) (sym (live-kept (W.head (key_of W j)))) r;
    };
  }

  -- an arrow denotes what it did
  den-kept : (a : ℕ) (x : Val) → den_of X a x ≡ den_of W a x
  den-kept a x = ap (λ (m : ℕ). den (2 * m) (rows_of X) a x) bits-kept ∙ ap (λ (r : Rows). den (2 * W.header BITS) r a x) rows-kept

  ref-kept : (r : ℕ) → Ref (rows_of W) r → Ref (rows_of X) r
  ref-kept r u = subst (λ (z : Rows). Ref z r) (sym rows-kept) u

  -- what word k has is kept or new
  word : (k : ℕ) (P : ℕ → Type 0) → (k ≡ h → P v) → (k ≢ h → P (W.header k)) → P (X.header k)
  word k P f g = by_cases (ℕ_discrete k h) (λ q. subst P (sym (rw (eq-eqb k h q))) (f q)) (λ n. subst P (sym (kept k n)) (g n))

  -- the table stays sound if the word is not V's and may stand there
  module _ (nv : h ≢ VALID) where
    valid-stays : X.header VALID ≡ W.header VALID
    valid-stays = kept VALID (λ e. nv (sym e))

    valid_same : (x : Val) → den_of X (valid_of X) x ≡ den_of W (valid_of W) x
    valid_same x = den-kept (valid_of X) x ∙ ap (λ (r : ℕ). den_of W (r - 1) x) valid-stays

    pub sound_store : Sound W → Storable W h v → Sound X
    sound_store s t = record {
      good = good_store s.good;
      refs = λ k a l. word k (Ref (rows_of X)) (λ q. ref-kept v (t.ref (omega arith) (omega arith)))
          (λ n. ref-kept (W.header k) (s.refs k a l));
      valid = λ e. s.valid (sym valid-stays ∙ e);
      even = λ k a l b q i c.
          let d = subst (λ (z : Rows). Reach z (b ∷ []) i) rows-kept c in
          word k (λ r. r ≡ suc b → even (W.cell i LEVEL) ≡ true) (λ z e. t.even (omega arith) (omega arith) b e i d)
          (λ n e. s.even k a l b e i d) q;
      within = record {
        roots = λ k a l b q x g.
            let f : den_of W b x ≡ true = sym (den-kept b x) ∙ g in
            valid_same x ∙ word k (λ r. r ≡ suc b → den_of W (valid_of W) x ≡ true)
            (λ z e. t.within (omega arith) (omega arith) b e x f) (λ n e. s.within.roots k a l b e x f) q;
        shifted = λ k a l b q x g.
            let f : den_of W b x ≡ true = sym (den-kept b x) ∙ g in
            valid_same (λ n. x (suc n)) ∙ word k (λ r. r ≡ suc b → shift_f (den_of W (valid_of W)) x ≡ true)
            (λ z e. t.shifted (omega arith) (omega arith) b e x f) (λ n e. s.within.shifted k a l b e x f) q;
      };
    }

  -- and if it is V's, an arrow with even levels, while every register and relation is empty
  module _ (hv : h ≡ VALID) (none : (k : ℕ) → FIRST_REGISTER ≤ k → k < ROOTS_END → W.header k ≡ 0) where
    empty : (k b : ℕ) → FIRST_REGISTER ≤ k → k < ROOTS_END → X.header k ≡ suc b → ⊥
    empty k b a l q = let z : X.header k ≡ 0 = kept k (omega arith) ∙ none k a l in omega arith

    pub sound-valid : (b : ℕ) → v ≡ suc b → Sound W → Arrow (rows_of W) b
        → ((i : ℕ) → Reach (rows_of W) (b ∷ []) i → even (W.cell i LEVEL) ≡ true) → Sound X
    sound-valid b vb s u e = record {
      good = good_store s.good;
      refs = λ k a l. word k (Ref (rows_of X)) (λ q. ref-kept v (subst (Ref (rows_of W)) (sym vb) u))
          (λ n. ref-kept (W.header k) (s.refs k a l));
      valid = λ q. word VALID (λ r. r ≡ 0 → ⊥) (λ z y. omega arith) (λ n y. n (sym hv)) q;
      even = λ k a l c q i r.
          let d = subst (λ (z : Rows). Reach z (c ∷ []) i) rows-kept r in
          word k (λ x. x ≡ suc c → even (W.cell i LEVEL) ≡ true)
          (λ z y. let p : c ≡ b = omega arith in e i (subst (λ (x : ℕ). Reach (rows_of W) (x ∷ []) i) p d)) (λ n y. s.even k a l c y i d) q;
      within = record { roots = λ k a l c q. absurd (empty k c a l q); shifted = λ k a l c q. absurd (empty k c (omega arith) l q) };
    }
