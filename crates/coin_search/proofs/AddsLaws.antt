-- Laws of what specs/Adds.antt defines: none, one, and one part after the other. Assumes nothing.
use mathlib.Core.Path.{◌≡◌, refl, sym, ap, ◌∙◌, subst}
use mathlib.Core.Logic.{◌⊎◌, inl, inr, by_cases}
use mathlib.Core.Bool.{true, true≢false}
use mathlib.Core.List.{List}
use Prim.Native.Nat.{ℕ, suc, ◌+◌, ◌-◌, ◌/◌, ◌%◌, ◌^◌, ◌≤◌, ◌<◌}
use native.Mathlib.Decide.{ℕ_discrete, dec_lt, dec_le}
use native.Mathlib.Omega.{arith}
use lib.Dec.{eqb}
use lib.ListN.{length}
use lib.Pow.{pow_mono, shr_le, shr_lt, shr-shr}
use Rattle.mucalculus.specs.Means.{bit}
use Rattle.coins.specs.Turns.{Grown}
use Rattle.coins.proofs.Added.{room, added-listed}
use Rattle.coins.proofs.Turns.{grown-none, grown-one, grown-more}
use Rattle.coin_search.specs.Words.{mark_of, marks_of, AddPost}
use Rattle.coin_search.specs.Adds.{AddsPre, Adds, One, AtBit, InMask}
use Rattle.coin_search.proofs.Nodes.{state_of, state_word, state-place}

module _ {n : ℕ} {w : List ℕ} {m count : ℕ} (a : AddsPre n w m count) where
  -- nothing is added, as all are marked
  pub adds_none : {P : ℕ → Type 0} → ((u : ℕ) → u < 2 ^ n → P u → 1 ≤ mark_of w u) → Adds n w w m count count P
  adds_none f = record {
    size = refl;
    order = a.order;
    grown = grown-none (marks_of w count) m;
    only = λ u l e y. absurd (omega arith);
    complete = f;
  }

  -- where the walk goes on
  pub adds_on : {v : List ℕ} {most : ℕ} {P : ℕ → Type 0} → Adds n w v m count most P → AddsPre n v m most
  adds_on b =
      record {
        small = a.small;
        room = (let r = a.room in let z = b.size in omega arith);
        order = b.order;
        some = a.some;
        fits = a.fits;
      }

  -- ---- the returns of `admit`

  pub admit-marked : {s x : ℕ} → x ≡ mark_of w s → (x ≡ 0 → ⊥) → Adds n w w m count count (One s)
  admit-marked {s} e z = adds_none (λ u l q. subst (λ (y : ℕ). 1 ≤ mark_of w y) (sym q) (omega arith))

  module _ {s x : ℕ} (l : s < 2 ^ n) (e : x ≡ mark_of w s) (z : x ≡ 0) where
    pub add-asks : (s < length w) × (s < 65_536) × (m < 70_368_744_177_664) × (count < length w) × (count < 65_536)
    add-asks =
        let c = room a.order s l (sym e ∙ z) in
        let g = a.room in
        let h = a.order.few in
        (omega arith, omega arith, a.fits, omega arith, omega arith)

    pub admit-one : {v : List ℕ} {r : ℕ} → AddPost w v s m count × (r ≡ count + 1) → Adds n w v m count r (One s)
    admit-one {v} {r} (d, er) =
        let c : suc count ≡ r = omega arith in
        subst (λ (y : ℕ). Adds n w v m count y (One s)) c (record {
          size = d.size;
          order = added-listed a.order s l (sym e ∙ z) d.added a.some;
          grown = grown-one (sym e ∙ z) d.added;
          only = λ u lu b y. by_cases (ℕ_discrete u s) (λ q. q) (λ q. let o = d.added.others u q in absurd (omega arith));
          complete = λ u lu q. let y : mark_of v u ≡ m = ap (mark_of v) q ∙ d.added.mark in let o = a.some in omega arith;
        })

-- no mark is lost
pub grown-marks : (w v : List ℕ) {c d m : ℕ} → Grown (marks_of w c) (marks_of v d) m → (u : ℕ) → 1 ≤ mark_of w u → 1 ≤ mark_of v u
grown-marks w v g u l = let k = g.kept u l in omega arith

-- the same told of another set
pub adds_as : {n : ℕ} {w v : List ℕ} {m count most : ℕ} {P Q : ℕ → Type 0} → Adds n w v m count most P
    → ((u : ℕ) → u < 2 ^ n → P u → Q u) → ((u : ℕ) → u < 2 ^ n → Q u → (1 ≤ mark_of w u) ⊎ P u) → Adds n w v m count most Q
adds_as {n} {w} {v} {P = P} a f g = record {
  size = a.size;
  order = a.order;
  grown = a.grown;
  only = λ u l e y. f u l (a.only u l e y);
  complete = λ u l q. from u l (g u l q);
}
  where
    from : (u : ℕ) → u < 2 ^ n → (1 ≤ mark_of w u) ⊎ P u → 1 ≤ mark_of v u
    from u l (inl y) = grown-marks w v a.grown u y
    from u l (inr p) = a.complete u l p

-- one part after the other
pub adds_then : {n : ℕ} {w v z : List ℕ} {m count more most : ℕ} {P Q : ℕ → Type 0} → Adds n w v m count more P
    → Adds n v z m more most Q → Adds n w z m count most (λ u. P u ⊎ Q u)
adds_then {n} {w} {v} {z} {P = P} {Q} E F = record {
  size = F.size ∙ E.size;
  order = F.order;
  grown = grown-more E.grown F.grown (λ i l. (E.order.listed i l).1);
  only = λ u l e y. by_cases (dec_le 1 (mark_of v u)) (λ g. inl (E.only u l e g)) (λ g. inr (F.only u l (omega arith) y));
  complete = from;
}
  where
    from : (u : ℕ) → u < 2 ^ n → P u ⊎ Q u → 1 ≤ mark_of z u
    from u l (inl p) = grown-marks v z F.grown u (E.complete u l p)
    from u l (inr q) = F.complete u l q

-- ---- the loop of `add_all`

-- the bits of a mask below j
abbrev pub Below : ℕ → ℕ → ℕ → ℕ → ℕ → Type 0
Below low s mask j u = (u / 2 ^ low < j) × InMask low s mask u

odd-bit : (j mask : ℕ) → bit j mask ≡ true → mask / 2 ^ j % 2 ≡ 1
odd-bit j mask y = by_cases (ℕ_discrete (mask / 2 ^ j % 2) 1) (λ q. q)
    (λ o. let z : mask / 2 ^ j % 2 ≡ 0 = omega arith in absurd (true≢false (sym y ∙ ap (λ (c : ℕ). eqb c 1) z)))

pub below-start : {n : ℕ} {w : List ℕ} {m count : ℕ} → AddsPre n w m count → (low s mask : ℕ)
    → Adds n w w m count count (Below low s mask 0)
below-start a low s mask = adds_none a (λ u l q. absurd (let y = q.0 in omega arith))

pub below_next : {n : ℕ} (low s mask j : ℕ) {left : ℕ} {w v z : List ℕ} {m count most more : ℕ} → s < 2 ^ low → left ≡ mask / 2 ^ j
    → Adds n w v m count most (Below low s mask j) → Adds n v z m most more (AtBit low s left j)
    → Adds n w z m count more (Below low s mask (j + 1))
below_next {n} low s mask j {left} ls e b c = adds_as (adds_then b c) to (λ u l q. inr (from u q))
  where
    to : (u : ℕ) → u < 2 ^ n → Below low s mask j u ⊎ AtBit low s left j u → Below low s mask (j + 1) u
    to u l (inl q) = (let y = q.0 in omega arith, q.1)
    to u l (inr (o, q)) =
        let place : u / 2 ^ low ≡ j = ap (λ (y : ℕ). y / 2 ^ low) q ∙ state-place low s j ls in
        let word : u % 2 ^ low ≡ s = ap (λ (y : ℕ). y % 2 ^ low) q ∙ state_word low s j ls in
        let is : mask / 2 ^ j % 2 ≡ 1 = ap (λ (y : ℕ). y % 2) (sym e) ∙ o in
        (omega arith, (word, ap (λ (y : ℕ). bit y mask) place ∙ ap (λ (y : ℕ). eqb y 1) is))

    from : (u : ℕ) → Below low s mask (j + 1) u → Below low s mask j u ⊎ AtBit low s left j u
    from u (l, q) = by_cases (dec_lt (u / 2 ^ low) j) (λ h. inl (h, q)) (λ h.
        let y : u / 2 ^ low ≡ j = omega arith in
        inr (ap (λ (c : ℕ). c % 2) e ∙ odd-bit j mask (ap (λ (c : ℕ). bit c mask) (sym y) ∙ q.1), state_of low u q.0 y))

pub below_end : {n : ℕ} (low s mask j : ℕ) {w v : List ℕ} {m count most : ℕ} → Adds n w v m count most (Below low s mask j)
    → mask / 2 ^ j ≡ 0
    → Adds n w v m count most (InMask low s mask)
below_end low s mask j b e = adds_as b (λ u l q. q.1) (λ u l q. inr (below (u / 2 ^ low) q.1, q))
  where
    below : (c : ℕ) → bit c mask ≡ true → c < j
    below c y = by_cases (dec_lt c j) (λ l. l) (λ l.
        let d : c ≡ j + (c - j) = omega arith in
        let z : mask / 2 ^ c ≡ mask / 2 ^ j / 2 ^ (c - j) = ap (λ (g : ℕ). mask / 2 ^ g) d ∙ sym (shr-shr mask j (c - j)) in
        let o : mask / 2 ^ c ≡ 0 = z ∙ ap (λ (g : ℕ). g / 2 ^ (c - j)) e ∙ zero_shr (c - j) in
        absurd (true≢false (sym y ∙ ap (λ (g : ℕ). eqb (g % 2) 1) o)))
      where
        zero_shr : (c : ℕ) → 0 / 2 ^ c ≡ 0
        zero_shr c = let f = shr_le 0 c in omega arith

-- a word has 64 bits
pub bit_below : (mask j left : ℕ) → mask < 18_446_744_073_709_551_616 → left ≡ mask / 2 ^ j → (left ≡ 0 → ⊥) → j < 64
bit_below mask j left l e z = by_cases (dec_lt j 64) (λ y. y) (λ y.
    let m : 2 ^ 64 ≤ 2 ^ (0 + j) = pow_mono {i = 64} {j = 0 + j} (let q : 0 + j ≡ j = omega arith in omega arith) in
    let s : mask / 2 ^ j < 2 ^ 0 = shr_lt 0 j (omega arith) in
    absurd (z (let o : 2 ^ 0 ≡ 1 = refl in omega arith)))

pub half-next : (mask j left : ℕ) → left ≡ mask / 2 ^ j → left / 2 ≡ mask / 2 ^ (j + 1)
half-next mask j left e = ap (λ (y : ℕ). y / 2) e ∙ shr-shr mask j 1
