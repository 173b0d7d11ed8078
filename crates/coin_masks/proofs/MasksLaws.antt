-- Laws of what specs/Masks.antt defines. Assumes nothing.
use mathlib.Core.Path.{◌≡◌, refl, sym, ap, ◌∙◌, subst}
use mathlib.Core.Logic.{◌≢◌, by_cases}
use mathlib.Core.Bool.{Bool, true, false, cond, ◌&&◌, ◌||◌, true≢false}
use mathlib.Core.List.{List}
use Prim.Native.Nat.{ℕ, zero, suc, ◌+◌, ◌-◌, ◌*◌, ◌/◌, ◌%◌, ◌^◌, ◌≤◌, ◌<◌}
use native.Mathlib.Nat.{one-mul, mod-lt, mod-eq_of_lt, zero-div, div-eq_of_lt}
use native.Mathlib.Decide.{ℕ_discrete, dec_lt}
use native.Mathlib.Omega.{arith}
use lib.Bits.{bit_and, bit_or, bit_xor}
use lib.Dec.{eqb}
use lib.ListN.{length, get_or, set, length-set}
use lib.Pow.{pow_pos, pow-add, pow_mono, shl-shr, shr-shr, shr_lt, split, high}
use lib.Seq.{get_or-set_same, get_or-set_other}
use Rattle.mucalculus.specs.Means.{bit}
use Rattle.layout.specs.Places.{BITS}
use Rattle.layout.specs.View.{View}
use Rattle.layout.specs.Arrows.{is_row}
use Rattle.diagram.proofs.Den.{den-zero, den-one}
use Rattle.rows.specs.Used.{rows_of}
use Rattle.rows.specs.Mark.{depth}
use Rattle.book.specs.States.{pair_val}
use Rattle.seek.specs.Walk.{HoldsPre, holds_at}
use Rattle.seek.specs.Apart.{level_at, Followed}
use Rattle.seek.proofs.Walk.{even-level, odd-level}
use Rattle.coin_masks.specs.Masks.{column_of, Chosen, Lower, Upper, LeadsTo, Mask, Masked, MaskPre, MaskPost}
use Rattle.coin_masks.proofs.Bits.{either, bit-and, bit-or, bit_xor_lem, bit-above, bit-all, column-has}
use Rattle.coin_masks.proofs.ReadsLaws.{reads_high, row-level, level-later}

pub no-bit : (j : ℕ) → bit j 0 ≡ false
no-bit j = let q : 0 / 2 ^ j ≡ 0 = zero-div (2 ^ j) in ap (λ (y : ℕ). eqb (y % 2) 1) q

-- a word that is not 0 has a bit
pub some-bit : (n g : ℕ) → g < 2 ^ n → (g ≡ 0 → ⊥) → (j : ℕ) × (j < n) × (bit j g ≡ true)
some-bit zero g l z = let o : 2 ^ 0 ≡ 1 = refl in absurd (z (omega arith))
some-bit (suc n) g l z = by_cases (ℕ_discrete (g % 2) 1)
    (λ o. (
      0,
      omega arith,
      (let q : g / 2 ^ 0 ≡ g = (let u : 2 ^ 0 ≡ 1 = refl in ap (λ (y : ℕ). g / y) u ∙ omega arith) in
          ap (λ (y : ℕ). eqb (y % 2) 1) q ∙ ap (λ (y : ℕ). eqb y 1) o),
    ))
    (λ o. go (some-bit n (g / 2) (half n g l) (λ e. z (omega arith))))
  where
    half : (n g : ℕ) → g < 2 ^ suc n → g / 2 < 2 ^ n
    half n g l = let e : suc n ≡ n + 1 = omega arith in let q : g < 2 ^ (n + 1) = subst (λ (y : ℕ). g < 2 ^ y) e l in shr_lt n 1 q

    go : (j : ℕ) × (j < n) × (bit j (g / 2) ≡ true) → (j : ℕ) × (j < suc n) × (bit j g ≡ true)
    go (j, h, b) = (
      suc j,
      omega arith,
      (let e : 1 + j ≡ suc j = omega arith in
          let q : g / 2 / 2 ^ j ≡ g / 2 ^ suc j = shr-shr g 1 j ∙ ap (λ (y : ℕ). g / 2 ^ y) e in
          ap (λ (y : ℕ). eqb (y % 2) 1) (sym q) ∙ b),
    )

-- a number with bit p is at least 2^p
pub at_least : (p u : ℕ) → bit p u ≡ true → 2 ^ p ≤ u
at_least p u e = by_cases (dec_lt u (2 ^ p))
    (λ l. let q : u / 2 ^ p ≡ 0 = div-eq_of_lt l in absurd (true≢false (sym e ∙ ap (λ (y : ℕ). eqb (y % 2) 1) q))) (λ n. omega arith)

pub or-true : (x : Bool) {y : Bool} → y ≡ true → (x || y) ≡ true
or-true true e = refl
or-true false e = e

pub bit-one : (p u : ℕ) → bit p u ≡ true → u / 2 ^ p % 2 ≡ 1
bit-one p u e = by_cases (ℕ_discrete (u / 2 ^ p % 2) 1) (λ q. q)
    (λ n. let z : u / 2 ^ p % 2 ≡ 0 = omega arith in absurd (true≢false (sym e ∙ ap (λ (x : ℕ). eqb x 1) z)))

-- ---- the goals of both sides of a bit

-- a word has 64 bits
pub word_bit : (j x : ℕ) → x < 18_446_744_073_709_551_616 → bit j x ≡ true → j < 64
word_bit j x l e = by_cases (dec_lt j 64) (λ y. y) (λ n.
    let m : 2 ^ 64 ≤ 2 ^ j = pow_mono {i = 64} {j = j} (omega arith) in
    let a = at_least j x e in
    absurd (omega arith))

pub and-true : (x y : Bool) → (x && y) ≡ true → (x ≡ true) × (y ≡ true)
and-true true true e = (refl, refl)
and-true true false e = absurd (true≢false (sym e))
and-true false y e = absurd (true≢false (sym e))

module _ (k goals : ℕ) {c : ℕ} (l : k < 6) (ec : c ≡ column_of k) where
  column-bit : (j : ℕ) → j < 64 → bit j c ≡ bit k j
  column-bit j h = ap (bit j) ec ∙ column-has k l j h

  pub lower-is : Lower k goals (bit_xor goals (bit_and goals c))
  lower-is = record {
    from = λ j h e. from (bit j goals) (bit k j) (sym (cell j h) ∙ e);
    has = λ j h a b. cell j h ∙ ap (λ (y : Bool). either (bit j goals) (bit j goals && y)) a
        ∙ ap (λ (y : Bool). either y (y && false)) b;
  }
    where
      cell : (j : ℕ) → j < 64 → bit j (bit_xor goals (bit_and goals c)) ≡ either (bit j goals) (bit j goals && bit k j)
      cell j h =
          bit_xor_lem j goals (bit_and goals c)
          ∙ ap (either (bit j goals)) (bit-and j goals c ∙ ap (λ (y : Bool). bit j goals && y) (column-bit j h))

      from : (x y : Bool) → either x (x && y) ≡ true → (y ≡ false) × (x ≡ true)
      from true true e = absurd (true≢false (sym e))
      from true false e = (refl, refl)
      from false y e = absurd (true≢false (sym e))

  pub upper_is : {e : ℕ} → e ≡ 2 ^ k → goals < 18_446_744_073_709_551_616 → Upper k goals (bit_and goals c / 2 ^ e)
  upper_is {e} ee lg = record {
    from = λ j h b.
        let (g, d) = and-true (bit (j + 2 ^ k) goals) (bit (j + 2 ^ k) c) (sym (bit-and (j + 2 ^ k) goals c) ∙ sym (moved j) ∙ b) in
        let t = word_bit (j + 2 ^ k) goals lg g in
        (t, sym (column-bit (j + 2 ^ k) t) ∙ d, g);
    has = λ j h b g.
        moved j ∙ bit-and (j + 2 ^ k) goals c ∙ ap (λ (y : Bool). y && bit (j + 2 ^ k) c) g ∙ column-bit (j + 2 ^ k) h ∙ b;
  }
    where
      moved : (j : ℕ) → bit j (bit_and goals c / 2 ^ e) ≡ bit (j + 2 ^ k) (bit_and goals c)
      moved j =
          let d : e + j ≡ j + 2 ^ k = omega arith in
          ap (λ (y : ℕ). eqb (y % 2) 1) (shr-shr (bit_and goals c) e j ∙ ap (λ (y : ℕ). bit_and goals c / 2 ^ y) d)

-- the shift by 2^k
pub shift-few : (k : ℕ) → k < 6 → (1 * 2 ^ k % 4_294_967_296 ≡ 2 ^ k) × (2 ^ k < 64)
shift-few k l =
    let most : 2 ^ k ≤ 2 ^ 5 = pow_mono {i = k} {j = 5} (omega arith) in
    let e : 1 * 2 ^ k ≡ 2 ^ k = one-mul (2 ^ k) in
    let small : 2 ^ k % 4_294_967_296 ≡ 2 ^ k = mod-eq_of_lt (omega arith) in
    (ap (λ (x : ℕ). x % 4_294_967_296) e ∙ small, omega arith)

-- ---- the bits of the 64 states

module _ (low : ℕ) where
  -- one of the six
  pub bit_six_of : (p i : ℕ) → low ≤ p → bit p (i * 2 ^ low) ≡ bit (p - low) i
  bit_six_of p i l = bit-above low p (i * 2 ^ low) l ∙ ap (bit (p - low)) (shl-shr i low)

  -- a lower one is 0
  pub bit-lower : (p i : ℕ) → p < low → bit p (i * 2 ^ low) ≡ false
  bit-lower p i l =
      let d : suc (low - suc p) + p ≡ low = omega arith in
      let e : 2 ^ low ≡ 2 ^ suc (low - suc p) * 2 ^ p = ap (λ (y : ℕ). 2 ^ y) (sym d) ∙ pow-add 2 (suc (low - suc p)) p in
      let c : suc (low - suc p) ≡ (low - suc p) + 1 = omega arith in
      let r : 2 ^ suc (low - suc p) ≡ 2 ^ (low - suc p) * 2 = ap (λ (y : ℕ). 2 ^ y) c ∙ pow-add 2 (low - suc p) 1 in
      let f : i * 2 ^ low ≡ (i * 2 ^ (low - suc p)) * 2 * 2 ^ p =
      parts i (2 ^ low) (2 ^ suc (low - suc p)) (2 ^ (low - suc p)) (2 ^ p) e r in
      let q : i * 2 ^ low / 2 ^ p ≡ i * 2 ^ (low - suc p) * 2 = ap (λ (y : ℕ). y / 2 ^ p) f ∙ shl-shr (i * 2 ^ (low - suc p) * 2) p in
      off (i * 2 ^ low / 2 ^ p) (i * 2 ^ (low - suc p)) q
    where
      parts : (i a b c d : ℕ) → a ≡ b * d → b ≡ c * 2 → i * a ≡ i * c * 2 * d
      parts i a b c d e f = ap (λ (y : ℕ). i * y) (e ∙ ap (λ (y : ℕ). y * d) f) ∙ ring
        where
          ring : i * (c * 2 * d) ≡ i * c * 2 * d
          ring = omega arith

      off : (x h : ℕ) → x ≡ h * 2 → eqb (x % 2) 1 ≡ false
      off x h e = let z : x % 2 ≡ 0 = omega arith in ap (λ (y : ℕ). eqb y 1) z

  -- a higher one too
  pub bit_higher : (p i : ℕ) → low ≤ p → 5 < p - low → i < 64 → bit p (i * 2 ^ low) ≡ false
  bit_higher p i l h s =
      let m : 2 ^ 6 ≤ 2 ^ (0 + (p - low)) =
      pow_mono {i = 6} {j = 0 + (p - low)} (let q : 0 + (p - low) ≡ p - low = omega arith in omega arith) in
      let q : i / 2 ^ (p - low) < 2 ^ 0 = shr_lt 0 (p - low) (omega arith) in
      let z : i / 2 ^ (p - low) ≡ 0 = (let o : 2 ^ 0 ≡ 1 = refl in omega arith) in
      bit_six_of p i l ∙ ap (λ (y : ℕ). eqb (y % 2) 1) z

-- a bit that is 1 taken away changes nothing above it
pub above : (low k j q : ℕ) → bit k (j + 2 ^ k) ≡ true → low + k < q → j * 2 ^ low / 2 ^ q ≡ (j + 2 ^ k) * 2 ^ low / 2 ^ q
above low k j q b l = part j ∙ next ∙ sym (part (j + 2 ^ k))
  where
    -- as the bits from low + k on
    part : (i : ℕ) → i * 2 ^ low / 2 ^ q ≡ i / 2 ^ k / 2 ^ 1 / 2 ^ (q - low - k - 1)
    part i =
        let a : low + (k + (1 + (q - low - k - 1))) ≡ q = omega arith in
        ap (λ (y : ℕ). i * 2 ^ low / 2 ^ y) (sym a) ∙ sym (shr-shr (i * 2 ^ low) low (k + (1 + (q - low - k - 1))))
        ∙ ap (λ (y : ℕ). y / 2 ^ (k + (1 + (q - low - k - 1)))) (shl-shr i low)
        ∙ sym (shr-shr i k (1 + (q - low - k - 1))) ∙ sym (shr-shr (i / 2 ^ k) 1 (q - low - k - 1))

    one : (j + 2 ^ k) / 2 ^ k ≡ j / 2 ^ k + 1
    one =
        let e = split j k in
        let f : (j / 2 ^ k + 1) * 2 ^ k ≡ j / 2 ^ k * 2 ^ k + 2 ^ k = grows (j / 2 ^ k) (2 ^ k) in
        let d : j + 2 ^ k ≡ (j / 2 ^ k + 1) * 2 ^ k + j % 2 ^ k = omega arith in
        ap (λ (y : ℕ). y / 2 ^ k) d ∙ high (j / 2 ^ k + 1) k (mod-lt j (pow_pos k))
      where
        grows : (a b : ℕ) → (a + 1) * b ≡ a * b + b
        grows a b = omega arith

    next : j / 2 ^ k / 2 ^ 1 / 2 ^ (q - low - k - 1) ≡ (j + 2 ^ k) / 2 ^ k / 2 ^ 1 / 2 ^ (q - low - k - 1)
    next =
        let o = one in
        let d = bit-one k (j + 2 ^ k) b in
        let u : 2 ^ 1 ≡ 2 = refl in
        let h : j / 2 ^ k / 2 ≡ (j + 2 ^ k) / 2 ^ k / 2 = omega arith in
        ap (λ (y : ℕ). y / 2 ^ (q - low - k - 1)) h

-- ---- the steps of `leading`

pub zero-below : {low : ℕ} (level : ℕ) → level / 2 < low → (i : ℕ) → i < 64 → bit (level / 2) (i * 2 ^ low) ≡ false
zero-below {low} level l i _ = bit-lower low (level / 2) i l

pub zero-above : {low : ℕ} (level : ℕ) → low ≤ level / 2 → 5 < level / 2 - low → (i : ℕ) → i < 64 → bit (level / 2) (i * 2 ^ low) ≡ false
zero-above {low} level l h i s = bit_higher low (level / 2) i l h s

module _ {W : View} {low level x : ℕ} where
  -- a bit that is 0 in all of the 64
  pub mask-zero : {y g r : ℕ} {N M : List ℕ} → Followed W x level false y
      → ((i : ℕ) → i < 64 → bit (level / 2) (i * 2 ^ low) ≡ false) → MaskPost W low y g N M r → MaskPost W low x g N M r
  mask-zero {y} {g} {r} f z d = record {
    is = record {
      only = λ i l b. let t = d.is.only i l b in
          record { goal = t.goal; below = t.below; is = t.is; step = sym (same i t.goal l t.below) ∙ t.step };
      has = λ i l t. d.is.has i l
          (record { goal = t.goal; below = t.below; is = t.is; step = same i t.goal l t.below ∙ t.step });
    };
    masked = d.masked;
    beside = d.beside;
  }
    where
      same : (i j : ℕ) → i < 64 → j < 64 → holds_at W y (i * 2 ^ low) (j * 2 ^ low) ≡ holds_at W x (i * 2 ^ low) (j * 2 ^ low)
      same i j li lj = f.same (i * 2 ^ low) (j * 2 ^ low) (by_cases (ℕ_discrete (level % 2) 0)
          (λ e. sym (even-level (i * 2 ^ low) (j * 2 ^ low) level e) ∙ z i li)
          (λ e. sym (odd-level (i * 2 ^ low) (j * 2 ^ low) level e) ∙ z j lj))

  module _ {y z : ℕ} (f : Followed W x level false y) (g : Followed W x level true z) (l : low ≤ level / 2) where
    -- a current bit: that of each state
    pub mask-now : {goals a b r : ℕ} {N M O : List ℕ} → level % 2 ≡ 0 → MaskPost W low y goals N M a → MaskPost W low z goals M O b
        → Chosen (level / 2 - low) a b r → MaskPost W low x goals N O r
    mask-now {goals} {a} {b} {r} e c d o = record {
      is = record {
        only = λ i li h. only i li h (bit (level / 2 - low) i) refl;
        has = λ i li t. has i li t (bit (level / 2 - low) i) refl;
      };
      masked = d.masked;
      beside = λ i li. d.beside i li ∙ c.beside i li;
    }
      where
        at : (i j : ℕ) → pair_val (i * 2 ^ low) (j * 2 ^ low) level ≡ bit (level / 2 - low) i
        at i j = sym (even-level (i * 2 ^ low) (j * 2 ^ low) level e) ∙ bit_six_of low (level / 2) i l

        cell : (i : ℕ) → i < 64 → (k : Bool) → bit (level / 2 - low) i ≡ k → bit i r ≡ cond k (bit i b) (bit i a)
        cell i li k q = o.cells i li ∙ ap (λ (v : Bool). cond v (bit i b) (bit i a)) q

        only : (i : ℕ) → i < 64 → bit i r ≡ true → (k : Bool) → bit (level / 2 - low) i ≡ k → LeadsTo W low x goals i
        only i li h true q = let t = d.is.only i li (sym (cell i li true q) ∙ h) in
            record {
              goal = t.goal;
              below = t.below;
              is = t.is;
              step = sym (g.same (i * 2 ^ low) (t.goal * 2 ^ low) (at i t.goal ∙ q)) ∙ t.step;
            }
        only i li h false q = let t = c.is.only i li (sym (cell i li false q) ∙ h) in
            record {
              goal = t.goal;
              below = t.below;
              is = t.is;
              step = sym (f.same (i * 2 ^ low) (t.goal * 2 ^ low) (at i t.goal ∙ q)) ∙ t.step;
            }

        has : (i : ℕ) → i < 64 → LeadsTo W low x goals i → (k : Bool) → bit (level / 2 - low) i ≡ k → bit i r ≡ true
        has i li t true q = cell i li true q ∙ d.is.has i li (record {
          goal = t.goal;
          below = t.below;
          is = t.is;
          step = g.same (i * 2 ^ low) (t.goal * 2 ^ low) (at i t.goal ∙ q) ∙ t.step;
        })
        has i li t false q = cell i li false q ∙ c.is.has i li (record {
          goal = t.goal;
          below = t.below;
          is = t.is;
          step = f.same (i * 2 ^ low) (t.goal * 2 ^ low) (at i t.goal ∙ q) ∙ t.step;
        })

    -- a next bit: that of each goal; behind it the arrow reads this bit no more
    module _ (h : HoldsPre W x) (r : is_row x ≡ true) (el : level ≡ level_at W x) (odd : level % 2 ≡ 0 → ⊥) where
      at_next : (i j : ℕ) → pair_val (i * 2 ^ low) (j * 2 ^ low) level ≡ bit (level / 2 - low) j
      at_next i j = sym (odd-level (i * 2 ^ low) (j * 2 ^ low) level odd) ∙ bit_six_of low (level / 2) j l

      -- z reads no bit up to this one
      shifted : (i j : ℕ) → bit (level / 2 - low) (j + 2 ^ (level / 2 - low)) ≡ true
          → holds_at W z (i * 2 ^ low) (j * 2 ^ low) ≡ holds_at W x (i * 2 ^ low) ((j + 2 ^ (level / 2 - low)) * 2 ^ low)
      shifted i j b =
          reads_high W z g.pre (i * 2 ^ low) (j * 2 ^ low) ((j + 2 ^ (level / 2 - low)) * 2 ^ low) agree
          ∙ g.same (i * 2 ^ low) ((j + 2 ^ (level / 2 - low)) * 2 ^ low) (at_next i (j + 2 ^ (level / 2 - low)) ∙ b)
        where
          later : level < level_at W z
          later = let m = row-level W x h r in level-later g h (omega arith) (omega arith)

          agree : j * 2 ^ low / 2 ^ (level_at W z / 2) ≡ (j + 2 ^ (level / 2 - low)) * 2 ^ low / 2 ^ (level_at W z / 2)
          agree = above low (level / 2 - low) j (level_at W z / 2) b (let m = later in omega arith)

      pub mask_next : {goals first second a b : ℕ} {N M O : List ℕ} → Lower (level / 2 - low) goals first
          → Upper (level / 2 - low) goals second → MaskPost W low y first N M a → MaskPost W low z second M O b
          → MaskPost W low x goals N O (bit_or a b)
      mask_next {goals} {first} {second} {a} {b} p q c d = record {
        is = record {
          only = λ i li e. only i li (bit i a) refl (sym (bit-or i a b) ∙ e);
          has = λ i li t. bit-or i a b ∙ has i li t (bit (level / 2 - low) t.goal) refl;
        };
        masked = d.masked;
        beside = λ i li. d.beside i li ∙ c.beside i li;
      }
        where
          only : (i : ℕ) → i < 64 → (v : Bool) → bit i a ≡ v → (v || bit i b) ≡ true → LeadsTo W low x goals i
          only i li true ea _ =
              let t = c.is.only i li ea in
              let (zero_bit, goal) = p.from t.goal t.below t.is in
              record {
                goal = t.goal;
                below = t.below;
                is = goal;
                step = sym (f.same (i * 2 ^ low) (t.goal * 2 ^ low) (at_next i t.goal ∙ zero_bit)) ∙ t.step;
              }
          only i li false ea eb =
              let t = d.is.only i li eb in
              let (below, one_bit, goal) = q.from t.goal t.below t.is in
              record {
                goal = t.goal + 2 ^ (level / 2 - low);
                below = below;
                is = goal;
                step = sym (shifted i t.goal one_bit) ∙ t.step;
              }

          has : (i : ℕ) → i < 64 → (t : LeadsTo W low x goals i) → (v : Bool) → bit (level / 2 - low) t.goal ≡ v
              → (bit i a || bit i b) ≡ true
          has i li t false e =
              ap (λ (v : Bool). v || bit i b) (c.is.has i li (record {
                goal = t.goal;
                below = t.below;
                is = p.has t.goal t.below e t.is;
                step = f.same (i * 2 ^ low) (t.goal * 2 ^ low) (at_next i t.goal ∙ e) ∙ t.step;
              }))
          has i li t true e =
              let least = at_least (level / 2 - low) t.goal e in
              let j : ℕ = t.goal - 2 ^ (level / 2 - low) in
              let same : t.goal ≡ j + 2 ^ (level / 2 - low) = omega arith in
              let one_bit : bit (level / 2 - low) (j + 2 ^ (level / 2 - low)) ≡ true = ap (bit (level / 2 - low)) (sym same) ∙ e in
              let below : j + 2 ^ (level / 2 - low) < 64 = (let u = t.below in omega arith) in
              or-true (bit i a) (d.is.has i li (record {
                goal = j;
                below = omega arith;
                is = q.has j below one_bit (ap (λ (v : ℕ). bit v goals) (sym same) ∙ t.is);
                step = shifted i j one_bit ∙ ap (λ (v : ℕ). holds_at W x (i * 2 ^ low) (v * 2 ^ low)) (sym same) ∙ t.step;
              }))

-- so the arrow that is followed is one nearer the end
pub leading-asks : {W : View} {low level x y d : ℕ} {side : Bool} {M : List ℕ} → Followed W x level side y → HoldsPre W x → is_row x ≡ true
    → low ≤ 10 → Masked W low M → level ≡ level_at W x → 2 * depth W x ≡ d → (2 * depth W y + 1 < d) × MaskPre W low y M
leading-asks {W} {x = x} f h r l m e q =
    let b = row-level W x h r in
    let g = f.less (λ z. omega arith) e in
    (omega arith, record { arrow = f.pre; small = l; masked = m })

-- ---- the returns of `mask_of`

module _ {W : View} {low x goals : ℕ} {N : List ℕ} (a : MaskPre W low x N) where
  kept-all : {r : ℕ} → Mask W low x goals r → MaskPost W low x goals N N r
  kept-all m = record { is = m; masked = a.masked; beside = λ i l. refl }

  pub mask-nothing : x ≡ 0 → MaskPost W low x goals N N 0
  mask-nothing e = kept-all (record {
    only = λ i l b. absurd (true≢false (sym b ∙ no-bit i));
    has = λ i l t. absurd (true≢false (sym t.step ∙ ap (λ (y : ℕ). holds_at W y (i * 2 ^ low) (t.goal * 2 ^ low)) e
        ∙ den-zero (2 * W.header BITS) (rows_of W) (pair_val (i * 2 ^ low) (t.goal * 2 ^ low))));
  })

  pub mask-none : goals ≡ 0 → MaskPost W low x goals N N 0
  mask-none e = kept-all (record {
    only = λ i l b. absurd (true≢false (sym b ∙ no-bit i));
    has = λ i l t. absurd (true≢false (sym t.is ∙ ap (bit t.goal) e ∙ no-bit t.goal));
  })

  pub mask-every : x ≡ 1 → (goals ≡ 0 → ⊥) → goals < 18_446_744_073_709_551_616 → MaskPost W low x goals N N 18_446_744_073_709_551_615
  mask-every e z l = kept-all (record {
    only = λ i li b. let (j, lj, ej) = some-bit 64 goals l z in record {
      goal = j;
      below = lj;
      is = ej;
      step = ap (λ (y : ℕ). holds_at W y (i * 2 ^ low) (j * 2 ^ low)) e
          ∙ den-one (2 * W.header BITS) (rows_of W) (pair_val (i * 2 ^ low) (j * 2 ^ low));
    };
    has = λ i li t. bit-all i li;
  })

  -- it was remembered
  pub mask-met : (i : ℕ) → i < 409 → get_or N (6_138 + i) 0 ≡ x → get_or N (6_547 + i) 0 ≡ goals
      → MaskPost W low x goals N N (get_or N (6_956 + i) 0)
  mask-met i l ex eg = kept-all (subst (λ (y : ℕ). Mask W low y goals (get_or N (6_956 + i) 0)) ex
      (subst (λ (y : ℕ). Mask W low (get_or N (6_138 + i) 0) y (get_or N (6_956 + i) 0)) eg (a.masked.holds i l)))

-- an arrow that is none of the two constants leads to a row
pub row_of : (x : ℕ) → (x ≡ 0 → ⊥) → (x ≡ 1 → ⊥) → is_row x ≡ true
unfolding is_row
row_of zero a b = absurd (a refl)
row_of (suc zero) a b = absurd (b refl)
row_of (suc (suc x)) a b = refl

-- the words with one more mask
abbrev kept : List ℕ → ℕ → ℕ → ℕ → ℕ → List ℕ
kept N i x goals mask = set (set (set N (6_138 + i) x) (6_547 + i) goals) (6_956 + i) mask

module _ {W : View} {low : ℕ} {N : List ℕ} (m : Masked W low N) (i x goals mask : ℕ) (l : i < 409) (c : Mask W low x goals mask) where
  kept-other : (j : ℕ) → j ≢ 6_138 + i → j ≢ 6_547 + i → j ≢ 6_956 + i → get_or (kept N i x goals mask) j 0 ≡ get_or N j 0
  kept-other j a b d =
      get_or-set_other (set (set N (6_138 + i) x) (6_547 + i) goals) (6_956 + i) j mask 0 d
      ∙ get_or-set_other (set N (6_138 + i) x) (6_547 + i) j goals 0 b ∙ get_or-set_other N (6_138 + i) j x 0 a

  first-size : length (set N (6_138 + i) x) ≡ 7_365
  first-size = length-set N (6_138 + i) x ∙ m.size

  second-size : length (set (set N (6_138 + i) x) (6_547 + i) goals) ≡ 7_365
  second-size = length-set (set N (6_138 + i) x) (6_547 + i) goals ∙ first-size

  kept-arrow : get_or (kept N i x goals mask) (6_138 + i) 0 ≡ x
  kept-arrow =
      get_or-set_other (set (set N (6_138 + i) x) (6_547 + i) goals) (6_956 + i) (6_138 + i) mask 0 (λ e. omega arith)
      ∙ get_or-set_other (set N (6_138 + i) x) (6_547 + i) (6_138 + i) goals 0 (λ e. omega arith)
      ∙ get_or-set_same N (6_138 + i) x 0 (let z = m.size in omega arith)

  kept-goals : get_or (kept N i x goals mask) (6_547 + i) 0 ≡ goals
  kept-goals =
      get_or-set_other (set (set N (6_138 + i) x) (6_547 + i) goals) (6_956 + i) (6_547 + i) mask 0 (λ e. omega arith)
      ∙ get_or-set_same (set N (6_138 + i) x) (6_547 + i) goals 0 (let z = first-size in omega arith)

  kept-mask : get_or (kept N i x goals mask) (6_956 + i) 0 ≡ mask
  kept-mask = get_or-set_same (set (set N (6_138 + i) x) (6_547 + i) goals) (6_956 + i) mask 0 (let z = second-size in omega arith)

  -- three words that are the same
  moved : {a b d : ℕ} (a' b' d' : ℕ) → a' ≡ a → b' ≡ b → d' ≡ d → Mask W low a b d → Mask W low a' b' d'
  moved {a} {b} {d} a' b' d' ea eb ed h =
      subst (λ (y : ℕ). Mask W low y b' d') (sym ea) (subst (λ (y : ℕ). Mask W low a y d') (sym eb)
      (subst (λ (y : ℕ). Mask W low a b y) (sym ed) h))

  pub kept-masked : Masked W low (kept N i x goals mask)
  kept-masked = record {
    size = length-set (set (set N (6_138 + i) x) (6_547 + i) goals) (6_956 + i) mask ∙ second-size;
    holds = λ j lj. by_cases (ℕ_discrete j i)
        (λ q. moved (get_or (kept N i x goals mask) (6_138 + j) 0) (get_or (kept N i x goals mask) (6_547 + j) 0)
        (get_or (kept N i x goals mask) (6_956 + j) 0)
        (ap (λ (y : ℕ). get_or (kept N i x goals mask) (6_138 + y) 0) q ∙ kept-arrow)
        (ap (λ (y : ℕ). get_or (kept N i x goals mask) (6_547 + y) 0) q ∙ kept-goals)
        (ap (λ (y : ℕ). get_or (kept N i x goals mask) (6_956 + y) 0) q ∙ kept-mask) c)
        (λ n. moved (get_or (kept N i x goals mask) (6_138 + j) 0) (get_or (kept N i x goals mask) (6_547 + j) 0)
        (get_or (kept N i x goals mask) (6_956 + j) 0)
        (kept-other (6_138 + j) (λ e. n (omega arith)) (λ e. omega arith) (λ e. omega arith))
        (kept-other (6_547 + j) (λ e. omega arith) (λ e. n (omega arith)) (λ e. omega arith))
        (kept-other (6_956 + j) (λ e. omega arith) (λ e. omega arith) (λ e. n (omega arith))) (m.holds j lj));
  }

-- a new one is remembered
pub mask-kept : {W : View} {low x goals mask : ℕ} {N M O : List ℕ} (i : ℕ) → i < 409 → MaskPost W low x goals N M mask
    → O ≡ set (set (set M (6_138 + i) x) (6_547 + i) goals) (6_956 + i) mask → MaskPost W low x goals N O mask
mask-kept {W} {low} {x} {goals} {mask} {N} {M} {O} i l d e = subst (λ (L : List ℕ). MaskPost W low x goals N L mask) (sym e) (record {
  is = d.is;
  masked = kept-masked d.masked i x goals mask l d.is;
  beside = λ j lj. kept-other d.masked i x goals mask l d.is j (λ q. omega arith) (λ q. omega arith) (λ q. omega arith)
      ∙ d.beside j lj;
})

-- nothing is remembered
pub masked-start : {W : View} {low : ℕ} {N : List ℕ} → length N ≡ 7_365 → ((i : ℕ) → get_or N i 0 ≡ 0) → Masked W low N
masked-start {W} {low} {N} e z = record {
  size = e;
  holds = λ i l. record {
    only = λ j lj b. absurd (true≢false (sym b ∙ ap (bit j) (z (6_956 + i)) ∙ no-bit j));
    has = λ j lj t. absurd (true≢false (sym t.is ∙ ap (bit t.goal) (z (6_547 + i)) ∙ no-bit t.goal));
  };
}

-- other words changed
pub masked-beside : {W : View} {low : ℕ} {N M : List ℕ} → Masked W low N → length M ≡ 7_365
    → ((i : ℕ) → 6_138 ≤ i → get_or M i 0 ≡ get_or N i 0) → Masked W low M
masked-beside {W} {low} {N} {M} m e f = record {
  size = e;
  holds = λ i l.
      subst (λ (y : ℕ). Mask W low y (get_or M (6_547 + i) 0) (get_or M (6_956 + i) 0)) (sym (f (6_138 + i) (omega arith)))
      (subst (λ (y : ℕ). Mask W low (get_or N (6_138 + i) 0) y (get_or M (6_956 + i) 0)) (sym (f (6_547 + i) (omega arith)))
      (subst (λ (y : ℕ). Mask W low (get_or N (6_138 + i) 0) (get_or N (6_547 + i) 0) y) (sym (f (6_956 + i) (omega arith))) (m.holds i l)));
}
