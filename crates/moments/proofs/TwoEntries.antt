-- Two entries as one: a state that fits both has exactly the bits of both values under either mask, so these bits themselves fit both, or
-- no state does. Assumes nothing.
use mathlib.Core.Path.{◌≡◌, refl, sym, ap, ap₂, ◌∙◌, subst}
use mathlib.Core.Bool.{Bool, true, false, ◌&&◌, ◌||◌}
use mathlib.Core.List.{List}
use Prim.Native.Nat.{ℕ, zero, suc, ◌+◌, ◌*◌, ◌/◌, ◌^◌, ◌<◌}
use native.Mathlib.Nat.{pow-succ'}
use native.Mathlib.Omega.{arith}
use lib.Bits.{bit_and, bit_or, and_zero_l, and_zero_r, or_zero_l, or_comm}
use lib.Dec.{T, eqb, eqb→eq, eqb_refl}
use lib.ListN.{get_or}
use Rattle.mucalculus.proofs.Sets.{and_in, and_out, false_of}
use Rattle.mucalculus.specs.Means.{bit}
use Rattle.book.specs.States.{one}
use Rattle.logs.specs.Runs.{fits, moment_at}
use Rattle.moments.specs.Moment.{Fitless, entries, Joins}
use Rattle.moments.proofs.Cubes.{and_parts, or_parts, and-half, and-bit, or-half, or-bit}

-- ---- AND over OR, bit by bit

half_lt : (n s : ℕ) → s < 2 ^ suc n → s / 2 < 2 ^ n
half_lt n s h = let p : 2 ^ suc n ≡ 2 * 2 ^ n = pow-succ' 2 n in omega (arith, h, p)

lt-pow : (s : ℕ) → s < 2 ^ s
lt-pow zero = omega arith
lt-pow (suc s) = let p : 2 ^ suc s ≡ 2 * 2 ^ s = pow-succ' 2 s in let h = lt-pow s in omega (arith, h, p)

and-or-from : (n s m l : ℕ) → s < 2 ^ n → bit_and s (bit_or m l) ≡ bit_or (bit_and s m) (bit_and s l)
and-or-from zero s m l h =
    let e : s ≡ 0 = omega (arith, h) in
    rw e (and_zero_l (bit_or m l) ∙ sym (ap₂ bit_or (and_zero_l m) (and_zero_l l) ∙ or_zero_l 0))
and-or-from (suc n) s m l h =
    and_parts s (bit_or m l)
    ∙ ap₂ (λ (x : ℕ) (b : Bool). x * 2 + one b)
    (ap (bit_and (s / 2)) (or-half m l) ∙ and-or-from n (s / 2) (m / 2) (l / 2) (half_lt n s h))
    (ap (λ (b : Bool). bit 0 s && b) (or-bit m l) ∙ over (bit 0 s) (bit 0 m) (bit 0 l))
    ∙ sym (or_parts (bit_and s m) (bit_and s l)
    ∙ ap₂ (λ (x : ℕ) (b : Bool). x * 2 + one b) (ap₂ bit_or (and-half s m) (and-half s l)) (ap₂ ◌||◌ (and-bit s m) (and-bit s l)))
  where
    over : (b c d : Bool) → (b && (c || d)) ≡ ((b && c) || (b && d))
    over true c d = refl
    over false c d = refl

and-or : (s m l : ℕ) → bit_and s (bit_or m l) ≡ bit_or (bit_and s m) (bit_and s l)
and-or s m l = and-or-from s s m l (lt-pow s)

under_from : (n s m l : ℕ) → s < 2 ^ n → bit_and (bit_and s (bit_or m l)) m ≡ bit_and s m
under_from zero s m l h = let e : s ≡ 0 = omega (arith, h) in rw e (ap (λ (x : ℕ). bit_and x m) (and_zero_l (bit_or m l)))
under_from (suc n) s m l h =
    and_parts (bit_and s (bit_or m l)) m
    ∙ ap₂ (λ (x : ℕ) (b : Bool). x * 2 + one b)
    (ap (λ (x : ℕ). bit_and x (m / 2)) (and-half s (bit_or m l) ∙ ap (bit_and (s / 2)) (or-half m l))
    ∙ under_from n (s / 2) (m / 2) (l / 2) (half_lt n s h))
    (ap (λ (b : Bool). b && bit 0 m) (and-bit s (bit_or m l) ∙ ap (λ (b : Bool). bit 0 s && b) (or-bit m l))
    ∙ within (bit 0 s) (bit 0 m) (bit 0 l))
    ∙ sym (and_parts s m)
  where
    within : (b c d : Bool) → ((b && (c || d)) && c) ≡ (b && c)
    within true true d = refl
    within true false true = refl
    within true false false = refl
    within false c d = refl

-- the bits under both masks, of which those under one
under_one : (s m l : ℕ) → bit_and (bit_and s (bit_or m l)) m ≡ bit_and s m
under_one s m l = under_from s s m l (lt-pow s)

under_two : (s m l : ℕ) → bit_and (bit_and s (bit_or m l)) l ≡ bit_and s l
under_two s m l = ap (λ (x : ℕ). bit_and (bit_and s x) l) (or_comm m l) ∙ under_one s l m

-- ---- tests

both_ways : (a b : Bool) → (T a → T b) → (T b → T a) → a ≡ b
both_ways true true f g = refl
both_ways true false f g = absurd (f tt)
both_ways false true f g = absurd (g tt)
both_ways false false f g = refl

-- ---- two entries

pub never-fits : Fitless 0 1
never-fits = record { none = λ s. ap (λ (x : ℕ). eqb x 1) (and_zero_r s) }

module _ (m v l w : ℕ) where
  -- what a state that fits both has under either mask
  has_both : (s : ℕ) → T (fits m v s && fits l w s) → bit_and s (bit_or m l) ≡ bit_or v w
  has_both s t =
      let f = and_out (fits m v s) (fits l w s) t in
      and-or s m l ∙ ap₂ bit_or (eqb→eq (bit_and s m) v f.0) (eqb→eq (bit_and s l) w f.1)

  -- so the bits of both values fit the one entry, and the other
  one-fits : (s : ℕ) → T (fits m v s && fits l w s) → T (fits m v (bit_or v w))
  one-fits s t =
      subst (λ (x : ℕ). T (eqb (bit_and x m) v)) (has_both s t)
      (subst (λ (x : ℕ). T (eqb x v)) (sym (under_one s m l)) (and_out (fits m v s) (fits l w s) t).0)

  two_fits : (s : ℕ) → T (fits m v s && fits l w s) → T (fits l w (bit_or v w))
  two_fits s t =
      subst (λ (x : ℕ). T (eqb (bit_and x l) w)) (has_both s t)
      (subst (λ (x : ℕ). T (eqb x w)) (sym (under_two s m l)) (and_out (fits m v s) (fits l w s) t).1)

  module _ {mask value : ℕ} (g : Fitless mask value) {r : Bool} where
    -- where they do not, no state fits both
    pub joins-not-one : r ≡ fits m v (bit_or v w) → r ≡ false → Joins (entries m v l w) mask value
    joins-not-one e t = record {
      same = λ s. g.none s ∙ sym (false_of (fits m v s && fits l w s) (λ q. subst T (sym e ∙ t) (one-fits s q)));
    }

    pub joins-not-two : r ≡ fits l w (bit_or v w) → r ≡ false → Joins (entries m v l w) mask value
    joins-not-two e t = record {
      same = λ s. g.none s ∙ sym (false_of (fits m v s && fits l w s) (λ q. subst T (sym e ∙ t) (two_fits s q)));
    }

  -- where they do, they are one entry
  pub joins-both : {r q : Bool} → r ≡ fits m v (bit_or v w) → r ≡ true → q ≡ fits l w (bit_or v w) → q ≡ true
      → {mask value : ℕ} → mask ≡ bit_or m l → value ≡ bit_or v w → Joins (entries m v l w) mask value
  joins-both e t f u a b = record {
    same = λ s. ap₂ (λ (x y : ℕ). fits x y s) a b
        ∙ both_ways (fits (bit_or m l) (bit_or v w) s) (fits m v s && fits l w s) (to s)
        (λ q. subst (λ (x : ℕ). T (eqb (bit_and s (bit_or m l)) x)) (has_both s q) (eqb_refl (bit_and s (bit_or m l))));
  }
    where
      to : (s : ℕ) → T (fits (bit_or m l) (bit_or v w) s) → T (fits m v s && fits l w s)
      to s h =
          let is = eqb→eq (bit_and s (bit_or m l)) (bit_or v w) h in
          and_in (fits m v s) (fits l w s)
          (subst (λ (x : ℕ). T (eqb x v)) (ap (λ (x : ℕ). bit_and x m) (sym is) ∙ under_one s m l) (subst T (sym t ∙ e) tt))
          (subst (λ (x : ℕ). T (eqb x w)) (ap (λ (x : ℕ). bit_and x l) (sym is) ∙ under_two s m l) (subst T (sym u ∙ f) tt))

-- the entries of the lists
pub joins_at : (first second : List ℕ) (i : ℕ) {mask value : ℕ}
    → Joins (entries (get_or first (2 * i) 0) (get_or first (2 * i + 1) 0) (get_or second (2 * i) 0) (get_or second (2 * i + 1) 0)) mask value
    → Joins (moment_at first second i) mask value
joins_at first second i {mask} {value} j =
    let e : 2 * i + 1 ≡ suc (2 * i) = omega arith in
    record {
      same = λ s.
          j.same s
          ∙ ap (λ (k : ℕ). fits (get_or first (2 * i) 0) (get_or first k 0) s && fits (get_or second (2 * i) 0) (get_or second k 0) s) e;
    }
