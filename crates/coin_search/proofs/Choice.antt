-- Laws of what specs/Choice.antt defines. Assumes nothing.
use mathlib.Core.Path.{◌≡◌, refl, sym, ap, subst}
use mathlib.Core.Logic.{◌≢◌, by_cases}
use mathlib.Core.List.{List}
use Prim.Native.Nat.{ℕ, ◌+◌, ◌*◌, ◌/◌, ◌≤◌, ◌<◌}
use native.Mathlib.Decide.{ℕ_discrete}
use native.Mathlib.Omega.{arith}
use lib.Dec.{T}
use lib.ListN.{get_or}
use Rattle.coins.specs.Cost.{step_cost}
use Rattle.coins.proofs.Marks.{Least}
use Rattle.coin_search.specs.Words.{mark_of, state_at, marks_of}
use Rattle.coin_search.specs.Hall.{root_at, filled_at}
use Rattle.coin_search.proofs.Hall.{filled-below, filled_in, not-filled}
use Rattle.coin_search.specs.Choice.{key_of, NextMark, Best}

-- a mark and a step's cost are small
pub mark-small : {m y : ℕ} → y < 18_446_744_073_709_551_616 → m ≡ y / 131_072 → m < 140_737_488_355_328
mark-small l e = omega arith

pub cost-small : {c y : ℕ} → y < 256 → c ≡ y * 131_072 + 1 → c ≤ 33_423_361
cost-small l e = omega arith

module _ {H : ℕ → ℕ} {prices w : List ℕ} {r done count : ℕ} where
  pub next-empty : {x : ℕ} → x ≡ root_at H r → x ≡ 0 → NextMark H prices w r done count 0
  next-empty e z = record { none = λ _ f. absurd (not-filled H r e z f); some = λ n. absurd (n refl) }

  pub next-over : count ≤ done → NextMark H prices w r done count 0
  next-over l = record { none = λ _ _. l; some = λ n. absurd (n refl) }

  pub next-some : {x m c s : ℕ} → r < 8 → x ≡ root_at H r → (x ≡ 0 → ⊥) → done < count → s ≡ state_at w done → m ≡ mark_of w s
      → c ≡ step_cost prices r → NextMark H prices w r done count (m + c)
  next-some l e n d es em ec = record {
    none = λ z _. absurd (omega arith);
    some = λ _. (filled_in H r l e n, d, let q : mark_of w _ ≡ mark_of w (state_at w done) = ap (mark_of w) es in omega arith);
  }

module _ {H : ℕ → ℕ} {prices w done : List ℕ} {count : ℕ} where
  module _ {r best m : ℕ} (l : r < 8) (b : Best H prices w done count r best) (x : NextMark H prices w r (get_or done r 0) count m) where
    -- relation r has no more
    pub best_skip : m ≡ 0 → Best H prices w done count (r + 1) best
    best_skip z = record {
      none = λ e q lq f. by_cases (ℕ_discrete q r)
          (λ i. subst (λ (y : ℕ). count ≤ get_or done y 0) (sym i) (x.none z (subst (λ (y : ℕ). T (filled_at H y)) i f)))
          (λ n. b.none e q (omega arith) f);
      some = λ n. let (lb, fb, db, least) = b.some n in (
        lb,
        fb,
        db,
        λ q lq f d. by_cases (ℕ_discrete q r)
            (λ i. absurd
            (let c = x.none z (subst (λ (y : ℕ). T (filled_at H y)) i f) in
            let g : get_or done q 0 ≡ get_or done r 0 = ap (λ (y : ℕ). get_or done y 0) i in omega arith))
            (λ o. least q (omega arith) f d),
      );
    }

    -- it gives less than those before it
    taken : m ≢ 0
        → ((q : ℕ) → q < r → T (filled_at H q) → get_or done q 0 < count → key_of prices w r (get_or done r 0) ≤ key_of prices w q (get_or done q 0))
        → Best H prices w done count (r + 1) r
    taken n less = record {
      none = λ e. absurd (omega arith);
      some = λ _. let (f, d, k) = x.some n in (
        l,
        f,
        d,
        λ q lq g h. by_cases (ℕ_discrete q r)
            (λ i. let same : key_of prices w q (get_or done q 0)
            ≡ key_of prices w r (get_or done r 0) = ap (λ (y : ℕ). key_of prices w y (get_or done y 0)) i in omega arith)
            (λ o. less q (omega arith) g h),
      );
    }

    pub best_first : (m ≡ 0 → ⊥) → best ≡ 8 → Best H prices w done count (r + 1) r
    best_first n e = taken n (λ q lq f d. absurd (let c = b.none e q lq f in omega arith))

    module _ {k : ℕ} (n : m ≡ 0 → ⊥) (o : best ≡ 8 → ⊥) (y : NextMark H prices w best (get_or done best 0) count k) where
      key_is : k ≡ key_of prices w best (get_or done best 0)
      key_is = let (lb, fb, db, least) = b.some o in (y.some (λ z. let c = y.none z fb in omega arith)).2

      pub best_less : m < k → Best H prices w done count (r + 1) r
      best_less h = taken n (λ q lq f d.
          let (lb, fb, db, least) = b.some o in
          let c = least q lq f d in
          let e = key_is in
          let g = (x.some n).2 in
          omega arith)

      pub best_keep : (m < k → ⊥) → Best H prices w done count (r + 1) best
      best_keep h = record {
        none = λ e. absurd (o e);
        some = λ _. let (lb, fb, db, least) = b.some o in (
          lb,
          fb,
          db,
          λ q lq f d. by_cases (ℕ_discrete q r)
              (λ i.
              let e = key_is in
              let g = (x.some n).2 in
              let same : key_of prices w q (get_or done q 0)
              ≡ key_of prices w r (get_or done r 0) = ap (λ (y : ℕ). key_of prices w y (get_or done y 0)) i in
              omega arith)
              (λ p. least q (omega arith) f d),
        );
      }

  -- so no relation has a state left that gives less
  pub best_least : {best : ℕ} → Best H prices w done count 8 best → best ≢ 8
      → ((i j : ℕ) → i ≤ j → j < count → mark_of w (state_at w i) ≤ mark_of w (state_at w j))
      → Least (filled_at H) prices (marks_of w count) (λ r. get_or done r 0) (key_of prices w best (get_or done best 0))
  best_least b n ordered r i f l h =
      let (x, y, z, least) = b.some n in
      let q = least r (filled-below H r f) f (omega arith) in
      let m = ordered (get_or done r 0) i l h in
      omega arith
