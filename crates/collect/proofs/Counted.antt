-- Laws of what specs/Counted.antt defines. Assumes nothing.
use mathlib.Core.Path.{◌≡◌, refl}
use mathlib.Core.Bool.{Bool, true, false, cond}
use mathlib.Core.List.{List}
use Prim.Native.Nat.{ℕ, zero, suc, ◌+◌, ◌≤◌}
use native.Mathlib.Numerals.{add-one}
use native.Mathlib.Omega.{arith}
use Rattle.layout.specs.View.{View}
use Rattle.rows.specs.Bits.{is_on}
use Rattle.collect.specs.Counted.{mark_of, mark_count}

module _ (W : View) (m : List ℕ) where
  pub count_none : 0 ≡ mark_count W m 0
  unfolding mark_count
  count_none = refl

  pub count-more : (k : ℕ) {n i x : ℕ} → n ≡ mark_count W m k → i ≡ W.list k → x ≡ mark_of m i → n + x ≡ mark_count W m (k + 1)
  unfolding mark_count
  count-more k e ei ex = rw (e, ex, ei, add-one k)

  pub count-le : (k : ℕ) → mark_count W m k ≤ k
  unfolding mark_count
  count-le zero = omega arith
  count-le (suc k) = go (is_on m (W.list k)) (count-le k)
    where
      go : (b : Bool) → mark_count W m k ≤ k → mark_count W m k + cond b 1 0 ≤ suc k
      go true h = omega arith
      go false h = omega arith
