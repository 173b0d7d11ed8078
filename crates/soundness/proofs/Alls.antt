-- What `all` tells over a range. Assumes nothing.
use Rattle.std.proofs.Common.{◌≡◌, ℕ, ◌+◌, ◌-◌, ◌≤◌, ◌<◌, length, get_or, Bool, true, false, sym, subst, arith}
use Rattle.std.specs.List.{range_with_len, AllWithin, HoldsAt}
use Rattle.std.specs.Bool.{MatchBool}
use Rattle.std.proofs.lemmas.List.FromFn.{length-range_with_len, get_or-range_with_len}
use Rattle.rows.specs.Says.{Says, holds, fails}

module _ (P : ℕ → Type 0) (a b : ℕ) where
  at : (k : ℕ) → a ≤ k → k < b → get_or (range_with_len a (b - a)) (k - a) 0 ≡ k
  at k h l = omega (arith, get_or-range_with_len a (b - a) (k - a) 0 (omega arith))

  there : (k : ℕ) → k < b - a → get_or (range_with_len a (b - a)) k 0 ≡ a + k
  there k l = get_or-range_with_len a (b - a) k 0 l

  pub says_all : (r : Bool) → MatchBool r (AllWithin P (range_with_len a (b - a)) 0 (length (range_with_len a (b - a))))
      ((k : ℕ) × (k < length (range_with_len a (b - a))) × HoldsAt (λ x. P x → ⊥) (range_with_len a (b - a)) k)
      → Says ((k : ℕ) → a ≤ k → k < b → P k) r
  says_all true h = holds (λ k l u. subst P (at k l u) (h (k - a) 0 (omega arith) (omega (arith, length-range_with_len a (b - a)))))
  says_all false h =
      let l : h.0 < b - a = omega (arith, h.1, length-range_with_len a (b - a)) in
      fails (λ q. h.2 0 (subst P (sym (there h.0 l)) (q (a + h.0) (omega arith) (omega arith))))
