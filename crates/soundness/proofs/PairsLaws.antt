-- Laws of what specs/Pairs.antt defines. Assumes nothing.
use mathlib.Core.Path.{◌≡◌, refl, ◌∙◌}
use mathlib.Core.Logic.{◌≢◌, inl, inr, ⊎_elim, by_cases}
use mathlib.Core.List.{List}
use Prim.Native.Nat.{ℕ, zero, suc, ◌+◌, ◌*◌, ◌<◌}
use native.Mathlib.Omega.{arith}
use native.Mathlib.Decide.{ℕ_discrete}
use lib.ListN.{length, get_or, set, replicate, length-set}
use lib.Seq.{get_or-set_same, get_or-set_other}
use Rattle.diagram.specs.Rows.{Rows}
use Rattle.soundness.specs.Apart.{Apart}
use Rattle.soundness.proofs.ApartLaws.{zero_left}
use Rattle.soundness.specs.Pairs.{Right, Seen, Puts}

pub seen_apart : {m s a b : ℕ} {rows : Rows} {memo : List ℕ} → Right m rows s memo → Seen memo a b → Apart m rows s a b
seen_apart r e = rw (e.first, e.second) at (r.pair e.at)

pub right_puts : {m s a b : ℕ} {rows : Rows} {memo memo' : List ℕ} → Right m rows s memo → Apart m rows s a b → Puts memo memo' a b
    → Right m rows s memo'
right_puts r p u = record { pair = λ k. ⊎_elim (λ e. rw (e.0, e.1) (r.pair k)) (λ e. rw (e.0, e.1) p) (u.pair k) }

zeros : (n k : ℕ) → ◌≡◌ {A = ℕ} (get_or (replicate n 0) k 0) 0
zeros zero k = refl
zeros (suc n) zero = refl
zeros (suc n) (suc k) = zeros n k

pub right-none : (n : ℕ) {s : ℕ} (m : ℕ) (rows : Rows) → Right m rows s (replicate n 0)
right-none n m rows = record { pair = λ k. zero_left m rows (zeros n (2 * k)) }

-- as `remember` writes them
pub puts : (memo : List ℕ) (p a b : ℕ) → 2 * p + 1 < length memo → Puts memo (set (set memo (2 * p) a) (2 * p + 1) b) a b
puts memo p a b h = record { pair = λ k. by_cases (ℕ_discrete k p) (λ e. inr (same k e)) (λ n. inl (other k n)) }
  where
    same : (k : ℕ) → k ≡ p
        → (get_or (set (set memo (2 * p) a) (2 * p + 1) b) (2 * k) 0 ≡ a) × (get_or (set (set memo (2 * p) a) (2 * p + 1) b) (2 * k + 1) 0 ≡ b)
    same k e = rw e (
      get_or-set_other (set memo (2 * p) a) (2 * p + 1) (2 * p) b 0 (λ z. omega arith) ∙ get_or-set_same memo (2 * p) a 0 (omega arith),
      get_or-set_same (set memo (2 * p) a) (2 * p + 1) b 0 (let q = length-set memo (2 * p) a in omega arith),
    )

    other : (k : ℕ) → k ≢ p
        → (get_or (set (set memo (2 * p) a) (2 * p + 1) b) (2 * k) 0 ≡ get_or memo (2 * k) 0)
        × (get_or (set (set memo (2 * p) a) (2 * p + 1) b) (2 * k + 1) 0 ≡ get_or memo (2 * k + 1) 0)
    other k n = (
      get_or-set_other (set memo (2 * p) a) (2 * p + 1) (2 * k) b 0 (λ z. omega arith)
          ∙ get_or-set_other memo (2 * p) (2 * k) a 0 (λ z. n (omega arith)),
      get_or-set_other (set memo (2 * p) a) (2 * p + 1) (2 * k + 1) b 0 (λ z. n (omega arith))
          ∙ get_or-set_other memo (2 * p) (2 * k + 1) a 0 (λ z. omega arith),
    )
