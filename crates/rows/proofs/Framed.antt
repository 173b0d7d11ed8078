-- What a lookup does not see. Assumes nothing.
use mathlib.Core.Path.{◌≡◌, refl, sym, ◌∙◌, subst}
use mathlib.Core.Bool.{Bool, true, false}
use Prim.Native.Nat.{ℕ, zero, suc}
use Rattle.layout.specs.Places.{LOW, HIGH, LEVEL, NEXT, RANK}
use Rattle.layout.specs.View.{View}
use Rattle.rows.specs.Used.{used}
use Rattle.rows.specs.Index.{live, Link, Has, Hit, stop, skip, Down}
use Rattle.rows.proofs.Index.{live-used, live-not, live-zero, down_link}
use Rattle.rows.proofs.Lookup.{hit_zero}

-- a walk along used rows does not see a change of other rows
module _ (W X : View) (nexts : (j : ℕ) → used W j ≡ true → Down W (W.cell j RANK) (W.cell j NEXT))
    (level : (j : ℕ) → used W j ≡ true → X.cell j LEVEL ≡ W.cell j LEVEL)
    (low : (j : ℕ) → used W j ≡ true → X.cell j LOW ≡ W.cell j LOW)
    (high : (j : ℕ) → used W j ≡ true → X.cell j HIGH ≡ W.cell j HIGH)
    (next : (j : ℕ) → used W j ≡ true → X.cell j NEXT ≡ W.cell j NEXT) where
  pub has-frame : (j l lo hi : ℕ) → used W j ≡ true → Has W j l lo hi → Has X j l lo hi
  has-frame j l lo hi u h = record { level = level j u ∙ h.level; low = low j u ∙ h.low; high = high j u ∙ h.high }

  pub has-back : (j l lo hi : ℕ) → used W j ≡ true → Has X j l lo hi → Has W j l lo hi
  has-back j l lo hi u h = record { level = sym (level j u) ∙ h.level; low = sym (low j u) ∙ h.low; high = sym (high j u) ∙ h.high }

  pub hit_frame : {l lo hi p i : ℕ} → Hit W l lo hi p i → Link (used W) p → Hit X l lo hi p i
  hit_frame {l} {lo} {hi} (stop {j} h) u = stop (has-frame j l lo hi u h)
  hit_frame {l} {lo} {hi} {i = i} (skip {j} n r) u =
      skip (λ h. n (has-back j l lo hi u h))
      (subst (λ (p : ℕ). Hit X l lo hi p i) (sym (next j u)) (hit_frame r (down_link W (W.cell j RANK) (W.cell j NEXT) (nexts j u))))

-- a head that counts for a lookup counts too where more rows are used
pub live_more : {W : View} {l lo hi i : ℕ} (u v : ℕ → Bool) → ((j : ℕ) → u j ≡ true → v j ≡ true) → (p : ℕ) → Hit W l lo hi (live u p) i
    → live v p ≡ live u p
live_more u v f zero r = absurd (hit_zero r (live-zero u))
live_more {W} {l} {lo} {hi} {i} u v f (suc j) r = go (u j) refl
  where
    go : (b : Bool) → u j ≡ b → live v (suc j) ≡ live u (suc j)
    go true e = live-used v j (f j e) ∙ sym (live-used u j e)
    go false e = absurd (hit_zero r (live-not u j e))
