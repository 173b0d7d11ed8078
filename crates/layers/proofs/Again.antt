-- Laws of what specs/Again.antt defines. Assumes nothing.
use Rattle.std.specs.Prelude.{Result}
use mathlib.Core.Path.{◌≡◌, sym, ◌∙◌, subst}
use mathlib.Core.Bool.{true≢false}
use Prim.Native.Nat.{ℕ, suc, ◌+◌, ◌≤◌, ◌<◌}
use native.Mathlib.Omega.{arith}
use Rattle.accounts.specs.declared.Count.{Count}
use Rattle.layout.specs.View.{View}
use Rattle.table.specs.declared.Full.{Full}
use Rattle.counting.specs.Taken.{taken, ran_out}
use Rattle.counting.specs.declared.Taken.{Taken}
use Rattle.layers.specs.Next.{NextPost}
use Rattle.layers.specs.Scene.{Scene, Layered}
use Rattle.layers.proofs.Scene.{layered_next, layered_full, full-after}
use Rattle.layers.specs.Again.{AgainPre, AgainPost}

module _ {n N limit : ℕ} {W : View} {t b j : ℕ} (p : AgainPre n N limit W t b j)
    {X : View} {i x : ℕ} (q : (S : Scene n W t b) → Layered n W X t b S i x) where
  pub again_turns : {Y : View} {o : Result Taken Full} {y : ℕ} {q : Count} → NextPost n N limit X Y t b x o → o ≡ taken y q
      → (S : Scene n W t b)
      → Layered n W Y t b S (i + 1) y
  again_turns {Y} {o} {y} s e S =
      let z : suc i ≡ i + 1 = omega arith in subst (λ (k : ℕ). Layered n W Y t b S k y) z (layered_next p.start (q S) s e).0

  -- no step of it is full
  pub again_never : {Y : View} {o : Result Taken Full} → NextPost n N limit X Y t b x o → i < j → o ≡ ran_out → ⊥
  again_never s l e =
      let f = full-after limit p.scene i j l (layered_full p.start (q p.scene) s e) in
      true≢false (sym p.fits ∙ f)

  pub again_ends : i ≤ j → j ≤ i → AgainPost n W X t b j x
  again_ends a l S = let z : i ≡ j = omega arith in subst (λ (k : ℕ). Layered n W X t b S k x) z (q S)
