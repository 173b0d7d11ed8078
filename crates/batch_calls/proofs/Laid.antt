-- Laws of what specs/Laid.antt defines. Assumes nothing.
use mathlib.Core.Path.{refl, ◌∙◌}
use mathlib.Core.List.{List}
use Prim.Native.Nat.{ℕ, ◌+◌, ◌<◌}
use native.Mathlib.Omega.{arith}
use lib.ListN.{length, set}
use lib.Seq.{get_or-set_other}
use Rattle.soundness.proofs.Order.{laid_more as placed}
use Rattle.batch_calls.specs.Laid.{Laid}

pub laid_none : (u : List ℕ) → Laid u u 0
laid_none u = record { first = λ i l. absurd (omega arith); rest = λ i l. refl }

pub laid_more : {u v : List ℕ} {k : ℕ} → Laid u v k → k < length v → Laid u (set v k k) (k + 1)
laid_more {u} {v} {k} d l = record {
  first = placed {f = λ i. i} v k l d.first refl;
  rest = λ i h. get_or-set_other v k i k 0 (λ e. omega arith) ∙ d.rest i (omega arith);
}
