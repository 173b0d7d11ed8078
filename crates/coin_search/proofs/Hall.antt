-- Laws of what specs/Hall.antt defines. Assumes nothing.
use mathlib.Core.Path.{◌≡◌, refl, sym, ◌∙◌, subst}
use mathlib.Core.Bool.{Bool, not}
use mathlib.Core.List.{List}
use Prim.Native.Nat.{ℕ, zero, suc, ◌≤◌, ◌<◌}
use native.Mathlib.Omega.{arith}
use lib.Dec.{T, eqb, ltb, ltb→lt, lt→ltb, eqb-suc-zero}
use lib.ListN.{length}
use Rattle.mucalculus.proofs.Sets.{and_in, and_out}
use Rattle.layout.specs.View.{View}
use Rattle.book.specs.Book.{relations}
use Rattle.coin_search.specs.Hall.{root_at, filled_at, leads_at, Hall}

-- with other work words, as many
pub hall-moved : {W : View} {n : ℕ} {prices w v : List ℕ} → Hall W n prices w → length v ≡ length w → Hall W n prices v
hall-moved h e = record { small = h.small; priced = h.priced; room = (let r = h.room in omega arith); arrows = h.arrows }

pub filled-used : (W : View) (r s t : ℕ) → T (leads_at W r s t) → T (filled_at W.header r)
filled-used W r s t h = (and_out (filled_at W.header r) _ h).0

-- a relation's word that is not 0
pub filled_in : {x : ℕ} (W : ℕ → ℕ) (r : ℕ) → r < 8 → x ≡ root_at W r → (x ≡ 0 → ⊥) → T (filled_at W r)
filled_in {x} W r l e n = and_in (ltb r relations) _ (lt→ltb r relations l) (some (root_at W r) (λ z. n (e ∙ z)))
  where
    some : (y : ℕ) → (y ≡ 0 → ⊥) → T (not (eqb y 0))
    some zero n = absurd (n refl)
    some (suc y) n = subst (λ (b : Bool). T (not b)) (sym (eqb-suc-zero y)) tt

pub not-filled : {x : ℕ} (W : ℕ → ℕ) (r : ℕ) → x ≡ root_at W r → x ≡ 0 → T (filled_at W r) → ⊥
not-filled {x} W r e z h = subst (λ (y : ℕ). T (not (eqb y 0))) (sym e ∙ z) (and_out (ltb r relations) _ h).1

pub filled-below : (W : ℕ → ℕ) (r : ℕ) → T (filled_at W r) → r < 8
filled-below W r h = ltb→lt r relations (and_out (ltb r relations) _ h).0

pub filled-some : (W : ℕ → ℕ) (r : ℕ) → T (filled_at W r) → 1 ≤ root_at W r
filled-some W r h = some (root_at W r) (and_out (ltb r relations) _ h).1
  where
    some : (y : ℕ) → T (not (eqb y 0)) → 1 ≤ y
    some zero t = absurd t
    some (suc y) t = omega arith
