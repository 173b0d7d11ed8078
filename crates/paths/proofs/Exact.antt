-- Laws of what specs/Exact.antt defines. Assumes nothing.
use mathlib.Core.Path.{◌≡◌}
use mathlib.Core.Bool.{Bool}
use mathlib.Core.Logic.{◌↔◌}
use mathlib.Core.List.{List}
use Prim.Native.Nat.{ℕ, zero, suc, ◌^◌}
use lib.Dec.{T}
use lib.ListN.{length}
use Rattle.mucalculus.specs.Form.{Pairs}
use Rattle.diagram.specs.Level.{Fn}
use Rattle.book.specs.Bridge.{Sized}
use Rattle.book.specs.Run.{fit}
use Rattle.paths.specs.Runs.{is_run, Shortest, layer, meets, last_layer, route, layer_needs, made_needs, again_needs}
use Rattle.paths.specs.Runs.{path_needs, Outcome, outcome}
use Rattle.paths.specs.Exact.{Cause}
use Rattle.paths.proofs.Layers.{run-meets}
use Rattle.paths.proofs.Written.{route-shortest, shortest-only}
use Rattle.paths.proofs.Decided.{fit-first, fit-both, passes-fit, decided_cause, by_cause}

-- ---- needs

module _ (n N : ℕ) (live : List Fn) (R : Pairs) (B : List Bool) where
  -- a layer that is made on the way to another fits where that one does
  pub made-less : (j : ℕ) → T (fit N (made_needs n live R B (suc j))) → T (fit N (made_needs n live R B j))
  made-less j = fit-first N (made_needs n live R B j) (layer_needs n live R B (layer (2 ^ n) R B j))

  -- "layers made again never need more rows than before"
  pub again_fits : (d : ℕ) → T (fit N (made_needs n live R B d)) → T (fit N (again_needs n live R B d))
  again_fits zero t = tt
  again_fits (suc d) t =
      let h = made-less d t in fit-both N (made_needs n live R B d) (again_needs n live R B d) h (again_fits d h)

  -- so the first pass decides 8
  pub first_pass : (A : List Bool) → fit N (path_needs n live R A B) ≡ fit N (made_needs n live R B (last_layer (2 ^ n) R A B))
  first_pass A =
      let d = last_layer (2 ^ n) R A B in
      passes-fit N (made_needs n live R B d) (again_needs n live R B d) (meets (2 ^ n) A (layer (2 ^ n) R B d)) (again_fits d)

-- ---- the causes

module _ (n N : ℕ) (live : List Fn) (R : Pairs) (A B : List Bool) (room : ℕ) (size : Sized n B) where
  -- each comes by its cause
  pub outcome_cause : Cause n N live R A B room (outcome n N live R A B room)
  outcome_cause =
      let k = 2 ^ n in
      let d = last_layer k R A B in
      decided_cause (λ l. T (is_run k R A B l)) (λ l. Shortest k R A B l) (fit N (path_needs n live R A B)) (meets k A (layer k R B d))
      (route k R A B d) room (route-shortest k R A B size) (run-meets k R A B size)

  -- so an outcome comes exactly by its cause
  pub outcome-exact : (x : Outcome) → (outcome n N live R A B room ≡ x) ↔ Cause n N live R A B room x
  outcome-exact x =
      by_cause (λ l. T (is_run (2 ^ n) R A B l)) (λ l. Shortest (2 ^ n) R A B l) (fit N (path_needs n live R A B)) room (λ l b. b.run)
      (λ l m a b. shortest-only a b) (outcome n N live R A B room) x outcome_cause
