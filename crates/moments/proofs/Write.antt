-- The states after the first one: the set of each place is made again, which fits as it did, and the least next state in it is taken.
-- Assumes nothing.
use mathlib.Core.Path.{◌≡◌, refl, sym, ◌∙◌, subst}
use mathlib.Core.Bool.{true, false, true≢false}
use mathlib.Core.List.{List}
use Prim.Native.Nat.{ℕ, suc, ◌+◌, ◌-◌, ◌^◌, ◌<◌}
use native.Mathlib.Omega.{arith}
use lib.Dec.{T}
use lib.ListN.{length, set}
use Rattle.mucalculus.specs.Sets.{mem}
use Rattle.mucalculus.proofs.Sets.{true_of}
use Rattle.layout.specs.View.{View}
use Rattle.std.specs.Prelude.{Result, Ok, Err}
use Rattle.table.specs.declared.Full.{Full}
use Rattle.table.specs.Full.{rows_out}
use Rattle.book.specs.Run.{fit}
use Rattle.paths.specs.Runs.{toward}
use Rattle.paths.proofs.First.{Onto}
use Rattle.layers.specs.Scene.{Scene}
use Rattle.layers.specs.Pass.{Steps}
use Rattle.routes.specs.Write.{put_all, PlacePre, PlacePost}
use Rattle.routes.proofs.Write.{step-found, step-asks, start-later, scene-later, steps-start}
use Rattle.routes.proofs.Find.{steps_then}
use Rattle.logs.specs.Runs.{moment_at, sets_of}
use Rattle.logs.specs.Call.{last_moment}
use Rattle.logs.proofs.Exact.{made-less, sets-small}
use Rattle.logs.proofs.Starts.{starts-lt, onto}
use Rattle.moments.specs.Sets.{set_of, needs_of, HasSet, MakePre, Ends, is_made, is-full, MakePost}
use Rattle.moments.specs.Write.{Onward, rest_of, WritePre, WritePost}

-- a set that is made has its arrow
pub set-made : {n limit : ℕ} {W X : View} {t v : ℕ} {S : Scene n W t v} {one two : List ℕ} {j i : ℕ} {o : Result ℕ Full} {x : ℕ}
    → Ends n limit W X t v S one two j i o → o ≡ Ok x → HasSet n limit W X t v S one two j i x
set-made {n} {limit} {W} {X} {t} {v} {S} {one} {two} {j} {i} {o} {x} d e =
    go (subst (λ (o : Result ℕ Full). Ends n limit W X t v S one two j i o) e d)
  where
    go : Ends n limit W X t v S one two j i (Ok x) → HasSet n limit W X t v S one two j i x
    go (is_made h) = h

-- and one that is full does not fit
pub never-full : {n limit : ℕ} {W X : View} {t v : ℕ} {S : Scene n W t v} {one two : List ℕ} {j i : ℕ} {o : Result ℕ Full}
    → Ends n limit W X t v S one two j i o → o ≡ Err rows_out → fit limit (needs_of S one two j i) ≡ false
never-full {n} {limit} {W} {X} {t} {v} {S} {one} {two} {j} {i} {o} d e =
    go (subst (λ (o : Result ℕ Full). Ends n limit W X t v S one two j i o) e d)
  where
    go : Ends n limit W X t v S one two j i (Err rows_out) → fit limit (needs_of S one two j i) ≡ false
    go (is-full s f) = f

-- where the loop stands: s is the state of place i, with j places after it, and the rest goes from the next place on
pub record Writing (n limit : ℕ) (W X : View) (t v : ℕ) (S : Scene n W t v) (one two : List ℕ) (first : ℕ) (old now : List ℕ) (s j i : ℕ)
    : Type 0 where
  pub steps : Steps n W X
  pub ready : Onward limit S one two j i s
  pub rest : put_all (suc i) (rest_of S one two j i s) now ≡ put_all 1 (rest_of S one two (last_moment one) 0 first) old

-- for every scene
abbrev pub Stands : ℕ → ℕ → View → View → ℕ → ℕ → List ℕ → List ℕ → ℕ → List ℕ → List ℕ → ℕ → ℕ → ℕ → Type 0
Stands n limit W X t v one two first old now s j i =
    (S : Scene n W t v) → Onward limit S one two (last_moment one) 0 first → Writing n limit W X t v S one two first old now s j i

module _ {n N limit : ℕ} {W : View} {t v : ℕ} {one two : List ℕ} {first : ℕ} {old : List ℕ}
    (p : WritePre n N limit W t v one two first old) where
  pub write_starts : {j : ℕ} → last_moment one ≡ j → Stands n limit W W t v one two first old old first j 0
  write_starts e S r =
      subst (λ (j : ℕ). Writing n limit W W t v S one two first old old first j 0) e
      (record { steps = steps-start p.start; ready = r; rest = refl })

  module _ {X : View} {now : List ℕ} {s i J : ℕ} (pos : 0 < J) (sum : i + J ≡ last_moment one)
      (q₀ : Stands n limit W X t v one two first old now s J i) where
    abbrev j : ℕ
    j = J - 1

    eJ : J ≡ suc (J - 1)
    eJ = omega (arith, pos)

    q : Stands n limit W X t v one two first old now s (suc j) i
    q S r = subst (λ (j : ℕ). Writing n limit W X t v S one two first old now s j i) eJ (q₀ S r)

    abbrev at-scene : Writing n limit W X t v p.scene one two first old now s (suc j) i
    at-scene = q p.scene p.ready

    pub write_again : {b : ℕ} → b ≡ suc i → MakePre n N limit X t v one two b
    write_again e = record {
      start = start-later p.start at-scene.steps;
      scene = scene-later p.start at-scene.steps p.scene;
      logs = p.logs;
      inside = omega (arith, e, sum, eJ);
    }

    module _ {b : ℕ} (eb : b ≡ suc i) {Y : View} {o : Result ℕ Full} (f : MakePost n limit X Y t v one two b o) where
      again : (S : Scene n W t v) (r : Onward limit S one two (last_moment one) 0 first)
          → Ends n limit X Y t v (scene-later p.start (q S r).steps S) one two j (suc i) o
      again S r =
          let c : last_moment one - b ≡ j = omega (arith, eb, sum, eJ) in
          subst (λ (b : ℕ). Ends n limit X Y t v (scene-later p.start (q S r).steps S) one two j b o) eb
          (subst (λ (j : ℕ). Ends n limit X Y t v (scene-later p.start (q S r).steps S) one two j b o) c
          (f (scene-later p.start (q S r).steps S)))

      fits_again : (S : Scene n W t v) (r : Onward limit S one two (last_moment one) 0 first)
          → fit limit (needs_of S one two j (suc i)) ≡ true
      fits_again S r =
          true_of (fit limit (needs_of S one two j (suc i)))
          (made-less n limit S.fs S.R S.B (moment_at one two) j i (subst T (sym (q S r).ready.0) tt))

      -- it is never full
      pub write_never : o ≡ Err rows_out → ⊥
      write_never e =
          true≢false (sym (fits_again p.scene p.ready) ∙ never-full (again p.scene p.ready) e)

      module _ {x : ℕ} (ex : o ≡ Ok x) where
        there : (S : Scene n W t v) (r : Onward limit S one two (last_moment one) 0 first)
            → HasSet n limit X Y t v (scene-later p.start (q S r).steps S) one two j (suc i) x
        there S r = set-made (again S r) ex

        steps-after : (S : Scene n W t v) (r : Onward limit S one two (last_moment one) 0 first) → Steps n W Y
        steps-after S r = steps_then (q S r).steps (there S r).steps

        -- the state that is written
        abbrev next : Scene n W t v → ℕ
        next S = toward (2 ^ n) S.R (set_of S one two j (suc i)) s

        here : (S : Scene n W t v) (r : Onward limit S one two (last_moment one) 0 first) → s < 2 ^ n
        here S r =
            starts-lt (2 ^ n) S.R (sets_of n S.B (moment_at one two)) (sets-small n S.B (moment_at one two)) (suc j) i s
            (q S r).ready.1

        -- a run goes on from it
        ahead : (S : Scene n W t v) (r : Onward limit S one two (last_moment one) 0 first)
            → Onto (2 ^ n) S.R (set_of S one two j (suc i)) s (next S)
        ahead S r =
            onto (2 ^ n) S.R (sets_of n S.B (moment_at one two)) (sets-small n S.B (moment_at one two)) j i s (q S r).ready.1

        pub next-asks : b < length now → PlacePre n Y t s x b now
        next-asks h =
            let S = p.scene in
            let r = p.ready in
            step-asks p.start (steps-after S r) S (set_of S one two j (suc i)) (there S r).set_is (here S r) (ahead S r).state h

        pub write_turns : {u K : ℕ} {new : List ℕ} → PlacePost n Y t s x b now new u → j ≡ K
            → Stands n limit W Y t v one two first old new u K b
        write_turns {u} {K} {new} w eK S r =
            let e : u ≡ next S =
            w.is ∙ step-found p.start (steps-after S r) S (set_of S one two j (suc i)) (there S r).set_is s (here S r) in
            let z : Writing n limit W Y t v S one two first old (set now (suc i) u) u j (suc i) = record {
              steps = steps-after S r;
              ready = (fits_again S r, subst (λ (z : ℕ). T (mem (set_of S one two j (suc i)) z)) (sym e) (ahead S r).inside);
              rest =
                  subst (λ (z : ℕ). put_all (suc (suc i)) (rest_of S one two j (suc i) z) (set now (suc i) z)
                  ≡ put_all 1 (rest_of S one two (last_moment one) 0 first) old) (sym e) (q S r).rest;
            } in
            subst (λ (m : List ℕ). Writing n limit W Y t v S one two first old m u K b) (sym w.list)
            (subst (λ (j : ℕ). Writing n limit W Y t v S one two first old (set now b u) u j b) eK
            (subst (λ (z : ℕ). Writing n limit W Y t v S one two first old (set now z u) u j z) (sym eb) z))

  pub write_ends : {X : View} {now : List ℕ} {s j i : ℕ} → j ≡ 0 → Stands n limit W X t v one two first old now s j i
      → WritePost n limit W X t v one two first old now
  write_ends {X} {now} {s} {j} {i} e q S r =
      let w = subst (λ (j : ℕ). Writing n limit W X t v S one two first old now s j i) e (q S r) in
      record { steps = w.steps; list = w.rest }
