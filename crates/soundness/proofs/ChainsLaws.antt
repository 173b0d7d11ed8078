-- Where every walk meets its row and no two rows are equal, every lookup finds its row, and back. Assumes nothing.
use mathlib.Core.Path.{◌≡◌, refl, sym, ap, ◌∙◌, subst}
use mathlib.Core.Bool.{Bool, true}
use mathlib.Core.Logic.{◌≢◌, by_cases}
use Prim.Native.Nat.{ℕ, zero, suc, ◌<◌}
use native.Mathlib.Omega.{arith}
use native.Mathlib.Decide.{ℕ_discrete}
use Rattle.layout.specs.Places.{LOW, HIGH, LEVEL, NEXT, RANK}
use Rattle.layout.specs.View.{View}
use Rattle.rows.specs.Used.{used}
use Rattle.rows.proofs.Used.{used_in}
use Rattle.rows.specs.Index.{live, key_of, Link, Has, Hit, stop, skip}
use Rattle.rows.proofs.Index.{live_link, hit_one, down_link}
use Rattle.rows.specs.Says.{Says}
use Rattle.rows.proofs.Says.{says_map}
use Rattle.rows.specs.Lookup.{height}
use Rattle.soundness.specs.Checks.{Finds}
use Rattle.soundness.specs.Triples.{triple, Ready, AllDiffer}
use Rattle.soundness.proofs.Triples.{ready-used, triple-has, has-triple}
use Rattle.soundness.specs.Heights.{below, Passes, here, on, AllMet}

module _ {W : View} {n : ℕ} (c : Ready W n) where
  place : (i : ℕ) → used W i ≡ true → W.cell i RANK < n
  place i u = let e = c.count in let p = (used_in _ _ _ _ _ u).place in omega arith

  there : (i : ℕ) → used W i ≡ true → W.list (W.cell i RANK) ≡ i
  there i u = (used_in _ _ _ _ _ u).there

  rank : (k : ℕ) → k < n → W.cell (W.list k) RANK ≡ k
  rank k h = c.ranked.back k (let e = c.count in omega arith)

  next_link : (j : ℕ) → used W j ≡ true → Link (used W) (W.cell j NEXT)
  next_link j u = down_link W (W.cell j RANK) (W.cell j NEXT) (c.links.nexts j u)

  -- the step from row j by heights
  step_is : (j : ℕ) → used W j ≡ true → below W (W.cell j RANK) ≡ height W (W.cell j NEXT)
  step_is j u = ap (λ (i : ℕ). height W (W.cell i NEXT)) (there j u)

  -- a lookup that finds row i meets it
  hit_met : {l lo hi p i : ℕ} → Hit W l lo hi p i → Link (used W) p → Passes (below W) 0 (height W p) (suc (W.cell i RANK))
  hit_met (stop a) u = here
  hit_met {i = i} (skip {j} a r) u =
      on {r = W.cell j RANK} (omega arith)
      (subst (λ (q : ℕ). Passes (below W) 0 q (suc (W.cell i RANK))) (sym (step_is j u)) (hit_met r (next_link j u)))

  -- where no two rows are equal, a walk that meets row i finds it
  module _ (d : AllDiffer W n) (i : ℕ) (ui : used W i ≡ true) where
    same : (j : ℕ) → used W j ≡ true → W.cell j RANK ≡ W.cell i RANK → j ≡ i
    same j u e = sym (there j u) ∙ ap W.list e ∙ there i ui

    own : Has W i (W.cell i LEVEL) (W.cell i LOW) (W.cell i HIGH)
    own = record { level = refl; low = refl; high = refl }

    unlike : (j : ℕ) → used W j ≡ true → j ≢ i → Has W j (W.cell i LEVEL) (W.cell i LOW) (W.cell i HIGH) → ⊥
    unlike j u q h =
        let e = ap (triple W) (there j u) ∙ has-triple W j i h ∙ ap (triple W) (sym (there i ui)) in
        q (same j u (d (W.cell j RANK) (W.cell i RANK) (place j u) (place i ui) e))

    met_hit : {h q : ℕ} → Passes (below W) 0 h q → (p : ℕ) → Link (used W) p → height W p ≡ h → q ≡ suc (W.cell i RANK)
        → Hit W (W.cell i LEVEL) (W.cell i LOW) (W.cell i HIGH) p i
    met_hit here zero u e f = absurd (omega arith)
    met_hit here (suc j) u e f = let z : W.cell j RANK ≡ W.cell i RANK = omega arith in rw (same j u z) (stop own)
    met_hit (on l w) zero u e f = absurd (omega arith)
    met_hit (on {r} l w) (suc j) u e f = by_cases (ℕ_discrete j i)
        (λ q. rw q (stop own))
        (λ q. skip (unlike j u q) (met_hit w (W.cell j NEXT) (next_link j u)
        (let z : W.cell j RANK ≡ r = omega arith in subst (λ (x : ℕ). height W (W.cell j NEXT) ≡ below W x) z (sym (step_is j u))) f))

  met_finds : AllMet W n → AllDiffer W n → (k : ℕ) → k < n → Finds W (W.list k)
  met_finds m d k h =
      let p : ℕ = W.head (key_of W (W.list k)) in
      met_hit d (W.list k) (ready-used c k h) (m k h) (live (used W) p) (live_link (used W) p) refl (ap suc (sym (rank k h)))

  finds_met : ((k : ℕ) → k < n → Finds W (W.list k)) → AllMet W n
  finds_met f k h = rw (rank k h) at (hit_met (f k h) (live_link (used W) (W.head (key_of W (W.list k)))))

  finds_differ : ((k : ℕ) → k < n → Finds W (W.list k)) → AllDiffer W n
  finds_differ f x y l k e =
      let a = triple-has W (W.list x) (W.list y) (c.small x l) (c.small y k) e in
      let z : W.list x ≡ W.list y = hit_one (rw (a.level, a.low, a.high) at (f x l)) (f y k) in
      sym (rank x l) ∙ ap (λ (i : ℕ). W.cell i RANK) z ∙ rank y k

  -- both parts tell whether every lookup finds its row
  pub both_tell : {r : Bool} → Says (AllMet W n × AllDiffer W n) r → Says ((k : ℕ) → k < n → Finds W (W.list k)) r
  both_tell = says_map (λ q. met_finds q.0 q.1) (λ q. (finds_met q, finds_differ q))
