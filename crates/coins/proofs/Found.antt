-- Laws of what specs/Found.antt defines. Assumes nothing.
use mathlib.Core.Path.{◌≡◌}
use mathlib.Core.Bool.{Bool}
use mathlib.Core.List.{List}
use Prim.Native.Nat.{ℕ, ◌+◌, ◌-◌, ◌/◌, ◌%◌, ◌<◌}
use native.Mathlib.Omega.{arith}
use lib.Dec.{T}
use lib.ListN.{length}
use Rattle.coins.specs.Runs.{Transitions, PricedStep, total, is_mixed_run, Cheapest}
use Rattle.coins.specs.Cost.{CREDIT, cost}
use Rattle.coins.proofs.Cost.{cost-is}
use Rattle.coins.specs.Found.{NoLess}

-- a mark's credits and steps are those of a run that costs what it says
module _ (prices : List ℕ) {m : ℕ} (l : List PricedStep) (is : m ≡ cost prices l + 1) (short : length l < CREDIT) where
  pub credits_are : (m - 1) / CREDIT ≡ total prices l
  credits_are = let e = cost-is prices l in omega arith

  pub steps_are : (m - 1) % CREDIT ≡ length l
  steps_are = let e = cost-is prices l in omega arith

pub found-cheapest : {k : ℕ} {leads : Transitions} {A B : ℕ → Bool} {prices : List ℕ} {m : ℕ} (s : ℕ) (l : List PricedStep)
    → NoLess k leads A B prices m
    → T (is_mixed_run k leads A B s l) → m ≡ cost prices l + 1 → length l < CREDIT → Cheapest k leads A B prices s l
found-cheapest {prices = prices} {m = m} s l n t e h = record {
  run = t;
  least = λ u q r. let c = credits_are prices l e h in let b = n.by_total u q r in omega arith;
  fewest = λ u q r same.
      let b = n.by-cost u q r in
      let x = cost-is prices l in
      let y = cost-is prices q in
      omega arith;
}
