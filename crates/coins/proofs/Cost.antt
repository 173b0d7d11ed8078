-- Laws of what specs/Cost.antt defines. Assumes nothing.
use mathlib.Core.Path.{◌≡◌, sym}
use mathlib.Core.List.{List, [], ◌∷◌}
use Prim.Native.Nat.{ℕ, suc, ◌+◌, ◌*◌}
use native.Mathlib.Nat.{le_antisymm}
use native.Mathlib.Omega.{arith}
use lib.ListN.{length}
use Rattle.coins.specs.Runs.{Transitions, PricedStep, price_of, total, Cheapest}
use Rattle.coins.specs.Cost.{CREDIT, cost}

pub cost-is : (prices : List ℕ) (l : List PricedStep) → cost prices l ≡ total prices l * CREDIT + length l
cost-is prices [] = omega arith
cost-is prices (p ∷ l) = let e = cost-is prices l in joined (price_of prices p.relation) (cost prices l) (total prices l) (length l) e
  where
    joined : (x c t n : ℕ) → c ≡ t * CREDIT + n → x * CREDIT + 1 + c ≡ (x + t) * CREDIT + suc n
    joined x c t n e = omega arith

-- ---- two cheapest runs agree in credits and in steps

module _ {k : ℕ} {leads : Transitions} {A B : ℕ → _} {prices : List ℕ} {s t : ℕ} {l m : List PricedStep}
    (p : Cheapest k leads A B prices s l) (q : Cheapest k leads A B prices t m) where
  pub same_total : total prices l ≡ total prices m
  same_total = le_antisymm (p.least t m q.run) (q.least s l p.run)

  pub same_length : length l ≡ length m
  same_length = le_antisymm (p.fewest t m q.run (sym same_total)) (q.fewest s l p.run same_total)
