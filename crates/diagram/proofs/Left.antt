-- Laws of what specs/Left.antt defines. Assumes nothing.
use mathlib.Core.Path.{◌≡◌, subst}
use mathlib.Core.List.{List, ◌∷◌, map, Memᴰ as Mem}
use Prim.Native.Nat.{ℕ, suc, ◌+◌, ◌-◌, ◌*◌, ◌≤◌, ◌<◌}
use native.Mathlib.Omega.{arith}
use Rattle.diagram.specs.Level.{Fn}
use Rattle.diagram.specs.Rows.{Rows, Arrow, den, WellFormed}
use Rattle.diagram.specs.Need.{need, step_need}
use Rattle.diagram.specs.Odd.{exists_from}
use Rattle.diagram.specs.Sizes.{Reaches}
use Rattle.diagram.proofs.Sizes.{reaches_need, Rooted, rooted_own}
use Rattle.diagram.specs.Blind.{Blind}
use Rattle.diagram.proofs.Tally.{Surveyed, AddedRows, CoveredBy}
use Rattle.diagram.proofs.Bounds.{Evens, stage_two}
use Rattle.diagram.specs.Left.{bound}

-- An arrow that does not read the odd levels from 2 i + 1 on, as the product does not for i = n, and what i − j steps leave of it.
module _ {m N n i : ℕ} {rows : Rows} (wf : WellFormed m N rows) (em : m ≡ 2 * n) (small : n ≤ 16) (le : i ≤ n) {a : ℕ} (wa : Arrow rows a)
    (blind : Blind i (den m rows a)) where
  module _ {fs : List Fn} {roots evens bs : List ℕ} {above added : ℕ → ℕ} (rooted : Rooted m rows fs roots)
      (even : Evens m rows roots evens)
      (covered : CoveredBy m rows bs a) (s : Surveyed rows evens a above) where
    -- B1: the step from stage j + 1 to stage j, j < i.
    pub left_step : AddedRows rows roots bs added → (d j : ℕ) → suc d + j ≡ i
        → step_need m (exists_from d (suc j) (den m rows a) ∷ fs) (exists_from (suc d) j (den m rows a)) ≤ bound m (need m fs) above added j
    left_step t d j e = stage_two wf em small le rooted even wa blind covered s t d j (m - 2 * suc j) e (omega arith)

    -- So where the bound of every stage left is at most some number, all their needs are.
    pub left-all : AddedRows rows roots bs added → (most : ℕ) → ((j : ℕ) → j < i → bound m (need m fs) above added j ≤ most)
        → (d j : ℕ) → suc d + j ≡ i → step_need m (exists_from d (suc j) (den m rows a) ∷ fs) (exists_from (suc d) j (den m rows a)) ≤ most
    left-all t most fits d j e = let l = left_step t d j e in let h = fits j (omega arith) in omega (arith, l, h)

  -- `left-all` with the rows of what is live counted in the table.
  pub left-counted : {evens bs : List ℕ} {above added : ℕ → ℕ} {live : ℕ} (roots : List ℕ) → ((b : ℕ) → Mem b roots → Arrow rows b)
      → Reaches rows roots live
      → Evens m rows roots evens → CoveredBy m rows bs a → Surveyed rows evens a above → AddedRows rows roots bs added
      → (most : ℕ) → ((j : ℕ) → j < i → bound m live above added j ≤ most)
      → (d j : ℕ) → suc d + j ≡ i
      → step_need m (exists_from d (suc j) (den m rows a) ∷ map (den m rows) roots) (exists_from (suc d) j (den m rows a)) ≤ most
  left-counted {above = above} {added = added} roots arrows r even covered s t most fits =
      left-all (rooted_own wf roots arrows) even covered s t most
      (λ j ji. subst (λ (k : ℕ). bound m k above added j ≤ most) (reaches_need wf arrows r) (fits j ji))
