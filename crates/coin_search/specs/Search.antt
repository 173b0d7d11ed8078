-- THE SEARCH OVER THE WORDS: the loop's invariant, one law for each call and return, and what is found. Assumes nothing.
use Rattle.std.specs.Prelude.{◌≡◌, ◌≢◌, List, ℕ, ◌^◌, ◌≤◌, ◌<◌, T}
use Rattle.layout.specs.View.{View}
use Rattle.seek.specs.Walk.{HoldsPre}
use Rattle.coins.specs.Runs.{PricedStep, is_mixed_run}
use Rattle.coins.specs.Marks.{Standing}
use Rattle.coins.specs.Found.{NoLess}
use Rattle.coin_search.specs.Words.{mark_of, marks_of}
use Rattle.coin_search.specs.Hall.{leads_at, in_set, Hall}

-- what the search from arrow a's set into arrow b's asks
pub record SearchPre (W : View) (n : ℕ) (prices w : List ℕ) (a b : ℕ) : Type 0 where
  pub hall : Hall W n prices w
  pub from : HoldsPre W a
  pub into : HoldsPre W b

-- state f of a is marked, and no run costs less than its mark says
pub record FoundAt (W : View) (n : ℕ) (prices v : List ℕ) (a b f : ℕ) : Type 0 where
  pub count : ℕ
  pub standing : Standing (2 ^ n) (leads_at W) (in_set W b) prices (marks_of v count)
  pub below : f < 2 ^ n
  pub from : T (in_set W a f)
  pub marked : 1 ≤ mark_of v f
  pub no_less : NoLess (2 ^ n) (leads_at W) (in_set W a) (in_set W b) prices (mark_of v f)

pub record SearchPost (W : View) (n : ℕ) (prices v : List ℕ) (a b f : ℕ) : Type 0 where
  pub found : f ≢ 65_536 → FoundAt W n prices v a b f
  pub none : f ≡ 65_536 → (s : ℕ) (l : List PricedStep) → T (is_mixed_run (2 ^ n) (leads_at W) (in_set W a) (in_set W b) s l) → ⊥
