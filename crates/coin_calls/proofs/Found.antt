-- A search and the writing of what it found, as one answer. Assumes nothing.
use mathlib.Core.Path.{◌≡◌, refl}
use mathlib.Core.List.{List}
use Prim.Native.Nat.{ℕ}
use lib.ListN.{length}
use Rattle.layout.specs.View.{View}
use Rattle.coins.specs.Post.{FareReply, fare_refused, told_none}
use Rattle.coin_search.proofs.Hall.{hall-moved}
use Rattle.coin_search.specs.Search.{SearchPre, SearchPost}
use Rattle.coin_calls.specs.Asks.{PayPre, PayPost, BetweenPost}

module _ {W : View} {n : ℕ} {prices w v : List ℕ} {a b f : ℕ} (same : length v ≡ length w) (x : SearchPost W n prices v a b f) where
  -- there is no run
  pub between_none : {states relations : List ℕ} → f ≡ 65_536
      → BetweenPost W n prices w v states states relations relations a b (fare_refused 10)
  between_none q = record { size = same; told = told_none (x.none q); kept = λ _. (refl, refl); late = λ h. h }

  pub pay-asks : SearchPre W n prices w a b → (f ≡ 65_536 → ⊥) → PayPre W n prices v f
  pay-asks p q = record { hall = hall-moved p.hall same; from = a; into = b; found = x.found q }

  -- a run is written, or a list is too short for it
  pub between-paid : {states states' relations relations' : List ℕ} {o : FareReply} → (f ≡ 65_536 → ⊥)
      → PayPost W n prices v states states' relations relations' f o → BetweenPost W n prices w v states states' relations relations' a b o
  between-paid q p = record { size = same; told = p.told a b (x.found q); kept = p.kept; late = p.late }
