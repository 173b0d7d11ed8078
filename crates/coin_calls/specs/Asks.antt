-- What the writing of a found run asks, and what it tells. Assumes nothing.
use Rattle.std.specs.Prelude.{◌≡◌, ◌≢◌, List, ℕ, ◌^◌, T, length}
use Rattle.layout.specs.Refusals.{keeps_all}
use Rattle.layout.specs.View.{View}
use Rattle.coins.specs.Post.{FareReply, FareTold}
use Rattle.coin_search.specs.Hall.{leads_at, in_set, Hall}
use Rattle.coin_search.specs.Search.{FoundAt}

-- state f was found for some two arrows
pub record PayPre (W : View) (n : ℕ) (prices w : List ℕ) (f : ℕ) : Type 0 where
  pub hall : Hall W n prices w
  pub from : ℕ
  pub into : ℕ
  pub found : FoundAt W n prices w from into f

-- for whatever arrows it was found: a cheapest run is written, or a list is too short for it
pub record PayPost (W : View) (n : ℕ) (prices w states states' relations relations' : List ℕ) (f : ℕ) (y : FareReply) : Type 0 where
  pub told : (a b : ℕ) → FoundAt W n prices w a b f
      → FareTold (2 ^ n) (leads_at W) (in_set W a) (in_set W b) prices states states' relations relations' y
  pub kept : y.number ≢ 0 → (states' ≡ states) × (relations' ≡ relations)
  pub late : T (keeps_all y.number) → ⊥

-- from arrow a's set into arrow b's: a cheapest run is written, or there is none, or a list is too short for it
pub record BetweenPost (W : View) (n : ℕ) (prices w v states states' relations relations' : List ℕ) (a b : ℕ) (y : FareReply) : Type 0 where
  pub size : length v ≡ length w
  pub told : FareTold (2 ^ n) (leads_at W) (in_set W a) (in_set W b) prices states states' relations relations' y
  pub kept : y.number ≢ 0 → (states' ≡ states) × (relations' ≡ relations)
  pub late : T (keeps_all y.number) → ⊥
