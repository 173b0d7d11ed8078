-- ONE ANSWER: on the same words and lists the contract allows one reply, and one pair of lists but for the run that is written, which is
-- some cheapest one; the work words are free unless 1 to 7 is given. Words need not be sound, nor is that decided. Assumes nothing.
use Rattle.std.specs.Prelude.{◌≡◌, ◌≢◌, List, ℕ, ◌-◌, length, drop}
use Rattle.coins.specs.Post.{FareReply}

-- two replies y, z; two ends s, t of the states and q, r of the relations
pub record OneFare (s t q r : List ℕ) (y z : FareReply) : Type 0 where
  pub reply : y ≡ z
  -- the lists are of one length and agree past the run, and everywhere where the call is refused
  pub states-size : length s ≡ length t
  pub relations-size : length q ≡ length r
  pub states-past : drop y.states s ≡ drop y.states t
  pub relations-past : drop (y.states - 1) q ≡ drop (y.states - 1) r
  pub refusal : y.number ≢ 0 → (s ≡ t) × (q ≡ r)
