-- "The fewest coins": runs over any mix of filled relations, what they cost, and the cheapest ones. Assumes nothing.
use Rattle.std.specs.Prelude.{◌≡◌, Bool, false, ◌&&◌, List, [], ◌∷◌, map, ℕ, ◌+◌, ◌/◌, ◌≤◌, T, ltb, length, get_or}
use Rattle.std.proofs.Math.Option.{Option, none, some}
use Rattle.mucalculus.specs.Form.{Pairs}
use Rattle.mucalculus.specs.Means.{pair}
use Rattle.book.specs.Book.{relations}

-- "A list of 8 bytes gives every relation a price of 0 to 255 credits"
abbrev pub price_of : List ℕ → ℕ → ℕ
price_of prices r = get_or prices r 0

-- relation r leads from state s to state t
abbrev pub Transitions : Type 0
Transitions = ℕ → ℕ → ℕ → Bool

-- "any mix of filled relations": an empty one leads nowhere
abbrev pub leads_by : Option Pairs → ℕ → ℕ → Bool
leads_by none s t = false
leads_by (some R) s t = pair R s t

-- a table's relations, of which there are eight
abbrev pub leads_in : (ℕ → Option Pairs) → Transitions
leads_in rel r s t = ltb r relations && leads_by (rel r) s t

-- a step of a run: "with the relation of each step", and the state it leads to
pub record PricedStep : Type 0 where
  pub relation : ℕ
  pub state : ℕ

-- "a run": from state s, one of k, by the steps of l, to a state in B
abbrev pub mixed_into : ℕ → Transitions → (ℕ → Bool) → ℕ → List PricedStep → Bool
mixed_into k leads B s [] = ltb s k && B s
mixed_into k leads B s (p ∷ l) = ltb s k && (leads p.relation s p.state && mixed_into k leads B p.state l)

-- "from register a into b"
abbrev pub is_mixed_run : ℕ → Transitions → (ℕ → Bool) → (ℕ → Bool) → ℕ → List PricedStep → Bool
is_mixed_run k leads A B s l = A s && mixed_into k leads B s l

-- "total": the credits of its steps
abbrev pub total : List ℕ → List PricedStep → ℕ
total prices [] = 0
total prices (p ∷ l) = price_of prices p.relation + total prices l

-- its states: the first one, and one for each step
abbrev pub states_along : ℕ → List PricedStep → List ℕ
states_along s l = s ∷ map (λ p. p.state) l

-- "with the relation of each step"
abbrev pub relations_along : List PricedStep → List ℕ
relations_along l = map (λ p. p.relation) l

-- "Every other run from a into b costs at least as much, and of those that cost the same none has fewer states"
pub record Cheapest (k : ℕ) (leads : Transitions) (A B : ℕ → Bool) (prices : List ℕ) (s : ℕ) (l : List PricedStep) : Type 0 where
  pub run : T (is_mixed_run k leads A B s l)
  pub least : (t : ℕ) (m : List PricedStep) → T (is_mixed_run k leads A B t m) → total prices l ≤ total prices m
  pub fewest : (t : ℕ) (m : List PricedStep) → T (is_mixed_run k leads A B t m) → total prices m ≡ total prices l → length l ≤ length m

-- "The charge is the total's coins, one for every ten credits begun, none for 0"
abbrev pub coins : ℕ → ℕ
coins total = (total + 9) / 10
