-- A byte is looked up in the table: lines that end below it are passed, a line that has it gives its token, and where all others begin
-- above it there is none. Assumes nothing.
use Rattle.std.specs.Prelude.{Some, None}
use mathlib.Core.Path.{◌≡◌, refl, ap, ◌∙◌}
use mathlib.Core.Bool.{Bool, true, false, ◌&&◌, cond}
use mathlib.Core.List.{List, [], ◌∷◌}
use Prim.Native.Nat.{ℕ, zero, suc, ◌<◌, ◌≤◌, ◌-◌}
use native.Mathlib.Omega.{arith}
use lib.Dec.{ltb, leb}
use lib.ListN.{take, drop}
use borrow.Author.Tests.{ltb-true, le-leb, lt-leb}
use Rattle.tokens.specs.Tokens.{Line, table, lookup, token_of}

-- what a conjunction of tests says
pub both_true : (a b : Bool) → (a && b) ≡ true → (a ≡ true) × (b ≡ true)
both_true true b e = (refl, e)
both_true false b e = (e, absurd (let z : ◌≡◌ {A = ℕ} 0 1 = cc in omega arith))

-- all lines end below m
abbrev pub end_below : ℕ → List Line → Bool
end_below m [] = true
end_below m (l ∷ ls) = ltb l.last m && end_below m ls

-- all lines begin above m
abbrev pub begin_above : ℕ → List Line → Bool
begin_above m [] = true
begin_above m (l ∷ ls) = ltb m l.first && begin_above m ls

module _ (b : ℕ) where
  past-line : (l : Line) (ls : List Line) → l.last < b → lookup (l ∷ ls) b ≡ lookup ls b
  unfolding lookup
  past-line l ls h = pass (leb l.first b)
    where
      pass : (c : Bool) → cond (c && leb b l.last) (Some (l.token (b - l.first))) (lookup ls b) ≡ lookup ls b
      pass true = rw (lt-leb b l.last h)
      pass false = refl

  before-line : (l : Line) (ls : List Line) → b < l.first → lookup (l ∷ ls) b ≡ lookup ls b
  unfolding lookup
  before-line l ls h = rw (lt-leb l.first b h)

  -- the first k lines end below the byte
  pub skip : (k m : ℕ) (ls : List Line) → end_below m (take k ls) ≡ true → m ≤ b → lookup ls b ≡ lookup (drop k ls) b
  skip zero m ls e h = refl
  skip (suc k) m [] e h = refl
  skip (suc k) m (l ∷ ls) e h =
      let p = both_true (ltb l.last m) (end_below m (take k ls)) e in
      past-line l ls (omega (arith, ltb-true l.last m p.0)) ∙ skip k m ls p.1 h

  -- the byte is in the line
  pub hit : (l : Line) (ls : List Line) → l.first ≤ b → b ≤ l.last → lookup (l ∷ ls) b ≡ Some (l.token (b - l.first))
  unfolding lookup
  hit l ls low high = rw (le-leb l.first b low, le-leb b l.last high)

  -- all lines begin above the byte
  pub miss : (m : ℕ) (ls : List Line) → begin_above m ls ≡ true → b ≤ m → lookup ls b ≡ None
  unfolding lookup
  miss m [] e h = refl
  miss m (l ∷ ls) e h =
      let p = both_true (ltb m l.first) (begin_above m ls) e in
      before-line l ls (omega (arith, ltb-true m l.first p.0)) ∙ miss m ls p.1 h

  -- the byte is in the table's line l, after k lines
  pub in-line : (k : ℕ) {l : Line} {ls : List Line} → drop k table ≡ l ∷ ls → end_below l.first (take k table) ≡ true → l.first ≤ b
      → b ≤ l.last → token_of b ≡ Some (l.token (b - l.first))
  unfolding token_of
  in-line k {l} {ls} d e low high = skip k l.first table e low ∙ ap (λ (x : List Line). lookup x b) d ∙ hit l ls low high

  -- the byte is between the first k lines and the others
  pub in-gap : (k m m' : ℕ) → end_below m (take k table) ≡ true → begin_above m' (drop k table) ≡ true → m ≤ b → b ≤ m' → token_of b ≡ None
  unfolding token_of
  in-gap k m m' e e' low high = skip k m table e low ∙ miss m' (drop k table) e' high
