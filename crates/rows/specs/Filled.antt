-- The arrows that V, registers and relations hold, as a list. Assumes nothing.
use Rattle.std.specs.Prelude.{List, [], ◌∷◌, ℕ, zero, suc, ◌+◌}
use Rattle.layout.specs.Places.{VALID, ROOTS}
use Rattle.layout.specs.View.{View}

-- an arrow put in front of a list, where a word of the header holds one
abbrev pub push : ℕ → List ℕ → List ℕ
push zero xs = xs
push (suc a) xs = a ∷ xs

-- the arrows that k words of the header hold, from word `start` on
unfoldable pub held : View → ℕ → ℕ → List ℕ
held W start zero = []
held W start (suc k) = push (W.header (start + k)) (held W start k)

-- "all filled registers and relations"; "V is live always"
abbrev pub filled : View → List ℕ
filled W = held W VALID ROOTS
