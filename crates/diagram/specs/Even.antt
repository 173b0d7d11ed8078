-- Functions that read only some levels, as sets of states read only the even ones. Assumes nothing.
use Rattle.std.specs.Prelude.{◌≡◌, Bool, true, ℕ, ◌%◌, eqb}
use Rattle.diagram.specs.Level.{Val, Fn}

-- f reads no level but those that pass the test P.
abbrev pub ReadsOn : (ℕ → Bool) → Fn → Type 0
ReadsOn P f = (v w : Val) → ((l : ℕ) → P l ≡ true → v l ≡ w l) → f v ≡ f w

-- The levels of current bits.
abbrev pub even : ℕ → Bool
even l = eqb (l % 2) 0
