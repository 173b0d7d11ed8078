-- What writing leaves behind, and the parts of a line. Assumes nothing.
use Rattle.std.specs.Prelude.{◌≡◌, Bool, cond, List, [], ◌∷◌, ◌++◌, ℕ, ◌+◌, ◌≤◌, length}
use Rattle.std.proofs.lemmas.List.Edits.{sets}
use Rattle.book.specs.Program.{Line, end_ok, end_bad, decimal}

-- bytes stand in the new contents from a place on, up to the end, and all else is as it was
pub record Wrote (old : List ℕ) (at : ℕ) (bytes new : List ℕ) (end : ℕ) : Type 0 where
  pub contents : new ≡ sets old at bytes
  pub past : end ≡ at + length bytes

-- the same, in so much room at most
pub record WroteWithin (room : ℕ) (old : List ℕ) (at : ℕ) (bytes new : List ℕ) (end : ℕ) : Type 0 where
  pub wrote : Wrote old at bytes new end
  pub within : end ≤ at + room

-- "Last line `end ok`, or .. `end bad`"
abbrev pub end_line : Bool → Line
end_line ok = cond ok end_ok end_bad

-- a number and the byte after it
abbrev pub field_text : ℕ → ℕ → List ℕ
field_text k after = decimal k ++ (after ∷ [])
