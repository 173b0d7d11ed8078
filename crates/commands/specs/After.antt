-- WHETHER THE WORDS ARE A SOUND TABLE AFTER A RECORD: they were one before it, or it was answered, which on other words fresh alone is.
-- Assumes nothing.
use Rattle.std.specs.Prelude.{Bool, ◌||◌, ℕ, eqb}

-- by what they were before, and by the record's number
abbrev pub sound_after : Bool → ℕ → Bool
sound_after b k = b || eqb k 0
