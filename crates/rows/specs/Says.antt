-- What a test decides, both directions at once. Assumes nothing.
use Rattle.std.specs.Prelude.{Bool, true, false}

-- a test says whether P holds
pub data Says (P : Type 0) : Bool → Type 0 where
  holds : P → Says P true
  fails : (P → ⊥) → Says P false
