-- WHETHER THE WORDS ARE A SOUND TABLE is known from the first turn on. Assumes nothing.
use mathlib.Core.Path.{◌≡◌, sym, subst}
use mathlib.Core.Bool.{Bool, false}
use mathlib.Core.List.{List}
use Prim.Native.Nat.{ℕ}
use Rattle.rows.specs.Says.{Says, fails}
use Rattle.contract.specs.Seen.{SoundWords}
use Rattle.rooms.specs.Whole.{zeros}
use Rattle.rooms.proofs.Whole.{zeros_stand}

-- "All zero words are unsound"
pub known-first : (w : List ℕ) → w ≡ zeros → Says (SoundWords w) false
known-first w e = fails (λ s. zeros_stand.1 (subst SoundWords e s))

-- a turn that writes no line changes no word
pub known-still : (old new : List ℕ) {a b : Bool} → new ≡ old → b ≡ a → Says (SoundWords old) a → Says (SoundWords new) b
known-still old new {a} {b} e i s = subst (λ (w : List ℕ). Says (SoundWords w) b) (sym e) (subst (Says (SoundWords old)) (sym i) s)
