-- What the answers of a read and of a write say. Assumes nothing.
use mathlib.Core.Path.{◌≡◌, refl, sym, ap, subst}
use Prim.Native.Nat.{ℕ, zero, suc, ◌+◌, ◌≤◌, ◌<◌}
use native.Mathlib.Omega.{arith}
use lib.IntN.{ℤ, pos, negsuc}
use Rattle.std.specs.Prelude.{List, length, min, Result, Ok, Err}
use Rattle.std.specs.Io.{ReadsAtMost}
use Rattle.room_io.specs.declared.Progress.{Progress}
use Rattle.room_io.specs.declared.Brought.{Brought}
use Rattle.room_io.specs.declared.Brought.TheVariants.{Bytes, End, Failed}
use Rattle.room_io.specs.Calls.{Moved, answer_of, brought_of, ReadSays, Sums, after_read, WriteSays}

-- ---- the answer of a read

pub says_some : (n room : ℕ) → 0 < n → Bytes (min n room) ≡ brought_of (pos n) room
says_some zero room h = absurd (omega arith)
says_some (suc k) room h = refl

pub says_end : (n room : ℕ) → n ≤ 0 → End ≡ brought_of (pos n) room
says_end zero room h = refl
says_end (suc k) room h = absurd (omega arith)

-- what std says of a read's answer
answer_moved : {E : Type 0} (got : Result ℕ E) (room : List ℕ) → ReadsAtMost got room → Moved (length room) (answer_of got)
answer_moved (Ok n) room h = h.0
answer_moved (Err e) room h = refl

pub read_says : {E : Type 0} (got : Result ℕ E) (room : List ℕ) {b : Brought} → ReadsAtMost got room
    → b ≡ brought_of (answer_of got) (length room) → ReadSays (length room) b
read_says got room h e = record { got = answer_of got; moved = answer_moved got room h; is = e }

-- a read that is not the end of the input brings a byte or more, and no more than there is room for
abbrev pub ReadWithin : ℕ → Brought → Type 0
ReadWithin room (Bytes n) = (1 ≤ n) × (n ≤ room)
ReadWithin room End = Unit {0}
ReadWithin room Failed = Unit {0}

within_of : (got : ℤ) (room : ℕ) → Moved room got → ReadWithin room (brought_of got room)
within_of (pos zero) room m = tt
within_of (pos (suc k)) room m = (omega arith, omega arith)
within_of (negsuc k) room m = tt

pub read-within : {room : ℕ} {b : Brought} → ReadSays room b → ReadWithin room b
read-within {room} h = subst (ReadWithin room) (sym h.is) (within_of h.got room h.moved)

-- ---- the bytes held and those brought

sums_as : (held room : ℕ) (b : Brought) → ReadWithin room b → held + room < 18_446_744_073_709_551_616 → Sums held b
sums_as held room (Bytes n) (f, i) h = omega (arith, i, h)
sums_as held room End w h = tt
sums_as held room Failed w h = tt

pub sums : (held : ℕ) {room : ℕ} {b : Brought} → ReadSays room b → held + room < 18_446_744_073_709_551_616 → Sums held b
sums held {room} {b} r h = sums_as held room b (read-within r) h

pub sums_bytes : (held : ℕ) {n : ℕ} {b : Brought} → Sums held b → b ≡ Bytes n → held + n < 18_446_744_073_709_551_616
sums_bytes held s e = subst (Sums held) e s

-- neither a read nor a write changes what is known of the words
pub sound-read : (p : Progress) (held : ℕ) (b : Brought) → (after_read p held b).sound ≡ p.sound
sound-read p held (Bytes n) = refl
sound-read p held End = refl
sound-read p held Failed = refl

pub write_sound : {p q : Progress} → WriteSays p q → q.sound ≡ p.sound
write_sound w = ap (λ (x : Progress). x.sound) w.is

-- a serve that answers how far it was before its last write does not meet its contract where bytes were pending
pub unwritten-left : {p : Progress} → 0 < p.pending → WriteSays p p → ⊥
unwritten-left {p} some says = let e : p.pending ≡ 0 = ap (λ (q : Progress). q.pending) says.is in omega arith
