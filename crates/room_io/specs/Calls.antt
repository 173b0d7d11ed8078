-- What the answers of a read and of a write say, and how far the program is after them.
-- Definitions alone.
use Rattle.std.specs.Prelude.{◌≡◌, Bool, true, false, not, ℕ, zero, suc, ◌+◌, ◌≤◌, ◌<◌, min, ℤ, pos, negsuc, Result, Ok, Err}
use Rattle.room_io.specs.declared.Progress.{Progress}
use Rattle.room_io.specs.declared.Brought.{Brought}
use Rattle.room_io.specs.declared.Brought.TheVariants.{Bytes, End, Failed}

-- what a read that is handed room for n bytes may answer: -1, or how many bytes it moved, at most n
abbrev pub Moved : ℕ → ℤ → Type 0
Moved n (pos k) = k ≤ n
Moved n (negsuc k) = k ≡ 0

-- the answer of a read as such a number: -1 where it is an error
abbrev pub answer_of : {E : Type 0} → Result ℕ E → ℤ
answer_of (Ok n) = pos n
answer_of (Err e) = negsuc 0

-- the answer of a read: above 0 so many bytes, no more than there is room for; 0 the end of the input; below 0 it failed
abbrev pub brought_of : ℤ → ℕ → Brought
brought_of (pos zero) room = End
brought_of (pos (suc k)) room = Bytes (min (suc k) room)
brought_of (negsuc k) room = Failed

-- what a read brought is what some answer of a read says
pub record ReadSays (room : ℕ) (b : Brought) : Type 0 where
  pub got : ℤ
  pub moved : Moved room got
  pub is : b ≡ brought_of got room

-- the bytes held and those brought can be counted
abbrev pub Sums : ℕ → Brought → Type 0
Sums held (Bytes n) = held + n < 18_446_744_073_709_551_616
Sums held End = Unit {0}
Sums held Failed = Unit {0}

-- after a read: it is the end where the end was read, and done where it failed
abbrev pub after_read : Progress → ℕ → Brought → Progress
after_read p held (Bytes n) =
    record { start = 0; end = held + n; pending = p.pending; ended = false; done = false; sound = p.sound }
after_read p held End = record { start = 0; end = held; pending = p.pending; ended = true; done = false; sound = p.sound }
after_read p held Failed = record { start = 0; end = held; pending = p.pending; ended = true; done = true; sound = p.sound }

-- after a write of what was pending: done exactly where not all was written
abbrev pub after_write : Progress → Bool → Progress
after_write p is_written =
    record { start = p.start; end = p.end; pending = 0; ended = p.ended; done = not is_written; sound = p.sound }

-- how far the program is after a write is what some answer of a write leaves
pub record WriteSays (p q : Progress) : Type 0 where
  pub is_written : Bool
  pub is : q ≡ after_write p is_written
