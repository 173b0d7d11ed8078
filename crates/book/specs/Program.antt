-- "Program": what `roomrules` writes for what it reads, by the book. Assumes nothing.
use Rattle.std.specs.Prelude.{Bool, true, cond, ◌&&◌, List, [], ◌∷◌, ◌++◌, ℕ, zero, suc, ◌+◌, ◌*◌, ◌-◌, ◌/◌, ◌%◌, leb, ltb, eqb, length, get_or, take, drop}
use Rattle.std.proofs.Math.Option.{Option, none, some}
use Rattle.mucalculus.specs.Order.{weight}
use Rattle.accounts.specs.Terms.{alone}
use Rattle.book.specs.Book.{Book, fresh, fresh_fits, Call, relation, set, valid, clear, collect, count, Done, does, answer}

-- a line: four decimal fields, or the last one
pub data Line : Type 0 where
  fields : ℕ → ℕ → ℕ → ℕ → Line  -- operation, refusal or 0, value, rounds
  end_ok end_bad : Line

-- what a record asks: fresh, a call, or a count
pub data Command : Type 0 where
  start : ℕ → ℕ → Command  -- 1: fresh n, N
  call : Call → Command  -- 2, 3, 4, 6
  states : ℕ → Command  -- 5: count r

-- ---- records

-- "It lends 16,384 words of zeros, so N is at most 1,344"
abbrev pub words_lent : ℕ
words_lent = 16_384

-- "Operations: 1 fresh n, N (two bytes); 2 relation t, formula; 3 set r, R (four bytes), formula; 4 clear r; 5 count r; 6 collect", by the
-- bytes after the version; fixed arguments of another length are no command, and "a formula is the rest of its record"
abbrev pub command_of : ℕ → List ℕ → Option Command
command_of op xs =
    cond (eqb op 1) (cond (eqb (length xs) 3) (some (start (at 0) (at 1 * 256 + at 2))) none)
    (cond (eqb op 2) (cond (leb 1 (length xs)) (some (call (relation (at 0) (drop 1 xs)))) none)
    (cond (eqb op 3)
    (cond (leb 5 (length xs)) (some (call (set alone (at 0) (((at 1 * 256 + at 2) * 256 + at 3) * 256 + at 4) (drop 5 xs)))) none)
    (cond (eqb op 4) (cond (eqb (length xs) 1) (some (call (clear (at 0)))) none)
    (cond (eqb op 5) (cond (eqb (length xs) 1) (some (states (at 0))) none)
    (cond (eqb op 6) (cond (eqb (length xs) 0) (some (call collect)) none)
    none)))))
  where
    at : ℕ → ℕ
    at i = get_or xs i 0

-- ---- what is written

-- the states in a set, 0 in none
abbrev pub states_in : Option (List Bool) → ℕ
states_in none = 0
states_in (some A) = weight true A

-- a number, 0 for none
abbrev pub value_of : Option ℕ → ℕ
value_of none = 0
value_of (some x) = x

-- the operation of a call
abbrev pub op_of : Call → ℕ
op_of (relation t bs) = 2
op_of (set acc r R bs) = 3
-- no record asks for it
op_of (valid bs) = 0
op_of (clear r) = 4
op_of collect = 6

-- "value (3 and 5: states in r; 6: rows; else 0)", of an answered call
abbrev pub shown : Call → Done → ℕ
shown (relation t bs) d = 0
shown (set acc r R bs) d = states_in (d.0.reg r)
shown (valid bs) d = 0
shown (clear r) d = 0
shown collect d = value_of d.1.value

-- "A refused record has 0 in the last two fields"
abbrev pub line_of : Call → Done → Line
line_of c d = fields (op_of c) d.1.number (cond (eqb d.1.number 0) (shown c d) 0) d.1.rounds

-- one command: no book is there before the first answered fresh, since "All zero words are unsound" (check 2)
abbrev pub obey : Option Book → Command → Option Book × Line
obey o (start n N) = cond (fresh_fits n N words_lent) (some (fresh n N), fields 1 0 0 0) (o, fields 1 1 0 0)
obey none (call c) = (none, fields (op_of c) 2 0 0)
obey none (states r) = (none, fields 5 2 0 0)
obey (some b) (call c) = let d = does b c in (some d.0, line_of c d)
obey (some b) (states r) = let a = answer b (count r) in (some b, fields 5 a.number (value_of a.value) 0)

-- the length L of the record that begins here
abbrev pub record_length : List ℕ → ℕ
record_length bs = get_or bs 0 0 * 256 + get_or bs 1 0

-- the record that begins here is whole, in range and of version 1
abbrev pub whole : List ℕ → Bool
whole bs =
    (leb 2 (length bs) && (leb 2 (record_length bs) && leb (record_length bs) 1_100))
    && (leb (2 + record_length bs) (length bs) && eqb (get_or bs 2 0) 1)

-- the command of a whole record
abbrev pub command_at : List ℕ → Option Command
command_at bs = cond (whole bs) (command_of (get_or bs 3 0) (take (record_length bs - 2) (drop 4 bs))) none

-- a command's line and what follows, or the end
abbrev pub told : Option Command → (Command → List Line) → List Line
told none go = end_bad ∷ []
told (some c) go = go c

-- the lines for the bytes that are left; a record has 4 bytes or more, so the bytes' number is enough fuel
abbrev pub lines : ℕ → Option Book → List ℕ → List Line
lines zero o bs = end_ok ∷ []
lines (suc fuel) o [] = end_ok ∷ []
lines (suc fuel) o (x ∷ xs) =
    told (command_at (x ∷ xs)) (λ c.
    let d = obey o c in
    let more = lines fuel d.0 (drop (2 + record_length (x ∷ xs)) (x ∷ xs)) in
    d.1 ∷ more)

-- what the program writes for what it reads
abbrev pub roomrules : List ℕ → List Line
roomrules input = lines (length input) none input

-- ---- as bytes

-- a number's decimal digits, the lowest last, with j more than one of them at most
abbrev pub digits : ℕ → ℕ → List ℕ
digits zero k = (48 + k) ∷ []
digits (suc j) k = cond (ltb k 10) ((48 + k) ∷ []) (digits j (k / 10) ++ ((48 + k % 10) ∷ []))

-- every field is below 2^32, so ten digits are enough
abbrev pub decimal : ℕ → List ℕ
decimal k = digits 9 k

-- "One line a record, four decimal fields", with a space between; the last line is `end ok` or `end bad`
abbrev pub text_of : Line → List ℕ → List ℕ
text_of (fields a b c d) more = decimal a ++ (32 ∷ (decimal b ++ (32 ∷ (decimal c ++ (32 ∷ (decimal d ++ (10 ∷ more)))))))
text_of end_ok more = 101 ∷ 110 ∷ 100 ∷ 32 ∷ 111 ∷ 107 ∷ 10 ∷ more
text_of end_bad more = 101 ∷ 110 ∷ 100 ∷ 32 ∷ 98 ∷ 97 ∷ 100 ∷ 10 ∷ more

-- the bytes of some lines, one after the other
abbrev pub texts_of : List Line → List ℕ
texts_of [] = []
texts_of (x ∷ l) = text_of x (texts_of l)

-- the bytes that the program writes for the bytes that it reads
abbrev pub written : List ℕ → List ℕ
written input = texts_of (roomrules input)
