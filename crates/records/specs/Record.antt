-- "Program": what the bytes at hand ask, as far as they have been read. Definitions alone.
use Rattle.std.specs.Prelude.{Bool, false, not, cond, ◌&&◌, ◌||◌, List, ℕ, ◌+◌, ◌*◌, ◌-◌, leb, eqb, length, get_or, take, drop}
use Rattle.accounts.specs.Terms.{alone}
use Rattle.book.specs.Program.{record_length}
use Rattle.book.specs.Program as program
use Rattle.book.specs.Book as book
use Rattle.records.specs.declared.Command.{Command}
use Rattle.records.specs.declared.Command.TheVariants.{Fresh, Relation, Set, Clear, Count, Collect}
use Rattle.records.specs.declared.Found.{Found}
use Rattle.records.specs.declared.Found.TheVariants.{End, More, Bad, Record}

-- "two-byte length L (2 to 1,100)"
abbrev pub in_range : ℕ → Bool
in_range L = leb 2 L && leb L 1_100

-- "fixed arguments of another length": whether an operation takes so many bytes of arguments; a formula may have any length
abbrev pub takes : ℕ → ℕ → Bool
takes op k =
    cond (eqb op 1) (eqb k 3)
    (cond (eqb op 2) (leb 1 k)
    (cond (eqb op 3) (leb 5 k)
    (cond (eqb op 4) (eqb k 1)
    (cond (eqb op 5) (eqb k 1)
    (cond (eqb op 6) (eqb k 0)
    false)))))

-- the number of four bytes from a place on, big-endian
abbrev pub quad_at : List ℕ → ℕ → ℕ
quad_at bs i = ((get_or bs i 0 * 256 + get_or bs (i + 1) 0) * 256 + get_or bs (i + 2) 0) * 256 + get_or bs (i + 3) 0

-- "Operations: 1 fresh n, N (two bytes); 2 relation t, formula; 3 set r, R (four bytes), formula; 4 clear r; 5 count r; 6 collect", by the
-- operation and its arguments, which stand from byte 4 of the record on; a formula begins after the fixed ones
abbrev pub command_in : ℕ → List ℕ → Command
command_in op xs =
    cond (eqb op 1) (Fresh (at 0) (at 1 * 256 + at 2))
    (cond (eqb op 2) (Relation (at 0) 5)
    (cond (eqb op 3) (Set (at 0) (((at 1 * 256 + at 2) * 256 + at 3) * 256 + at 4) 9)
    (cond (eqb op 4) (Clear (at 0))
    (cond (eqb op 5) (Count (at 0))
    Collect))))
  where
    at : ℕ → ℕ
    at i = get_or xs i 0

-- the arguments of a whole record
abbrev pub arguments_in : List ℕ → List ℕ
arguments_in bs = take (record_length bs - 2) (drop 4 bs)

-- "L out of range", as soon as its two bytes are there
abbrev pub bad_length : List ℕ → Bool
bad_length bs = leb 2 (length bs) && not (in_range (record_length bs))

-- "another version"
abbrev pub bad_version : List ℕ → Bool
bad_version bs = leb 3 (length bs) && not (eqb (get_or bs 2 0) 1)

-- "an unknown operation or fixed arguments of another length"
abbrev pub bad_arguments : List ℕ → Bool
bad_arguments bs = leb 4 (length bs) && not (takes (get_or bs 3 0) (record_length bs - 2))

-- the bytes at hand are enough to say `end bad`
unfoldable pub doomed : List ℕ → Bool
doomed bs = bad_length bs || (bad_version bs || bad_arguments bs)

-- a record that is not whole: "`end bad` at a record cut short", where no more bytes will come
abbrev pub partial : Bool → Found
partial ended = cond ended Bad More

-- what stands in the bytes at hand; `ended`: no more will come
unfoldable pub read_record : List ℕ → Bool → Found
read_record bs ended =
    cond (eqb (length bs) 0) (cond ended End More)
    (cond (doomed bs) Bad
    (cond (leb (2 + record_length bs) (length bs)) (Record (command_in (get_or bs 3 0) (arguments_in bs)) (2 + record_length bs))
    (partial ended)))

-- the book's command; a formula is the part of the bytes from its start to the record's end
abbrev pub asked : List ℕ → ℕ → Command → program.Command
asked bs size (Fresh n N) = program.start n N
asked bs size (Relation t s) = program.call (book.relation t (take (size - s) (drop s bs)))
asked bs size (Set r R s) = program.call (book.set alone r R (take (size - s) (drop s bs)))
asked bs size (Clear r) = program.call (book.clear r)
asked bs size (Count r) = program.states r
asked bs size Collect = program.call book.collect

-- where the formula begins, or the record's arguments where it has none
abbrev pub start_of : Command → ℕ
start_of (Fresh n N) = 4
start_of (Relation t s) = s
start_of (Set r R s) = s
start_of (Clear r) = 4
start_of (Count r) = 4
start_of Collect = 4
