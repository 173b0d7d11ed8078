-- Names for the places of a table's words; docs/LAYOUT.md has the same list. Assumes nothing.
use Rattle.std.specs.Prelude.{ℕ, ◌+◌, ◌*◌}

-- "The table has N rows, 32 registers, 8 relations and a tally"
abbrev pub REGISTERS : ℕ
REGISTERS = 32

abbrev pub RELATIONS : ℕ
RELATIONS = 8

-- "n from 1 to 16"
abbrev pub MAX_BITS : ℕ
MAX_BITS = 16

-- "N (1 to 60,000)"
abbrev pub MAX_ROWS : ℕ
MAX_ROWS = 60000

-- "at least 256 + 12 × N words": the words before the rows, the header
abbrev pub HEADER : ℕ
HEADER = 256

-- the words for each row in all
abbrev pub ROW_WORDS : ℕ
ROW_WORDS = 12

-- how many words a table of N rows has
abbrev pub words_for : ℕ → ℕ
words_for N = HEADER + ROW_WORDS * N

-- the word of the header for n
abbrev pub BITS : ℕ
BITS = 0

-- the one for N
abbrev pub ROWS : ℕ
ROWS = 1

-- the one for how many rows are used
abbrev pub USED : ℕ
USED = 3

-- where the search for an unused row starts
abbrev pub CURSOR : ℕ
CURSOR = 4

-- how many slots for remembered results are active
abbrev pub SLOTS : ℕ
SLOTS = 5

-- how many results were stored
abbrev pub STORED : ℕ
STORED = 6

-- which layout the words have
abbrev pub LAYOUT : ℕ
LAYOUT = 7

-- the number of this layout, in which arrows may carry a NOT and V is a root
abbrev pub CURRENT : ℕ
CURRENT = 3

-- the word of the root of V, the set of states that exist; roots are words of the header: 0, or an arrow + 1
abbrev pub VALID : ℕ
VALID = 15

-- the first of the 32 registers
abbrev pub FIRST_REGISTER : ℕ
FIRST_REGISTER = 16

-- the first of the 8 relations
abbrev pub FIRST_RELATION : ℕ
FIRST_RELATION = 48

-- the first word after the roots
abbrev pub ROOTS_END : ℕ
ROOTS_END = 56

-- how many roots there are
abbrev pub ROOTS : ℕ
ROOTS = 41

-- V's root where V is every state: one more than arrow 1, everything
abbrev pub ALL_STATES : ℕ
ALL_STATES = 2

-- the word of a row for its low arrow
abbrev pub LOW : ℕ
LOW = 0

-- a row's high arrow
abbrev pub HIGH : ℕ
HIGH = 1

-- a row's level
abbrev pub LEVEL : ℕ
LEVEL = 2

-- the next row of its chain: 0 or the row + 1
abbrev pub NEXT : ℕ
NEXT = 3

-- its place in the list of used rows
abbrev pub RANK : ℕ
RANK = 4

-- a remembered unary result: what was asked, and the answer
abbrev pub MEMO_KEY : ℕ
MEMO_KEY = 5

abbrev pub MEMO_VALUE : ℕ
MEMO_VALUE = 6

-- a word that nothing writes
abbrev pub SPARE : ℕ
SPARE = 7

-- how many words a row has for itself; after N times as many words begins the list of used rows
abbrev pub CELLS : ℕ
CELLS = 8

-- after N times as many words begin the heads of the chains
abbrev pub HEADS : ℕ
HEADS = 9

-- after N times as many words begin the slots for remembered binary results
abbrev pub SLOTTED : ℕ
SLOTTED = 10

-- where the words of row i begin
abbrev pub cells_at : ℕ → ℕ
cells_at i = HEADER + CELLS * i

-- where the list of used rows begins
abbrev pub list_at : ℕ → ℕ
list_at N = HEADER + CELLS * N

-- where the heads of the index begin
abbrev pub heads_at : ℕ → ℕ
heads_at N = HEADER + HEADS * N

-- where the slots for remembered results begin
abbrev pub slots_at : ℕ → ℕ
slots_at N = HEADER + SLOTTED * N

-- where the words beyond the table begin
abbrev pub beyond_at : ℕ → ℕ
beyond_at N = words_for N
