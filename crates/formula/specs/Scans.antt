-- What the pass of checks 5 and 12 answers: both checks, and the variables that occur free. A set of variables is a word, bit P for P.
-- Definitions alone.
use Rattle.std.specs.Prelude.{ℕ, zero, suc, ◌+◌, ◌*◌, ◌/◌, ◌%◌, ◌^◌, Bool, not, ◌&&◌, cond, List, [], ◌∷◌, eqb, Option, Some, None}
use Rattle.std.specs.Int.Bits.{bit_or, bit_xor}
use Rattle.mucalculus.specs.Form.{Form, bound, lacks, mentioned}
use Rattle.mucalculus.specs.Means.{bit}
use Rattle.formula.specs.Parse.{Got, fails, got}
use Rattle.formula.specs.declared.Scan.{Scan}

-- the first k bits of a word
unfoldable pub bits : ℕ → ℕ → List Bool
bits zero w = []
bits (suc k) w = eqb (w % 2) 1 ∷ bits k (w / 2)

-- the word whose bit P, for P below k, is 1 where h says so
unfoldable pub mask : ℕ → (ℕ → Bool) → ℕ
mask zero h = 0
mask (suc k) h = mask k (λ P. h (suc P)) * 2 + cond (h 0) 1 0

-- the variables that occur free in a formula
abbrev pub free_in : Form → ℕ
free_in f = mask 16 (λ P. not (lacks P f))

-- an answer of the pass: the place after the formula, check 5, check 12, and the free variables
abbrev pub scanned : ℕ → Bool → Bool → ℕ → Scan
scanned e b m w = record { next = e; bound = b; named = m; free = w }

-- the answer of the pass, below binders of the open variables; none where no formula stands at the place
abbrev pub scan_of : ℕ → Got → Option Scan
scan_of scope fails = None
scan_of scope (got f e) = Some (scanned e (bound (bits 16 scope) f) (mentioned f) (free_in f))

-- the answer on an operator of two parts, from that on the first and that on the second
abbrev pub joined_of : Bool → Bool → ℕ → Option Scan → Option Scan
joined_of b m w (Some s) = Some (scanned s.next (b && s.bound) (m && s.named) (bit_or w s.free))
joined_of b m w None = None

-- a set of variables without P
abbrev pub without : ℕ → ℕ → ℕ
without P w = cond (bit P w) (bit_xor w (2 ^ P)) w

-- the answer on a binder of P, from that on its body, where P was not open before if `fresh`
abbrev pub closed_of : Bool → ℕ → Option Scan → Option Scan
closed_of fresh P (Some s) = Some (scanned s.next (fresh && s.bound) (bit P s.free && s.named) (without P s.free))
closed_of fresh P None = None
