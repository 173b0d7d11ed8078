-- Rows needed, as document 01 has it: "Rows needed by some sets or relations: the distinct non-constant functions got from them by fixing
-- levels 0 to k − 1, in all ways, for every k", where, by document 02, "two functions that are each other's complement need one row".
-- A function of m levels is told by its truth table over all lists of m bits. To fix all m levels, or more, leaves constants, so k goes
-- from 0 to m. Assumes nothing.
use Rattle.std.specs.Prelude.{Bool, true, false, cond, not, ◌&&◌, ◌||◌, ℕ, suc, length, get_or}
use Rattle.std.specs.Bool.{beq}
use mathlib.Core.List.{List, [], ◌∷◌, map, flat_map}
use Rattle.mucalculus.specs.Sets.{bit_lists, same}
use Rattle.diagram.specs.Level.{Val, Fn, splice}
use Rattle.diagram.specs.Count.{up_to}

-- The valuation whose level l is entry l of the list, and 0 past its end.
abbrev pub val : List Bool → Val
val bits l = get_or bits l false

-- f with levels 0 to k − 1 fixed to the list's k bits.
unfoldable pub fix_levels : List Bool → Fn → Fn
fix_levels bits f v = f (splice (length bits) (val bits) v)

-- The functions got from f by fixing levels 0 to k − 1, in all ways, for every k from 0 to m.
unfoldable pub cofactors : ℕ → Fn → List Fn
cofactors m f = flat_map (λ k. map (λ bits. fix_levels bits f) (bit_lists k)) (up_to (suc m))

-- The truth table of a function of m levels.
unfoldable pub truth_table : ℕ → Fn → List Bool
truth_table m f = map (λ bits. f (val bits)) (bit_lists m)

-- Whether a bit is in a table.
unfoldable pub has : Bool → List Bool → Bool
has b [] = false
has b (c ∷ cs) = beq b c || has b cs

-- Whether a table or its complement is among others.
unfoldable pub among : List Bool → List (List Bool) → Bool
among t [] = false
among t (s ∷ ss) = same t s || same (map not t) s || among t ss

-- A table put in front of others, unless it is constant, or it or its complement is among them already.
unfoldable pub insert : List Bool → List (List Bool) → List (List Bool)
insert t ts = cond (has false t && has true t) (cond (among t ts) ts (t ∷ ts)) ts

-- The tables of a list that are not constant, distinct up to complement.
unfoldable pub distinct : List (List Bool) → List (List Bool)
distinct [] = []
distinct (t ∷ ts) = insert t (distinct ts)

-- The non-constant functions, as tables, distinct up to complement, got from those of fs by fixing levels 0 to k − 1, in all ways, for
-- every k.
unfoldable pub needed : ℕ → List Fn → List (List Bool)
needed m fs = distinct (map (truth_table m) (flat_map (cofactors m) fs))

-- The rows that fs need: their number.
unfoldable pub need : ℕ → List Fn → ℕ
need m fs = length (needed m fs)

-- "A step's need is the rows needed by its result and all that is live at it", its operands included.
abbrev pub step_need : ℕ → List Fn → Fn → ℕ
step_need m live result = need m (result ∷ live)
