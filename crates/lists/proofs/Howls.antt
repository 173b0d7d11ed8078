-- "Howls heard before", where a wrong program's answer is another one: a list for each, with the book's answers.
-- (Freed rows that are used again, and a state without next states under box, are in book, Bench; an outer binder's set that is not a root
-- is the edit evaluator/inner_set_not_a_root.) Assumes nothing.
use mathlib.Core.Bool.{true, false}
use mathlib.Core.List.{List, [], ◌∷◌}
use mathlib.Core.Option.{none, some}
use Rattle.accounts.specs.Terms.{alone}
use Rattle.book.specs.Book.{fresh, relation, set}
use Rattle.book.proofs.Compute.{computing}
use Rattle.book.proofs.Listed.{frame, Line, did, holds, made, related, Gives, testing, given}

-- "Starting an inner mu from its last value". State 1 leads to itself and to state 0, which leads nowhere; nu X. mu Y.
-- diamond ((not bit 0 and X) or Y) asks for state 0 again and again, so no state has it. In the second round of nu the inner mu starts anew
-- and finds no state; from its last value, state 1, it would find state 1, which leads to itself.
abbrev anew : List Line
anew =
    did (relation 0 (frame (0x10 ∷ []))) (related 1)
    ∷ did (set alone 0 100 (frame (0x80 ∷ 0x71 ∷ 0x68 ∷ 0x04 ∷ 0x03 ∷ 0x02 ∷ 0x10 ∷ 0x30 ∷ 0x31 ∷ []))) (made 7 3 (some 0))
    ∷ holds 0 (some (false ∷ false ∷ [])) ∷ []

pub inner_starts_anew : Gives (fresh 1 100) anew
unfolding testing computing
inner_starts_anew = given (fresh 1 100) anew tt

-- "Quantifying current bits in a diamond". State 0 leads to state 1; the state that leads to bit 0 is state 0, and not its next state 1.
abbrev next_bits : List Line
next_bits =
    did (relation 0 (frame (0x03 ∷ 0x02 ∷ 0x10 ∷ 0x20 ∷ []))) (related 3)
    ∷ did (set alone 0 100 (frame (0x68 ∷ 0x10 ∷ []))) (made 0 3 none)
    ∷ holds 0 (some (true ∷ false ∷ [])) ∷ []

pub next_bits_quantified : Gives (fresh 1 100) next_bits
unfolding testing computing
next_bits_quantified = given (fresh 1 100) next_bits tt
