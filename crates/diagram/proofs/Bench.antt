-- Document 01's test bench: the needs of the steps that decide between an answer and 8. Assumes nothing.
use mathlib.Core.Path.{◌≡◌, refl}
use mathlib.Core.List.{[], ◌∷◌}
use Rattle.diagram.specs.Level.{Fn}
use Rattle.diagram.specs.Need.{need}
use Rattle.diagram.proofs.Need.{counting}
use Rattle.diagram.specs.Steps.{bit_f, not_f, and_f}

-- Current bit 0 and current bit 1.
abbrev bit0 : Fn
bit0 = bit_f 0

abbrev bit1 : Fn
bit1 = bit_f 2

-- "02 10 at N = 1 is now answered", n = 1: NOT with its operand.
pub not_needs_lem : need 2 (not_f bit0 ∷ bit0 ∷ []) ≡ 1
unfolding counting
not_needs_lem = refl

-- "n = 2, registers and relations empty: 03 10 11 needs N = 3; N = 2 gives 8": AND with its two operands.
pub and-needs : need 4 (and_f bit0 bit1 ∷ bit0 ∷ bit1 ∷ []) ≡ 3
unfolding counting
and-needs = refl

-- "n = 2, N = 2: set 0 to bit 0, 1 to bit 1, clear 0, set 0 to 02 11: answered": NOT with its operand, which register 1 holds too.
pub cleared-needs : need 4 (not_f bit1 ∷ bit1 ∷ bit1 ∷ []) ≡ 1
unfolding counting
cleared-needs = refl
