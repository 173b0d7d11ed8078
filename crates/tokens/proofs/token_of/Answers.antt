-- `token_of`: each arm knows between which limits the byte lies, and so in which line of the table, or between which. Assumes nothing.
use Rattle.std.proofs.Common.{refl, sym, arith}
use Rattle.tokens.proofs.Table.{in-line, in-gap}
use Rattle.tokens.proofs.token_of.Goals as goal

pub returns-in-0 : goal.returns-in-0
returns-in-0 c = sym (in-line _ 0 refl refl (omega (arith, c.in-0.is)) (omega (arith, c.in-0.is)))

pub returns-in-1 : goal.returns-in-1
returns-in-1 c = sym (in-line _ 1 refl refl (omega (arith, c.in-1.is)) (omega (arith, c.in-1.is)))

pub returns-in-2 : goal.returns-in-2
returns-in-2 c = sym (in-line _ 2 refl refl (omega (arith, c.in-2.is)) (omega (arith, c.in-2.is)))

pub returns-in-3 : goal.returns-in-3
returns-in-3 c = sym (in-line _ 3 refl refl (omega (arith, c.in-3.is)) (omega (arith, c.in-3.is)))

pub returns-in-4 : goal.returns-in-4
returns-in-4 c = sym (in-line _ 4 refl refl (omega (arith, c.in-4.is)) (omega (arith, c.in-4.is)))

pub returns-in-16-to-31 : goal.returns-in-16-to-31
returns-in-16-to-31 c = rw c.from-byte.ensures (sym (in-line _ 5 refl refl (omega arith) (omega arith)))

pub returns-in-32-to-47 : goal.returns-in-32-to-47
returns-in-32-to-47 c = rw c.from-byte.ensures (sym (in-line _ 6 refl refl (omega arith) (omega arith)))

pub returns-in-48-to-63 : goal.returns-in-48-to-63
returns-in-48-to-63 c = rw c.from-byte.ensures (sym (in-line _ 7 refl refl (omega arith) (omega arith)))

pub returns-in-64-to-95 : goal.returns-in-64-to-95
returns-in-64-to-95 c = rw c.from-byte.ensures (sym (in-line _ 8 refl refl (omega arith) (omega arith)))

pub returns-in-112-to-127 : goal.returns-in-112-to-127
returns-in-112-to-127 c = rw c.from-byte.ensures (sym (in-line _ 11 refl refl (omega arith) (omega arith)))

pub returns-in-128-to-143 : goal.returns-in-128-to-143
returns-in-128-to-143 c = rw c.from-byte.ensures (sym (in-line _ 12 refl refl (omega arith) (omega arith)))

pub returns-in_default : goal.returns-in_default
returns-in_default c = sym (in-gap _ 5 5 15 refl refl (omega arith) (omega arith))

pub returns-in_default-2 : goal.returns-in_default-2
returns-in_default-2 c = sym (in-gap _ 15 160 255 refl refl (omega arith) (omega arith))
