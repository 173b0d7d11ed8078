-- The function of levels that a relation call stores. Assumes nothing.
use Rattle.std.specs.Prelude.{Bool, List, ℕ}
use Rattle.mucalculus.specs.Form.{Form}
use Rattle.book.specs.Run.{pair_f}
use Rattle.diagram.specs.Level.{Fn}
use Rattle.diagram.specs.Steps.{and_f, shift_f}
use Rattle.book.specs.Bridge.{fn_of}

-- the relation's function: the formula's, ANDed with V, then with SHIFT of V
abbrev pub relation_f : ℕ → List Bool → Form → Fn
relation_f n E f = and_f (and_f (pair_f n f) (fn_of n E)) (shift_f (fn_of n E))
