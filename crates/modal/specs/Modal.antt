-- What diamond and box ask and promise, over functions of levels. Assumes nothing.
use mathlib.Core.List.{List, [], ◌∷◌, ◌++◌, Memᴰ as Mem}
use Rattle.std.specs.Prelude.{ℕ, ◌*◌, Result}
use Rattle.accounts.specs.declared.Count.{Count}
use Rattle.layout.specs.View.{View}
use Rattle.diagram.specs.Level.{Fn}
use Rattle.diagram.specs.Rows.{Arrow, den}
use Rattle.diagram.specs.Even.{ReadsOn, even}
use Rattle.diagram.specs.Need.{step_need}
use Rattle.diagram.specs.Steps.{not_f, and_f}
use Rattle.rows.specs.Used.{rows_of}
use Rattle.collect.specs.Lent.{live}
use Rattle.book.specs.Ticks.{exists_needs, diamond_needs}
use Rattle.book.specs.Diamond.{exists_next, diamond_f}
use Rattle.table.specs.declared.Full.{Full}
use Rattle.counting.specs.declared.Taken.{Taken}
use Rattle.book.specs.Run.{needing_all, fit}
use Rattle.book.specs.Held.{Held}
use Rattle.modal.specs.Chain.{Base, Ran}

-- NOT of F within E, which is V
abbrev pub within_not : Fn → Fn → Fn
within_not E F = and_f (not_f F) E

-- "each such bit and NOT, the NOTs of a box included, is followed by AND with V as a step", of functions of levels
abbrev pub complement_needs : ℕ → List Fn → Fn → Fn → List ℕ
complement_needs n fs E F = step_need (2 * n) (F ∷ fs) (not_f F) ∷ step_need (2 * n) (E ∷ not_f F ∷ fs) (within_not E F) ∷ []

-- "Box: NOT f, diamond, NOT", of functions of levels
abbrev pub boxed_needs : ℕ → List Fn → Fn → Fn → Fn → List ℕ
boxed_needs n fs E R F =
    let B = within_not E F in
    complement_needs n fs E F ++ (diamond_needs n fs R B ++ complement_needs n fs E (diamond_f n R B))

abbrev pub boxed_f : ℕ → Fn → Fn → Fn → Fn
boxed_f n E R F = within_not E (diamond_f n R (within_not E F))

-- a chain of steps with these needs, for F
abbrev pub Chained : ℕ → ℕ → ℕ → View → View → List ℕ → List ℕ → Fn → Count → Result Taken Full → Type 0
Chained n N limit W X lent needs F q o = Ran n N W X (live W lent) (fit limit needs) F (needing_all q needs) o

-- a table between steps, lent arrows, and an operand
pub record QuantifyPre (n N limit : ℕ) (W : View) (lent : List ℕ) (a : ℕ) : Type 0 where
  pub base : Base n N limit W
  pub arrows : (b : ℕ) → Mem b lent → Arrow (rows_of W) b
  pub operand : Arrow (rows_of W) a

-- the relation's arrow is live, and the operand is of even levels, so a set
pub record ModalPre (n N limit : ℕ) (W : View) (lent : List ℕ) (t a : ℕ) : Type 0 where
  pub base : Base n N limit W
  pub arrows : (b : ℕ) → Mem b lent → Arrow (rows_of W) b
  pub relation : Mem t (live W lent)
  pub operand : Arrow (rows_of W) a
  pub even : ReadsOn even (den (2 * n) (rows_of W) a)

-- V's arrow is live
pub record ComplementPre (n N limit : ℕ) (W : View) (lent : List ℕ) (v a : ℕ) : Type 0 where
  pub base : Base n N limit W
  pub arrows : (b : ℕ) → Mem b lent → Arrow (rows_of W) b
  pub valid : Mem v (live W lent)
  pub operand : Arrow (rows_of W) a

-- V's arrow is live and of even levels, and so is the operand; the relation's arrow is live
pub record BoxPre (n N limit : ℕ) (W : View) (lent : List ℕ) (v t a : ℕ) : Type 0 where
  pub valid : Mem v (live W lent)
  pub states : ReadsOn even (den (2 * n) (rows_of W) v)
  pub modal : ModalPre n N limit W lent t a

-- whatever functions `fs` registers, relations and the lent arrows hold: each step is answered exactly where it and `fs` need at most
-- `limit` rows, and its need is counted, q being counted before
abbrev pub QuantifyPost : ℕ → ℕ → ℕ → View → View → List ℕ → ℕ → Count → Result Taken Full → Type 0
QuantifyPost n N limit W X lent a q o =
    (fs : List Fn) → Held (2 * n) (rows_of W) (live W lent) fs
    → Chained n N limit W X lent (exists_needs n fs n (den (2 * n) (rows_of W) a)) (exists_next n (den (2 * n) (rows_of W) a)) q o

abbrev pub DiamondPost : ℕ → ℕ → ℕ → View → View → List ℕ → ℕ → ℕ → Count → Result Taken Full → Type 0
DiamondPost n N limit W X lent t a q o =
    (fs : List Fn) → Held (2 * n) (rows_of W) (live W lent) fs
    → Chained n N limit W X lent (diamond_needs n fs (den (2 * n) (rows_of W) t) (den (2 * n) (rows_of W) a))
    (diamond_f n (den (2 * n) (rows_of W) t) (den (2 * n) (rows_of W) a)) q o

abbrev pub ComplementPost : ℕ → ℕ → ℕ → View → View → List ℕ → ℕ → ℕ → Count → Result Taken Full → Type 0
ComplementPost n N limit W X lent v a q o =
    (fs : List Fn) → Held (2 * n) (rows_of W) (live W lent) fs
    → Chained n N limit W X lent (complement_needs n fs (den (2 * n) (rows_of W) v) (den (2 * n) (rows_of W) a))
    (within_not (den (2 * n) (rows_of W) v) (den (2 * n) (rows_of W) a)) q o

abbrev pub BoxPost : ℕ → ℕ → ℕ → View → View → List ℕ → ℕ → ℕ → ℕ → Count → Result Taken Full → Type 0
BoxPost n N limit W X lent v t a q o =
    (fs : List Fn) → Held (2 * n) (rows_of W) (live W lent) fs
    → Chained n N limit W X lent (boxed_needs n fs (den (2 * n) (rows_of W) v) (den (2 * n) (rows_of W) t) (den (2 * n) (rows_of W) a))
    (boxed_f n (den (2 * n) (rows_of W) v) (den (2 * n) (rows_of W) t) (den (2 * n) (rows_of W) a)) q o
