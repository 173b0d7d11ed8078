-- What diamond and box ask of the words and promise of them, by name. Each is a record or a promise over the view, and that the counts are
-- right. Assumes nothing.
use Rattle.std.specs.Prelude.{List, ℕ, Result}
use Rattle.accounts.specs.declared.Count.{Count}
use Rattle.layout.specs.View.{View, view}
use Rattle.table.specs.declared.Full.{Full}
use Rattle.counting.specs.declared.Taken.{Taken}
use Rattle.counting.specs.Counts.{CountsOf}
use Rattle.modal.specs.declared.Limits.{Limits}
use Rattle.modal.specs.Modal.{QuantifyPre, QuantifyPost, ModalPre, DiamondPost, ComplementPre, ComplementPost, BoxPre, BoxPost}

-- the view of the words of a table of these sizes
abbrev pub view_in : (limits : Limits) (words : List ℕ) → View
view_in limits words = view limits.rows words

-- P holds, and the counts are those of the table in the words
abbrev pub Counted : (limits : Limits) (words counts : List ℕ) (P : Type 0) → Type 0
Counted limits words counts P = P × CountsOf (view_in limits words) counts

-- before a call: what EXISTS at every odd level, diamond, NOT within V and box ask
module _ (l : Limits) (words counts roots : List ℕ) where
  -- EXISTS at every odd level: a table between steps, lent arrows, and an operand
  abbrev pub QuantifyAsks : (a : ℕ) → Type 0
  QuantifyAsks a = Counted l words counts (QuantifyPre l.bits l.rows l.limit (view_in l words) roots a)

  -- diamond: these, the relation's arrow is live, and the operand is a set
  abbrev pub DiamondAsks : (relation a : ℕ) → Type 0
  DiamondAsks relation a = Counted l words counts (ModalPre l.bits l.rows l.limit (view_in l words) roots relation a)

  -- NOT within V: V's arrow is live
  abbrev pub ComplementAsks : (valid a : ℕ) → Type 0
  ComplementAsks valid a = Counted l words counts (ComplementPre l.bits l.rows l.limit (view_in l words) roots valid a)

  -- box: V's arrow is live and a set, and what diamond asks
  abbrev pub BoxAsks : (valid relation a : ℕ) → Type 0
  BoxAsks valid relation a = Counted l words counts (BoxPre l.bits l.rows l.limit (view_in l words) roots valid relation a)

-- after a call: what they give, with `count` counted before
module _ (l : Limits) (before after counts roots : List ℕ) where
  -- EXISTS at every odd level of a, each step exactly within the limit, and its needs counted
  abbrev pub QuantifyGives : (a : ℕ) (count : Count) (taken : Result Taken Full) → Type 0
  QuantifyGives a count taken =
      Counted l after counts (QuantifyPost l.bits l.rows l.limit (view_in l before) (view_in l after) roots a count taken)

  -- diamond of a by the relation, so too
  abbrev pub DiamondGives : (relation a : ℕ) (count : Count) (taken : Result Taken Full) → Type 0
  DiamondGives relation a count taken =
      Counted l after counts (DiamondPost l.bits l.rows l.limit (view_in l before) (view_in l after) roots relation a count taken)

  -- NOT of a within V, so too
  abbrev pub ComplementGives : (valid a : ℕ) (count : Count) (taken : Result Taken Full) → Type 0
  ComplementGives valid a count taken =
      Counted l after counts (ComplementPost l.bits l.rows l.limit (view_in l before) (view_in l after) roots valid a count taken)

  -- box of a by the relation within V, so too
  abbrev pub BoxGives : (valid relation a : ℕ) (count : Count) (taken : Result Taken Full) → Type 0
  BoxGives valid relation a count taken =
      Counted l after counts (BoxPost l.bits l.rows l.limit (view_in l before) (view_in l after) roots valid relation a count taken)
