-- What the layers ask of the words and promise of them, by name. Each is a record or a promise over the view, and that the counts are
-- right. Assumes nothing.
use Rattle.std.specs.Prelude.{List, ℕ, Option, Result}
use Rattle.table.specs.declared.Full.{Full}
use Rattle.counting.specs.declared.Taken.{Taken}
use Rattle.modal.specs.declared.Limits.{Limits}
use Rattle.modal.specs.Posts.{view_in, Counted}
use Rattle.layers.specs.declared.Meeting.{Meeting}
use Rattle.layers.specs.Next.{NextPre, NextPost}
use Rattle.layers.specs.Again.{AgainPre, AgainPost}
use Rattle.layers.specs.Pass.{PassPre, PassPost}

-- before a call: what the next layer, a layer made again, and the walk over the layers ask
module _ (l : Limits) (words counts : List ℕ) where
  -- a table between steps, a relation and a set b that are live, and the arrow of the last layer
  abbrev pub NextAsks : (relation b last : ℕ) → Type 0
  NextAsks relation b last = Counted l words counts (NextPre l.bits l.rows l.limit (view_in l words) relation b last)

  -- a relation and a set b that are live, and the needs of layer j fit the limit
  abbrev pub AgainAsks : (relation b j : ℕ) → Type 0
  AgainAsks relation b j = Counted l words counts (AgainPre l.bits l.rows l.limit (view_in l words) relation b j)

  -- a relation and sets a and b that are live
  abbrev pub PassAsks : (relation a b : ℕ) → Type 0
  PassAsks relation a b = Counted l words counts (PassPre l.bits l.rows l.limit (view_in l words) relation a b)

-- after a call: what they give
module _ (l : Limits) (before after counts : List ℕ) where
  -- the next layer, b OR diamond of the last one, exactly where its needs fit the limit
  abbrev pub NextGives : (relation b last : ℕ) (taken : Result Taken Full) → Type 0
  NextGives relation b last taken =
      Counted l after counts (NextPost l.bits l.rows l.limit (view_in l before) (view_in l after) relation b last taken)

  -- the arrow of layer j
  abbrev pub AgainGives : (relation b j layer : ℕ) → Type 0
  AgainGives relation b j layer = Counted l after counts (AgainPost l.bits (view_in l before) (view_in l after) relation b j layer)

  -- where the pass ends: at a layer that shares a state with a, at none, or where the needs do not fit
  abbrev pub PassGives : (relation a b : ℕ) (reached : Result (Option Meeting) Full) → Type 0
  PassGives relation a b reached =
      Counted l after counts (PassPost l.bits l.limit (view_in l before) (view_in l after) relation a b reached)
