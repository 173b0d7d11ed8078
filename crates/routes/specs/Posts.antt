-- What the writing of a run asks of the words and the list and promises of them, by name. Assumes nothing.
use Rattle.std.specs.Prelude.{List, ℕ, Result}
use Rattle.layout.specs.declared.Refusal.{Refusal}
use Rattle.modal.specs.declared.Limits.{Limits}
use Rattle.modal.specs.Posts.{view_in, Counted}
use Rattle.routes.specs.Write.{PlacePre, PlacePost, WritePre, WritePost}
use Rattle.routes.specs.Find.{RunPre, RunPost, FindPost}

-- one state: what writing it asks, and gives
module _ (l : Limits) (words old : List ℕ) where
  -- a next state of s in the set x exists, and the list has the place
  abbrev pub PlaceAsks : (relation s x at : ℕ) → Type 0
  PlaceAsks relation s x at = PlacePre l.bits (view_in l words) relation s x at old

  -- the least of them is answered and written
  abbrev pub PlaceGives : (new : List ℕ) (relation s x at next : ℕ) → Type 0
  PlaceGives new relation s x at next = PlacePost l.bits (view_in l words) relation s x at old new next

-- before a call: what writing the d states after the first one into a list asks, and writing a run of d steps
module _ (l : Limits) (words counts : List ℕ) (relation b d first : ℕ) where
  -- what a run asks, and the list has room for it
  abbrev pub WriteAsks : (list : List ℕ) → Type 0
  WriteAsks list = Counted l words counts (WritePre l.bits l.rows l.limit (view_in l words) relation b d first list)

  -- the needs of layer d fit the limit, and a run of d steps leads from the first state into b
  abbrev pub RunAsks : Type 0
  RunAsks = Counted l words counts (RunPre l.bits l.rows l.limit (view_in l words) relation b d first)

-- after a call: what they give, and what a run from a to b, with the list `old` before and `new` after
module _ (l : Limits) (before after old new : List ℕ) (relation : ℕ) where
  -- the d states after the first one are written from place 1 on
  abbrev pub WriteGives : (b d first : ℕ) → Type 0
  WriteGives b d first = WritePost l.bits l.limit (view_in l before) (view_in l after) relation b d first old new

  -- the run from the first state is written, or the list is too short
  abbrev pub RunGives : (b d first : ℕ) (found : Result ℕ Refusal) → Type 0
  RunGives b d first found = RunPost l.bits l.limit (view_in l before) (view_in l after) relation b d first old new found

  -- a shortest run from a into b is written, or why none is
  abbrev pub FindGives : (a b : ℕ) (found : Result ℕ Refusal) → Type 0
  FindGives a b found = FindPost l.bits l.limit (view_in l before) (view_in l after) relation a b old new found
