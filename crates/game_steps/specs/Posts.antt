-- What the making of the rounds asks of the words and promises of them, by name. Assumes nothing.
use Rattle.std.specs.Prelude.{◌≡◌, List, ℕ, Result}
use Rattle.modal.specs.declared.Limits.{Limits}
use Rattle.modal.specs.Posts.{view_in, Counted}
use Rattle.evaluator.specs.declared.Stopped.{Stopped}
use Rattle.game_steps.specs.Iterate.{note_by, NotePre, IteratePre, IteratePost}
use Rattle.game_steps.specs.Whole.{RoundsPre, RoundsPost}
use Rattle.game_steps.specs.declared.Asked.{Asked}

abbrev pub NoteAsks : (l : Limits) (words : List ℕ) (a : Asked) (last next : ℕ) → Type 0
NoteAsks l words a last next = NotePre l.bits (view_in l words) a last next

abbrev pub NoteGives : (l : Limits) (words : List ℕ) (a : Asked) (noted last next x : ℕ) → Type 0
NoteGives l words a noted last next x = x ≡ note_by l.bits (view_in l words) a noted last next

abbrev pub IterateAsks : (l : Limits) (words counts stack bs : List ℕ) (a : Asked) → Type 0
IterateAsks l words counts stack bs a = Counted l words counts (IteratePre l (view_in l words) stack bs a)

abbrev pub IterateGives : (l : Limits) (before after stack bs : List ℕ) (a : Asked) (r : Result ℕ Stopped) → Type 0
IterateGives l before after stack bs a r = IteratePost l (view_in l before) (view_in l after) stack bs a r

abbrev pub RoundsAsk : (l : Limits) (words bs : List ℕ) (a : Asked) → Type 0
RoundsAsk l words bs a = RoundsPre l (view_in l words) bs a

abbrev pub RoundsGive : (l : Limits) (before after bs : List ℕ) (a : Asked) (r : Result ℕ Stopped) → Type 0
RoundsGive l before after bs a r = RoundsPost l (view_in l before) (view_in l after) bs a r
