-- The text of a chain of turns from words of zeros is the book's for what the reads brought. Assumes nothing.
use mathlib.Core.Path.{◌≡◌, refl, sym, ap, ◌∙◌, subst}
use mathlib.Core.Bool.{Bool, true, false, cond}
use mathlib.Core.List.{List, [], ◌++◌, append_assoc, append-nil}
use Prim.Native.Nat.{ℕ}
use lib.ListN.{take, drop}
use Rattle.book.specs.Program.{written}
use Rattle.records.proofs.Reading.{never}
use Rattle.rooms.specs.declared.Said.{Said}
use Rattle.rooms.specs.declared.Said.TheVariants.{Line, End, More, Room}
use Rattle.rooms.specs.Replies.{Replies}
use Rattle.rooms.proofs.Whole.{SoFar, so_far-none, so_far-line, so_far_more, so_far-room, so_far-end, so_far-begins}
use Rattle.rooms.specs.Whole.{zeros}
use Rattle.room_io.specs.declared.Progress.{Progress}
use Rattle.room_io.specs.Places.{at_hand, unwritten}
use Rattle.room_io.specs.Served.{Way, going, last_line, read_failed, write_failed, State, way_after, Came, state_after, Turns, none, more}
use Rattle.room_io.specs.Served.{all_handed, Whole, Begins}

-- ---- the turns go on exactly while they are not done

module _ (s : State) (q : Progress) (v j u room : List ℕ) where
  going_on : (r : Said) → Came s q v j u room r → q.done ≡ false → way_after r q.done ≡ going
  going_on (Line used k) a d = refl
  going_on (End k) (b, e, c) d = never (cc)
  going_on More a d = ap (λ (b : Bool). cond b read_failed going) d
  going_on Room a d = ap (λ (b : Bool). cond b write_failed going) d

  ends_there : (r : Said) → Came s q v j u room r → q.done ≡ true → way_after r q.done ≡ going → ⊥
  ends_there (Line used k) (b, c, e, n) d y = never (cc)
  ends_there (End k) a d y = never (cc)
  ends_there More a d y = let z = sym (ap (λ (b : Bool). cond b read_failed going) d) ∙ y in never (cc)
  ends_there Room a d y = let z = sym (ap (λ (b : Bool). cond b write_failed going) d) ∙ y in never (cc)

pub goes_on : {w i o : List ℕ} {k : ℕ} {s : State} → Turns w i o k s → s.progress.done ≡ false → s.way ≡ going
goes_on none d = refl
goes_on (more {s = s} {q} {v} {j} {u} c n t) d = going_on s q v j u t.room t.reply t.after d

pub done-ends : {w i o : List ℕ} {k : ℕ} {s : State} → Turns w i o k s → s.progress.done ≡ true → s.way ≡ going → ⊥
done-ends none d y = never (cc)
done-ends (more {s = s} {q} {v} {j} {u} c n t) d y = ends_there s q v j u t.room t.reply t.after d y

-- ---- the text

-- the text so far
abbrev Open : State → Type 0
Open s = SoFar s.words (at_hand s.progress s.input) s.progress.ended s.brought (all_handed s)

-- and by the last line all of it
abbrev Told : Way → State → Type 0
Told going s = Open s
Told last_line s = Whole s
Told read_failed s = Open s
Told write_failed s = Open s

either : (failed : Bool) (y : Way) (s : State) → Told y s → Open s → Told (cond failed y going) s
either true y s a b = a
either false y s a b = b

-- other spellings of the same
respelt : {ws bs bs' text text' brought : List ℕ} {e e' : Bool} → bs ≡ bs' → e ≡ e' → text ≡ text' → SoFar ws bs e brought text
    → SoFar ws bs' e' brought text'
respelt {ws} {bs} {bs'} {text} {text'} {brought} {e} {e'} a b c s =
    subst (SoFar ws bs' e' brought) c
    (subst (λ (x : Bool). SoFar ws bs' x brought text) b (subst (λ (l : List ℕ). SoFar ws l e brought text) a s))

module _ (s : State) (q : Progress) (v j u room : List ℕ) (f : Open s) where
  told-turn : (r : Said)
      → Replies (at_hand s.progress s.input) s.progress.ended s.words v (drop s.progress.pending s.output) room r
      → (a : Came s q v j u room r) → Told (way_after r q.done) (state_after s q v j u room r a)
  told-turn (Line used k) h (b, c, e, d) =
      respelt (sym b) (sym e)
      (append_assoc s.handed (unwritten s.progress s.output) (take k room) ∙ ap (λ (l : List ℕ). s.handed ++ l) (sym c))
      (so_far-line f used k h)
  told-turn (End k) h (c, e, d) = λ rest z.
      ap (λ (l : List ℕ). s.handed ++ l) c
      ∙ sym (append_assoc s.handed (unwritten s.progress s.output) (take k room))
      ∙ so_far-end f k h rest (λ y. z (e ∙ y))
  told-turn More h (b, c) =
      let g = respelt (sym b.follow) refl (ap (λ (l : List ℕ). s.handed ++ l) (sym c))
      (so_far_more f b.bytes q.ended b.none h) in
      either q.done read_failed (state_after s q v j u room More (b, c)) g g
  told-turn Room h (b, c, e, w) =
      let g = respelt (sym b) (sym e)
      (sym (ap (λ (l : List ℕ). (s.handed ++ unwritten s.progress s.output) ++ l) c ∙ append-nil (all_handed s)))
      (so_far-room f h) in
      either q.done write_failed (state_after s q v j u room Room (b, c, e, w)) g g

told : {w i o : List ℕ} {k : ℕ} {s : State} → w ≡ zeros → Turns w i o k s → Told s.way s
told e none = subst (λ (l : List ℕ). SoFar l [] false [] []) (sym e) so_far-none
told e (more {s = s} {q} {v} {j} {u} c n t) =
    told-turn s q v j u t.room (subst (λ (y : Way). Told y s) (goes_on c n) (told e c)) t.reply t.answered t.after

-- from words of zeros, and any buffers, the last line makes the text that the writes are handed the book's for what the reads brought
pub program_text : {w i o : List ℕ} {k : ℕ} {s : State} → w ≡ zeros → Turns w i o k s → s.way ≡ last_line → Whole s
program_text {s = s} e c l = subst (λ (y : Way). Told y s) l (told e c)

-- and whatever ended the turns, it is the beginning of that text
pub program_begins : {w i o : List ℕ} {k : ℕ} {s : State} → w ≡ zeros → Turns w i o k s → Begins s
program_begins {s = s} e c = go s.way (told e c)
  where
    go : (y : Way) → Told y s → Begins s
    go going f = so_far-begins f
    go last_line f = ([], append-nil (all_handed s) ∙ f [] (λ z. refl) ∙ ap written (append-nil s.brought))
    go read_failed f = so_far-begins f
    go write_failed f = so_far-begins f
