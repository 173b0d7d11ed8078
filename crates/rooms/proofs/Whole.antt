-- Laws of what specs/Whole.antt defines. Assumes nothing.
use mathlib.Core.Path.{◌≡◌, refl, sym, ap, ◌∙◌, subst}
use mathlib.Core.Logic.{◌⊎◌, inl, inr, ⊎_elim, by_cases}
use mathlib.Core.Bool.{Bool, true, false}
use mathlib.Core.List.{List, [], ◌++◌, append_assoc, append-nil}
use mathlib.Core.Option.{Option, none}
use Prim.Native.Nat.{ℕ, ◌≤◌}
use native.Mathlib.Decide.{dec_lt}
use native.Mathlib.Omega.{arith}
use lib.ListN.{length, get_or, take, drop, length-replicate, get_or-replicate, get_or-eq_default}
use Rattle.rows.proofs.Alike.{zeros-unsound}
use Rattle.book.specs.Book.{Book}
use Rattle.book.specs.Program.{Line, words_lent, text_of, written}
use Rattle.records.proofs.TextLaws.{wrote_front}
use Rattle.records.proofs.Reading.{never}
use Rattle.records.specs.Cuts.{Step, writes, waits, ends, step}
use Rattle.records.proofs.Cuts.{text_from, text_after, text_follows}
use Rattle.rooms.specs.declared.Said.{Said}
use Rattle.rooms.specs.declared.Said.TheVariants as said
use Rattle.rooms.specs.Stands.{Stands}
use Rattle.rooms.specs.Replies.{line_room, Writes, Steps, Replies}
use Rattle.rooms.proofs.Replies.{more-fits}
use Rattle.rooms.specs.Whole.{zeros}

-- ---- one answer

-- the text written is the line's
front : (l : Line) (out out' : List ℕ) (k : ℕ) → line_room ≤ length out → Writes l out out' k → take k out' ≡ text_of l []
front l out out' k h w = wrote_front (text_of l []) (omega (arith, w.within, w.wrote.past)) w.wrote

module _ (o : Option Book) (bs : List ℕ) (ended : Bool) (old new out out' : List ℕ) (s : Stands o old) where
  -- a property of what is said holds if it holds of what is said in want of room and of a step
  said_cases : (r : Said) (P : Type 0) → Replies bs ended old new out out' r → (r ≡ said.Room → new ≡ old → P)
      → (line_room ≤ length out → (q : Step) → step o bs ended ≡ q → Steps bs old new out out' r q → P) → P
  said_cases r P h a b =
      by_cases (dec_lt (length out) line_room)
      (λ l. let (e, i, j) = h.room l in a e i)
      (λ l. let g : line_room ≤ length out = omega arith in b g (step o bs ended) refl (h.book g o s))

  -- a line, the last line, and the rest, where the words stay
  record Lined (used k : ℕ) : Type 0 where
    l : Line
    next : Option Book
    is : step o bs ended ≡ writes l next (drop used bs)
    text : take k out' ≡ text_of l []
    stands : Stands next new

  lined : (used k : ℕ) → Replies bs ended old new out out' (said.Line used k) → Lined used k
  lined used k h = said_cases (said.Line used k) (Lined used k) h (λ e i. never (cc)) go
    where
      go : line_room ≤ length out → (q : Step) → step o bs ended ≡ q → Steps bs old new out out' (said.Line used k) q → Lined used k
      go g (writes l o' left) i (u, w, e, d, t, z) =
          let a : used ≡ u = cc in
          let b : k ≡ w = cc in
          record {
            l = l;
            next = o';
            is = i ∙ ap (writes l o') (sym (ap (λ (j : ℕ). drop j bs) a ∙ d));
            text = ap (λ (j : ℕ). take j out') b ∙ front l out out' w g t;
            stands = z;
          }
      go g waits i (e, n, m) = never (cc)
      go g (ends l) i (w, e, n, t) = never (cc)

  last_text : (k : ℕ) (rest : List ℕ) → Replies bs ended old new out out' (said.End k) → take k out' ≡ text_after o bs rest (step o bs ended)
  last_text k rest h = said_cases (said.End k) _ h (λ e i. never (cc)) go
    where
      go : line_room ≤ length out → (q : Step) → step o bs ended ≡ q → Steps bs old new out out' (said.End k) q
          → take k out' ≡ text_after o bs rest (step o bs ended)
      go g (writes l o' left) i (u, w, e, d, t, z) = never (cc)
      go g waits i (e, n, m) = never (cc)
      go g (ends l) i (w, e, n, t) =
          let b : k ≡ w = cc in
          ap (λ (j : ℕ). take j out') b ∙ front l out out' w g t ∙ sym (ap (text_after o bs rest) i)

  -- where no line is written the words stay
  same-words : (r : Said) → (r ≡ said.More) ⊎ (r ≡ said.Room) → Replies bs ended old new out out' r → new ≡ old
  same-words r n h = said_cases r (new ≡ old) h (λ e i. i) go
    where
      go : line_room ≤ length out → (q : Step) → step o bs ended ≡ q → Steps bs old new out out' r q → new ≡ old
      go g (writes l o' left) i (u, w, e, d, t, z) = ⊎_elim (λ k. never (cc)) (λ k. never (cc)) n
      go g waits i (e, n, m) = n
      go g (ends l) i (w, e, n, t) = n

-- ---- from the first answer on

-- the words, the bytes at hand and whether the input has ended, once these bytes were brought and this text was said: whatever is still to
-- come, the book's text for all of it is what was said and what the book says from here on
pub record SoFar (ws bs : List ℕ) (ended : Bool) (brought text : List ℕ) : Type 0 where
  pub book : Option Book
  pub stands : Stands book ws
  pub goes_on : (rest : List ℕ) → (ended ≡ true → rest ≡ []) → written (brought ++ rest) ≡ text ++ text_from book (bs ++ rest)

pub zeros_stand : Stands none zeros
zeros_stand = (length-replicate {A = ℕ} words_lent 0, zeros-unsound zeros at)
  where
    at : (k : ℕ) → get_or zeros k 0 ≡ 0
    at k = by_cases (dec_lt k words_lent) (λ l. get_or-replicate words_lent k 0 0 l)
        (λ l. get_or-eq_default zeros 0 {n = k} (omega (arith, length-replicate {A = ℕ} words_lent 0)))

pub so_far-none : SoFar zeros [] false [] []
so_far-none = record { book = none; stands = zeros_stand; goes_on = λ rest z. refl }

module _ {old new bs out out' : List ℕ} {ended : Bool} {brought text : List ℕ} (s : SoFar old bs ended brought text) where
  -- a record's line is written, and its bytes are done with
  pub so_far-line : (used k : ℕ) → Replies bs ended old new out out' (said.Line used k)
      → SoFar new (drop used bs) ended brought (text ++ take k out')
  so_far-line used k h =
      let d = lined s.book bs ended old new out out' s.stands used k h in
      record {
        book = d.next;
        stands = d.stands;
        goes_on = λ rest z.
            s.goes_on rest z
            ∙ ap (λ (t : List ℕ). text ++ t) (text_follows s.book bs ended rest z ∙ ap (text_after s.book bs rest) d.is)
            ∙ sym (append_assoc text (text_of d.l []) (text_from d.next (drop used bs ++ rest)))
            ∙ ap (λ (t : List ℕ). (text ++ t) ++ text_from d.next (drop used bs ++ rest)) (sym d.text);
      }

  -- more bytes are wanted; these come, and none where the input has ended
  pub so_far_more : (x : List ℕ) (ended' : Bool) → (ended' ≡ true → x ≡ []) → Replies bs ended old new out out' said.More
      → SoFar new (bs ++ x) ended' (brought ++ x) text
  so_far_more x ended' n h = record {
    book = s.book;
    stands = subst (Stands s.book) (sym (same-words s.book bs ended old new out out' s.stands said.More (inl refl) h)) s.stands;
    goes_on = λ rest z.
        ap written (append_assoc brought x rest)
        ∙ s.goes_on (x ++ rest) (λ e. never (cc (more-fits h).0))
        ∙ ap (λ (l : List ℕ). text ++ text_from s.book l) (sym (append_assoc bs x rest));
  }

  -- room for a line is wanted
  pub so_far-room : Replies bs ended old new out out' said.Room → SoFar new bs ended brought text
  so_far-room h = record {
    book = s.book;
    stands = subst (Stands s.book) (sym (same-words s.book bs ended old new out out' s.stands said.Room (inr refl) h)) s.stands;
    goes_on = s.goes_on;
  }

  -- the last line is written; "nothing after it is read", whatever is still to come
  pub so_far-end : (k : ℕ) → Replies bs ended old new out out' (said.End k) → (rest : List ℕ) → (ended ≡ true → rest ≡ [])
      → text ++ take k out' ≡ written (brought ++ rest)
  so_far-end k h rest z =
      ap (λ (t : List ℕ). text ++ t)
      (last_text s.book bs ended old new out out' s.stands k rest h ∙ sym (text_follows s.book bs ended rest z))
      ∙ sym (s.goes_on rest z)

-- what was said is the beginning of the book's text for what was brought
pub so_far-begins : {ws bs : List ℕ} {ended : Bool} {brought text : List ℕ} → SoFar ws bs ended brought text
    → (more : List ℕ) × (text ++ more ≡ written brought)
so_far-begins {bs = bs} {brought = brought} s =
    (text_from s.book (bs ++ []), sym (s.goes_on [] (λ e. refl)) ∙ ap written (append-nil brought))
