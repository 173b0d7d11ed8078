-- Laws of what specs/Replies.antt defines. Assumes nothing.
use mathlib.Core.Path.{◌≡◌, refl, sym, subst}
use mathlib.Core.Logic.{by_cases}
use mathlib.Core.Bool.{Bool, false}
use mathlib.Core.List.{List, []}
use mathlib.Core.Option.{Option}
use Prim.Native.Nat.{ℕ, ◌≤◌, ◌<◌}
use native.Mathlib.Decide.{dec_lt}
use native.Mathlib.Omega.{arith}
use lib.ListN.{length}
use Rattle.book.specs.Book.{Book}
use Rattle.book.specs.Program.{Line, end_ok, end_bad, text_of}
use Rattle.records.specs.declared.Found.{Found}
use Rattle.records.specs.declared.Found.TheVariants as found
use Rattle.records.specs.Record.{read_record, asked}
use Rattle.records.specs.Text.{WroteWithin}
use Rattle.records.proofs.Promises.{record-read, more-read}
use Rattle.records.proofs.Reading.{never}
use Rattle.records.specs.Cuts.{step_on}
use Rattle.commands.specs.declared.Outcome.{Outcome}
use Rattle.commands.specs.declared.Taken.{Taken}
use Rattle.commands.specs.declared.Taken.TheVariants as taken
use Rattle.commands.specs.Obey.{Takes, TakePost}
use Rattle.rooms.specs.declared.Said.{Said}
use Rattle.rooms.specs.declared.Said.TheVariants as said
use Rattle.rooms.specs.Stands.{Stands, outcome_line}
use Rattle.rooms.proofs.Stands.{obeyed}
use Rattle.rooms.specs.Replies.{line_room, Writes, Prints, Steps, Replies}

-- ---- the step follows from what became of the bytes

taken-steps : (o : Option Book) (bs old new out out' : List ℕ) (f : Found) (t : Taken) (r : Said) → Stands o old → Takes bs old new f t
    → Prints t out out' r
    → Steps bs old new out out' r (step_on o bs f)
taken-steps o bs old new out out' found.End t r s p w =
    let (k, e, i) = subst (λ (v : Taken). Prints v out out' r) p.0 w in
    (k, e, p.1, i)
taken-steps o bs old new out out' found.More t r s p w =
    let (e, i) = subst (λ (v : Taken). Prints v out out' r) p.0 w in
    (e, p.1, i)
taken-steps o bs old new out out' found.Bad t r s p w =
    let (k, e, i) = subst (λ (v : Taken). Prints v out out' r) p.0 w in
    (k, e, p.1, i)
taken-steps o bs old new out out' (found.Record c size) t r s p w =
    let (x, i, h) = p in
    let (k, e, q) = subst (λ (v : Taken). Prints v out out' r) i w in
    let d = obeyed o (asked bs size c) old new x s h in
    (size, k, e, refl, subst (λ (l : Line). Writes l out out' k) (sym d.line) q, d.stands)

-- ---- each answer

pub replies-room : (bs : List ℕ) (ended : Bool) (ws out : List ℕ) → length out < line_room → Replies bs ended ws ws out out said.Room
replies-room bs ended ws out h =
    record { room = λ l. (refl, refl, refl); plain = λ l. absurd (omega arith); book = λ l. absurd (omega arith) }

pub replies-plain : (bs : List ℕ) (ended : Bool) (old new out out' : List ℕ) (t : Taken) (r : Said) → line_room ≤ length out
    → TakePost bs ended old new t → Prints t out out' r
    → Replies bs ended old new out out' r
replies-plain bs ended old new out out' t r h p w = record {
  room = λ l. absurd (omega arith);
  plain = λ l. (t, p, w);
  book = λ l o s. taken-steps o bs old new out out' (read_record bs ended) t r s p w;
}

-- by what was matched, and the line written
module _ (bs : List ℕ) (ended : Bool) (old new out out' : List ℕ) {t : Taken} (h : line_room ≤ length out)
    (p : TakePost bs ended old new t) where
  matched : (u : Taken) (r : Said) → t ≡ u → Prints u out out' r → Replies bs ended old new out out' r
  matched u r e w = replies-plain bs ended old new out out' t r h p (subst (λ (v : Taken). Prints v out out' r) (sym e) w)

  pub replies-line : (x : Outcome) (size written : ℕ) → t ≡ taken.Done x size
      → WroteWithin 44 out 0 (text_of (outcome_line x) []) out' written
      → Replies bs ended old new out out' (said.Line size written)
  replies-line x size written e w = matched (taken.Done x size) (said.Line size written) e (written, refl, w)

  pub replies-end : (written : ℕ) → t ≡ taken.End → WroteWithin 8 out 0 (text_of end_ok []) out' written
      → Replies bs ended old new out out' (said.End written)
  replies-end written e w =
      matched taken.End (said.End written) e (written, refl, record { wrote = w.wrote; within = omega (arith, w.within) })

  pub replies_bad : (written : ℕ) → t ≡ taken.Bad → WroteWithin 8 out 0 (text_of end_bad []) out' written
      → Replies bs ended old new out out' (said.End written)
  replies_bad written e w =
      matched taken.Bad (said.End written) e (written, refl, record { wrote = w.wrote; within = omega (arith, w.within) })

  pub replies-more : t ≡ taken.More → out' ≡ out → Replies bs ended old new out out' said.More
  replies-more e i = matched taken.More said.More e (refl, i)

-- ---- what a caller may count on, on any words

-- a record of the bytes is used, and what is written lies in the room
pub record LineFits (bs out : List ℕ) (used written : ℕ) : Type 0 where
  pub some-used : 1 ≤ used
  pub used-within : used ≤ length bs
  pub written-within : written ≤ length out

module _ {bs : List ℕ} {ended : Bool} {old new out out' : List ℕ} where
  -- a property holds if it follows from want of room and from what became of the bytes
  plain_cases : {r : Said} (P : Type 0) → Replies bs ended old new out out' r → (r ≡ said.Room → P)
      → (line_room ≤ length out → (f : Found) → read_record bs ended ≡ f → (t : Taken) → Takes bs old new f t → Prints t out out' r → P) → P
  plain_cases P h a b =
      by_cases (dec_lt (length out) line_room)
      (λ l. a (h.room l).0)
      (λ l. let g : line_room ≤ length out = omega arith in let (t, p, w) = h.plain g in b g (read_record bs ended) refl t p w)

  pub line-fits : {used k : ℕ} → Replies bs ended old new out out' (said.Line used k) → LineFits bs out used k
  line-fits {used} {k} h = plain_cases (LineFits bs out used k) h (λ e. never (cc)) go
    where
      go : line_room ≤ length out → (f : Found) → read_record bs ended ≡ f → (t : Taken) → Takes bs old new f t
          → Prints t out out' (said.Line used k) → LineFits bs out used k
      go g found.End i t p w = let (m, e, q) = subst (λ (v : Taken). Prints v out out' (said.Line used k)) p.0 w in never (cc)
      go g found.More i t p w = let (e, q) = subst (λ (v : Taken). Prints v out out' (said.Line used k)) p.0 w in never (cc)
      go g found.Bad i t p w = let (m, e, q) = subst (λ (v : Taken). Prints v out out' (said.Line used k)) p.0 w in never (cc)
      go g (found.Record c size) i t (x, j, o) w =
          let (m, e, q) = subst (λ (v : Taken). Prints v out out' (said.Line used k)) j w in
          let a : used ≡ size = cc in
          let b : k ≡ m = cc in
          let d = record-read bs ended c size i in
          record { some-used = omega (arith, d.least); used-within = omega (arith, d.within); written-within = omega (arith, q.within) }

  pub end_fits : {k : ℕ} → Replies bs ended old new out out' (said.End k) → k ≤ length out
  end_fits {k} h = plain_cases (k ≤ length out) h (λ e. never (cc)) go
    where
      go : line_room ≤ length out → (f : Found) → read_record bs ended ≡ f → (t : Taken) → Takes bs old new f t
          → Prints t out out' (said.End k) → k ≤ length out
      go g f i (taken.Done x size) p (m, e, q) = never (cc)
      go g f i taken.End p (m, e, q) = let b : k ≡ m = cc in omega (arith, q.within)
      go g f i taken.More p (e, q) = never (cc)
      go g f i taken.Bad p (m, e, q) = let b : k ≡ m = cc in omega (arith, q.within)

  -- more bytes are asked for only where more may come, and fewer than the longest record's are at hand
  pub more-fits : Replies bs ended old new out out' said.More → (ended ≡ false) × (length bs < 1_102)
  more-fits h = plain_cases ((ended ≡ false) × (length bs < 1_102)) h (λ e. never (cc)) go
    where
      go : line_room ≤ length out → (f : Found) → read_record bs ended ≡ f → (t : Taken) → Takes bs old new f t → Prints t out out' said.More
          → (ended ≡ false) × (length bs < 1_102)
      go g found.End i t p w = let (m, e, q) = subst (λ (v : Taken). Prints v out out' said.More) p.0 w in never (cc)
      go g found.More i t p w = let d = more-read bs ended i in (d.0, d.1)
      go g found.Bad i t p w = let (m, e, q) = subst (λ (v : Taken). Prints v out out' said.More) p.0 w in never (cc)
      go g (found.Record c size) i t (x, j, o) w = let (m, e, q) = subst (λ (v : Taken). Prints v out out' said.More) j w in never (cc)

  -- room is asked for only where a line has none
  pub room_wanted : Replies bs ended old new out out' said.Room → line_room ≤ length out → ⊥
  room_wanted h g = let (t, p, w) = h.plain g in go t w
    where
      go : (t : Taken) → Prints t out out' said.Room → ⊥
      go (taken.Done x size) (m, e, q) = never (cc)
      go taken.End (m, e, q) = never (cc)
      go taken.More (e, q) = never (cc)
      go taken.Bad (m, e, q) = never (cc)

  -- by what was matched
  pub line_said : {r : Said} {used k : ℕ} → Replies bs ended old new out out' r → r ≡ said.Line used k → LineFits bs out used k
  line_said h e = line-fits (subst (Replies bs ended old new out out') e h)

  pub end_said : {r : Said} {k : ℕ} → Replies bs ended old new out out' r → r ≡ said.End k → k ≤ length out
  end_said h e = end_fits (subst (Replies bs ended old new out out') e h)

  pub more_said : {r : Said} → Replies bs ended old new out out' r → r ≡ said.More → (ended ≡ false) × (length bs < 1_102)
  more_said h e = more-fits (subst (Replies bs ended old new out out') e h)

  -- where no line is written the words stay
  pub more_same : {r : Said} → Replies bs ended old new out out' r → r ≡ said.More → new ≡ old
  more_same {r} h i = plain_cases (new ≡ old) h (λ e. never (cc)) go
    where
      go : line_room ≤ length out → (f : Found) → read_record bs ended ≡ f → (t : Taken) → Takes bs old new f t → Prints t out out' r
          → new ≡ old
      go g found.End j t p w = p.1
      go g found.More j t p w = p.1
      go g found.Bad j t p w = p.1
      go g (found.Record c size) j t (x, k, o) w = let (m, e, q) = subst (λ (v : Taken). Prints v out out' r) k w in never (cc)

  pub room-same : {r : Said} → Replies bs ended old new out out' r → r ≡ said.Room → new ≡ old
  room-same {r} h i = by_cases (dec_lt (length out) line_room)
      (λ l. (h.room l).1)
      (λ l. absurd (room_wanted (subst (Replies bs ended old new out out') i h) (omega arith)))
