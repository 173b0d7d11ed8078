-- A read and each answer's turn leave the buffers as the definitions say. Assumes nothing.
use mathlib.Core.Path.{◌≡◌, refl, sym, ap, ap₂, ◌∙◌, subst}
use mathlib.Core.Bool.{Bool, true, false}
use mathlib.Core.List.{List, [], ◌∷◌, ◌++◌, append-nil}
use Prim.Native.Nat.{ℕ, zero, suc, ◌+◌, ◌-◌, ◌≤◌, ◌<◌}
use native.Mathlib.Omega.{arith}
use lib.ListN.{length, take, drop, length-drop}
use lib.Seq.{length-take-le, take_all, take-append-le, take-append-add, drop-drop, take-nil}
use borrow.Rule.Slice.PartMut.{put_mid, same_len_mid, take_put}
use Rattle.records.proofs.Reading.{never}
use Rattle.rooms.specs.declared.Said.{Said}
use Rattle.rooms.specs.declared.Said.TheVariants.{Line, End, More, Room}
use Rattle.rooms.specs.Replies.{Replies}
use Rattle.rooms.proofs.Replies.{line_said, end_said}
use Rattle.room_io.specs.declared.Progress.{Progress}
use Rattle.room_io.specs.declared.Brought.{Brought}
use Rattle.room_io.specs.declared.Brought.TheVariants as brought
use Rattle.room_io.specs.Calls.{ReadSays, after_read, WriteSays}
use Rattle.room_io.specs.Places.{Placed, at_hand, unwritten, Refilled, Turned}
use Rattle.room_io.proofs.Calls.{ReadWithin, read-within, sound-read}

-- ---- parts of a list

drop-take : (m n : ℕ) (l : List ℕ) → drop m (take n l) ≡ take (n - m) (drop m l)
drop-take zero n l = let e : n - 0 ≡ n = omega arith in ap (λ (k : ℕ). take k l) (sym e)
drop-take (suc m) zero l = let e : 0 - suc m ≡ 0 = omega arith in ap (λ (k : ℕ). take k (drop (suc m) l)) (sym e)
drop-take (suc m) (suc n) [] = sym (take-nil (suc n - suc m))
drop-take (suc m) (suc n) (x ∷ l) = let e : n - m ≡ suc n - suc m = omega arith in drop-take m n l ∙ ap (λ (k : ℕ). take k (drop m l)) e

-- the part of a list from a place on
part-from : (a : ℕ) (l : List ℕ) → take (length l - a) (drop a l) ≡ drop a l
part-from a l = take_all (length l - a) (drop a l) (omega (arith, length-drop a l))

-- ---- a read

-- what a list holds once a part from a place on has been written
module _ (a : ℕ) (l part : List ℕ) (h : a ≤ length l) (z : length part ≡ length (take (length l - a) (drop a l))) where
  abbrev pub put : List ℕ
  put = put_mid a (length l - a) l part

  pub put_size_lem : length put ≡ length l
  put_size_lem = same_len_mid a (length l - a) l part z

  part-size : length part ≡ length l - a
  part-size = z ∙ ap length (part-from a l) ∙ length-drop a l

  -- what is before it, and then the part
  put_front : (n : ℕ) → n ≤ length part → take (a + n) put ≡ take a l ++ take n part
  put_front n i =
      ap (λ (k : ℕ). take (k + n) put) (sym (length-take-le a l h))
      ∙ take-append-add (take a l) (part ++ drop (length l - a) (drop a l)) n
      ∙ ap (λ (m : List ℕ). take a l ++ m) (take-append-le n part (drop (length l - a) (drop a l)) i)

module _ (p : Progress) (input moved part : List ℕ) {held : ℕ} (within : held ≤ length moved) (is : held ≡ p.end - p.start)
    (front : take held moved ≡ take held (drop p.start input))
    (size : length part ≡ length (take (length moved - held) (drop held moved))) where
  -- the bytes at hand stand at the front
  kept_front : take held moved ≡ at_hand p input
  kept_front = front ∙ ap (λ (k : ℕ). take k (drop p.start input)) is

  abbrev filled : List ℕ
  filled = put_mid held (length moved - held) moved part

  -- the room that was read into is what is behind the bytes at hand
  room_behind : length part ≡ length filled - (p.end - p.start)
  room_behind = omega (arith, is, part-size held moved part within size, put_size_lem held moved part within size)

  -- a read of nothing leaves the bytes at hand
  none_follows : take (held - 0) filled ≡ at_hand p input ++ []
  none_follows =
      let z : held - 0 ≡ held = omega arith in
      ap (λ (k : ℕ). take k filled) z ∙ take_put held (length moved - held) moved part within ∙ kept_front
      ∙ sym (append-nil (at_hand p input))

  filled_as : (b : Brought) → ReadWithin (length part) b → ReadSays (length part) b → Refilled p (after_read p held b) input filled
  filled_as (brought.Bytes n) (f, i) h =
      let z : held + n - 0 ≡ held + n = omega arith in
      record {
        order = omega arith;
        within = omega (arith, i, part-size held moved part within size, put_size_lem held moved part within size);
        waiting = refl;
        brings = record {
          brought = brought.Bytes n;
          read = subst (λ (k : ℕ). ReadSays k (brought.Bytes n)) room_behind h;
          is = ap (λ (k : ℕ). after_read p k (brought.Bytes n)) is;
          bytes = take n part;
          follow =
              ap (λ (k : ℕ). take k filled) z ∙ put_front held moved part within size n i
              ∙ ap (λ (m : List ℕ). m ++ take n part) kept_front;
          none = λ t. never (cc);
          some = λ t. omega (arith, length-take-le n part i);
        };
      }
  filled_as brought.End f h = record {
    order = omega arith;
    within = omega (arith, put_size_lem held moved part within size);
    waiting = refl;
    brings = record {
      brought = brought.End;
      read = subst (λ (k : ℕ). ReadSays k brought.End) room_behind h;
      is = ap (λ (k : ℕ). after_read p k brought.End) is;
      bytes = [];
      follow = none_follows;
      none = λ t. refl;
      some = λ t. never (cc);
    };
  }
  filled_as brought.Failed f h = record {
    order = omega arith;
    within = omega (arith, put_size_lem held moved part within size);
    waiting = refl;
    brings = record {
      brought = brought.Failed;
      read = subst (λ (k : ℕ). ReadSays k brought.Failed) room_behind h;
      is = ap (λ (k : ℕ). after_read p k brought.Failed) is;
      bytes = [];
      follow = none_follows;
      none = λ t. refl;
      some = λ t. never (cc);
    };
  }

  -- a read into the room behind the bytes at hand, and how far the program is by its answer
  pub refilled : {b : Brought} {q : Progress} → ReadSays (length part) b → q ≡ after_read p held b → Refilled p q input filled
  refilled {b} h e = subst (λ (x : Progress). Refilled p x input filled) (sym e) (filled_as b (read-within h) h)

pub read-sound : {p q : Progress} {input input' : List ℕ} → Refilled p q input input' → q.sound ≡ p.sound
read-sound {p} f = let b = f.brings in ap (λ (x : Progress). x.sound) b.is ∙ sound-read p (p.end - p.start) b.brought

-- ---- an answer's turn

module _ {p : Progress} (old new input output room : List ℕ) {r : Said} (placed : Placed p (length input) (length output))
    (answered : Replies (at_hand p input) p.ended old new (take (length output - p.pending) (drop p.pending output)) room r)
    (size : length room ≡ length (take (length output - p.pending) (drop p.pending output))) where
  -- the room is all that is behind what is unwritten
  in-room : (x : Said) → r ≡ x → Replies (at_hand p input) p.ended old new (drop p.pending output) room x
  in-room x e = subst (Replies (at_hand p input) p.ended old new (drop p.pending output) room) e
      (subst (λ (o : List ℕ). Replies (at_hand p input) p.ended old new o room r) (part-from p.pending output) answered)

  abbrev written : List ℕ
  written = put_mid p.pending (length output - p.pending) output room

  same_size : length written ≡ length output
  same_size = put_size_lem p.pending output room placed.waiting size

  room-size : length room ≡ length output - p.pending
  room-size = part-size p.pending output room placed.waiting size

  unwritten_then : (k : ℕ) → k ≤ length room → take (p.pending + k) written ≡ unwritten p output ++ take k room
  unwritten_then k i = put_front p.pending output room placed.waiting size k i

  pub turned-line : {used k : ℕ} {b : Bool} → r ≡ Line used k
      → Turned p (record { start = p.start + used; end = p.end; pending = p.pending + k; ended = p.ended; done = false; sound = b })
      old new input input output written
  turned-line {used} {k} e =
      let f = line_said answered e in
      let n = length-take-le (p.end - p.start) (drop p.start input)
      (omega (arith, placed.order, placed.within, length-drop p.start input)) in
      let u : p.end - (p.start + used) ≡ p.end - p.start - used = omega arith in
      record {
        placed = record {
          order = omega (arith, f.used-within, n, placed.order);
          within = placed.within;
          waiting = omega (arith, f.written-within, size, room-size, same_size, placed.waiting);
          enough = placed.enough;
          line = omega (arith, placed.line, same_size);
        };
        reply = Line used k;
        room = room;
        answered = in-room (Line used k) e;
        after = (
          ap (λ (m : ℕ). take m (drop (p.start + used) input)) u
              ∙ ap (take (p.end - p.start - used)) (sym (drop-drop used p.start input))
              ∙ sym (drop-take used (p.end - p.start) (drop p.start input)),
          unwritten_then k (omega (arith, f.written-within, size)),
          refl,
          refl,
        );
      }

  pub turned-end : {k : ℕ} {b : Bool} → r ≡ End k
      → Turned p (record { start = p.start; end = p.end; pending = p.pending + k; ended = p.ended; done = true; sound = b })
      old new input input output written
  turned-end {k} e =
      let f = end_said answered e in
      record {
        placed =
            record {
              order =
                  placed.order;
              within =
                  placed.within;
              waiting =
                  omega (arith, f, size, room-size, same_size, placed.waiting);
              enough =
                  placed.enough;
              line = omega (arith, placed.line, same_size);
            };
        reply = End k;
        room = room;
        answered = in-room (End k) e;
        after = (unwritten_then k (omega (arith, f, size)), refl, refl);
      }

  pub turned_more : {q : Progress} {input' : List ℕ} → r ≡ More → length input' ≡ length input → Refilled p q input input'
      → Turned p q old new input input' output written
  turned_more {q} {input'} e z f = record {
    placed =
        record {
          order =
              f.order;
          within =
              f.within;
          waiting =
              omega (arith, f.waiting, placed.waiting, same_size);
          enough =
              omega (arith, placed.enough);
          line = omega (arith, placed.line, same_size);
        };
    reply = More;
    room = room;
    answered = in-room More e;
    after = (
      f.brings,
      ap (λ (k : ℕ). take k written) f.waiting ∙ take_put p.pending (length output - p.pending) output room placed.waiting,
    );
  }

  pub turned-room : {q : Progress} → r ≡ Room → WriteSays p q → Turned p q old new input input output written
  turned-room {q} e w = let a = ap (λ (x : Progress). x.start) w.is in let b = ap (λ (x : Progress). x.end) w.is in
      let c = ap (λ (x : Progress). x.pending) w.is in let d = ap (λ (x : Progress). x.ended) w.is in record {
        placed =
            record {
              order =
                  omega (arith, placed.order);
              within =
                  omega (arith, placed.within);
              waiting = omega arith;
              enough = placed.enough;
              line = omega (arith, placed.line, same_size);
            };
        reply = Room;
        room = room;
        answered = in-room Room e;
        after = (ap₂ (λ (i j : ℕ). take (j - i) (drop i input)) a b, ap (λ (k : ℕ). take k written) c, d, w);
      }
