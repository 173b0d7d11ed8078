-- One record of bytes of which every record can be read: it is obeyed. Assumes nothing.
use mathlib.Core.Path.{◌≡◌, refl, sym, ap, ◌∙◌, subst}
use mathlib.Core.Bool.{true, false}
use mathlib.Core.List.{List, [], ◌∷◌, append-nil}
use Prim.Native.Nat.{ℕ, suc, ◌+◌, ◌≤◌}
use native.Mathlib.Omega.{arith}
use lib.ListN.{length, set}
use lib.Seq.{sets}
use Rattle.book.specs.Program.{record_length, command_at}
use Rattle.records.specs.declared.Command as records
use Rattle.records.specs.declared.Found.{Found}
use Rattle.records.specs.declared.Found.TheVariants as found
use Rattle.records.specs.Record.{read_record, asked}
use Rattle.records.proofs.Promises.{Recorded, record-read, end_read, more-read, bad_read}
use Rattle.commands.specs.declared.Outcome.{Outcome}
use Rattle.commands.specs.declared.Taken.{Taken}
use Rattle.commands.specs.declared.Taken.TheVariants.{Done, End, More, Bad}
use Rattle.commands.specs.Obey.{Obeys, Takes, TakePost}
use Rattle.player.specs.Play.{outcome_words, Readable, NextPost}
use Rattle.player.proofs.Passes.{none-some, front}

-- what was taken is a record
record Took (bs w w' : List ℕ) (r : Taken) : Type 0 where
  command : records.Command
  size : ℕ
  outcome : Outcome
  is : r ≡ Done outcome size
  recorded : Recorded bs command size
  obeyed : Obeys (asked bs size command) w w' outcome

took : (bs : List ℕ) {w w' : List ℕ} {r : Taken} → 1 ≤ length bs → Readable bs → TakePost bs true w w' r → Took bs w w' r
took bs {w} {w'} {r} h (cs, e) = go (read_record bs true) refl
  where
    go : (f : Found) → read_record bs true ≡ f → Takes bs w w' f r → Took bs w w' r
    go found.End i t = absurd (omega (arith, (end_read bs true i).1))
    go found.More i t = let q : true ≡ false = (more-read bs true i).0 in let z : ◌≡◌ {A = ℕ} 0 1 = cc in absurd (omega arith)
    go found.Bad i t =
        absurd (none-some (sym (ap command_at (sym (append-nil bs)) ∙ (bad_read bs true i [] (λ u. refl)).1) ∙ (front bs cs h e).read))
    go (found.Record c size) i (x, j, o) =
        record { command = c; size = size; outcome = x; is = j; recorded = record-read bs true c size i; obeyed = o }

-- the outcome is listed
pub next-done : (bs : List ℕ) {w w' l l' : List ℕ} {at : ℕ} {r : Taken} (x : Outcome) (size : ℕ) → 1 ≤ length bs → Readable bs
    → TakePost bs true w w' r → r ≡ Done x size
    → l' ≡ sets l at (outcome_words x) → NextPost bs w w' l l' at size
next-done bs {w} {w'} x size h e p i s =
    let t = took bs h e p in
    let a : t.outcome ≡ x = cc t.is in
    let b : t.size ≡ size = cc t.is in
    record {
      entry = record { command = asked bs t.size t.command; outcome = x };
      read = ap command_at (sym (append-nil bs)) ∙ t.recorded.command-is [];
      size = sym b ∙ sym (t.recorded.length-is []) ∙ ap (λ (k : List ℕ). 2 + record_length k) (append-nil bs);
      within = subst (λ (k : ℕ). k ≤ length bs) b t.recorded.within;
      obeyed = subst (Obeys (asked bs t.size t.command) w w') a t.obeyed;
      listed = s;
    }

-- nothing else can be
abbrev Other : Taken → Type 0
Other (Done x size) = ⊥
Other End = Unit {0}
Other More = Unit {0}
Other Bad = Unit {0}

pub next-other : (bs w w' : List ℕ) {r : Taken} (q : Taken) → 1 ≤ length bs → Readable bs → TakePost bs true w w' r → r ≡ q → Other q → ⊥
next-other bs w w' q h e p i o = let t = took bs {w = w} {w' = w'} h e p in subst Other (sym i ∙ t.is) o

-- ---- the five words of an outcome

pub put_five : (l : List ℕ) (at a b c d e : ℕ)
    → set (set (set (set (set l at a) (at + 1) b) (at + 2) c) (at + 3) d) (at + 4) e ≡ sets l at (a ∷ b ∷ c ∷ d ∷ e ∷ [])
put_five l at a b c d e =
    let p : at + 1 ≡ suc at = omega arith in
    let q : at + 2 ≡ suc (suc at) = omega arith in
    let r : at + 3 ≡ suc (suc (suc at)) = omega arith in
    let s : at + 4 ≡ suc (suc (suc (suc at))) = omega arith in
    rw (p, q, r, s) refl
