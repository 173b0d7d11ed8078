-- Laws of what specs/Closed.antt defines. Assumes nothing.
use mathlib.Core.Path.{◌≡◌, refl, sym, ap, ◌∙◌, subst}
use mathlib.Core.Bool.{Bool, true, false, cond, ◌&&◌}
use mathlib.Core.List.{List, ◌++◌}
use mathlib.Core.Option.{Option, none, some}
use Prim.Native.Nat.{ℕ, ◌+◌, ◌≤◌}
use native.Mathlib.Omega.{arith}
use borrow.Author.Tests.{ne_eqb}
use lib.Dec.{eqb}
use lib.ListN.{length}
use Rattle.layout.specs.Places.{USED, CURSOR, SLOTS, STORED, VALID, FIRST_REGISTER}
use Rattle.rows.specs.Sound.{table_of}
use Rattle.book.specs.Book.{Call, collect, effect, stores, does}
use Rattle.book.specs.Table.{Reply, noted}
use Rattle.book.specs.BookOf.{book_of}
use Rattle.book.proofs.BookOf.{whole-book_of, only-book}
use Rattle.book.proofs.Stored.{whole-does}
use Rattle.book.proofs.Truthful.{refused_keeps}
use Rattle.book.specs.Contract.{Answers, Implements}
use Rattle.book.specs.Demand.{Event, calls, Session, Demand}
use Rattle.book.proofs.Demand.{third_demand}
use Rattle.book.specs.Raised.{AllRaised, AllZero, Upgrade, SameVerdicts, Cut}
use Rattle.book.proofs.Raised.{after-each}
use Rattle.contract.specs.Seen.{arrow_in, seen, SoundWords}
use Rattle.contract.proofs.Seen.{sound-table}
use Rattle.contract.specs.Kept.{changes, Kept}
use Rattle.contract.specs.Posts.{CallPost}
use Rattle.contract.specs.Closed.{makes, performs, rests, asks}

-- the predicates of the functions' `ensures` implement the book
pub words_implement : Implements (List ℕ) length SoundWords seen makes performs rests asks
words_implement = record {
  good = λ w s. sound-table (table_of w) s;
  starts = λ w w' n N k y p. p;
  performs = λ w w' c y p. p.performs;
  quiet = λ w w' p. p;
  answers = λ w w' q y p. subst (λ (x : List ℕ). Answers SoundWords seen q w x y) (sym p.0) p.1;
}

-- every list of relation, set, valid, clear and collect calls after one answered fresh, refused calls included, with calls that store
-- nothing anywhere between them
pub words-demand : (n N : ℕ) {end : List ℕ} {l : List Event} → Session (List ℕ) makes performs rests n N l end
    → Demand SoundWords seen asks n N l end
words-demand n N x = third_demand words_implement n N x

-- "BIGGER TABLES, SAME VERDICTS" over the lent words: the same list with every limit raised or equal, after its first calls l and l',
-- wherever it is cut
pub words_bigger : (n N M : ℕ) → N ≤ M → M ≤ 60_000
    → (l k l' k' : List Event) {end end' : List ℕ} (s : Session (List ℕ) makes performs rests n N (l ++ k) end)
    (u : Upgrade (List ℕ) length makes performs rests n M s.count (l' ++ k') end') → AllRaised (calls l) (calls l') → AllZero l
    → (x : Cut (List ℕ) performs rests s.made l k end) (x' : Cut (List ℕ) performs rests u.made l' k' end')
    → SameVerdicts seen asks n N M u.reply l l' x.mid x'.mid
words_bigger n N M more most l k l' k' s u r z x x' = after-each words_implement n N M more most l k l' k' s u r z x x'

-- a call that leaves all words stores nothing
pub same-rests : {w v : List ℕ} → v ≡ w → rests w v
same-rests e = record {
  good = λ s. subst SoundWords (sym e) s;
  book = λ s. ap (λ (x : List ℕ). book_of (seen x)) e;
  numbers = λ s r l. ap (λ (x : List ℕ). (seen x).reg r) e;
}

-- a root's word is kept
not_free : (h : ℕ) (y : Reply) → VALID ≤ h → changes collect y h ≡ false
not_free h y l =
    rw (ne_eqb h USED (omega arith), ne_eqb h CURSOR (omega arith), ne_eqb h SLOTS (omega arith), ne_eqb h STORED (omega arith))
    (no_target (eqb y.number 0))
  where
    no_target : (x : Bool) → (x && false) ≡ false
    no_target true = refl
    no_target false = refl

-- what any call gives that leaves sound words sound, the same book, and the words as `Kept` says them of collect, which has no target
pub kept-rests : {y : Reply} {old new : List ℕ} → (SoundWords old → SoundWords new) → book_of (seen new) ≡ book_of (seen old)
    → Kept collect y old new → rests old new
kept-rests {y} sound book kept = record {
  good = sound;
  book = λ s. book;
  numbers = λ s r l. ap arrow_in (kept.header (FIRST_REGISTER + r) (omega arith) (not_free (FIRST_REGISTER + r) y (omega arith)));
}

-- a refused call leaves every register's number
noted-refused : (x : Option ℕ) (c : Call) (y : Reply) (r : ℕ) → (y.number ≡ 0 → ⊥) → noted x c y r ≡ x
noted-refused x c y r n = go (effect c).reg
  where
    go : (o : Option ℕ) → cond (stores o y.number r) (cond (effect c).fills (some y.value) none) x ≡ x
    go none = refl
    go (some q) = rw (ne_eqb y.number 0 n)

-- A REFUSED CALL STORES NOTHING, whatever its number is
pub refused-rests : {c : Call} {old new : List ℕ} {y : Reply} → CallPost c old new y → (y.number ≡ 0 → ⊥) → rests old new
refused-rests {c} {old} {new} {y} p n = record {
  good = λ s. (p.performs.served s).0;
  book = λ s.
      let b = book_of (seen old) in
      let d = (p.performs.served s).1 in
      sym (only-book (does b c).0 (seen new) (whole-does b c (whole-book_of (seen old) (sound-table (table_of old) s))) d.shows)
      ∙ refused_keeps b c (λ e. n (d.agrees.number ∙ e));
  numbers = λ s r l. (p.performs.served s).1.numbers r l ∙ noted-refused ((seen old).reg r) c y r n;
}
