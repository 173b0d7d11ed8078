-- The list theorem is not empty: tables themselves, under the contracts, implement the book; what they play is met, an answered set being
-- one law over what the book computes; and here is a list with its demand. Assumes nothing.
use mathlib.Core.Path.{◌≡◌, refl, sym, subst}
use mathlib.Core.Bool.{Bool, true, false}
use mathlib.Core.List.{List, [], ◌∷◌}
use mathlib.Core.Option.{Option, none, some}
use Prim.Native.Nat.{ℕ, ◌*◌}
use native.Mathlib.Omega.{arith}
use Rattle.diagram.specs.Rows.{Rows, WellFormed, Extends}
use Rattle.diagram.specs.Post.{Denotes}
use Rattle.diagram.specs.Keep.{Keeps}
use Rattle.diagram.proofs.Grow.{extends_refl, empty_well_formed}
use Rattle.diagram.proofs.Keep.{extends_keeps, keeps_within}
use Rattle.accounts.specs.Terms.{alone}
use Rattle.book.specs.Bridge.{fn_of, Sized}
use Rattle.book.specs.Book.{Book, fresh, Call, set, clear, Question, Answer, answered, with_reg, Done, set_done, does, answer}
use Rattle.book.specs.Stored.{Whole}
use Rattle.book.specs.Table.{Table, Reply, Shows, SettledTo, Agrees, roots_of, Serves, NodeSays, Tells}
use Rattle.book.specs.Leaves.{plain, valued, Empty}
use Rattle.book.specs.BookOf.{SoundTable}
use Rattle.book.specs.Contract.{Starts, Performs, Answers, Quiet, Implements}
use Rattle.book.specs.Demand.{Event, book_after, Trace, stop, go, Session, Demand}
use Rattle.book.proofs.Compute.{computing}
use Rattle.book.proofs.Listed.{frame}
use Rattle.book.proofs.Stored.{whole_fresh, whole-does}
use Rattle.book.proofs.Held.{held-arrow}
use Rattle.book.proofs.Nodes.{node-settled}
use Rattle.book.proofs.Follow.{denotes-all}
use Rattle.book.proofs.Roots.{shows-held, kept-before}
use Rattle.book.proofs.Leaves.{with_rows, store_reg, shows-rows, shows-reg, shows-fresh}
use Rattle.book.proofs.BookOf.{only-book, sound-shows}
use Rattle.book.proofs.Calls.{clear_serves}
use Rattle.book.proofs.Demand.{third_demand}

-- the program's words
abbrev lent : ℕ
lent = 16_384

-- fresh, a call and a question as relations of tables
abbrev pub makes : Table → ℕ → ℕ → ℕ → Table → Reply → Type 0
makes t n N count t' y = Starts SoundTable (λ x. x) n N lent count t t' y

abbrev pub performs : Table → Call → Table → Reply → Type 0
performs t c t' y = Performs SoundTable (λ x. x) c t t' y

abbrev pub answers : Table → Question → Table → Reply → Type 0
answers t q t' y = Answers SoundTable (λ x. x) q t t' y

-- a call that stores nothing
abbrev pub rests : Table → Table → Type 0
rests t t' = Quiet SoundTable (λ x. x) t t'

pub tables_implement : Implements Table (λ t. lent) SoundTable (λ t. t) makes performs rests answers
tables_implement = record {
  good = λ w s. s;
  starts = λ w w' n N k y p. p;
  performs = λ w w' c y p. p;
  quiet = λ w w' p. p;
  answers = λ w w' q y p. p;
}

-- ---- what tables play

-- the events lead from one table to another, each under its call's contract
abbrev pub Plays : Table → List Event → Table → Type 0
Plays t l end = Trace Table performs rests t l end

-- a reply by its parts: a number, rounds, a peak and a value
abbrev pub reply : ℕ → ℕ → ℕ → ℕ → Reply
reply number rounds peak a = record { number = number; rounds = rounds; peak = peak; value = a }

-- a call that is served on a table which shows a whole book is performed
performed : {b : Book} {t t' : Table} {y : Reply} → Whole b → Shows b t → (c : Call) → Serves b c t t' y → performs t c t' y
performed {b} {t} {t'} {y} w s c d = record {
  unsound =
      λ n. absurd (n (sound-shows b t w s));
  served =
      λ k. (sound-shows (does b c).0 t' (whole-does b c w) d.shows, subst (λ (x : Book). Serves x c t t' y) (only-book b t w s) d);
}

-- AN ANSWERED SET: the book fills register r with A after j rounds with the peak p, the rows grow, and the arrow a denotes A
module _ {b : Book} {t : Table} (w : Whole b) (s : Shows b t) (r R : ℕ) (bs : List ℕ) (A : List Bool) (j p : ℕ)
    (is : does b (set alone r R bs) ≡ set_done b r A (record { rounds = j; peak = p })) (sized : Sized b.n A) (rows : Rows)
    (wf : WellFormed (2 * b.n) b.N rows) (grown : Extends t.rows rows) (a : ℕ) (d : Denotes (2 * b.n) rows a (fn_of b.n A)) where
  -- the table after it
  abbrev after : Table
  after = store_reg (with_rows t rows) r (some a)

  kept : Keeps t.rows rows (roots_of t)
  kept = extends_keeps s.wf (held-arrow (shows-held b t s)) grown

  shown-after : Shows (with_reg b r (some A)) after
  shown-after = shows-reg b (with_rows t rows) (shows-rows b t s rows wf kept) r (some A) (some a) d

  serves : Serves b (set alone r R bs) t after (reply 0 j p a)
  serves = record {
    shows = subst (λ (x : Done). Shows x.0 after) (sym is) shown-after;
    agrees = subst (λ (x : Done). Agrees x.1 (reply 0 j p a)) (sym is)
        (record { number = refl; rounds = refl; peak = refl; value = node-settled b.n b.N rows A a sized wf d });
    numbers = λ q i. refl;
    rels = λ q i z. refl;
    valid = λ z. refl;
    kept = keeps_within (kept-before (set alone r R bs) (reply 0 j p a) t) kept;
    swept = tt;
  }

  -- with what follows it
  pub set-plays : {l : List Event} {end : Table} → (Whole (with_reg b r (some A)) → Shows (with_reg b r (some A)) after → Plays after l end)
      → Plays t ((set alone r R bs, reply 0 j p a) ∷ l) end
  set-plays rest =
      go {v = after} (performed w s (set alone r R bs) serves)
      (rest (subst (λ (x : Done). Whole x.0) is (whole-does b (set alone r R bs) w)) shown-after)

-- ---- a list from fresh, n = 1 and N = 100

abbrev pub no_rows : Rows
no_rows = record { used = λ i. false; level = λ i. 0; low = λ i. 0; high = λ i. 0 }

pub no_rows_wf : WellFormed 2 100 no_rows
no_rows_wf = empty_well_formed 2 100 no_rows (λ i. refl)

-- nothing filled
abbrev pub blank : Table
blank = record { n = 1; N = 100; valid = 1; rows = no_rows; reg = λ r. none; rel = λ q. none }

empty : Empty 1 100 blank
empty = record { bits = refl; size = refl; every = refl; unused = λ i. refl; reg = λ r l. refl; rel = λ q l. refl }

-- a list that the tables play, and its demand
pub record Met (l : List Event) (end : Table) : Type 0 where
  pub played : Session Table makes performs rests 1 100 l end
  pub demand : Demand SoundTable (λ t. t) answers 1 100 l end

-- tables meet what they play
pub met : {l : List Event} {end : Table} → (Whole (fresh 1 100) → Shows (fresh 1 100) blank → Plays blank l end) → Met l end
met {l} {end} rest = record { played = session; demand = third_demand tables_implement 1 100 session }
  where
    w : Whole (fresh 1 100)
    w = whole_fresh 1 100

    s : Shows (fresh 1 100) blank
    s = shows-fresh 1 100 blank empty

    session : Session Table makes performs rests 1 100 l end
    session = record {
      lent = blank;
      count = 1;
      made = blank;
      reply = plain 0;
      start = record {
        answers = λ i. ((refl, refl, refl, refl), sound-shows (fresh 1 100) blank w s, empty);
        refuses = λ k i. absurd (omega arith);
      };
      answered = refl;
      rest = rest w s;
    }

-- and answer a question as the book does: with the value, where it is settled, and node with the register's number
pub met-answers : {l : List Event} {end : Table} → Met l end → (q : Question) (o : Option ℕ) (x : ℕ)
    → answer (book_after 1 100 l) q ≡ answered o → SettledTo o x → NodeSays end.reg q (valued x)
    → answers end q end (valued x)
met-answers {l} {end} m q o x is e n = record {
  same = refl;
  unsound = λ k. absurd (k m.demand.good);
  told = λ k. subst (λ (b : Book). Tells b q end.reg (valued x)) (sym m.demand.holds) (record {
    agrees = subst (λ (a : Answer). Agrees a (valued x)) (sym is) (record { number = refl; rounds = refl; peak = refl; value = e });
    node_says = n;
  });
}

-- ---- a list: set 0 to all states, clear 0

-- register 0 as all states
abbrev pub stored : Table
stored = store_reg blank 0 (some 1)

abbrev emptied : Table
emptied = store_reg stored 0 none

abbrev pub events : List Event
events = (set alone 0 100 (frame (0x01 ∷ [])), valued 1) ∷ (clear 0, plain 0) ∷ []

events-met : Met events emptied
unfolding computing
events-met =
    met
    (λ w s. set-plays w s 0 100 (frame (0x01 ∷ [])) (true ∷ true ∷ []) 0 0 refl refl no_rows no_rows_wf (extends_refl no_rows) 1
    (denotes-all 1 100 no_rows)
    (λ w' s'. go {v = emptied} (performed w' s' (clear 0) (clear_serves _ stored 0 s' (omega arith))) stop))

pub played : Session Table makes performs rests 1 100 events emptied
played = events-met.played

pub shown : Demand SoundTable (λ t. t) answers 1 100 events emptied
shown = events-met.demand
