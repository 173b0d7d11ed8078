-- CLEAR and COLLECT: from what the lower functions leave to the calls' contracts. Assumes nothing.
use mathlib.Core.Path.{◌≡◌, refl, ap, sym, ◌∙◌, subst, fun_ext}
use mathlib.Core.Bool.{Bool, true, false, cond, ◌||◌, true≢false}
use mathlib.Core.Logic.{◌≢◌}
use mathlib.Core.List.{List}
use mathlib.Core.Option.{none}
use Prim.Native.Nat.{ℕ, ◌+◌, ◌-◌, ◌≤◌, ◌<◌}
use native.Mathlib.Omega.{arith}
use lib.Dec.{eqb}
use lib.ListN.{set}
use borrow.Author.Tests.{ne_eqb, eq-eqb, eqb-true, eqb-false}
use Rattle.mucalculus.specs.Form.{put}
use Rattle.diagram.specs.Used.{used_count}
use Rattle.layout.specs.Places.{REGISTERS, ROWS, SPARE, VALID, FIRST_REGISTER, FIRST_RELATION}
use Rattle.layout.specs.View.{View, view, header_of, put_header}
use Rattle.layout.proofs.View.{view-header}
use Rattle.layout.proofs.Same.{view-same, same-beyond}
use Rattle.rows.specs.Used.{rows_of}
use Rattle.rows.specs.Sound.{Sound, table_of}
use Rattle.table.proofs.Count.{count-used}
use Rattle.table.proofs.Store.{storable_empty, rows-kept, sound_store}
use Rattle.collect.specs.Answers.{CollectPost}
use Rattle.collect.proofs.Freed.{freed-count}
use Rattle.book.specs.Book.{clear, collect}
use Rattle.book.specs.Table.{Table, Serves}
use Rattle.book.specs.BookOf.{book_of}
use Rattle.book.proofs.Leaves.{with_rows, store_reg}
use Rattle.book.specs.Leaves.{plain, valued}
use Rattle.book.proofs.Calls.{clear_serves, collect_serves, clear_out_of_range}
use Rattle.contract.specs.Seen.{arrow_in, seen_in, seen, SoundWords}
use Rattle.contract.proofs.Seen.{sound-shows-book}
use Rattle.contract.specs.Kept.{Kept, free_word, changes}
use Rattle.contract.specs.Posts.{CallPost}
use Rattle.contract.proofs.Roots.{collects-roots}
use Rattle.contract.proofs.Checked.{call-refused}

-- the table after a call that keeps N
table-after : (old new : List ℕ) → header_of new ROWS ≡ header_of old ROWS → table_of new ≡ view (header_of old ROWS) new
table-after old new e = ap (λ (k : ℕ). view k new) e

-- CLEAR out of range
pub clear-range : (ws : List ℕ) (r : ℕ) → SoundWords ws → REGISTERS ≤ r → CallPost (clear r) ws ws (plain 3)
clear-range ws r s l = call-refused ws s 2 (clear r) (clear_out_of_range (book_of (seen ws)) r l)

-- CLEAR: one word is written
or-false : (a b : Bool) → (a || b) ≡ false → b ≡ false
or-false true b e = absurd (true≢false e)
or-false false b e = e

-- a table with register r's word at 0
module _ (W : View) (r : ℕ) where
  abbrev X : View
  X = put_header W (FIRST_REGISTER + r) 0

  other : (h : ℕ) → h ≢ FIRST_REGISTER + r → X.header h ≡ W.header h
  other h n = rw (ne_eqb h (FIRST_REGISTER + r) n)

  -- the register's own word, and another's
  emptied-reg : (q : ℕ) → arrow_in (X.header (FIRST_REGISTER + q)) ≡ put (seen_in W).reg r none q
  emptied-reg q = go (eqb q r) refl
    where
      go : (b : Bool) → eqb q r ≡ b → arrow_in (X.header (FIRST_REGISTER + q)) ≡ cond b none ((seen_in W).reg q)
      go true e =
          let z : FIRST_REGISTER + q ≡ FIRST_REGISTER + r = let i = eqb-true q r e in
          omega arith in rw (eq-eqb (FIRST_REGISTER + q) (FIRST_REGISTER + r) z)
      go false e = ap arrow_in (other (FIRST_REGISTER + q) (let n = eqb-false q r e in omega arith))

  pub cleared-seen : r < REGISTERS → seen_in X ≡ store_reg (seen_in W) r none
  cleared-seen l = λ i. record {
    n = other 0 (omega arith) i;
    N = W.rows;
    valid = other VALID (omega arith) i - 1;
    rows = rows-kept W (FIRST_REGISTER + r) 0 (omega arith) (omega arith) (omega arith) (omega arith) i;
    reg = fun_ext emptied-reg i;
    rel = fun_ext (λ t. ap arrow_in (other (FIRST_RELATION + t) (omega arith))) i;
  }

  cleared-sound : r < REGISTERS → Sound W → Sound X
  cleared-sound l s =
      sound_store W (FIRST_REGISTER + r) 0 (omega arith) (omega arith) (omega arith) (omega arith) (omega arith) s
      (storable_empty W (FIRST_REGISTER + r))

module _ (old new : List ℕ) (r : ℕ) (s : SoundWords old) (l : r < REGISTERS) {rows : ℕ} (er : rows ≡ header_of old ROWS)
    (e : view rows new ≡ put_header (view rows old) (FIRST_REGISTER + r) 0) where
  abbrev at : ℕ
  at = FIRST_REGISTER + r

  is : view (header_of old ROWS) new ≡ put_header (table_of old) at 0
  is = rw er at e

  table_is : table_of new ≡ put_header (table_of old) at 0
  table_is = table-after old new (ap (λ (v : View). v.header ROWS) is ∙ other (table_of old) r ROWS (omega arith)) ∙ is

  word : new ≡ set old at 0
  word = view-same (header_of old ROWS) new (set old at 0)
      (is ∙ sym (view-header (header_of old ROWS) old s.good.sizes.room at 0 (omega arith)))

  kept : Kept (clear r) (plain 0) old new
  kept = record {
    all = λ a. absurd a;
    size = ap (λ (v : View). v.size) is;
    header = λ h _ c. ap (λ (v : View). v.header h) is ∙ other (table_of old) r h (eqb-false h at (or-false (free_word h) (eqb h at) c));
    spare = λ i _. ap (λ (v : View). v.cell i SPARE) is;
    beyond = same-beyond (header_of old ROWS) new old (ap (λ (v : View). v.beyond) is);
    exact = λ _. word;
  }

  pub clear-done : CallPost (clear r) old new (plain 0)
  clear-done = record {
    performs = record {
      unsound = λ n. absurd (n s);
      served = λ _. (
        subst Sound (sym table_is) (cleared-sound (table_of old) r l s),
        subst (λ (t : Table). Serves (book_of (seen old)) (clear r) (seen old) t (plain 0))
            (sym (ap seen_in table_is ∙ cleared-seen (table_of old) r l))
            (clear_serves (book_of (seen old)) (seen old) r (sound-shows-book old s) l),
      );
    };
    kept = λ _. kept;
  }

-- COLLECT: the rows that are left are those that V, registers and relations reach
module _ (old new : List ℕ) (s : SoundWords old) {rows k : ℕ} (er : rows ≡ header_of old ROWS)
    (q : CollectPost (view rows old) (view rows new) k) where
  post : CollectPost (table_of old) (view (header_of old ROWS) new) k
  post = rw er at q

  abbrev W : View
  W = table_of old

  abbrev Y : View
  Y = view (header_of old ROWS) new

  same-table : table_of new ≡ Y
  same-table = table-after old new (post.freed.frame.header ROWS (omega arith) (omega arith))

  -- "collect changes nothing" but the rows
  collected_seen : seen_in Y ≡ with_rows (seen_in W) (rows_of Y)
  collected_seen = let f = post.freed.frame in λ i. record {
    n = f.header 0 (omega arith) (omega arith) i;
    N = header_of old ROWS;
    valid = f.header VALID (omega arith) (omega arith) i - 1;
    rows = rows_of Y;
    reg = λ r. arrow_in (f.header (FIRST_REGISTER + r) (omega arith) (omega arith) i);
    rel = λ t. arrow_in (f.header (FIRST_RELATION + t) (omega arith) (omega arith) i);
  }

  -- "returns the rows still needed by registers and relations", and by V
  left : k ≡ used_count (rows_of Y) (header_of old ROWS)
  left = post.needs ∙ sym (freed-count W Y _ s post.freed) ∙ count-used Y post.freed.sound.good.ranked

  kept-words : Kept collect (valued k) old new
  kept-words = let f = post.freed.frame in record {
    all = λ a. absurd a;
    size = f.size;
    header = λ h _ c. f.header h
        (λ e. true≢false (subst (λ (x : ℕ). changes collect (valued k) x ≡ false) e c))
        (λ e. true≢false (subst (λ (x : ℕ). changes collect (valued k) x ≡ false) e c));
    spare = λ i _. f.memo i SPARE (omega arith);
    beyond = same-beyond (header_of old ROWS) new old f.beyond;
    exact = tt;
  }

  pub collect-done : CallPost collect old new (valued k)
  collect-done = record {
    performs = record {
      unsound = λ n. absurd (n s);
      served = λ _. (
        subst Sound (sym same-table) post.freed.sound,
        subst (λ (t : Table). Serves (book_of (seen old)) collect (seen old) t (valued k)) (sym (ap seen_in same-table ∙ collected_seen))
            (subst (λ (x : ℕ). Serves (book_of (seen old)) collect (seen old) (with_rows (seen old) (rows_of Y)) (valued x)) (sym left)
            (collect_serves (book_of (seen old)) (seen old) (rows_of Y) (sound-shows-book old s)
            (collects-roots W s.valid post.freed.collects))),
      );
    };
    kept = λ _. kept-words;
  }
