-- Laws of what specs/Evaluated.antt defines. Assumes nothing.
use mathlib.Core.Path.{◌≡◌, refl, ap, sym, ◌∙◌, subst}
use mathlib.Core.Bool.{Bool, true, false, cond, ◌&&◌, ◌||◌, true≢false}
use mathlib.Core.Logic.{◌≢◌}
use mathlib.Core.List.{List}
use mathlib.Core.Option.{some}
use Prim.Native.Nat.{ℕ, suc, ◌+◌, ◌-◌, ◌<◌}
use native.Mathlib.Omega.{arith}
use lib.Dec.{T, eqb}
use borrow.Author.Tests.{ne_eqb, eq-eqb, eqb-true, eqb-false}
use Rattle.mucalculus.specs.Form.{put}
use Rattle.layout.specs.Refusals.{keeps_all}
use Rattle.layout.specs.Places.{REGISTERS, RELATIONS, BITS, ROWS, USED, CURSOR, SLOTS, STORED, SPARE, VALID, FIRST_REGISTER, FIRST_RELATION}
use Rattle.layout.specs.View.{View, view, header_of, put_header}
use Rattle.layout.proofs.Same.{same-beyond}
use Rattle.rows.specs.Used.{rows_of}
use Rattle.rows.specs.Sound.{Good, Sound, table_of}
use Rattle.table.proofs.Store.{rows-kept, good_store}
use Rattle.book.specs.Book.{Book, Call, relation, set, valid, clear, collect}
use Rattle.book.proofs.Stored.{whole-does}
use Rattle.book.specs.Table.{Table, Reply, Serves}
use Rattle.book.proofs.Alike.{Alike, alike_serves}
use Rattle.book.specs.BookOf.{book_of}
use Rattle.book.proofs.BookOf.{whole-book_of, sound-shows}
use Rattle.book.proofs.Leaves.{with_rows, store_reg, store_rel, store_valid}
use Rattle.book.proofs.Calls.{tidied_serves}
use Rattle.contract.specs.Seen.{arrow_in, seen_in, seen, SoundWords}
use Rattle.contract.proofs.Seen.{sound-table, table-sound}
use Rattle.contract.specs.Kept.{Exact, free_word, target, changes}
use Rattle.contract.specs.Posts.{CallPost}
use Rattle.contract.proofs.Roots.{collects-roots}
use Rattle.collect.specs.Answers.{FreeManyPost, few, many}
use Rattle.operations.specs.Work.{OpFrame}
use Rattle.operations.proofs.Work.{op_made}
use Rattle.formula_steps.specs.Evaluated.{register_stored, relation_stored, valid_stored, Tidied, as_it_was, freed}

-- ---- the words that are left

or_left : (a b : Bool) → (a || b) ≡ false → a ≡ false
or_left true b e = absurd (true≢false e)
or_left false b e = refl

or_right : (a b : Bool) → (a || b) ≡ false → b ≡ false
or_right true b e = absurd (true≢false e)
or_right false b e = e

pub or-true : (a : Bool) → (a || true) ≡ true
or-true true = refl
or-true false = refl

-- a word that is not free is none of the index's and the slots'
module _ (h : ℕ) (e : free_word h ≡ false) where
  not-used : h ≢ USED
  not-used = eqb-false h USED (or_left (eqb h USED) (eqb h CURSOR) (or_left _ (eqb h SLOTS || eqb h STORED) e))

  not_cursor : h ≢ CURSOR
  not_cursor = eqb-false h CURSOR (or_right (eqb h USED) (eqb h CURSOR) (or_left _ (eqb h SLOTS || eqb h STORED) e))

  not-slots : h ≢ SLOTS
  not-slots = eqb-false h SLOTS (or_left (eqb h SLOTS) (eqb h STORED) (or_right (eqb h USED || eqb h CURSOR) _ e))

  not-stored : h ≢ STORED
  not-stored = eqb-false h STORED (or_right (eqb h SLOTS) (eqb h STORED) (or_right (eqb h USED || eqb h CURSOR) _ e))

-- what a call with its reply leaves of a table's words
pub record Left (c : Call) (y : Reply) (W Z : View) : Type 0 where
  pub rows : Z.rows ≡ W.rows
  pub size : Z.size ≡ W.size
  pub header : (h : ℕ) → changes c y h ≡ false → Z.header h ≡ W.header h
  pub spare : (i : ℕ) → Z.cell i SPARE ≡ W.cell i SPARE
  pub beyond : Z.beyond ≡ W.beyond

module _ (c : Call) (y : Reply) where
  -- the steps of an operation or a collection
  pub left_op : {W X Z : View} → Left c y W X → OpFrame X Z → Left c y W Z
  left_op l f = record {
    rows = f.rows ∙ l.rows;
    size = f.size ∙ l.size;
    header =
        λ h e. let z = or_left (free_word h) (eqb y.number 0 && target c h) e in
        f.header h (not-used h z) (not_cursor h z) (not-slots h z) (not-stored h z) ∙ l.header h e;
    spare = λ i. f.spare i SPARE (omega arith) ∙ l.spare i;
    beyond = f.beyond ∙ l.beyond;
  }

  pub left-none : (W : View) → Left c y W W
  left-none W = record { rows = refl; size = refl; header = λ h e. refl; spare = λ i. refl; beyond = refl }

  -- a word that an answered call changes
  pub left-put : {W X : View} (k v : ℕ) → Left c y W X → y.number ≡ 0 → target c k ≡ true → Left c y W (put_header X k v)
  left-put {W} {X} k v l z t = record {
    rows = l.rows;
    size = l.size;
    header =
        λ h e. let n : h ≢ k = λ q. true≢false (sym (ap (λ (b : Bool). free_word h || b) (answered h q) ∙ or-true (free_word h)) ∙ e) in
        rw (ne_eqb h k n) (l.header h e);
    spare = l.spare;
    beyond = l.beyond;
  }
    where
      answered : (h : ℕ) → h ≡ k → (eqb y.number 0 && target c h) ≡ true
      answered h q = rw (eq-eqb y.number 0 z, q) t

-- the table of words that keep N
table_is : (old new : List ℕ) → header_of new ROWS ≡ header_of old ROWS → table_of new ≡ view (header_of old ROWS) new
table_is old new e = ap (λ (k : ℕ). view k new) e

pub and_no : (a : Bool) → (a && false) ≡ false
and_no true = refl
and_no false = refl

-- N stays
rows-stays : (c : Call) (y : Reply) → changes c y ROWS ≡ false
rows-stays (relation t bs) y =
    let z : eqb ROWS (FIRST_RELATION + t) ≡ false = ne_eqb ROWS (FIRST_RELATION + t) (omega arith) in rw z (and_no (eqb y.number 0))
rows-stays (set acc r R bs) y =
    let z : eqb ROWS (FIRST_REGISTER + r) ≡ false = ne_eqb ROWS (FIRST_REGISTER + r) (omega arith) in rw z (and_no (eqb y.number 0))
rows-stays (valid bs) y = and_no (eqb y.number 0)
rows-stays (clear r) y =
    let z : eqb ROWS (FIRST_REGISTER + r) ≡ false = ne_eqb ROWS (FIRST_REGISTER + r) (omega arith) in rw z (and_no (eqb y.number 0))
rows-stays collect y = and_no (eqb y.number 0)

-- ---- what is seen of the words

-- only the rows changed
pub rows_seen : (W X : View) → OpFrame W X → Alike (with_rows (seen_in W) (rows_of X)) (seen_in X)
rows_seen W X f = record {
  n = f.header BITS (omega arith) (omega arith) (omega arith) (omega arith);
  N = f.rows;
  valid = ap (λ (w : ℕ). w - 1) (f.header VALID (omega arith) (omega arith) (omega arith) (omega arith));
  rows = refl;
  reg = λ r l. ap arrow_in (f.header (FIRST_REGISTER + r) (omega arith) (omega arith) (omega arith) (omega arith));
  rel = λ t l. ap arrow_in (f.header (FIRST_RELATION + t) (omega arith) (omega arith) (omega arith) (omega arith));
}

-- another word written
other-put : (X : View) (h v k : ℕ) → k ≢ h → (put_header X h v).header k ≡ X.header k
other-put X h v k n = rw (ne_eqb k h n)

-- word `start` + k of the roots written: seen from `start` on
root-put : (X : View) (start k a q : ℕ)
    → arrow_in ((put_header X (start + k) (suc a)).header (start + q)) ≡ put (λ j. arrow_in (X.header (start + j))) k (some a) q
root-put X start k a q = go (eqb q k) refl
  where
    go : (b : Bool) → eqb q k ≡ b
        → arrow_in ((put_header X (start + k) (suc a)).header (start + q)) ≡ cond b (some a) (arrow_in (X.header (start + q)))
    go true e = let z : start + q ≡ start + k = let i = eqb-true q k e in omega arith in rw (eq-eqb (start + q) (start + k) z)
    go false e = let n : start + q ≢ start + k = let m = eqb-false q k e in omega arith in rw (ne_eqb (start + q) (start + k) n)

module _ (X : View) (r a : ℕ) (l : r < REGISTERS) where
  pub register-seen : Alike (store_reg (seen_in X) r (some a)) (seen_in (register_stored X r a))
  register-seen = record {
    n = other-put X (FIRST_REGISTER + r) (suc a) BITS (omega arith);
    N = refl;
    valid = ap (λ (w : ℕ). w - 1) (other-put X (FIRST_REGISTER + r) (suc a) VALID (omega arith));
    rows = rows-kept X (FIRST_REGISTER + r) (suc a) (omega arith) (omega arith) (omega arith) (omega arith);
    reg = λ q _. root-put X FIRST_REGISTER r a q;
    rel = λ t _. ap arrow_in (other-put X (FIRST_REGISTER + r) (suc a) (FIRST_RELATION + t) (omega arith));
  }

  pub register-good : Good X → Good (register_stored X r a)
  register-good g = good_store X (FIRST_REGISTER + r) (suc a) (omega arith) (omega arith) (omega arith) (omega arith) g

module _ (X : View) (t a : ℕ) (l : t < RELATIONS) where
  pub relation-seen : Alike (store_rel (seen_in X) t (some a)) (seen_in (relation_stored X t a))
  relation-seen = record {
    n = other-put X (FIRST_RELATION + t) (suc a) BITS (omega arith);
    N = refl;
    valid = ap (λ (w : ℕ). w - 1) (other-put X (FIRST_RELATION + t) (suc a) VALID (omega arith));
    rows = rows-kept X (FIRST_RELATION + t) (suc a) (omega arith) (omega arith) (omega arith) (omega arith);
    reg = λ q k. ap arrow_in (other-put X (FIRST_RELATION + t) (suc a) (FIRST_REGISTER + q) (omega arith));
    rel = λ q k. root-put X FIRST_RELATION t a q;
  }

  pub relation-good : Good X → Good (relation_stored X t a)
  relation-good g = good_store X (FIRST_RELATION + t) (suc a) (omega arith) (omega arith) (omega arith) (omega arith) g

-- V's word stays where another root is written
pub valid-other : (X : View) (h a : ℕ) → VALID ≢ h → X.header VALID ≢ 0 → (put_header X h (suc a)).header VALID ≢ 0
valid-other X h a n v e = v (sym (other-put X h (suc a) VALID n) ∙ e)

module _ (X : View) (a : ℕ) where
  here_put : (put_header X VALID (suc a)).header VALID ≡ suc a
  here_put = refl

  pub valid-seen : Alike (store_valid (seen_in X) a) (seen_in (valid_stored X a))
  valid-seen = record {
    n = other-put X VALID (suc a) BITS (omega arith);
    N = refl;
    valid = let e = here_put in omega arith;
    rows = rows-kept X VALID (suc a) (omega arith) (omega arith) (omega arith) (omega arith);
    reg = λ q k. ap arrow_in (other-put X VALID (suc a) (FIRST_REGISTER + q) (omega arith));
    rel = λ q k. ap arrow_in (other-put X VALID (suc a) (FIRST_RELATION + q) (omega arith));
  }

  pub valid-good : Good X → Good (valid_stored X a)
  valid-good g = good_store X VALID (suc a) (omega arith) (omega arith) (omega arith) (omega arith) g

  pub valid-some : (valid_stored X a).header VALID ≢ 0
  valid-some e = let h = here_put in omega arith

-- ---- the call

pub tidied_by : {Y Z : View} → FreeManyPost Y Z → Tidied Y Z
tidied_by (few e) = as_it_was e
tidied_by (many p) = freed p.sound.good (op_made p.frame) p.collects

-- a call that serves up to its collection serves with it
pub tidied_served : (b : Book) (c : Call) (t : Table) (y : Reply) {Y Z : View} → Good Y → Y.header VALID ≢ 0 → Tidied Y Z
    → Serves b c t (seen_in Y) y
    → Good Z × (Z.header VALID ≢ 0) × Serves b c t (seen_in Z) y
tidied_served b c t y {Y} {Z} g n (as_it_was e) s =
    (subst Good (sym e) g, subst (λ (x : View). x.header VALID ≢ 0) (sym e) n, subst (λ (x : View). Serves b c t (seen_in x) y) (sym e) s)
tidied_served b c t y {Y} {Z} g n (freed h f k) s = (
  h,
  λ e. n (sym (f.header VALID (omega arith) (omega arith) (omega arith) (omega arith)) ∙ e),
  alike_serves (rows_seen Y Z f) b c t y (tidied_serves b c t (seen_in Y) y (rows_of Z) s (collects-roots Y n k)),
)

-- and what it leaves of the words
pub tidied_left : (c : Call) (y : Reply) {W Y Z : View} → Tidied Y Z → Left c y W Y → Left c y W Z
tidied_left c y {W} (as_it_was e) l = subst (Left c y W) (sym e) l
tidied_left c y (freed g f k) l = left_op c y l f

-- set, relation and valid do not settle all words
abbrev pub TakesFormula : Call → Type 0
TakesFormula (relation t bs) = Unit {0}
TakesFormula (set acc r R bs) = Unit {0}
TakesFormula (valid bs) = Unit {0}
TakesFormula (clear r) = ⊥
TakesFormula collect = ⊥

exact_of : (c : Call) (y : Reply) (old new : List ℕ) → TakesFormula c → Exact c y old new
exact_of (relation t bs) y old new k = tt
exact_of (set acc r R bs) y old new k = tt
exact_of (valid bs) y old new k = tt
exact_of (clear r) y old new k = absurd k
exact_of collect y old new k = absurd k

-- SET, RELATION OR VALID after its checks: the words `new` hold a table that serves the book, and no word changed that must not
pub formula_done : (c : Call) (y : Reply) (old new : List ℕ) → TakesFormula c → (T (keeps_all y.number) → ⊥) → SoundWords old
    → (Z : View) → view (header_of old ROWS) new ≡ Z → Good Z → Z.header VALID ≢ 0 → Left c y (table_of old) Z
    → Serves (book_of (seen old)) c (seen old) (seen_in Z) y → CallPost c old new y
formula_done c y old new k late s Z is g n l d = record {
  performs = record {
    unsound = λ n. absurd (n s);
    served =
        λ _. (
          subst Sound (sym table)
              (table-sound Z g n
              (sound-shows _ (seen_in Z) (whole-does (book_of (seen old)) c (whole-book_of (seen old) (sound-table (table_of old) s)))
              d.shows)),
          subst (λ (v : View). Serves (book_of (seen old)) c (seen old) (seen_in v) y) (sym table) d,
        );
  };
  kept = λ _. record {
    all = λ a. absurd (late a);
    size = ap (λ (v : View). v.size) is ∙ l.size;
    header = λ h _ e. ap (λ (v : View). v.header h) is ∙ l.header h e;
    spare = λ i _. ap (λ (v : View). v.cell i SPARE) is ∙ l.spare i;
    beyond = same-beyond (header_of old ROWS) new old (ap (λ (v : View). v.beyond) is ∙ l.beyond);
    exact = exact_of c y old new k;
  };
}
  where
    table : table_of new ≡ Z
    table = table_is old new (ap (λ (v : View). v.header ROWS) is ∙ l.header ROWS (rows-stays c y)) ∙ is
