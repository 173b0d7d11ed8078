-- SET, RELATION and VALID after their steps: what the evaluator left, an arrow stored, a collection afterwards. Assumes nothing.
use mathlib.Core.Path.{◌≡◌, refl, sym, ap, ◌∙◌}
use mathlib.Core.Bool.{true, cond}
use mathlib.Core.Logic.{◌≢◌}
use mathlib.Core.List.{List}
use mathlib.Core.Option.{Option, some}
use Prim.Native.Nat.{ℕ, suc, ◌+◌, ◌<◌}
use lib.Dec.{T, eqb}
use Rattle.accounts.specs.declared.Terms.{Terms}
use Rattle.accounts.specs.Terms.{named, rows_under, rounds_under}
use Rattle.accounts.specs.declared.Count.{Count}
use Rattle.accounts.specs.Count.{nothing}
use borrow.Author.Tests.{eq-eqb}
use Rattle.mucalculus.specs.Form.{no_env, put}
use Rattle.tokens.specs.declared.Kind.TheVariants.{Relation, Set, Valid}
use Rattle.layout.specs.Refusals.{keeps_all}
use native.Mathlib.Omega.{arith}
use Rattle.layout.specs.Places.{REGISTERS, RELATIONS, ROWS, VALID, FIRST_REGISTER, FIRST_RELATION}
use Rattle.layout.specs.View.{View, view, header_of}
use Rattle.diagram.specs.Post.{Result, at, full as no_rows}
use Rattle.rows.specs.Used.{rows_of}
use Rattle.rows.specs.Sound.{Good, Sound, table_of}
use Rattle.book.specs.Book.{Book, Call, relation, set, valid, unfilled, model_of, live_of, checks, formula_in}
use Rattle.book.proofs.Stored.{whole-does}
use Rattle.book.specs.Table.{Table, Reply, roots_of, Serves}
use Rattle.book.specs.Over.{states}
use Rattle.book.specs.Run.{run, pair_f, pairs_fit, pairs_count, relation_fits, relation_count}
use Rattle.book.specs.Follow.{Ended, ends, eight, nine, Evals}
use Rattle.book.specs.Pairs.{PairEvals}
use Rattle.book.proofs.Alike.{Alike, alike_serves}
use Rattle.book.specs.BookOf.{book_of}
use Rattle.book.proofs.BookOf.{whole-book_of, sound-shows}
use Rattle.book.specs.Leaves.{plain}
use Rattle.book.proofs.Leaves.{store_reg, store_rel, store_valid}
use Rattle.book.proofs.Formulas.{set_leaves, set_reply, set_serves, relation_leaves, relation_reply, relation_serves, valid_leaves, valid_reply}
use Rattle.book.proofs.Formulas.{valid_serves}
use Rattle.book.specs.Formulas.{relation_f}
use Rattle.contract.specs.Seen.{seen_in, seen, SoundWords}
use Rattle.contract.proofs.Seen.{sound-table, sound-shows-book, table-sound}
use Rattle.contract.specs.Kept.{target}
use Rattle.contract.specs.Posts.{CallPost}
use Rattle.operations.specs.Work.{OpFrame}
use Rattle.formula_steps.proofs.Evaluated.{Left, left_op, left-none, left-put, rows_seen, register-seen, register-good}
use Rattle.formula_steps.proofs.Evaluated.{relation-seen, relation-good, valid-other, valid-seen, valid-good, valid-some}
use Rattle.formula_steps.proofs.Evaluated.{tidied_served, tidied_left, TakesFormula, formula_done}
use Rattle.formula_steps.specs.Evaluated.{register_stored, relation_stored, valid_stored, Tidied}

-- ---- alike tables

alike_trans : {t u v : Table} → Alike t u → Alike u v → Alike t v
alike_trans a b = record {
  n = b.n ∙ a.n;
  N = b.N ∙ a.N;
  valid = b.valid ∙ a.valid;
  rows = b.rows ∙ a.rows;
  reg = λ r l. b.reg r l ∙ a.reg r l;
  rel = λ q l. b.rel q l ∙ a.rel q l;
}

put_same : (h g : ℕ → Option ℕ) (i : ℕ) (o : Option ℕ) (q : ℕ) → h q ≡ g q → put h i o q ≡ put g i o q
put_same h g i o q e = ap (λ (x : Option ℕ). cond (eqb q i) o x) e

alike_reg : {t u : Table} (r : ℕ) (o : Option ℕ) → Alike t u → Alike (store_reg t r o) (store_reg u r o)
alike_reg {t} {u} r o a =
    record {
      n = a.n;
      N = a.N;
      valid = a.valid;
      rows = a.rows;
      reg = λ q l. put_same u.reg t.reg r o q (a.reg q l);
      rel = a.rel;
    }

alike_rel : {t u : Table} (r : ℕ) (o : Option ℕ) → Alike t u → Alike (store_rel t r o) (store_rel u r o)
alike_rel {t} {u} r o a =
    record {
      n = a.n;
      N = a.N;
      valid = a.valid;
      rows = a.rows;
      reg = a.reg;
      rel = λ q l. put_same u.rel t.rel r o q (a.rel q l);
    }

alike_valid : {t u : Table} (x : ℕ) → Alike t u → Alike (store_valid t x) (store_valid u x)
alike_valid x a = record { n = a.n; N = a.N; valid = refl; rows = a.rows; reg = a.reg; rel = a.rel }

-- ---- before the collection afterwards

-- the words Y serve the book as the call and its reply ask, and no word changed that must not
pub record Through (old : List ℕ) (c : Call) (y : Reply) (Y : View) : Type 0 where
  pub good : Good Y
  pub valid : Y.header VALID ≢ 0
  pub left : Left c y (table_of old) Y
  pub serves : Serves (book_of (seen old)) c (seen old) (seen_in Y) y

pub through-sound : {old : List ℕ} {c : Call} {y : Reply} {Y : View} → SoundWords old → Through old c y Y → Sound Y
through-sound {old} {c} {Y = Y} s p =
    table-sound Y p.good p.valid
    (sound-shows _ (seen_in Y) (whole-does (book_of (seen old)) c (whole-book_of (seen old) (sound-table (table_of old) s))) p.serves.shows)

-- and with it
pub through-done : {old : List ℕ} {c : Call} {y : Reply} {Y : View} → SoundWords old → TakesFormula c → (T (keeps_all y.number) → ⊥)
    → Through old c y Y → {Z : View} → Tidied Y Z
    → {new : List ℕ} → view (header_of old ROWS) new ≡ Z → CallPost c old new y
through-done {old} {c} {y} s k late p {Z} t {new} is =
    let d = tidied_served (book_of (seen old)) c (seen old) y p.good p.valid t p.serves in
    formula_done c y old new k late s Z is d.0 d.1 (tidied_left c y t p.left) d.2

module _ (old : List ℕ) (s : SoundWords old) (X : View) (g : Good X) (f : OpFrame (table_of old) X) where
  abbrev W : View
  W = table_of old

  abbrev b : Book
  b = book_of (seen old)

  -- the evaluator's words alone
  left : (c : Call) (y : Reply) → Left c y W X
  left c y = left_op c y (left-none c y W) f

  -- V's word is as it was
  still-valid : X.header VALID ≢ 0
  still-valid e = s.valid (sym (f.header VALID (omega arith) (omega arith) (omega arith) (omega arith)) ∙ e)

  -- ---- set

  module _ (acc : Terms) (r R : ℕ) (bs : List ℕ) (l : r < REGISTERS) (m : T (named acc)) (z : checks b Set bs ≡ 0) where
    abbrev c : Call
    c = set acc r R bs

    -- the evaluation of the call's formula ended so
    abbrev pub SetEnds : Ended → Type 0
    SetEnds y =
        Evals b.n b.N (rows_of W) (rows_of X) (roots_of (seen old))
        (run (states (model_of b) no_env) (rows_under b.N acc) (rounds_under R acc) (live_of b) (formula_in b Set bs) nothing) y

    serves : (y : Ended) → SetEnds y → Serves b c (seen old) (set_leaves (seen old) r (rows_of X) y) (set_reply y)
    serves y d = set_serves b (seen old) acc r R bs (rows_of X) y (sound-shows-book old s) l m z d

    -- "returns node number and rounds", and its peak
    pub set_value : (a : ℕ) (q : Count) → SetEnds (ends a q) → Through old c (set_reply (ends a q)) (register_stored X r a)
    set_value a q d = record {
      good = register-good X r a l g;
      valid = valid-other X (FIRST_REGISTER + r) a (omega arith) still-valid;
      left = left-put c (set_reply (ends a q)) (FIRST_REGISTER + r) (suc a) (left c (set_reply (ends a q))) refl own;
      serves =
          alike_serves (alike_trans (alike_reg r (some a) (rows_seen W X f)) (register-seen X r a l)) b c (seen old) (set_reply (ends a q))
          (serves (ends a q) d);
    }
      where
        own : target c (FIRST_REGISTER + r) ≡ true
        own = rw (eq-eqb (FIRST_REGISTER + r) (FIRST_REGISTER + r) refl)

    -- "8: step needs more than N rows", "9: rounds used up"
    pub set_full : SetEnds eight → Through old c (plain 8) X
    set_full d =
        record {
          good = g;
          valid = still-valid;
          left = left c (plain 8);
          serves = alike_serves (rows_seen W X f) b c (seen old) (plain 8) (serves eight d);
        }

    pub set-spent : SetEnds nine → Through old c (plain 9) X
    set-spent d =
        record {
          good = g;
          valid = still-valid;
          left = left c (plain 9);
          serves = alike_serves (rows_seen W X f) b c (seen old) (plain 9) (serves nine d);
        }

  -- ---- relation

  module _ (q : ℕ) (bs : List ℕ) (l : q < RELATIONS) (z : checks b Relation bs ≡ 0) where
    abbrev k : Call
    k = relation q bs

    abbrev pub RelationEnds : Result → Count → Type 0
    RelationEnds y p =
        PairEvals b.n b.N (rows_of W) (rows_of X) (roots_of (seen old))
        (relation_fits b.n b.N (live_of b) b.valid (formula_in b Relation bs)) (relation_f b.n b.valid (formula_in b Relation bs))
        (relation_count b.n (live_of b) b.valid (formula_in b Relation bs) nothing) y p

    loads : (y : Result) (p : Count) → RelationEnds y p
        → Serves b k (seen old) (relation_leaves (seen old) q (rows_of X) y) (relation_reply y p)
    loads y p d = relation_serves b (seen old) q bs (rows_of X) y p (sound-shows-book old s) l z d

    -- "also returns its peak"
    pub relation-value : (a : ℕ) (p : Count) → RelationEnds (at a) p → Through old k (relation_reply (at a) p) (relation_stored X q a)
    relation-value a p d = record {
      good = relation-good X q a l g;
      valid = valid-other X (FIRST_RELATION + q) a (omega arith) still-valid;
      left = left-put k (relation_reply (at a) p) (FIRST_RELATION + q) (suc a) (left k (relation_reply (at a) p)) refl own;
      serves =
          alike_serves (alike_trans (alike_rel q (some a) (rows_seen W X f)) (relation-seen X q a l)) b k (seen old)
          (relation_reply (at a) p) (loads (at a) p d);
    }
      where
        own : target k (FIRST_RELATION + q) ≡ true
        own = rw (eq-eqb (FIRST_RELATION + q) (FIRST_RELATION + q) refl)

    pub relation-full : (p : Count) → RelationEnds no_rows p → Through old k (plain 8) X
    relation-full p d =
        record {
          good = g;
          valid = still-valid;
          left = left k (plain 8);
          serves = alike_serves (rows_seen W X f) b k (seen old) (plain 8) (loads no_rows p d);
        }

  -- ---- valid

  module _ (bs : List ℕ) (v : T (unfilled b)) (z : checks b Valid bs ≡ 0) where
    abbrev j : Call
    j = valid bs

    abbrev pub ValidEnds : Result → Count → Type 0
    ValidEnds y p =
        PairEvals b.n b.N (rows_of W) (rows_of X) (roots_of (seen old)) (pairs_fit b.n b.N (live_of b) (formula_in b Valid bs))
        (pair_f b.n (formula_in b Valid bs)) (pairs_count b.n (live_of b) (formula_in b Valid bs) nothing) y p

    fixes : (y : Result) (p : Count) → ValidEnds y p → Serves b j (seen old) (valid_leaves (seen old) (rows_of X) y) (valid_reply y)
    fixes y p d = valid_serves b (seen old) bs (rows_of X) y p (sound-shows-book old s) v z d

    -- "an answered one puts V into the book"
    pub valid-value : (a : ℕ) (p : Count) → ValidEnds (at a) p → Through old j (valid_reply (at a)) (valid_stored X a)
    valid-value a p d = record {
      good = valid-good X a g;
      valid = valid-some X a;
      left = left-put j (valid_reply (at a)) VALID (suc a) (left j (valid_reply (at a))) refl refl;
      serves =
          alike_serves (alike_trans (alike_valid a (rows_seen W X f)) (valid-seen X a)) b j (seen old) (valid_reply (at a))
          (fixes (at a) p d);
    }

    pub valid-full : (p : Count) → ValidEnds no_rows p → Through old j (plain 8) X
    valid-full p d =
        record {
          good = g;
          valid = still-valid;
          left = left j (plain 8);
          serves = alike_serves (rows_seen W X f) b j (seen old) (plain 8) (fixes no_rows p d);
        }
