-- The call's contract from its checks and from its search. Assumes nothing.
use mathlib.Core.Path.{◌≡◌, refl, sym, ap, ◌∙◌, subst}
use mathlib.Core.Logic.{◌≢◌}
use mathlib.Core.List.{List}
use Prim.Native.Nat.{ℕ, suc, ◌+◌, ◌-◌, ◌≤◌, ◌<◌}
use native.Mathlib.Omega.{arith}
use lib.Dec.{T}
use lib.ListN.{length}
use Rattle.std.specs.Prelude.{Result}
use Rattle.mucalculus.specs.Form.{inside}
use Rattle.layout.specs.declared.Refusal.{Refusal}
use Rattle.layout.specs.Refusals.{keeps_all}
use Rattle.layout.specs.Places.{BITS, ROWS, VALID, FIRST_RELATION}
use Rattle.layout.specs.View.{View, view, header_of}
use Rattle.diagram.specs.Keep.{Keeps}
use Rattle.diagram.proofs.Keep.{keeps_refl}
use Rattle.rows.specs.Used.{rows_of}
use Rattle.rows.specs.Sound.{Sound, table_of}
use Rattle.rows.proofs.Filled.{filled-arrow}
use Rattle.book.specs.Book.{relations, live_of, collect}
use Rattle.book.specs.Table.{Reply, roots_of}
use Rattle.book.specs.BookOf.{book_of}
use Rattle.book.specs.Leaves.{plain}
use Rattle.contract.specs.Seen.{seen, SoundWords}
use Rattle.contract.proofs.Checked.{kept-refused}
use Rattle.contract.proofs.Roots.{root-filled}
use Rattle.paths.specs.Runs.{Outcome, full, none as no_run, short, found}
use Rattle.paths.specs.Call.{Ended, refuse}
use Rattle.formula_steps.proofs.After.{relation-is, same-table, rows-kept, words-kept, same-book}
use Rattle.logs.specs.Runs.{moment_at, log_outcome}
use Rattle.logs.specs.Call.{logs_fit, last_moment, log_ends, logged}
use Rattle.logs.proofs.Call.{fits_out, says-one, says_three, says_seven, says-outcome}
use Rattle.moments.specs.Sets.{Logs}
use Rattle.moments.specs.Find.{logged_reply}
use Rattle.log_calls.specs.Search.{Named, SearchPre, Searched, SearchPost}
use Rattle.log_calls.specs.Post.{LogTold, LogPost}

-- ---- refusals by the checks

module _ (t : ℕ) (one two ws list : List ℕ) where
  -- what the book tells, with no word changed
  told-stays : {e : Ended} → logged (book_of (seen ws)) t one two list ≡ e → SoundWords ws
      → LogTold t one two ws ws list e.list e.reply
  told-stays is s = record {
    reply = sym (ap (λ (x : Ended). x.reply) is);
    list = sym (ap (λ (x : Ended). x.list) is);
    sound = s;
    rows = keeps_refl s.good.rows (λ r m. filled-arrow s r (root-filled (table_of ws) s.valid r m));
  }

  -- CHECK 1
  pub log_sizes : (T (logs_fit (length one) (length two)) → ⊥) → LogPost t one two ws ws list list (plain 1)
  log_sizes n = record {
    sizes = λ _. ((refl, refl, refl, refl), refl, refl);
    unsound = λ f. absurd (n f);
    told = told-stays (says-one (book_of (seen ws)) t one two list n);
    book = refl;
    kept = kept-refused collect 0 ws;
  }

  module _ (f : T (logs_fit (length one) (length two))) where
    -- CHECK 2
    pub log_unsound : (SoundWords ws → ⊥) → LogPost t one two ws ws list list (plain 2)
    log_unsound n = record {
      sizes = λ g. absurd (g f);
      unsound = λ _ _. ((refl, refl, refl, refl), refl, refl);
      told = λ s. absurd (n s);
      book = refl;
      kept = kept-refused collect 1 ws;
    }

    -- what the book tells, with no word changed, is the contract
    pub log_stays : SoundWords ws → {e : Ended} → logged (book_of (seen ws)) t one two list ≡ e
        → LogPost t one two ws ws list e.list e.reply
    log_stays s is = record {
      sizes = λ g. absurd (g f);
      unsound = λ _ n. absurd (n s);
      told = told-stays is;
      book = refl;
      kept = record { all = λ _. refl; size = refl; header = λ h l i. refl; spare = λ i l. refl; beyond = λ p l. refl; exact = tt };
    }

    -- CHECKS 3 AND 7
    pub log_range : SoundWords ws → (t < relations → ⊥) → LogPost t one two ws ws list list (plain 3)
    log_range s n = log_stays s (says_three (book_of (seen ws)) t one two list f n)

    pub log_empty : SoundWords ws → t < relations → {z : ℕ} → z ≡ header_of ws (FIRST_RELATION + t) → z ≡ 0
        → LogPost t one two ws ws list list (plain 7)
    log_empty s r e z = log_stays s (says_seven (book_of (seen ws)) t one two list f r (relation-is ws r (sym z ∙ e)))

-- ---- the search

-- what it ends with is none of the checks' numbers
late : (o : Outcome) (list : List ℕ) → T (keeps_all (log_ends o list).reply.number) → ⊥
late full list h = h
late no_run list h = h
late short list h = h
late (found l) list h = h

-- the logs, entry by entry
pub logs_of : (one two : List ℕ) → T (logs_fit (length one) (length two)) → Logs one two
logs_of one two f =
    let (e, w, s, m) = fits_out (length one) (length two) f in
    record { first = omega (arith, w, s); second = omega (arith, e, w, s); few = omega (arith, w, s, m) }

module _ {t : ℕ} (one two old : List ℕ) (f : T (logs_fit (length one) (length two))) (s : SoundWords old) (r : t < relations)
    {rows bits v z : ℕ} (er : rows ≡ header_of old ROWS) (eb : bits ≡ header_of old BITS) (ev : v ≡ header_of old VALID)
    (ez : z ≡ header_of old (FIRST_RELATION + t)) (fz : z ≢ 0) where
  valid-some : v ≢ 0
  valid-some e = s.valid (sym ev ∙ e)

  pub valid_positive : 1 ≤ v
  valid_positive = let n = valid-some in omega arith

  names : Named (table_of old) t (z - 1) (v - 1)
  names = let n = valid-some in record { t_in = r; t_is = omega arith; v_is = omega arith }

  pub call_asks : SearchPre bits rows rows (view rows old) (z - 1) (v - 1) one two
  call_asks =
      rw er
      (record {
        opens = record { sound = s; bits = eb; rows = refl; limit-le = omega arith };
        rt = t;
        named = names;
        logs = logs_of one two f;
      })

  -- the book's own outcome
  abbrev book_outcome : List ℕ → Outcome
  book_outcome list =
      log_outcome (header_of old BITS) (header_of old ROWS) (live_of (book_of (seen old))) (inside ((book_of (seen old)).rel t))
      (book_of (seen old)).valid (moment_at one two) (last_moment one) (length list)

  by-book : (list : List ℕ) → logged (book_of (seen old)) t one two list ≡ log_ends (book_outcome list) list
  by-book list =
      let q : suc (z - 1) ≡ header_of old (FIRST_RELATION + t) = omega arith in
      says-outcome (book_of (seen old)) t one two list f r (relation-is old r q)

  pub call_ends : (new list left : List ℕ) {w : Result (Unit {0}) Refusal}
      → SearchPost bits rows (view rows old) (view rows new) (z - 1) (v - 1) one two list left w
      → LogPost t one two old new list left (logged_reply w)
  call_ends new list left {w} u =
      let q : Searched bits rows (view rows old) (view rows new) t one two list left w = u t (rw er names) in
      let d : Searched (header_of old BITS) (header_of old ROWS) (table_of old) (view (header_of old ROWS) new) t one two list left
      w = rw (← eb, ← er) q in
      let n : T (keeps_all (logged_reply w).number)
      → ⊥ = λ h. late (book_outcome list) list (subst (λ (x : Reply). T (keeps_all x.number)) d.told.reply h) in
      record {
        sizes = λ g. absurd (g f);
        unsound = λ _ g. absurd (g s);
        told = λ _. record {
          reply = d.told.reply ∙ sym (ap (λ (x : Ended). x.reply) (by-book list));
          list = d.told.list ∙ sym (ap (λ (x : Ended). x.list) (by-book list));
          sound = subst Sound (sym (same-table old new (logged_reply w) s d.sound d.frame d.kept)) d.sound;
          rows = subst (λ (x : View). Keeps (seen old).rows (rows_of x) (roots_of (seen old)))
              (sym (same-table old new (logged_reply w) s d.sound d.frame d.kept))
              (rows-kept old new (logged_reply w) s d.sound d.frame d.kept);
        };
        book = same-book old new (logged_reply w) s d.sound d.frame d.kept;
        kept = words-kept old new (logged_reply w) s d.sound d.frame d.kept n;
      }
