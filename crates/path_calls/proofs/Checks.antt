-- The call's contract from its checks and from its search. Assumes nothing.
use mathlib.Core.Path.{◌≡◌, refl, sym, ap, ◌∙◌, subst}
use mathlib.Core.Logic.{◌≢◌}
use mathlib.Core.Bool.{Bool, cond, ◌&&◌}
use mathlib.Core.List.{List}
use mathlib.Core.Option.{Option, none, some}
use Prim.Native.Nat.{ℕ, suc, ◌+◌, ◌-◌, ◌<◌}
use native.Mathlib.Omega.{arith}
use lib.Dec.{T, ltb, ltb→lt, lt→ltb}
use lib.ListN.{length}
use Rattle.std.specs.Prelude.{Result}
use Rattle.mucalculus.proofs.Sets.{true_of, false_of, and_in, and_out}
use Rattle.mucalculus.specs.Form.{Pairs, inside}
use Rattle.layout.specs.declared.Refusal.{Refusal}
use Rattle.layout.specs.Refusals.{keeps_all}
use Rattle.layout.specs.Places.{BITS, ROWS, FIRST_REGISTER, FIRST_RELATION}
use Rattle.layout.specs.View.{View, view, header_of}
use Rattle.diagram.specs.Keep.{Keeps}
use Rattle.diagram.proofs.Keep.{keeps_refl}
use Rattle.rows.specs.Used.{rows_of}
use Rattle.rows.specs.Sound.{Sound, table_of}
use Rattle.rows.proofs.Filled.{filled-arrow}
use Rattle.book.specs.Book.{Book, registers, relations, live_of, collect}
use Rattle.book.specs.Table.{Reply, roots_of}
use Rattle.book.specs.BookOf.{book_of}
use Rattle.book.specs.Leaves.{plain}
use Rattle.contract.specs.Seen.{seen, SoundWords}
use Rattle.contract.proofs.Checked.{kept-refused}
use Rattle.contract.proofs.Roots.{root-filled}
use Rattle.formula_steps.proofs.After.{register-is, relation-is, same-table, rows-kept, words-kept, same-book}
use Rattle.paths.specs.Runs.{Outcome, full, none as no_run, short, found, outcome}
use Rattle.paths.specs.Call.{Ended, refuse, ends, over_filled, shortest}
use Rattle.routes.specs.Find.{found_reply}
use Rattle.path_calls.specs.Search.{Named, SearchPre, Searched, SearchPost}
use Rattle.path_calls.specs.Post.{PathPost}

-- ---- the checks, by the book

-- check 3 finds no cause
abbrev pub InRange : ℕ → ℕ → ℕ → Type 0
InRange a b t = (a < registers) × (b < registers) × (t < relations)

module _ (bk : Book) (a b t : ℕ) (list : List ℕ) where
  abbrev in_range : Bool
  in_range = ltb a registers && (ltb b registers && ltb t relations)

  range-by : {r : Bool} → in_range ≡ r
      → shortest bk a b t list ≡ cond r (over_filled bk (bk.reg a) (bk.reg b) (bk.rel t) list) (refuse 3 list)
  range-by e = ap (λ (r : Bool). cond r (over_filled bk (bk.reg a) (bk.reg b) (bk.rel t) list) (refuse 3 list)) e

  -- "register, relation or state number out of range"
  pub says_three : (InRange a b t → ⊥) → shortest bk a b t list ≡ refuse 3 list
  says_three n = range-by (false_of in_range (λ h.
      let x = and_out (ltb a registers) _ h in
      let y = and_out (ltb b registers) _ x.1 in
      n (ltb→lt a registers x.0, ltb→lt b registers y.0, ltb→lt t relations y.1)))

  module _ (r : InRange a b t) where
    later : shortest bk a b t list ≡ over_filled bk (bk.reg a) (bk.reg b) (bk.rel t) list
    later =
        range-by
        (true_of in_range
        (and_in (ltb a registers) _ (lt→ltb a registers r.0)
        (and_in (ltb b registers) _ (lt→ltb b registers r.1) (lt→ltb t relations r.2))))

    -- "register or relation named is empty"
    pub seven_first : bk.reg a ≡ none → shortest bk a b t list ≡ refuse 7 list
    seven_first e = later ∙ ap (λ (o : Option (List Bool)). over_filled bk o (bk.reg b) (bk.rel t) list) e

    pub seven_second : bk.reg b ≡ none → shortest bk a b t list ≡ refuse 7 list
    seven_second e = later ∙ go (bk.reg a) (bk.reg b) e
      where
        go : (o p : Option (List Bool)) → p ≡ none → over_filled bk o p (bk.rel t) list ≡ refuse 7 list
        go none p e = refl
        go (some A) p e = ap (λ (q : Option (List Bool)). over_filled bk (some A) q (bk.rel t) list) e

    pub seven_third : bk.rel t ≡ none → shortest bk a b t list ≡ refuse 7 list
    seven_third e = later ∙ go (bk.reg a) (bk.reg b) (bk.rel t) e
      where
        go : (o p : Option (List Bool)) (q : Option Pairs) → q ≡ none → over_filled bk o p q list ≡ refuse 7 list
        go none p q e = refl
        go (some A) none q e = refl
        go (some A) (some B) q e = ap (λ (q : Option Pairs). over_filled bk (some A) (some B) q list) e

    -- and then the outcome of the steps
    pub says-outcome : {A B : List Bool} {R : Pairs} → bk.reg a ≡ some A → bk.reg b ≡ some B → bk.rel t ≡ some R
        → shortest bk a b t list
        ≡ ends (outcome bk.n bk.N (live_of bk) (inside (bk.rel t)) (inside (bk.reg a)) (inside (bk.reg b)) (length list)) list
    says-outcome ea eb er = later ∙ go (bk.reg a) (bk.reg b) (bk.rel t) ea eb er
      where
        go : {A B : List Bool} {R : Pairs} (o p : Option (List Bool)) (q : Option Pairs) → o ≡ some A → p ≡ some B → q ≡ some R
            → over_filled bk o p q list ≡ ends (outcome bk.n bk.N (live_of bk) (inside q) (inside o) (inside p) (length list)) list
        go none p q ea eb er = cc
        go (some A) none q ea eb er = cc
        go (some A) (some B) none ea eb er = cc
        go (some A) (some B) (some R) ea eb er = refl

-- ---- refusals by the checks

module _ (a b t : ℕ) (ws list : List ℕ) where
  -- CHECK 2
  pub path_unsound : (SoundWords ws → ⊥) → PathPost a b t ws ws list list (plain 2)
  path_unsound n =
      record {
        unsound = λ _. ((refl, refl, refl, refl), refl, refl);
        told = λ s. absurd (n s);
        book = refl;
        kept = kept-refused collect 1 ws;
      }

  -- CHECKS 3 AND 7: the book refuses with the number
  path_refused : SoundWords ws → (k : ℕ) → shortest (book_of (seen ws)) a b t list ≡ refuse (suc k) list
      → PathPost a b t ws ws list list (plain (suc k))
  path_refused s k e = record {
    unsound = λ n. absurd (n s);
    told = λ _. record {
      reply = sym (ap (λ (x : Ended). x.reply) e);
      list = sym (ap (λ (x : Ended). x.list) e);
      sound = s;
      rows = keeps_refl s.good.rows (λ r m. filled-arrow s r (root-filled (table_of ws) s.valid r m));
    };
    book = refl;
    kept = kept-refused collect k ws;
  }

  pub path_range : SoundWords ws → (InRange a b t → ⊥) → PathPost a b t ws ws list list (plain 3)
  path_range s n = path_refused s 2 (says_three (book_of (seen ws)) a b t list n)

  module _ (s : SoundWords ws) (r : InRange a b t) where
    -- the first, the second or the third place is empty
    pub path_first : {x : ℕ} → x ≡ header_of ws (FIRST_REGISTER + a) → x ≡ 0 → PathPost a b t ws ws list list (plain 7)
    path_first e z = path_refused s 6 (seven_first (book_of (seen ws)) a b t list r (register-is ws r.0 (sym z ∙ e)))

    pub path_second : {y : ℕ} → y ≡ header_of ws (FIRST_REGISTER + b) → y ≡ 0 → PathPost a b t ws ws list list (plain 7)
    path_second e z = path_refused s 6 (seven_second (book_of (seen ws)) a b t list r (register-is ws r.1 (sym z ∙ e)))

    pub path_third : {y : ℕ} → y ≡ header_of ws (FIRST_RELATION + t) → y ≡ 0 → PathPost a b t ws ws list list (plain 7)
    path_third e z = path_refused s 6 (seven_third (book_of (seen ws)) a b t list r (relation-is ws r.2 (sym z ∙ e)))

-- ---- the search

-- what it ends with is none of the checks' numbers
late : (o : Outcome) (list : List ℕ) → T (keeps_all (ends o list).reply.number) → ⊥
late full list h = h
late no_run list h = h
late short list h = h
late (found l) list h = h

module _ {a b t : ℕ} (old : List ℕ) (s : SoundWords old) (r : InRange a b t) {rows bits x y z : ℕ} (er : rows ≡ header_of old ROWS)
    (eb : bits ≡ header_of old BITS)
    (ex : x ≡ header_of old (FIRST_REGISTER + a)) (ey : y ≡ header_of old (FIRST_REGISTER + b)) (ez : z ≡ header_of old (FIRST_RELATION + t))
    (fx : x ≢ 0) (fy : y ≢ 0) (fz : z ≢ 0) where
  names : Named (table_of old) a b t (x - 1) (y - 1) (z - 1)
  names = record { a_in = r.0; a_is = omega arith; b_in = r.1; b_is = omega arith; t_in = r.2; t_is = omega arith }

  pub call_asks : SearchPre bits rows rows (view rows old) (z - 1) (x - 1) (y - 1)
  call_asks =
      rw er
      (record {
        opens = record { sound = s; bits = eb; rows = refl; limit-le = omega arith };
        ra = a;
        rb = b;
        rt = t;
        named = names;
      })

  -- the book's own outcome
  abbrev book_outcome : List ℕ → Outcome
  book_outcome list =
      outcome (header_of old BITS) (header_of old ROWS) (live_of (book_of (seen old))) (inside ((book_of (seen old)).rel t))
      (inside ((book_of (seen old)).reg a)) (inside ((book_of (seen old)).reg b)) (length list)

  by-book : (list : List ℕ) → shortest (book_of (seen old)) a b t list ≡ ends (book_outcome list) list
  by-book list =
      let qx : suc (x - 1) ≡ header_of old (FIRST_REGISTER + a) = omega arith in
      let qy : suc (y - 1) ≡ header_of old (FIRST_REGISTER + b) = omega arith in
      let qz : suc (z - 1) ≡ header_of old (FIRST_RELATION + t) = omega arith in
      says-outcome (book_of (seen old)) a b t list r (register-is old r.0 qx) (register-is old r.1 qy) (relation-is old r.2 qz)

  pub call_ends : (new list after : List ℕ) {w : Result ℕ Refusal}
      → SearchPost bits rows (view rows old) (view rows new) (z - 1) (x - 1) (y - 1) list after w
      → PathPost a b t old new list after (found_reply w)
  call_ends new list after {w} v =
      let q : Searched bits rows (view rows old) (view rows new) a b t list after w = v a b t (rw er names) in
      let d : Searched (header_of old BITS) (header_of old ROWS) (table_of old) (view (header_of old ROWS) new) a b t list after
      w = rw (← eb, ← er) q in
      let n : T (keeps_all (found_reply w).number)
      → ⊥ = λ h. late (book_outcome list) list (subst (λ (u : Reply). T (keeps_all u.number)) d.told.reply h) in
      record {
        unsound = λ g. absurd (g s);
        told = λ _. record {
          reply = d.told.reply ∙ sym (ap (λ (u : Ended). u.reply) (by-book list));
          list = d.told.list ∙ sym (ap (λ (u : Ended). u.list) (by-book list));
          sound = subst Sound (sym (same-table old new (found_reply w) s d.sound d.frame d.kept)) d.sound;
          rows = subst (λ (u : View). Keeps (seen old).rows (rows_of u) (roots_of (seen old)))
              (sym (same-table old new (found_reply w) s d.sound d.frame d.kept))
              (rows-kept old new (found_reply w) s d.sound d.frame d.kept);
        };
        book = same-book old new (found_reply w) s d.sound d.frame d.kept;
        kept = words-kept old new (found_reply w) s d.sound d.frame d.kept n;
      }
