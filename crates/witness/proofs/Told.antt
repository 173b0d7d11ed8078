-- Calls that make no row, on any sound words: a set or a relation whose value an arrow denotes already, the search for a shortest run, and
-- the question for many states; each with the words that it leaves meets its contract. Assumes nothing.
use mathlib.Core.Path.{◌≡◌, refl, sym, ap, ◌∙◌, subst, subst₂}
use mathlib.Core.Bool.{Bool, true, ◌&&◌}
use mathlib.Core.List.{List}
use mathlib.Core.Option.{some}
use Prim.Native.Nat.{ℕ, suc, ◌+◌, ◌*◌, ◌^◌, ◌<◌}
use native.Mathlib.Omega.{arith}
use lib.Dec.{T}
use lib.ListN.{set as write}
use Rattle.accounts.specs.declared.Terms.{Terms}
use Rattle.accounts.specs.Terms.{named, rows_under, rounds_under}
use Rattle.accounts.specs.declared.Count.{Count}
use Rattle.accounts.specs.Count.{nothing}
use Rattle.mucalculus.specs.Form.{top, no_env}
use Rattle.mucalculus.specs.Means.{compl}
use Rattle.tokens.specs.declared.Kind.TheVariants.{Relation, Set}
use Rattle.layout.specs.Places.{REGISTERS, RELATIONS, ROWS, FIRST_RELATION, MEMO_VALUE, cells_at}
use Rattle.layout.specs.Refusals.{keeps_all}
use Rattle.layout.specs.View.{View, view, header_of}
use Rattle.layout.proofs.View.{view-header, view-cell}
use Rattle.diagram.specs.Level.{Val}
use Rattle.diagram.specs.Rows.{Rows, flip}
use Rattle.diagram.specs.Post.{at, Denotes}
use Rattle.diagram.specs.Keep.{Keeps}
use Rattle.diagram.proofs.Den.{den-one}
use Rattle.diagram.proofs.Keep.{keeps_refl}
use Rattle.diagram.proofs.Post.{denotes-flip}
use Rattle.rows.specs.Used.{rows_of}
use Rattle.rows.specs.Sound.{Sound, table_of}
use Rattle.rows.specs.Filled.{filled}
use Rattle.rows.proofs.Filled.{filled-arrow}
use Rattle.rows.proofs.Alike.{alike_sound}
use Rattle.memory.specs.Frame.{MemoFrame}
use Rattle.memory.proofs.Frame.{memo-value, memo_alike, rows_same}
use Rattle.operations.proofs.Work.{op_refl, op_memo}
use Rattle.book.specs.Bridge.{fn_of}
use Rattle.book.specs.Over.{states}
use Rattle.book.specs.Book.{Book, registers, relation, set, model_of, live_of, checks, formula_in}
use Rattle.book.specs.BookOf.{book_of}
use Rattle.book.specs.Table.{Reply, roots_of}
use Rattle.book.specs.Run.{value, run, pair_f, relation_fits, relation_count}
use Rattle.book.specs.Formulas.{relation_f}
use Rattle.book.specs.Follow.{ends}
use Rattle.book.specs.Pairs.{PairMatches}
use Rattle.book.proofs.Bridge.{fn_of-not}
use Rattle.book.proofs.Follow.{evals-same, evals-leaf}
use Rattle.book.proofs.Formulas.{set_reply, relation_reply}
use Rattle.book.proofs.Held.{denotes-same, held-arrow}
use Rattle.book.proofs.Leaves.{shows-filled}
use Rattle.book.proofs.Pairs.{pair-all}
use Rattle.book.proofs.Stored.{some_inj, none-some}
use Rattle.contract.specs.Seen.{seen, SoundWords}
use Rattle.contract.proofs.Seen.{sound-shows-book}
use Rattle.contract.specs.Posts.{CallPost}
use Rattle.formula_steps.specs.Evaluated.{as_it_was}
use Rattle.formula_steps.proofs.After.{same-table, rows-kept, words-kept, same-book}
use Rattle.formula_steps.proofs.Ends.{set_value, relation-value, through-done}
use Rattle.paths.specs.Call.{Ended, shortest}
use Rattle.path_calls.specs.Post.{PathPost}
use Rattle.batch_calls.specs.Posts.{Fit, InRange, Answered, BatchPost}
use Rattle.witness.proofs.Words.{stored_in, view-stored}
use Rattle.witness.proofs.Made.{held}

-- row i remembers v
unfoldable pub remembered_in : List ℕ → ℕ → ℕ → List ℕ
remembered_in ws i v = write ws (cells_at i + MEMO_VALUE) v

module _ (old : List ℕ) (s : SoundWords old) where
  abbrev b : Book
  b = book_of (seen old)

  -- set r of a formula whose value is A, which arrow a denotes
  pub value-done : (acc : Terms) (r R : ℕ) (bs : List ℕ) → r < REGISTERS → T (named acc) → checks b Set bs ≡ 0
      → (a : ℕ) (A : List Bool) (q : Count)
      → run (states (model_of b) no_env) (rows_under b.N acc) (rounds_under R acc) (live_of b) (formula_in b Set bs) nothing ≡ value A q
      → Denotes (2 * b.n) (rows_of (table_of old)) a (fn_of b.n A)
      → CallPost (set acc r R bs) old (stored_in old r a) (set_reply (ends a q))
  value-done acc r R bs l m z a A q e d =
      through-done s tt (λ h. h)
      (set_value old s (table_of old) s.good (op_refl (table_of old)) acc r R bs l m z a q
      (evals-same (sym e) (evals-leaf b.n b.N q s.good.rows (held old s) d)))
      (as_it_was refl)
      (view-stored (header_of old ROWS) r a old s.good.sizes.room l)

  -- the other arrow to the row of register r has the states that the register has not
  pub other-arrow : (r a : ℕ) (A : List Bool) → r < registers → (seen old).reg r ≡ some a → b.reg r ≡ some A
      → Denotes (2 * b.n) (rows_of (table_of old)) (flip a) (fn_of b.n (compl (2 ^ b.n) A))
  other-arrow r a A l e h =
      let (B, is, d) = shows-filled b (seen old) r a (sound-shows-book old s) l e in
      denotes-same (sym (fn_of-not b.n A))
      (denotes-flip (subst (λ (C : List Bool). Denotes (2 * b.n) (rows_of (table_of old)) a (fn_of b.n C)) (some_inj (sym is ∙ h)) d))

  -- relation t of a formula whose pairs arrow a denotes, where its steps fit and come to p
  pub pairs-done : (t : ℕ) (bs : List ℕ) → t < RELATIONS → checks b Relation bs ≡ 0 → (a : ℕ) (p : Count)
      → relation_fits b.n b.N (live_of b) b.valid (formula_in b Relation bs) ≡ true
      → p ≡ relation_count b.n (live_of b) b.valid (formula_in b Relation bs) nothing
      → Denotes (2 * b.n) (rows_of (table_of old)) a (relation_f b.n b.valid (formula_in b Relation bs))
      → CallPost (relation t bs) old (write old (FIRST_RELATION + t) (suc a)) (relation_reply (at a) p)
  pairs-done t bs l z a p fits e d =
      through-done s tt (λ h. h)
      (relation-value old s (table_of old) s.good (op_refl (table_of old)) t bs l z a p (record {
        wf = s.good.rows;
        kept = keeps_refl s.good.rows (held-arrow (held old s));
        result =
            subst (λ (x : Bool). PairMatches b.n (rows_of (table_of old)) x (relation_f b.n b.valid (formula_in b Relation bs))
            (relation_count b.n (live_of b) b.valid (formula_in b Relation bs) nothing) (at a) p)
            (sym fits) (d, e);
      }))
      (as_it_was refl)
      (view-header (header_of old ROWS) old s.good.sizes.room (FIRST_RELATION + t) (suc a) (omega arith))

  -- arrow 1 denotes all pairs, V being every state
  pub all_pairs : (seen old).valid ≡ 1 → Denotes (2 * b.n) (rows_of (table_of old)) 1 (relation_f b.n b.valid top)
  all_pairs e = record {
    arrow = tt;
    same = λ v. den-one (2 * b.n) (rows_of (table_of old)) v ∙ sym (three _ _ _ (holds v) (exists v) (exists _));
  }
    where
      three : (x y z : Bool) → x ≡ true → y ≡ true → z ≡ true → ((x && y) && z) ≡ true
      three x y z i j k = rw (i, j, k)

      exists : (v : Val) → fn_of b.n b.valid v ≡ true
      exists v =
          sym
          ((subst (λ (a : ℕ). Denotes (2 * b.n) (rows_of (table_of old)) a (fn_of b.n b.valid)) e
          (sound-shows-book old s).valid).same v)
          ∙ den-one (2 * b.n) (rows_of (table_of old)) v

      holds : (v : Val) → pair_f b.n top v ≡ true
      holds v =
          sym ((pair-all b.n b.N (held old s) b.N nothing s.good.rows).result.0.same v)
          ∙ den-one (2 * b.n) (rows_of (table_of old)) v

  -- a search for a run that leaves all words as they were, answered or refused
  pub path_told : (r q t : ℕ) (lent : List ℕ) (e : Ended) → shortest b r q t lent ≡ e → PathPost r q t old old lent e.list e.reply
  path_told r q t lent e is = record {
    unsound = λ n. absurd (n s);
    told = λ _. record {
      reply = sym (ap (λ (x : Ended). x.reply) is);
      list = sym (ap (λ (x : Ended). x.list) is);
      sound = s;
      rows = keeps_refl s.good.rows (held-arrow (held old s));
    };
    book = refl;
    kept = record { all = λ _. refl; size = refl; header = λ h l i. refl; spare = λ i l. refl; beyond = λ p l. refl; exact = tt };
  }

  -- one that is answered, or refused after its steps, and remembers v in row i
  pub path_remembers : (i v : ℕ) → i < header_of old ROWS → (r q t : ℕ) (lent : List ℕ) (e : Ended) → shortest b r q t lent ≡ e
      → (T (keeps_all e.reply.number) → ⊥) → PathPost r q t old (remembered_in old i v) lent e.list e.reply
  unfolding remembered_in
  path_remembers i v l r q t lent e is late =
      let f : MemoFrame (table_of old) (view (header_of old ROWS) (remembered_in old i v)) =
      subst (MemoFrame (table_of old)) (sym (view-cell (header_of old ROWS) old s.good.sizes.room i MEMO_VALUE v l (omega arith)))
      (memo-value (table_of old) i v) in
      let ok = alike_sound (memo_alike f) s in
      let k : Keeps (rows_of (table_of old)) (rows_of (view (header_of old ROWS) (remembered_in old i v))) (filled (table_of old)) =
      subst (λ (x : Rows). Keeps (rows_of (table_of old)) x (filled (table_of old))) (sym (rows_same f))
      (keeps_refl s.good.rows (filled-arrow s)) in
      let table = same-table old (remembered_in old i v) e.reply s ok (op_memo f) k in
      record {
        unsound = λ n. absurd (n s);
        told = λ _. record {
          reply = sym (ap (λ (x : Ended). x.reply) is);
          list = sym (ap (λ (x : Ended). x.list) is);
          sound = subst Sound (sym table) ok;
          rows = subst (λ (x : View). Keeps (seen old).rows (rows_of x) (roots_of (seen old))) (sym table)
              (rows-kept old (remembered_in old i v) e.reply s ok (op_memo f) k);
        };
        book = same-book old (remembered_in old i v) e.reply s ok (op_memo f) k;
        kept = words-kept old (remembered_in old i v) e.reply s ok (op_memo f) k late;
      }

  -- a question for many states of register r, whose arrow is a and whose set is A
  pub members-told : {r a : ℕ} {A : List Bool} {asked order order' answers answers' : List ℕ} {y : Reply} → Fit asked order answers
      → InRange (seen old).n r asked → (seen old).reg r ≡ some a → b.reg r ≡ some A
      → Answered a A old asked order order' answers answers' y
      → BatchPost r old asked order order' answers answers' y
  members-told {asked = asked} {order} {order'} {answers} {answers'} {y} f g ea eA d = record {
    sizes = λ n. absurd (n f);
    unsound = λ _ n. absurd (n s);
    range = λ _ _ n. absurd (n g);
    empty = λ _ _ _ e. absurd (none-some (sym e ∙ ea));
    answered = λ _ _ _ c ec C eC.
        subst₂ (λ (x : ℕ) (X : List Bool). Answered x X old asked order order' answers answers' y) (some_inj (sym ea ∙ ec))
        (some_inj (sym eA ∙ eC)) d;
    kept = λ n. absurd (n (ap (λ (x : Reply). x.number) d.reply));
  }
