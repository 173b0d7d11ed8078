-- Laws of what specs/Formulas.antt defines. Assumes nothing.
use mathlib.Core.Path.{◌≡◌, refl, sym, ap, ◌∙◌, subst}
use mathlib.Core.Bool.{Bool, true, false, ◌&&◌, cond}
use mathlib.Core.List.{List}
use mathlib.Core.Option.{some}
use Prim.Native.Nat.{ℕ, ◌<◌}
use lib.Dec.{T}
use Rattle.mucalculus.specs.Form.{Form, no_env, steady}
use Rattle.mucalculus.specs.Means.{means, means_pair, pair, pairs_within}
use Rattle.mucalculus.proofs.Means.{length-means}
use Rattle.mucalculus.specs.Sets.{mem}
use Rattle.tokens.specs.declared.Kind.TheVariants.{Relation, Set, Valid}
use Rattle.diagram.specs.Rows.{Rows}
use Rattle.diagram.specs.Keep.{Keeps}
use Rattle.diagram.proofs.Keep.{keeps_within}
use Rattle.diagram.specs.Post.{Result, at, full as no_rows}
use Rattle.accounts.specs.declared.Terms.{Terms}
use Rattle.accounts.specs.Terms.{named, rows_under, rounds_under}
use Rattle.accounts.specs.declared.Count.{Count}
use Rattle.accounts.specs.Count.{nothing}
use Rattle.book.specs.Over.{states}
use Rattle.book.specs.Ticks.{ticks, Verdict, counted, full, spent, verdict}
use Rattle.book.specs.Run.{Outcome, run, pair_f, pairs_fit, pairs_count, relation_fits, relation_count}
use Rattle.book.specs.Bridge.{fn_of_pairs}
use Rattle.book.proofs.Bridge.{fn_of_pairs-table}
use Rattle.book.proofs.Held.{denotes-same}
use Rattle.book.proofs.Bits.{valid_fn, valid-bits}
use Rattle.book.proofs.Verdicts.{settle, run-ticks}
use Rattle.book.proofs.Effects.{does-set, does-relation, does-valid}
use Rattle.book.specs.Book.{formula_in, Book, relation, set, valid, stores, unfilled, states_of, valid_done, registers, relations}
use Rattle.book.specs.Book.{model_of, live_of, checks, Done, refuse, ended, relation_done, set_done, relation_steps, set_steps, does}
use Rattle.book.proofs.Stored.{checks-passed}
use Rattle.book.proofs.ByRun.{relation-by-run, valid_by_run, valid-by-run}
use Rattle.book.proofs.Nodes.{node-settled}
use Rattle.book.specs.Table.{Table, Reply, Shows, Agrees, noted, stores_valid, roots_of, Serves}
use Rattle.book.specs.Follow.{Ended, ends, eight, nine, Evals}
use Rattle.book.proofs.Follow.{Matches}
use Rattle.book.proofs.Roots.{kept-before}
use Rattle.book.specs.Pairs.{PairMatches, PairEvals}
use Rattle.book.proofs.Leaves.{with_rows, store_reg, store_rel, store_valid, shows-rows, shows-reg, shows-rel, shows-valid}
use Rattle.book.specs.Leaves.{plain}
use Rattle.book.specs.Formulas.{relation_f}

-- ---- set

-- what set leaves of a table whose rows are now `rows`: an arrow stored, or the registers and relations kept
abbrev pub set_leaves : Table → ℕ → Rows → Ended → Table
set_leaves t r rows (ends a q) = store_reg (with_rows t rows) r (some a)
set_leaves t r rows eight = with_rows t rows
set_leaves t r rows nine = with_rows t rows

-- what set returns
abbrev pub set_reply : Ended → Reply
set_reply (ends a q) = record { number = 0; rounds = q.rounds; peak = q.peak; value = a }
set_reply eight = record { number = 8; rounds = 0; peak = 0; value = 0 }
set_reply nine = record { number = 9; rounds = 0; peak = 0; value = 0 }

-- from the evaluator's promise to the call's: the table shows the book after its steps, and the reply agrees with its answer
pub set-served : (b : Book) (t : Table) (acc : Terms) (r R : ℕ) (f : Form) (rows : Rows) (y : Ended) → Shows b t → T (steady f)
    → Evals b.n b.N t.rows rows (roots_of t)
    (run (states (model_of b) no_env) (rows_under b.N acc) (rounds_under R acc) (live_of b) f nothing) y
    → Shows (set_steps b acc r R f).0 (set_leaves t r rows y) × Agrees (set_steps b acc r R f).1 (set_reply y)
set-served b t acc r R f rows y s i d =
    go (verdict (rows_under b.N acc) (rounds_under R acc) nothing (ticks (states (model_of b) no_env) (live_of b) f)) y
    (subst (λ (o : Outcome). Matches b.n rows o y)
    (run-ticks (rows_under b.N acc) (rounds_under R acc) (model_of b) no_env (live_of b) f nothing i) d.result)
  where
    after : Shows b (with_rows t rows)
    after = shows-rows b t s rows d.wf d.kept

    A : List Bool
    A = means (model_of b) no_env f

    go : (w : Verdict) (y : Ended) → Matches b.n rows (settle A w) y
        → Shows (ended b w (λ q. set_done b r A q)).0 (set_leaves t r rows y) × Agrees (ended b w (λ q. set_done b r A q)).1 (set_reply y)
    go (counted q) (ends a p) m = (
      shows-reg b (with_rows t rows) after r (some A) (some a) m.0,
      record {
        number =
            refl;
        rounds =
            ap (λ (c : Count). c.rounds) m.1;
        peak =
            ap (λ (c : Count). c.peak) m.1;
        value =
            node-settled b.n b.N rows A a (length-means (model_of b) no_env f) d.wf m.0;
      },
    )
    go (counted q) eight m = absurd m
    go (counted q) nine m = absurd m
    go full (ends a p) m = absurd m
    go full eight m = (after, record { number = refl; rounds = refl; peak = refl; value = refl })
    go full nine m = absurd m
    go spent (ends a p) m = absurd m
    go spent eight m = absurd m
    go spent nine m = (after, record { number = refl; rounds = refl; peak = refl; value = refl })

-- SET, after its checks
pub set_serves : (b : Book) (t : Table) (acc : Terms) (r R : ℕ) (bs : List ℕ) (rows : Rows) (y : Ended) → Shows b t → r < registers
    → T (named acc)
    → checks b Set bs ≡ 0
    → Evals b.n b.N t.rows rows (roots_of t)
    (run (states (model_of b) no_env) (rows_under b.N acc) (rounds_under R acc) (live_of b) (formula_in b Set bs) nothing) y
    → Serves b (set acc r R bs) t (set_leaves t r rows y) (set_reply y)
set_serves b t acc r R bs rows y s l h z d = record {
  shows = subst (λ (x : Done). Shows x.0 (set_leaves t r rows y)) (sym same) p.0;
  agrees = subst (λ (x : Done). Agrees x.1 (set_reply y)) (sym same) p.1;
  numbers = λ q i. noting y q;
  rels = λ q i z. relations-kept y q;
  valid = λ z. valid-kept y;
  kept = keeps_within (kept-before (set acc r R bs) (set_reply y) t) (keeping y);
  swept = tt;
}
  where
    same : does b (set acc r R bs) ≡ set_steps b acc r R (formula_in b Set bs)
    same = does-set b acc r R bs l h z

    p : Shows (set_steps b acc r R (formula_in b Set bs)).0 (set_leaves t r rows y)
        × Agrees (set_steps b acc r R (formula_in b Set bs)).1 (set_reply y)
    p = set-served b t acc r R (formula_in b Set bs) rows y s (checks-passed b Set bs z).is_steady d

    relations-kept : (y : Ended) (q : ℕ) → (set_leaves t r rows y).rel q ≡ t.rel q
    relations-kept (ends a k) q = refl
    relations-kept eight q = refl
    relations-kept nine q = refl

    valid-kept : (y : Ended) → (set_leaves t r rows y).valid ≡ t.valid
    valid-kept (ends a k) = refl
    valid-kept eight = refl
    valid-kept nine = refl

    keeping : (y : Ended) → Keeps t.rows (set_leaves t r rows y).rows (roots_of t)
    keeping (ends a q) = d.kept
    keeping eight = d.kept
    keeping nine = d.kept

    noting : (y : Ended) (q : ℕ) → (set_leaves t r rows y).reg q ≡ noted (t.reg q) (set acc r R bs) (set_reply y) q
    noting (ends a k) q = refl
    noting eight q = refl
    noting nine q = refl

-- ---- relation

abbrev pub relation_leaves : Table → ℕ → Rows → Result → Table
relation_leaves t q rows (at a) = store_rel (with_rows t rows) q (some a)
relation_leaves t q rows no_rows = with_rows t rows

-- what relation returns, q being counted
abbrev pub relation_reply : Result → Count → Reply
relation_reply (at a) q = record { number = 0; rounds = 0; peak = q.peak; value = 0 }
relation_reply no_rows q = plain 8

relation_fn : (n : ℕ) (E : List Bool) (f : Form) → relation_f n E f ≡ fn_of_pairs n (pairs_within n E (means_pair n f))
relation_fn n E f = sym (fn_of_pairs-table n (λ s t. (pair (means_pair n f) s t && mem E s) && mem E t))

relation-served : (b : Book) (t : Table) (x : ℕ) (f : Form) (rows : Rows) (y : Result) (q : Count) → Shows b t
    → PairEvals b.n b.N t.rows rows (roots_of t) (relation_fits b.n b.N (live_of b) b.valid f)
    (relation_f b.n b.valid f) (relation_count b.n (live_of b) b.valid f nothing) y q
    → Shows (relation_steps b x f).0 (relation_leaves t x rows y) × Agrees (relation_steps b x f).1 (relation_reply y q)
relation-served b t x f rows y q s d =
    subst (λ (z : Done). Shows z.0 (relation_leaves t x rows y) × Agrees z.1 (relation_reply y q)) (sym (relation-by-run b x f))
    (go (relation_fits b.n b.N (live_of b) b.valid f) y d.result)
  where
    after : Shows b (with_rows t rows)
    after = shows-rows b t s rows d.wf d.kept

    c : Count
    c = relation_count b.n (live_of b) b.valid f nothing

    go : (z : Bool) (y : Result) → PairMatches b.n rows z (relation_f b.n b.valid f) c y q
        → Shows (cond z (relation_done b x f c) (refuse b 8)).0 (relation_leaves t x rows y)
        × Agrees (cond z (relation_done b x f c) (refuse b 8)).1 (relation_reply y q)
    go true (at a) m = (
      shows-rel b (with_rows t rows) after x (some (pairs_within b.n b.valid (means_pair b.n f))) (some a)
          (denotes-same (relation_fn b.n b.valid f) m.0),
      record { number = refl; rounds = refl; peak = ap (λ (c : Count). c.peak) m.1; value = refl },
    )
    go true no_rows m = absurd m
    go false (at a) m = absurd m
    go false no_rows m = (after, record { number = refl; rounds = refl; peak = refl; value = refl })

-- RELATION, after its checks
pub relation_serves : (b : Book) (t : Table) (x : ℕ) (bs : List ℕ) (rows : Rows) (y : Result) (q : Count) → Shows b t → x < relations
    → checks b Relation bs ≡ 0
    → PairEvals b.n b.N t.rows rows (roots_of t) (relation_fits b.n b.N (live_of b) b.valid (formula_in b Relation bs))
    (relation_f b.n b.valid (formula_in b Relation bs))
    (relation_count b.n (live_of b) b.valid (formula_in b Relation bs) nothing) y q
    → Serves b (relation x bs) t (relation_leaves t x rows y) (relation_reply y q)
relation_serves b t x bs rows y q s l z d = record {
  shows = subst (λ (u : Done). Shows u.0 (relation_leaves t x rows y)) (sym same) p.0;
  agrees = subst (λ (u : Done). Agrees u.1 (relation_reply y q)) (sym same) p.1;
  numbers = λ r h. noting y r;
  rels = λ r h z. others y r z;
  valid = λ z. valid-kept y;
  kept = keeps_within (kept-before (relation x bs) (relation_reply y q) t) (keeping y);
  swept = tt;
}
  where
    same : does b (relation x bs) ≡ relation_steps b x (formula_in b Relation bs)
    same = does-relation b x bs l z

    p : Shows (relation_steps b x (formula_in b Relation bs)).0 (relation_leaves t x rows y)
        × Agrees (relation_steps b x (formula_in b Relation bs)).1 (relation_reply y q)
    p = relation-served b t x (formula_in b Relation bs) rows y q s d

    others : (y : Result) (r : ℕ) → stores (some x) (relation_reply y q).number r ≡ false → (relation_leaves t x rows y).rel r ≡ t.rel r
    others (at a) r z = ap (λ (u : Bool). cond u (some a) (t.rel r)) z
    others no_rows r z = refl

    valid-kept : (y : Result) → (relation_leaves t x rows y).valid ≡ t.valid
    valid-kept (at a) = refl
    valid-kept no_rows = refl

    keeping : (y : Result) → Keeps t.rows (relation_leaves t x rows y).rows (roots_of t)
    keeping (at a) = d.kept
    keeping no_rows = d.kept

    noting : (y : Result) (r : ℕ) → (relation_leaves t x rows y).reg r ≡ t.reg r
    noting (at a) r = refl
    noting no_rows r = refl

-- ---- valid

abbrev pub valid_leaves : Table → Rows → Result → Table
valid_leaves t rows (at a) = store_valid (with_rows t rows) a
valid_leaves t rows no_rows = with_rows t rows

abbrev pub valid_reply : Result → Reply
valid_reply (at a) = plain 0
valid_reply no_rows = plain 8

-- VALID, after its checks: its steps are a relation's, without V
pub valid_serves : (b : Book) (t : Table) (bs : List ℕ) (rows : Rows) (y : Result) (q : Count) → Shows b t → T (unfilled b)
    → checks b Valid bs ≡ 0
    → PairEvals b.n b.N t.rows rows (roots_of t) (pairs_fit b.n b.N (live_of b) (formula_in b Valid bs))
    (pair_f b.n (formula_in b Valid bs)) (pairs_count b.n (live_of b) (formula_in b Valid bs) nothing) y q
    → Serves b (valid bs) t (valid_leaves t rows y) (valid_reply y)
valid_serves b t bs rows y q s u z d = record {
  shows = subst (λ (x : Done). Shows x.0 (valid_leaves t rows y)) (sym same) p.0;
  agrees = subst (λ (x : Done). Agrees x.1 (valid_reply y)) (sym same) p.1;
  numbers = λ r h. noting y r;
  rels = λ r h z. relations-kept y r;
  valid = λ z. valid-kept y z;
  kept = keeps_within (kept-before (valid bs) (valid_reply y) t) (keeping y);
  swept = tt;
}
  where
    f : Form
    f = formula_in b Valid bs

    same : does b (valid bs) ≡ valid_by_run b (formula_in b Valid bs)
    same = does-valid b bs u z ∙ valid-by-run b (formula_in b Valid bs)

    after : Shows b (with_rows t rows)
    after = shows-rows b t s rows d.wf d.kept

    go : (x : Bool) (y : Result)
        → PairMatches b.n rows x (pair_f b.n (formula_in b Valid bs)) (pairs_count b.n (live_of b) (formula_in b Valid bs) nothing) y q
        → Shows (cond x (valid_done b (formula_in b Valid bs)) (refuse b 8)).0 (valid_leaves t rows y)
        × Agrees (cond x (valid_done b (formula_in b Valid bs)) (refuse b 8)).1 (valid_reply y)
    go true (at a) m = (
      shows-valid b (with_rows t rows) after (states_of b.n (formula_in b Valid bs)) a
          (denotes-same (valid_fn b.n (formula_in b Valid bs) (valid-bits b bs (checks-passed b Valid bs z))) m.0),
      record { number = refl; rounds = refl; peak = refl; value = refl },
    )
    go true no_rows m = absurd m
    go false (at a) m = absurd m
    go false no_rows m = (after, record { number = refl; rounds = refl; peak = refl; value = refl })

    p : Shows (valid_by_run b (formula_in b Valid bs)).0 (valid_leaves t rows y)
        × Agrees (valid_by_run b (formula_in b Valid bs)).1 (valid_reply y)
    p = go (pairs_fit b.n b.N (live_of b) (formula_in b Valid bs)) y d.result

    relations-kept : (y : Result) (r : ℕ) → (valid_leaves t rows y).rel r ≡ t.rel r
    relations-kept (at a) r = refl
    relations-kept no_rows r = refl

    valid-kept : (y : Result) → stores_valid (valid bs) (valid_reply y) ≡ false → (valid_leaves t rows y).valid ≡ t.valid
    valid-kept (at a) h = absurd (subst T h tt)
    valid-kept no_rows h = refl

    keeping : (y : Result) → Keeps t.rows (valid_leaves t rows y).rows (roots_of t)
    keeping (at a) = d.kept
    keeping no_rows = d.kept

    noting : (y : Result) (r : ℕ) → (valid_leaves t rows y).reg r ≡ t.reg r
    noting (at a) r = refl
    noting no_rows r = refl
