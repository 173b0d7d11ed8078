-- The book that long lists compute with: the value comes from the steps themselves. It is the book, call by call. Assumes nothing.
use mathlib.Core.Path.{◌≡◌, refl, sym, ap, ◌∙◌}
use mathlib.Core.Bool.{Bool, true, false, cond}
use mathlib.Core.List.{List}
use Prim.Native.Nat.{ℕ, zero, suc}
use lib.Dec.{T, ltb}
use Rattle.mucalculus.specs.Form.{Form, no_env, steady}
use Rattle.mucalculus.specs.Means.{means}
use Rattle.tokens.specs.declared.Kind.{Kind}
use Rattle.tokens.specs.declared.Kind.TheVariants.{Relation, Set, Valid}
use Rattle.accounts.specs.declared.Terms.{Terms}
use Rattle.accounts.specs.Terms.{named, rows_under, rounds_under}
use Rattle.accounts.specs.declared.Count.{Count}
use Rattle.accounts.specs.Count.{nothing}
use Rattle.book.specs.Over.{states}
use Rattle.book.specs.Ticks.{ticks, Verdict, counted, full, spent, verdict}
use Rattle.book.specs.Run.{Outcome, value, full as full_run, spent as spent_run, run, pairs_fit, pairs_count, relation_fits, relation_count}
use Rattle.book.proofs.Verdicts.{settle, run-ticks, pairs-ticks, relation_ticks_lem}
use Rattle.book.specs.Book.{formula_in, Book, Call, relation, set, valid, clear, collect, unfilled, valid_done, valid_steps, registers}
use Rattle.book.specs.Book.{relations, model_of, live_of, checks, Done, refuse, ended, relation_done, set_done, relation_steps, set_steps}
use Rattle.book.specs.Book.{passing, formula_call, does}
use Rattle.book.specs.Stored.{Passed}
use Rattle.book.proofs.Stored.{checks-passed}

-- relation t by its steps' needs alone
abbrev pub relation_by_run : Book → ℕ → Form → Done
relation_by_run b t f =
    let d = relation_done b t f (relation_count b.n (live_of b) b.valid f nothing) in
    cond (relation_fits b.n b.N (live_of b) b.valid f) d (refuse b 8)

-- valid by its steps' needs alone
abbrev pub valid_by_run : Book → Form → Done
valid_by_run b f = let d = valid_done b f in cond (pairs_fit b.n b.N (live_of b) f) d (refuse b 8)

-- set r by what the run comes to
abbrev pub set_ends : Book → ℕ → Outcome → Done
set_ends b r (value A q) = set_done b r A q
set_ends b r full_run = refuse b 8
set_ends b r spent_run = refuse b 9

abbrev pub set_by_run : Book → Terms → ℕ → ℕ → Form → Done
set_by_run b acc r R f = set_ends b r (run (states (model_of b) no_env) (rows_under b.N acc) (rounds_under R acc) (live_of b) f nothing)

abbrev pub does_by_run : Book → Call → Done
does_by_run b (relation t bs) = let d = formula_call b Relation bs (relation_by_run b t) in cond (ltb t relations) d (refuse b 3)
does_by_run b (set acc r R bs) =
    let d = formula_call b Set bs (set_by_run b acc r R) in let e = cond (named acc) d (refuse b 14) in cond (ltb r registers) e (refuse b 3)
does_by_run b (clear r) = does b (clear r)
does_by_run b (valid bs) = let d = formula_call b Valid bs (valid_by_run b) in cond (unfilled b) d (refuse b 13)
does_by_run b collect = does b collect

-- ---- they agree

pub relation-by-run : (b : Book) (t : ℕ) (f : Form) → relation_steps b t f ≡ relation_by_run b t f
relation-by-run b t f =
    ap (λ (w : Verdict). ended b w (λ q. relation_done b t f q)) (relation_ticks_lem b.N 0 b.n (live_of b) b.valid f nothing)
    ∙ go (relation_fits b.n b.N (live_of b) b.valid f)
  where
    c : Count
    c = relation_count b.n (live_of b) b.valid f nothing

    go : (x : Bool) → ended b (cond x (counted c) full) (λ q. relation_done b t f q) ≡ cond x (relation_done b t f c) (refuse b 8)
    go true = refl
    go false = refl

pub valid-by-run : (b : Book) (f : Form) → valid_steps b f ≡ valid_by_run b f
valid-by-run b f =
    ap (λ (w : Verdict). ended b w (λ q. valid_done b f)) (pairs-ticks b.N 0 b.n (live_of b) f nothing)
    ∙ go (pairs_fit b.n b.N (live_of b) f)
  where
    go : (x : Bool)
        → ended b (cond x (counted (pairs_count b.n (live_of b) f nothing)) full) (λ q. valid_done b f)
        ≡ cond x (valid_done b f) (refuse b 8)
    go true = refl
    go false = refl

ends-by-run : (b : Book) (r : ℕ) (A : List Bool) (w : Verdict) → set_ends b r (settle A w) ≡ ended b w (λ q. set_done b r A q)
ends-by-run b r A (counted q) = refl
ends-by-run b r A full = refl
ends-by-run b r A spent = refl

-- for a formula that passes check 6
pub set-by-run : (b : Book) (acc : Terms) (r R : ℕ) (f : Form) → T (steady f) → set_by_run b acc r R f ≡ set_steps b acc r R f
set-by-run b acc r R f t =
    ap (set_ends b r) (run-ticks (rows_under b.N acc) (rounds_under R acc) (model_of b) no_env (live_of b) f nothing t)
    ∙ ends-by-run b r (means (model_of b) no_env f)
    (verdict (rows_under b.N acc) (rounds_under R acc) nothing (ticks (states (model_of b) no_env) (live_of b) f))

-- two ways to go on that agree on the formulas that pass
formula_same : (b : Book) (c : Kind) (bs : List ℕ) (x y : Form → Done) → (Passed b c bs → x (formula_in b c bs) ≡ y (formula_in b c bs))
    → formula_call b c bs x ≡ formula_call b c bs y
formula_same b c bs x y h = pass (checks b c bs) refl
  where
    pass : (k : ℕ) → checks b c bs ≡ k → passing b k (x (formula_in b c bs)) ≡ passing b k (y (formula_in b c bs))
    pass zero i = h (checks-passed b c bs i)
    pass (suc k) i = refl

pub does-by-run : (b : Book) (c : Call) → does_by_run b c ≡ does b c
does-by-run b (relation t bs) =
    ap (λ (d : Done). cond (ltb t relations) d (refuse b 3))
    (formula_same b Relation bs (relation_by_run b t) (relation_steps b t) (λ p. sym (relation-by-run b t (formula_in b Relation bs))))
does-by-run b (set acc r R bs) =
    ap (λ (d : Done). cond (ltb r registers) (cond (named acc) d (refuse b 14)) (refuse b 3))
    (formula_same b Set bs (set_by_run b acc r R) (set_steps b acc r R) (λ p. set-by-run b acc r R (formula_in b Set bs) p.is_steady))
does-by-run b (clear r) = refl
does-by-run b (valid bs) =
    ap (λ (d : Done). cond (unfilled b) d (refuse b 13))
    (formula_same b Valid bs (valid_by_run b) (valid_steps b) (λ p. sym (valid-by-run b (formula_in b Valid bs))))
does-by-run b collect = refl
