-- The evaluation of a call's formula from a sound table: what it asks, and that its outcome is the book's. Assumes nothing.
use Rattle.std.specs.Prelude.{◌≡◌, Bool, true, false, List, ℕ, ◌*◌, ◌≤◌, ◌<◌, length, replicate, set, Result}
use Rattle.mucalculus.specs.Form.{no_env}
use Rattle.tokens.specs.declared.Kind.{Kind}
use Rattle.tokens.specs.declared.Kind.TheVariants.{Relation, Set, Valid}
use Rattle.tokens.specs.declared.Grammar.TheVariants.{Runs}
use Rattle.formula.specs.Parse.{depth_limit}
use Rattle.layout.specs.Places.{BITS}
use Rattle.layout.specs.View.{View}
use Rattle.diagram.specs.Level.{Fn}
use Rattle.diagram.specs.Rows.{Arrow, den}
use Rattle.diagram.specs.Steps.{and_f, shift_f}
use Rattle.rows.specs.Used.{rows_of}
use Rattle.rows.specs.Sound.{Sound}
use Rattle.table.specs.Make.{result}
use Rattle.operations.specs.Work.{OpFrame}
use Rattle.table.specs.declared.Full.{Full}
use Rattle.counting.specs.Taken.{made_in, count_in}
use Rattle.counting.specs.declared.Taken.{Taken}
use Rattle.accounts.specs.declared.Count.{Count}
use Rattle.accounts.specs.Count.{nothing, another}
use Rattle.book.specs.Book.{Book, model_of, live_of, checks, formula_in}
use Rattle.book.specs.BookOf.{book_of}
use Rattle.book.specs.Table.{roots_of}
use Rattle.book.specs.Bridge.{fn_of}
use Rattle.book.specs.Over.{states, pair_f}
use Rattle.book.specs.Ticks.{within_needs}
use Rattle.book.specs.Run.{run, fit, needing_all, pairs_fit, pairs_count, relation_fits, relation_count}
use Rattle.book.specs.Formulas.{relation_f}
use Rattle.book.specs.Follow.{Evals}
use Rattle.book.specs.Pairs.{PairEvals}
use Rattle.contract.specs.Seen.{seen_in}
use Rattle.modal.specs.declared.Limits.{Limits}
use Rattle.modal.specs.Chain.{Ran}
use Rattle.evaluator.specs.Scene.{Scene, Ready, ended_of, EvalPre, EvalPost}
use Rattle.evaluator.specs.declared.Context.{Context}
use Rattle.evaluator.specs.declared.Stopped.{Stopped}
use Rattle.evaluator.specs.declared.Value.{Value}

-- where an evaluation starts, no variable having a place
abbrev pub no_places : List ℕ
no_places = replicate 16 0

abbrev pub start : Context
start = record { at = 3; depth = depth_limit; held = 0; places = no_places; count = nothing }

-- where the body of a formula that is a binder starts, after so much is counted
abbrev pub body_start : Count → Context
body_start q = record { at = 4; depth = 63; held = 1; places = no_places; count = another q }

-- the book that a table stands for
abbrev pub book_in : View → Book
book_in W = book_of (seen_in W)

-- a sound table, limits that are its own, and bytes that have passed checks 4 to 7 and 12
pub record SetPre (L : Limits) (W : View) (bs : List ℕ) : Type 0 where
  pub sound : Sound W
  pub bits : L.bits ≡ W.header BITS
  pub rows : L.rows ≡ W.rows
  pub limit : L.limit ≤ L.rows
  pub passed : checks (book_in W) Set bs ≡ 0

-- a sound table with the rows that registers and relations need, nothing else touched, and the outcome of the book's steps: the set with
-- its rounds and peak, 8 or 9
pub record SetPost (L : Limits) (W X : View) (bs : List ℕ) (r : Result Value Stopped) : Type 0 where
  pub sound : Sound X
  pub frame : OpFrame W X
  pub evals : Evals (book_in W).n (book_in W).N (rows_of W) (rows_of X) (roots_of (seen_in W))
      (run (states (model_of (book_in W)) no_env) L.limit L.rounds (live_of (book_in W)) (formula_in (book_in W) Set bs) nothing) (ended_of r)

-- ---- one round of a formula that is a binder

-- the body with x as its current set, which stands in the first word of the stack
pub record OncePre (L : Limits) (W : View) (stack bs : List ℕ) (x : ℕ) (q : Count) : Type 0 where
  pub place : 0 < length stack
  pub more : q.rounds < 4_294_967_295
  pub asks : EvalPre Runs L W (set stack 0 x) bs (body_start q)

abbrev pub OncePost : Limits → View → View → List ℕ → List ℕ → List ℕ → ℕ → Count → Result Value Stopped → Type 0
OncePost L W X stack after bs x q r = EvalPost Runs L W X (set stack 0 x) after bs (body_start q) r

-- ---- within V

-- "then ANDed with V, then with SHIFT of V": of F, W being V
abbrev pub within_f : Fn → Fn → Fn
within_f W F = and_f (and_f F W) (shift_f W)

-- the three steps after the arrow a, the stack being empty
pub record WithinPre (L : Limits) (W : View) (stack : List ℕ) (a : ℕ) : Type 0 where
  pub scene : Scene
  pub ready : Ready L W stack no_places 0 scene
  pub operand : Arrow (rows_of W) a

pub record WithinPost (L : Limits) (W X : View) (stack : List ℕ) (a : ℕ) (count : Count) (o : Result Taken Full) : Type 0 where
  pub answers : (σ : Scene) → Ready L W stack no_places 0 σ
      → Ran L.bits L.rows W X σ.roots
      (fit L.limit (within_needs L.bits σ.fns (fn_of L.bits σ.valid) (den (2 * L.bits) (rows_of W) a)))
      (within_f (fn_of L.bits σ.valid) (den (2 * L.bits) (rows_of W) a))
      (needing_all count (within_needs L.bits σ.fns (fn_of L.bits σ.valid) (den (2 * L.bits) (rows_of W) a))) o

-- ---- a relation's formula, and that of valid

-- a formula of pairs: a relation's, or valid's, which has current bits alone
abbrev pub of_pairs : Kind → Bool
of_pairs Relation = true
of_pairs Set = false
of_pairs Valid = true

-- a sound table, limits that are its own, and bytes that have passed check 4 (and 5, 12, 6 and 7, which ask nothing here)
pub record PairsPre (L : Limits) (W : View) (bs : List ℕ) : Type 0 where
  pub sound : Sound W
  pub bits : L.bits ≡ W.header BITS
  pub rows : L.rows ≡ W.rows
  pub limit : L.limit ≤ L.rows
  pub kind : Kind
  pub is-pairs : of_pairs kind ≡ true
  pub passed : checks (book_in W) kind bs ≡ 0

-- a sound table with the rows that V, registers and relations need, nothing else touched, and the outcome of the formula's steps: its pairs
-- with their peak, or 8
pub record PairsPost (L : Limits) (W X : View) (bs : List ℕ) (o : Result Taken Full) : Type 0 where
  pub sound : Sound X
  pub frame : OpFrame W X
  pub evals : (k : Kind) → of_pairs k ≡ true → checks (book_in W) k bs ≡ 0
      → PairEvals (book_in W).n (book_in W).N (rows_of W) (rows_of X) (roots_of (seen_in W))
      (pairs_fit (book_in W).n L.limit (live_of (book_in W)) (formula_in (book_in W) k bs)) (pair_f (book_in W).n (formula_in (book_in W) k bs))
      (pairs_count (book_in W).n (live_of (book_in W)) (formula_in (book_in W) k bs) nothing) (result (made_in o)) (count_in o)

-- the same of a relation's whole steps, those within V included
pub record RelationPost (L : Limits) (W X : View) (bs : List ℕ) (o : Result Taken Full) : Type 0 where
  pub sound : Sound X
  pub frame : OpFrame W X
  pub evals : checks (book_in W) Relation bs ≡ 0
      → PairEvals (book_in W).n (book_in W).N (rows_of W) (rows_of X) (roots_of (seen_in W))
      (relation_fits (book_in W).n L.limit (live_of (book_in W)) (book_in W).valid (formula_in (book_in W) Relation bs))
      (relation_f (book_in W).n (book_in W).valid (formula_in (book_in W) Relation bs))
      (relation_count (book_in W).n (live_of (book_in W)) (book_in W).valid (formula_in (book_in W) Relation bs) nothing) (result (made_in o))
      (count_in o)
