-- The start of an evaluation: all is forgotten, the stack is empty, no variable is open. Assumes nothing.
use Rattle.std.specs.Prelude.{Some, None, Result, Ok, Err}
use mathlib.Core.Path.{◌≡◌, refl, sym, ap, ◌∙◌, subst}
use mathlib.Core.Logic.{inl, inr}
use mathlib.Core.Bool.{Bool, true, false, ◌&&◌, cond, true≢false}
use mathlib.Core.List.{List, [], ◌++◌, append-nil}
use mathlib.Core.Option.{Option, some}
use Prim.Native.Nat.{ℕ, ◌+◌, ◌*◌, ◌^◌, ◌≤◌, ◌<◌}
use native.Mathlib.Omega.{arith}
use lib.Dec.{T, eqb}
use lib.ListN.{length, get_or, take, replicate, length-replicate, get_or-replicate}
use Rattle.mucalculus.specs.Sets.{mem}
use Rattle.mucalculus.proofs.Sets.{mem-lt}
use Rattle.mucalculus.specs.Order.{Below}
use Rattle.mucalculus.proofs.Laws.{get_or-table}
use Rattle.mucalculus.specs.Means.{clip}
use Rattle.mucalculus.specs.Exist.{Inside}
use Rattle.mucalculus.specs.Form.{Form, Pairs as PairSet, none_open, no_env}
use Rattle.tokens.specs.Tokens.{first_of, second_of, grammar_of}
use Rattle.tokens.specs.declared.Kind.{Kind}
use Rattle.tokens.specs.declared.Kind.TheVariants.{Relation, Set, Valid}
use Rattle.tokens.specs.declared.Grammar.{Grammar}
use Rattle.tokens.specs.declared.Grammar.TheVariants.{Pairs, Runs}
use Rattle.formula.specs.Parse.{got, form_of, depth_limit, parse}
use Rattle.formula.proofs.Accepted.{found}
use Rattle.formula.proofs.Fits.{Fitting, fitting}
use Rattle.formula.proofs.Versions.{parse-runs, parse-bits}
use Rattle.accounts.specs.declared.Count.{Count}
use Rattle.accounts.specs.Count.{nothing}
use Rattle.layout.specs.Places.{BITS, VALID, FIRST_REGISTER, FIRST_RELATION}
use Rattle.layout.specs.View.{View}
use Rattle.diagram.specs.Level.{Fn}
use Rattle.diagram.specs.Rows.{Rows}
use Rattle.diagram.specs.Post.{Denotes}
use Rattle.rows.specs.Used.{rows_of}
use Rattle.rows.specs.Sound.{Sound}
use Rattle.rows.specs.Within.{valid_of}
use Rattle.rows.specs.Filled.{filled}
use Rattle.collect.specs.Lent.{live}
use Rattle.memory.proofs.Frame.{rows_same}
use Rattle.memory.specs.Forget.{Forgot}
use Rattle.operations.specs.Work.{OpFrame}
use Rattle.operations.proofs.Work.{op_memo, op_trans}
use Rattle.steps.proofs.Steps.{live_same}
use Rattle.steps.proofs.Again.{start-ready}
use Rattle.book.specs.Bridge.{fn_of, fn_of_pairs}
use Rattle.book.specs.Book.{reg_filled, rel_filled, live_of, model_of, checks, formula_in}
use Rattle.book.specs.Over.{states, pairs, pair_f, levels}
use Rattle.book.proofs.Over.{points_of, points_value}
use Rattle.book.specs.Ticks.{within_needs, counted, full as full_verdict}
use Rattle.book.proofs.Verdicts.{settle, fit_append, count-append, run-pairs, pairs-ticks}
use Rattle.book.specs.Formulas.{relation_f}
use Rattle.book.specs.Pairs.{PairEvals, PairMatches}
use Rattle.book.specs.Stored.{Whole}
use Rattle.book.proofs.BookOf.{whole-book_of, shows-book_of}
use Rattle.book.specs.Table.{Place, Shows, roots_of}
use Rattle.book.proofs.Roots.{shows-held}
use Rattle.book.specs.Run.{Outcome, run, fit, needing_all, pair_needs, pairs_fit, pairs_count, relation_fits, relation_count}
use Rattle.book.specs.Held.{Held}
use Rattle.book.proofs.Held.{denoted}
use Rattle.book.specs.Follow.{MatchesBy, EvalsBy, Evals}
use Rattle.book.proofs.Follow.{evals-same, denotes-clip}
use Rattle.contract.specs.Seen.{arrow_in, seen_in}
use Rattle.contract.proofs.Seen.{sound-table}
use Rattle.contract.proofs.Roots.{filled_root, root-filled}
use Rattle.modal.specs.declared.Limits.{Limits}
use Rattle.modal.specs.Chain.{Alike, Base, Moved, Ran}
use Rattle.modal.proofs.Chain.{moved_trans, ran_stop, ran_value, ran_then}
use Rattle.evaluator.specs.Scene.{evaluated}
use Rattle.evaluator.specs.Scene.{stack_size, Scene, model_in, exist_in, holds_reg, holds_rel, Part, Ready, Answers, ended_of, EvalPre}
use Rattle.evaluator.specs.Scene.{EvalPost}
use Rattle.evaluator.specs.Whole.{start, no_places, book_in, SetPre, SetPost, within_f, WithinPre, WithinPost, of_pairs, PairsPre}
use Rattle.evaluator.specs.Whole.{PairsPost, RelationPost}
use Rattle.table.specs.Make.{result}
use Rattle.table.specs.declared.Full.{Full}
use Rattle.counting.specs.Taken.{taken, ran_out, made_in, count_in}
use Rattle.counting.specs.declared.Taken.{Taken}
use Rattle.evaluator.specs.declared.Context.{Context}
use Rattle.evaluator.specs.declared.Stopped.{Stopped}
use Rattle.evaluator.specs.declared.Value.{Value}
use Rattle.evaluator.specs.declared.Stopped.TheVariants as stopped
use Rattle.evaluator.proofs.State.{in_scope, ready-next}
use Rattle.evaluator.proofs.Outcomes.{Halts}

-- the scene that a table holds by itself
abbrev pub scene_in : View → Scene
scene_in W =
    record {
      valid =
          (book_in W).valid;
      reg =
          (book_in W).reg;
      rel = (book_in W).rel;
      scope = none_open;
      env = no_env;
      roots = roots_of (seen_in W);
      fns = live_of (book_in W);
    }

-- no variable is open
none_open_lem : (P : ℕ) → get_or none_open P false ≡ true → ⊥
none_open_lem P e =
    let l : P < 16 = in_scope none_open P e in
    true≢false (sym e ∙ get_or-replicate 16 P false false l)

-- the words after forgetting, of which the sizes are L's
module _ (L : Limits) {W X : View} (s : Sound W) (bits : L.bits ≡ W.header BITS) (rows : L.rows ≡ W.rows) (limit : L.limit ≤ L.rows)
    (f : Forgot W X) where
  shows : Shows (book_in W) (seen_in W)
  shows = shows-book_of (seen_in W) (sound-table W s)

  frame : OpFrame W X
  frame = op_memo f.frame

  same-rows : rows_of W ≡ rows_of X
  same-rows = sym (rows_same f.frame)

  place : {Y : Type 0} (g : ℕ → Y → Fn) (o : Option Y) (h : ℕ) → FIRST_REGISTER ≤ h
      → Place (2 * W.header BITS) (rows_of W) (g (W.header BITS)) o (arrow_in (W.header h))
      → Place (2 * L.bits) (rows_of X) (g L.bits) o (arrow_in (X.header h))
  place g o h l p =
      subst (λ (n : ℕ). Place (2 * n) (rows_of X) (g n) o (arrow_in (X.header h))) (sym bits)
      (subst (λ (u : Option ℕ). Place (2 * W.header BITS) (rows_of X) (g (W.header BITS)) o u)
      (ap arrow_in (sym (frame.header h (omega arith) (omega arith) (omega arith) (omega arith))))
      (subst (λ (t : Rows). Place (2 * W.header BITS) t (g (W.header BITS)) o (arrow_in (W.header h))) same-rows p))

  pub start-base : Base L.bits L.rows L.limit X
  start-base = let p = start-ready s f (ap (λ (n : ℕ). 2 * n) bits) rows limit in record { ready = p.1; sound = p.0 }

  pub start-held : Held (2 * L.bits) (rows_of X) (roots_of (seen_in W)) (live_of (book_in W))
  start-held =
      subst (λ (n : ℕ). Held (2 * n) (rows_of X) (roots_of (seen_in W)) (live_of (book_in W))) (sym bits)
      (subst (λ (t : Rows). Held (2 * W.header BITS) t (roots_of (seen_in W)) (live_of (book_in W))) same-rows
      (shows-held (book_in W) (seen_in W) shows))

  pub start-roots : (stack : List ℕ) → Alike (live X (take 0 stack)) (roots_of (seen_in W))
  start-roots stack =
      let e : filled W ≡ live X (take 0 stack) = sym (append-nil (filled W)) ∙ sym (live_same frame []) in
      subst (λ (xs : List ℕ). Alike xs (roots_of (seen_in W))) e (record { to = filled_root W; from = root-filled W s.valid })

  -- V, and that all is within it
  whole-book : Whole (book_in W)
  whole-book = whole-book_of (seen_in W) (sound-table W s)

  start-valid : Denotes (2 * L.bits) (rows_of X) (valid_of X) (fn_of L.bits (exist_in L.bits (scene_in W)))
  start-valid =
      let same : X.header VALID ≡ W.header VALID = frame.header VALID (omega arith) (omega arith) (omega arith) (omega arith) in
      let arrow : valid_of W ≡ valid_of X = omega arith in
      subst (λ (x : ℕ). Denotes (2 * L.bits) (rows_of X) x (fn_of L.bits (exist_in L.bits (scene_in W)))) arrow
      (subst (λ (n : ℕ). Denotes (2 * n) (rows_of X) (valid_of W) (fn_of n (exist_in n (scene_in W)))) (sym bits)
      (subst (λ (t : Rows). Denotes (2 * W.header BITS) t (valid_of W) (fn_of (W.header BITS) (exist_in (W.header BITS) (scene_in W))))
      same-rows
      (denotes-clip (W.header BITS) W.rows (book_in W).valid shows.valid)))

  -- a state of V below 2^n exists
  exists_in : (n : ℕ) (E : List Bool) (u : ℕ) → u < 2 ^ n → T (mem E u) → T (mem (clip (2 ^ n) E) u)
  exists_in n E u l p = subst T (sym (get_or-table (2 ^ n) (λ x. mem E x) u false l)) p

  start_reg : (r : ℕ) (A : List Bool) → (book_in W).reg r ≡ some A → Below A (exist_in L.bits (scene_in W))
  start_reg r A e u p =
      let w = whole-book.reg r A e in
      subst (λ (n : ℕ). T (mem (exist_in n (scene_in W)) u)) (sym bits)
      (exists_in (W.header BITS) (book_in W).valid u (subst (λ (k : ℕ). u < k) w.0 (mem-lt A u p)) (w.2 u p))

  start-rel : (t : ℕ) (Q : PairSet) → (book_in W).rel t ≡ some Q → Inside (2 ^ L.bits) (exist_in L.bits (scene_in W)) Q
  start-rel t Q e = subst (λ (n : ℕ). Inside (2 ^ n) (exist_in n (scene_in W)) Q) (sym bits) (λ u v i j p.
      let w = (whole-book.rel t Q e).2 u v i j p in
      (exists_in (W.header BITS) (book_in W).valid u i w.0, exists_in (W.header BITS) (book_in W).valid v j w.1))

  pub start-scene : Ready L X (replicate stack_size 0) (replicate 16 0) 0 (scene_in W)
  start-scene = record {
    base = start-base;
    valid = start-valid;
    in-reg = start_reg;
    in-rel = start-rel;
    in-env = λ P o. absurd (none_open_lem P o);
    reg = λ r l. place fn_of ((book_in W).reg r) (FIRST_REGISTER + r) (omega arith) (shows.reg r l);
    rel = λ t l. place fn_of_pairs ((book_in W).rel t) (FIRST_RELATION + t) (omega arith) (shows.rel t l);
    roots = start-roots (replicate stack_size 0);
    lives = start-held;
    size = length-replicate {A = ℕ} stack_size 0;
    within = omega arith;
    vars = length-replicate 16 false;
    slots = length-replicate {A = ℕ} 16 0;
    open_at = λ P o. absurd (none_open_lem P o);
  }

-- the grammar in which a call's formula is evaluated
abbrev pub grammar_for : Kind → Grammar
grammar_for Relation = Pairs
grammar_for Set = Runs
grammar_for Valid = Pairs

-- a formula of bits is read as one of pairs, one of states as one of states and runs
read_as : (n : ℕ) (bs : List ℕ) (k : Kind) (v : ℕ) (g : Grammar) {f : Form} {e : ℕ} → grammar_of k v ≡ Some g
    → parse n g depth_limit bs 3 ≡ got f e → parse n (grammar_for k) depth_limit bs 3 ≡ got f e
read_as n bs k v g {f} {e} known h = go k (eqb v 1) (eqb v 2) known
  where
    by_grammar : {x : Grammar} → Some x ≡ Some g → parse n x depth_limit bs 3 ≡ got f e
    by_grammar {x} q = let same : x ≡ g = cc in subst (λ (y : Grammar). parse n y depth_limit bs 3 ≡ got f e) (sym same) h

    go : (k : Kind) (a b : Bool) → cond a (first_of k) (cond b (second_of k) None) ≡ Some g
        → parse n (grammar_for k) depth_limit bs 3 ≡ got f e
    go Relation true b q = by_grammar q
    go Relation false true q = let z : ◌≡◌ {A = ℕ} 0 1 = cc in absurd (omega arith)
    go Relation false false q = let z : ◌≡◌ {A = ℕ} 0 1 = cc in absurd (omega arith)
    go Set true b q = parse-runs n bs depth_limit 3 (by_grammar q)
    go Set false true q = by_grammar q
    go Set false false q = let z : ◌≡◌ {A = ℕ} 0 1 = cc in absurd (omega arith)
    go Valid true b q = parse-bits n bs depth_limit 3 (by_grammar q)
    go Valid false true q = let z : ◌≡◌ {A = ℕ} 0 1 = cc in absurd (omega arith)
    go Valid false false q = let z : ◌≡◌ {A = ℕ} 0 1 = cc in absurd (omega arith)

-- ---- the whole formula

module _ (L : Limits) (W : View) (bs : List ℕ) (bits : L.bits ≡ W.header BITS) (k : Kind) (passed : checks (book_in W) k bs ≡ 0) where
  fits : Fitting k (W.header BITS) (reg_filled (book_in W)) (rel_filled (book_in W)) bs
  fits = fitting k (W.header BITS) (reg_filled (book_in W)) (rel_filled (book_in W)) bs passed

  pub whole : Form
  whole = fits.form

  pub whole_part : Part (grammar_for k) L.bits bs 3 depth_limit none_open (holds_reg (scene_in W)) (holds_rel (scene_in W)) whole (length bs)
  unfolding whole
  whole_part =
      let h = found k (W.header BITS) bs fits.form fits.read in
      record {
        stands = record {
          reads =
              subst (λ (n : ℕ). parse n (grammar_for k) depth_limit bs 3 ≡ got fits.form (length bs)) (sym bits)
              (read_as (W.header BITS) bs k (get_or bs 2 0) h.grammar h.known h.parsed);
        };
        named = record { is_bound = fits.is_bound; is_filled = fits.is_filled };
      }

  pub whole_is : whole ≡ formula_in (book_in W) k bs
  unfolding whole
  whole_is = sym (ap form_of fits.read)

-- the context that was made is the one meant
module _ {g : Grammar} {L : Limits} {X : View} {stack bs : List ℕ} {c e : Context} (i : c ≡ e) where
  pub asks_at : EvalPre g L X stack bs e → EvalPre g L X stack bs c
  asks_at P = subst (λ (d : Context). EvalPre g L X stack bs d) (sym i) P

  pub ends_at : {Y : View} {after : List ℕ} {r : Result Value Stopped} → EvalPost g L X Y stack after bs c r
      → EvalPost g L X Y stack after bs e r
  ends_at {Y} {after} {r} E = subst (λ (d : Context). EvalPost g L X Y stack after bs d r) i E

-- ---- a set's formula

module _ {L : Limits} {W : View} {bs : List ℕ} (p : SetPre L W bs) {X : View} (f : Forgot W X) where
  pub set-begins : Sound X
  set-begins = (start-base L p.sound p.bits p.rows p.limit f).sound

  pub set-asks : EvalPre Runs L X (replicate stack_size 0) bs start
  set-asks = record {
    takes = inr refl;
    room = omega arith;
    scene = scene_in W;
    form = whole L W bs p.bits Set p.passed;
    end = length bs;
    ready = start-scene L p.sound p.bits p.rows p.limit f;
    part = whole_part L W bs p.bits Set p.passed;
  }

  pub set-ends : {Y : View} {after : List ℕ} {r : Result Value Stopped} → EvalPost Runs L X Y (replicate stack_size 0) after bs start r
      → SetPost L W Y bs r
  set-ends {Y} {after} {r} E =
      let g = whole L W bs p.bits Set p.passed in
      let A = E.answers (scene_in W) g (length bs) (start-scene L p.sound p.bits p.rows p.limit f)
      (whole_part L W bs p.bits Set p.passed) in
      let v1 =
      subst (λ (t : Rows). Evals L.bits L.rows t (rows_of Y) (roots_of (seen_in W))
      (run (states (model_in L.bits (scene_in W)) no_env) L.limit L.rounds (live_of (book_in W)) g nothing) (ended_of r))
      (rows_same f.frame) A.evals in
      let v2 =
      subst (λ (N : ℕ). Evals L.bits N (rows_of W) (rows_of Y) (roots_of (seen_in W))
      (run (states (model_in L.bits (scene_in W)) no_env) L.limit L.rounds (live_of (book_in W)) g nothing) (ended_of r)) p.rows
      v1 in
      let v3 =
      subst (λ (n : ℕ). Evals n W.rows (rows_of W) (rows_of Y) (roots_of (seen_in W))
      (run (states (model_in n (scene_in W)) no_env) L.limit L.rounds (live_of (book_in W)) g nothing) (ended_of r)) p.bits v2 in
      record {
        sound = A.moved.sound;
        frame = op_trans (op_memo f.frame) A.moved.frame;
        evals =
            evals-same
            (ap (λ (h : Form). run (states (model_of (book_in W)) no_env) L.limit L.rounds (live_of (book_in W)) h nothing)
            (whole_is L W bs p.bits Set p.passed)) v3;
      }

-- ---- a formula of pairs

-- the answer without its place; a formula of pairs wants no round
abbrev pub taken_of : Result Value Stopped → Result Taken Full
taken_of (Ok v) = taken v.arrow v.count
taken_of (Err x) = ran_out

halts_taken : (r : Result Value Stopped) → Halts r → taken_of r ≡ ran_out
halts_taken r h = ap taken_of h.1

-- what the run over pairs comes to is a chain of its steps
pairs-chain : {n N : ℕ} {before after : Rows} {roots : List ℕ} (N' R : ℕ) (live : List Fn) (f : Form) (q : Count) (r : Result Value Stopped)
    → EvalsBy (levels (pairs n)) n N before after roots (run (pairs n) N' R live f q) (ended_of r)
    → PairEvals n N before after roots (pairs_fit n N' live f) (pair_f n f) (pairs_count n live f q) (result (made_in (taken_of r)))
    (count_in (taken_of r))
pairs-chain {n} {after = after} N' R live f q r v =
    let same = run-pairs N' R n live f q ∙ ap (settle (points_of n f)) (pairs-ticks N' R n live f q) in
    record {
      wf = v.wf;
      kept = v.kept;
      result =
          go (pairs_fit n N' live f) r (subst (λ (o : Outcome). MatchesBy (levels (pairs n)) n after o (ended_of r)) same v.result);
    }
  where
    go : (fits : Bool) (r : Result Value Stopped)
        → MatchesBy (levels (pairs n)) n after (settle (points_of n f) (cond fits (counted (pairs_count n live f q)) full_verdict)) (ended_of r)
        → PairMatches n after fits (pair_f n f) (pairs_count n live f q) (result (made_in (taken_of r))) (count_in (taken_of r))
    go true (Ok v) m = (subst (λ (G : Fn). Denotes (2 * n) after v.arrow G) (points_value n f) m.0, m.1)
    go true (Err stopped.Full) m = absurd m
    go true (Err stopped.Spent) m = absurd m
    go false (Ok v) m = absurd m
    go false (Err stopped.Full) m = tt
    go false (Err stopped.Spent) m = absurd m

-- the outcome of some steps for F, so much being counted in the book after them
abbrev Chained : View → ℕ → ℕ → Rows → Rows → Bool → Fn → Count → Result Taken Full → Type 0
Chained W n N before after fits F c o = PairEvals n N before after (roots_of (seen_in W)) fits F c (result (made_in o)) (count_in o)

module _ {L : Limits} {W : View} {bs : List ℕ} (p : PairsPre L W bs) {X : View} (f : Forgot W X) where
  ready₀ : Ready L X (replicate stack_size 0) no_places 0 (scene_in W)
  ready₀ = start-scene L p.sound p.bits p.rows p.limit f

  pub pairs-begins : Sound X
  pairs-begins = (start-base L p.sound p.bits p.rows p.limit f).sound

  -- the call's formula, which is one of pairs
  pairs-part : (k : Kind) → of_pairs k ≡ true → (passed : checks (book_in W) k bs ≡ 0)
      → Part Pairs L.bits bs 3 depth_limit none_open (holds_reg (scene_in W)) (holds_rel (scene_in W)) (whole L W bs p.bits k passed)
      (length bs)
  pairs-part Relation i passed = whole_part L W bs p.bits Relation passed
  pairs-part Set i passed = absurd (true≢false (sym i))
  pairs-part Valid i passed = whole_part L W bs p.bits Valid passed

  pub pairs-asks : EvalPre Pairs L X (replicate stack_size 0) bs start
  pairs-asks = record {
    takes = inl refl;
    room = omega arith;
    scene = scene_in W;
    form = whole L W bs p.bits p.kind p.passed;
    end = length bs;
    ready = ready₀;
    part = pairs-part p.kind p.is-pairs p.passed;
  }

  module _ {Y : View} {after : List ℕ} {r : Result Value Stopped} (E : EvalPost Pairs L X Y (replicate stack_size 0) after bs start r) where
    answered : (k : Kind) (is : of_pairs k ≡ true) (passed : checks (book_in W) k bs ≡ 0)
        → Answers false L X Y (replicate stack_size 0) after 0 nothing (scene_in W) (whole L W bs p.bits k passed) (length bs) r
    answered k is passed = E.answers (scene_in W) (whole L W bs p.bits k passed) (length bs) ready₀ (pairs-part k is passed)

    any : Answers false L X Y (replicate stack_size 0) after 0 nothing (scene_in W) (whole L W bs p.bits p.kind p.passed) (length bs)
        r
    any = answered p.kind p.is-pairs p.passed

    -- its steps
    ran : (k : Kind) (is : of_pairs k ≡ true) (passed : checks (book_in W) k bs ≡ 0)
        → Ran L.bits L.rows X Y (roots_of (seen_in W))
        (pairs_fit L.bits L.limit (live_of (book_in W)) (whole L W bs p.bits k passed))
        (pair_f L.bits (whole L W bs p.bits k passed))
        (pairs_count L.bits (live_of (book_in W)) (whole L W bs p.bits k passed) nothing) (taken_of r)
    ran k is passed = let A = answered k is passed in
        record {
          moved =
              A.moved;
          evals =
              pairs-chain L.limit L.rounds (live_of (book_in W)) (whole L W bs p.bits k passed) nothing r A.evals;
        }

    -- from the limits' sizes and the words after forgetting to the table's own
    own : (Z : View) (o : Result Taken Full) (fits : ℕ → Form → Bool) (F : ℕ → Form → Fn) (c : ℕ → Form → Count) (k : Kind)
        (passed : checks (book_in W) k bs ≡ 0)
        → Chained W L.bits L.rows (rows_of X) (rows_of Z) (fits L.bits (whole L W bs p.bits k passed))
        (F L.bits (whole L W bs p.bits k passed)) (c L.bits (whole L W bs p.bits k passed)) o
        → Chained W (book_in W).n (book_in W).N (rows_of W) (rows_of Z) (fits (book_in W).n (formula_in (book_in W) k bs))
        (F (book_in W).n (formula_in (book_in W) k bs)) (c (book_in W).n (formula_in (book_in W) k bs)) o
    own Z o fits F c k passed v0 =
        let g = whole L W bs p.bits k passed in
        let v1 = subst (λ (t : Rows). Chained W L.bits L.rows t (rows_of Z) (fits L.bits g) (F L.bits g) (c L.bits g) o)
        (rows_same f.frame) v0 in
        let v2 = subst (λ (N : ℕ). Chained W L.bits N (rows_of W) (rows_of Z) (fits L.bits g) (F L.bits g) (c L.bits g) o)
        p.rows v1 in
        let v3 = subst (λ (n : ℕ). Chained W n W.rows (rows_of W) (rows_of Z) (fits n g) (F n g) (c n g) o) p.bits v2 in
        subst (λ (h : Form). Chained W (W.header BITS) W.rows (rows_of W) (rows_of Z) (fits (W.header BITS) h) (F (W.header BITS) h)
        (c (W.header BITS) h) o) (whole_is L W bs p.bits k passed) v3

    pub pairs-ends : {o : Result Taken Full} → taken_of r ≡ o → PairsPost L W Y bs o
    pairs-ends {o} is = record {
      sound = any.moved.sound;
      frame = op_trans (op_memo f.frame) any.moved.frame;
      evals = λ k i passed. let g = whole L W bs p.bits k passed in
          own Y o (λ n h. pairs_fit n L.limit (live_of (book_in W)) h) (λ n h. pair_f n h)
          (λ n h. pairs_count n (live_of (book_in W)) h nothing) k passed
          (subst (λ (y : Result Taken Full). Chained W L.bits L.rows (rows_of X) (rows_of Y)
          (pairs_fit L.bits L.limit (live_of (book_in W)) g)
          (pair_f L.bits g) (pairs_count L.bits (live_of (book_in W)) g nothing) y) is (ran k i passed).evals);
    }

    pub pairs_halts : Halts r → PairsPost L W Y bs ran_out
    pairs_halts h = pairs-ends (halts_taken r h)

    -- ---- a relation's formula, and then the steps within V

    -- a chain for the whole
    related : (Z : View) (o : Result Taken Full) → Moved L.bits X Z
        → ((passed : checks (book_in W) Relation bs ≡ 0) → let g = whole L W bs p.bits Relation passed in
        let ks = pair_needs L.bits (live_of (book_in W)) g in
        let ws = within_needs L.bits (live_of (book_in W)) (fn_of L.bits (book_in W).valid) (pair_f L.bits g) in
        Ran L.bits L.rows X Z (roots_of (seen_in W)) (fit L.limit ks && fit L.limit ws) (relation_f L.bits (book_in W).valid g)
        (needing_all (needing_all nothing ks) ws) o)
        → RelationPost L W Z bs o
    related Z o m t = record {
      sound = m.sound;
      frame = op_trans (op_memo f.frame) m.frame;
      evals = λ passed. let g = whole L W bs p.bits Relation passed in
          let ks = pair_needs L.bits (live_of (book_in W)) g in
          let ws = within_needs L.bits (live_of (book_in W)) (fn_of L.bits (book_in W).valid) (pair_f L.bits g) in
          let v1 =
          subst (λ (b : Bool). Chained W L.bits L.rows (rows_of X) (rows_of Z) b (relation_f L.bits (book_in W).valid g)
          (needing_all (needing_all nothing ks) ws) o) (sym (fit_append L.limit ks ws)) (t passed).evals in
          let v2 =
          subst (λ (c : Count). Chained W L.bits L.rows (rows_of X) (rows_of Z) (fit L.limit (ks ++ ws))
          (relation_f L.bits (book_in W).valid g) c o) (sym (count-append nothing ks ws)) v1 in
          own Z o (λ n h. relation_fits n L.limit (live_of (book_in W)) (book_in W).valid h) (λ n h. relation_f n (book_in W).valid h)
          (λ n h. relation_count n (live_of (book_in W)) (book_in W).valid h nothing) Relation passed v2;
    }

    pub relation_halts : Halts r → RelationPost L W Y bs ran_out
    relation_halts h = related Y ran_out any.moved (λ passed. ran_stop _ _ _ (halts_taken r h) (ran Relation refl passed))

    module _ {a j : ℕ} {q : Count} (is : r ≡ evaluated a j q) (z : length after ≡ length (replicate {A = ℕ} stack_size 0)) where
      ended : Ready L Y after no_places 0 (scene_in W)
      ended = ready-next ready₀ any.moved any.evals.kept after z any.kept

      pub within-asks : WithinPre L Y after a
      within-asks =
          record { scene = scene_in W; ready = ended; operand = (ran_value (ap taken_of is) (ran p.kind p.is-pairs p.passed)).arrow }

      pub relation-ends : {Z : View} {o : Result Taken Full} → WithinPost L Y Z after a q o → RelationPost L W Z bs o
      relation-ends {Z} {o} w = related Z o (moved_trans any.moved (w.answers (scene_in W) ended).moved) (λ passed.
          let g = whole L W bs p.bits Relation passed in
          let S = fn_of L.bits (book_in W).valid in
          let B = ran Relation refl passed in
          let t = w.answers (scene_in W) ended in
          let t1 =
          subst (λ (H : Fn). Ran L.bits L.rows Y Z (roots_of (seen_in W))
          (fit L.limit (within_needs L.bits (live_of (book_in W)) S H)) (within_f S H)
          (needing_all q (within_needs L.bits (live_of (book_in W)) S H)) o)
          (denoted (ran_value (ap taken_of is) B)) t in
          ran_then (ap taken_of is) B (λ c. needing_all c (within_needs L.bits (live_of (book_in W)) S (pair_f L.bits g))) t1)
