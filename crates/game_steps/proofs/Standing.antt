-- The rounds of the game: where their loop stands, and each of its turns and ends. Assumes nothing.
use mathlib.Core.Path.{◌≡◌, refl, sym, ap, ap₂, ◌∙◌, subst}
use mathlib.Core.Logic.{◌≢◌, inr}
use mathlib.Core.Bool.{Bool, true, false, not, cond, ◌&&◌}
use mathlib.Core.List.Memᴰ.{head as here}
use mathlib.Core.List.{List, [], ◌∷◌}
use mathlib.Core.Option.{Option, none, some}
use Prim.Native.Nat.{ℕ, suc, ◌+◌, ◌*◌, ◌^◌, ◌≤◌, ◌<◌}
use native.Mathlib.Omega.{arith}
use lib.Dec.{T}
use lib.ListN.{length, set}
use Rattle.std.specs.Prelude.{Result, Ok, Err}
use Rattle.accounts.specs.declared.Count.{Count}
use Rattle.accounts.specs.Count.{nothing, another}
use Rattle.mucalculus.specs.Sets.{mem, same, no_states}
use Rattle.mucalculus.proofs.Sets.{same_refl}
use Rattle.mucalculus.specs.Order.{Below}
use Rattle.mucalculus.specs.Form.{Form, Pairs, put, inside}
use Rattle.mucalculus.specs.Means.{pair, means}
use Rattle.mucalculus.specs.Exist.{Inside}
use Rattle.tokens.specs.declared.Fix.TheVariants.{Mu}
use Rattle.layout.specs.Places.{BITS, FIRST_RELATION}
use Rattle.layout.specs.View.{View, view}
use Rattle.counting.specs.Counts.{CountsOf}
use Rattle.diagram.specs.Level.{Fn}
use Rattle.diagram.specs.Rows.{Rows, den}
use Rattle.diagram.specs.Post.{Denotes}
use Rattle.diagram.proofs.Keep.{keeps_denotes}
use Rattle.rows.specs.Used.{rows_of}
use Rattle.rows.proofs.Says.{test_no, test_yes}
use Rattle.book.specs.States.{pair_val}
use Rattle.book.proofs.States.{now_of-pair_val, next_of-pair_val}
use Rattle.book.specs.Bridge.{fn_of, fn_of_pairs, Sized}
use Rattle.book.proofs.Bridge.{fn_of_inj}
use Rattle.book.specs.Table.{Place}
use Rattle.book.specs.Over.{states}
use Rattle.book.specs.Ticks.{ticks, verdict, Verdict, counted, full as full_verdict, spent as spent_verdict}
use Rattle.book.specs.Run.{Outcome, value, full, spent}
use Rattle.book.specs.Follow.{ends, EvalsBy}
use Rattle.book.proofs.Follow.{denotes-none}
use Rattle.book.proofs.Turns.{arrow-apart}
use Rattle.book.proofs.Verdicts.{settle, run-ticks}
use Rattle.contract.specs.Seen.{arrow_in}
use Rattle.modal.specs.declared.Limits.{Limits}
use Rattle.modal.proofs.Chain.{base-bits}
use Rattle.evaluator.specs.Scene.{evaluated, Scene, stack_size, model_in, exist_in, Ready, Answers, run_in, ended_of}
use Rattle.evaluator.specs.Whole.{no_places, OncePre, OncePost}
use Rattle.evaluator.specs.declared.Stopped.{Stopped}
use Rattle.evaluator.specs.declared.Stopped.TheVariants as stopped
use Rattle.evaluator.specs.declared.Value.{Value}
use Rattle.evaluator.proofs.Scene.{opened}
use Rattle.evaluator.proofs.State.{ready-next}
use Rattle.evaluator.proofs.Outcomes.{evals-value}
use Rattle.evaluator.proofs.Rounds.{Bound, bind-starts, bind_out, bind-ready, bind_stops, bind-ends, bind-turns, bind-less}
use Rattle.paths.specs.Runs.{first_of}
use Rattle.paths.proofs.First.{first-same}
use Rattle.seek.specs.Walk.{holds_at}
use Rattle.seek.specs.Search.{next_in}
use Rattle.layers.proofs.Pass.{set_holds, holds-pre}
use Rattle.games.specs.Game.{forcing, forced, set_after}
use Rattle.games.specs.Call.{body_form}
use Rattle.games.proofs.Rounds.{Noted, noted-none, noting, noted-next, made_none, made_found, after-size, after-found, still-below}
use Rattle.games.proofs.Formula.{body-steady, body-means}
use Rattle.game_steps.specs.Iterate.{note_by, NotePre, HoldsGame, IteratePre, AnswerNoted, AnswerOf, is_made, is-full, is_spent}
use Rattle.game_steps.specs.Iterate.{Iterates}
use Rattle.game_steps.specs.Iterate.{IteratePost}
use Rattle.game_steps.specs.declared.Asked.{Asked}

-- ---- sets and arrows

-- one arrow, one set
pub one_set : (n : ℕ) {rows : Rows} {x : ℕ} (A C : List Bool) → Denotes (2 * n) rows x (fn_of n A) → Denotes (2 * n) rows x (fn_of n C)
    → Sized n A → Sized n C → A ≡ C
one_set n A C da dc za zc = fn_of_inj n A C za zc (λ v. sym (da.same v) ∙ dc.same v)

-- whether a pair is one of an arrow's
pub pair-holds : (n : ℕ) (X : View) {x : ℕ} (Q : Pairs) → 2 * n ≡ 2 * X.header BITS → Denotes (2 * n) (rows_of X) x (fn_of_pairs n Q)
    → (s t : ℕ) → s < 2 ^ n → t < 2 ^ n → holds_at X x s t ≡ pair Q s t
pair-holds n X {x} Q e d s t l i =
    subst (λ (m : ℕ). den m (rows_of X) x (pair_val s t) ≡ pair Q s t) e
    (d.same (pair_val s t) ∙ ap₂ (pair Q) (now_of-pair_val n s t l) (next_of-pair_val n s t i))

-- what a filled place's arrow stands for
pub place-holds : {Y : Type 0} {m : ℕ} {rows : Rows} {c w : ℕ} (g : List Y → Fn) (o : Option (List Y)) → w ≡ suc c
    → Place m rows g o (arrow_in w) → Denotes m rows c (g (inside o))
place-holds {m = m} {rows} {c} {w} g o e p = go o (subst (λ (x : ℕ). Place m rows g o (arrow_in x)) e p)
  where
    go : (o : Option _) → Place m rows g o (some c) → Denotes m rows c (g (inside o))
    go none q = absurd q
    go (some x) q = q

-- ---- what a value of a run is

value_of : Outcome → List Bool
value_of (value A q) = A
value_of full = []
value_of spent = []

is_value : Outcome → Bool
is_value (value A q) = true
is_value full = false
is_value spent = false

settle_value : (C : List Bool) (v : Verdict) {A : List Bool} {q : Count} → settle C v ≡ value A q → A ≡ C
unfolding value_of is_value
settle_value C (counted p) e = sym (ap value_of e)
settle_value C full_verdict e = absurd (subst T (sym (ap is_value e)) tt)
settle_value C spent_verdict e = absurd (subst T (sym (ap is_value e)) tt)

-- where the rounds stand
pub record Standing (L : Limits) (W X : View) (stack now : List ℕ)
    (a : Asked) (σ : Scene) (goal guest machine noted current : ℕ) (count : Count) : Type 0 where
  pub bound : Bound L W X stack now 0 nothing σ Mu 0 (body_form goal guest machine) current count
  pub round : ℕ
  pub set_is : bound.turning.A
      ≡ set_after (2 ^ L.bits) (inside (σ.rel guest)) (inside (σ.rel machine)) (inside (σ.reg goal)) round
  pub noted-is : Noted (2 ^ L.bits) (inside (σ.rel guest)) (inside (σ.rel machine)) (inside (σ.reg goal)) a.open_move a.state
      a.press round noted

module _ {L : Limits} {W : View} {stack bs : List ℕ} {a : Asked} {σ : Scene} {goal guest machine : ℕ}
    (P : HoldsGame L W stack bs a σ goal guest machine) where
  abbrev k : ℕ
  k = 2 ^ L.bits

  abbrev G : Pairs
  G = inside (σ.rel guest)

  abbrev M : Pairs
  M = inside (σ.rel machine)

  abbrev B : List Bool
  B = inside (σ.reg goal)

  abbrev f : Form
  f = body_form goal guest machine

  -- ---- what the scene's game is read over

  in-goal : Below B (exist_in L.bits σ)
  in-goal = go (σ.reg goal) refl
    where
      go : (o : Option (List Bool)) → σ.reg goal ≡ o → Below (inside o) (exist_in L.bits σ)
      go none e u p = absurd p
      go (some A) e u p = P.ready.in-reg goal A e u p

  in-moves : (t : ℕ) → Inside k (exist_in L.bits σ) (inside (σ.rel t))
  in-moves t = go (σ.rel t) refl
    where
      go : (o : Option Pairs) → σ.rel t ≡ o → Inside k (exist_in L.bits σ) (inside o)
      go none e s u l i p = absurd p
      go (some Q) e s u l i p = P.ready.in-rel t Q e s u l i p

  round-means : (A : List Bool) → means (model_in L.bits σ) (put σ.env 0 A) f ≡ forcing k G M B A
  round-means A = body-means (model_in L.bits σ) goal guest machine in-goal (in-moves guest) (in-moves machine) σ.env A

  -- ---- the start

  pub iterate-starts : {noted : ℕ} → noted ≡ k → Standing L W W stack stack a σ goal guest machine noted 0 nothing
  iterate-starts {noted} e =
      let T0 : Bound L W W stack stack 0 nothing σ Mu 0 f 0 nothing = bind-starts P.ready Mu 0 f refl in
      record {
        bound = T0;
        round = 0;
        set_is =
            one_set L.bits T0.turning.A (no_states k) T0.turning.denotes (denotes-none L.bits L.rows (rows_of W))
            T0.turning.sized (after-size k G M B 0);
        noted-is = subst (Noted k G M B a.open_move a.state a.press 0) (sym e) (noted-none k G M B a.open_move a.state a.press);
      }

  module _ {X : View} {now : List ℕ} {noted current : ℕ} {count : Count}
      (S : Standing L W X stack now a σ goal guest machine noted current count) (z : length now ≡ length stack) where
    room : 0 < stack_size
    room = omega arith

    abbrev σ' : Scene
    σ' = opened L.bits σ 0 current S.bound.turning.A

    inner : Ready L X (set now 0 current) no_places 1 σ'
    inner = bind-ready P.ready S.bound z room

    -- a round may be made
    pub round-asks : count.rounds < L.rounds → L.rounds < 2 ^ 32 → OncePre L X now bs current count
    round-asks more top = record {
      place = omega (arith, P.ready.size, z);
      more = omega arith;
      asks = record { takes = inr refl; room = omega arith; scene = σ'; form = f; end = 12; ready = inner; part = P.part };
    }

    -- the rounds are used up
    pub iterate_out : L.rounds ≤ count.rounds → Iterates L W X stack a σ goal guest machine (Err stopped.Spent)
    iterate_out l = record { value = Err stopped.Spent; last = now; answers = bind_out P.ready S.bound 12 l; told = is_spent }

    module _ {Y : View} {last : List ℕ} {r : Result Value Stopped}
        (E : OncePost L X Y now last bs current count r) (more : count.rounds < L.rounds) where
      answered : Answers true L X Y (set now 0 current) last 1 (another count) σ' f 12 r
      answered = E.answers σ' f 12 inner P.part

      -- a round has no value
      pub iterate_halts : {s : Stopped} → r ≡ Err s → Iterates L W Y stack a σ goal guest machine (Err s)
      iterate_halts {s} e = record {
        value = r;
        last = last;
        answers = bind_stops P.ready S.bound z room answered more (s, e);
        told = subst (λ (x : Result Value Stopped). AnswerOf (AnswerNoted k G M B a.state a.press) x (Err s)) (sym e) (go s);
      }
        where
          go : (s : Stopped) → AnswerOf (AnswerNoted k G M B a.state a.press) (Err s) (Err s)
          go stopped.Full = is-full
          go stopped.Spent = is_spent

      module _ {b j : ℕ} {q : Count} (is : r ≡ evaluated b j q) where
        evals : EvalsBy (fn_of L.bits) L.bits L.rows (rows_of X) (rows_of Y) (current ∷ σ.roots) (run_in true L σ' f
            (another count))
            (ends b q)
        evals = subst (λ (y : Result Value Stopped). EvalsBy (fn_of L.bits) L.bits L.rows (rows_of X) (rows_of Y) (current ∷ σ.roots)
            (run_in true L σ' f (another count)) (ended_of y)) is answered.evals

        -- the round's value is the next set
        next-denotes : Denotes (2 * L.bits) (rows_of Y) b (fn_of L.bits (set_after k G M B (suc S.round)))
        next-denotes =
            let w = evals-value (run_in true L σ' f (another count)) evals in
            let t = run-ticks L.limit L.rounds (model_in L.bits σ) (put σ.env 0 S.bound.turning.A)
            (fn_of L.bits S.bound.turning.A ∷ σ.fns) f (another count) (body-steady goal guest machine) in
            let e : w.0 ≡ set_after k G M B (suc S.round) = settle_value
            (means (model_in L.bits σ) (put σ.env 0 S.bound.turning.A) f)
            (verdict L.limit L.rounds (another count)
            (ticks (states (model_in L.bits σ) (put σ.env 0 S.bound.turning.A)) (fn_of L.bits
            S.bound.turning.A ∷ σ.fns) f))
            (sym t ∙ w.1) ∙ round-means S.bound.turning.A
            ∙ ap (forcing k G M B) S.set_is in
            subst (λ (A : List Bool). Denotes (2 * L.bits) (rows_of Y) b (fn_of L.bits A)) e w.2

        -- and the one before stands as it was
        last-denotes : Denotes (2 * L.bits) (rows_of Y) current (fn_of L.bits (set_after k G M B S.round))
        last-denotes =
            subst (λ (A : List Bool). Denotes (2 * L.bits) (rows_of Y) current (fn_of L.bits A)) S.set_is
            (keeps_denotes evals.kept (here refl) S.bound.turning.denotes)

        -- the same set: all is made
        pub iterate-same : b ≡ current → Iterates L W Y stack a σ goal guest machine (Ok noted)
        iterate-same h = record {
          value = evaluated b j q;
          last = last;
          answers = bind-ends P.ready S.bound z room answered more is h;
          told = is_made answer-noted;
        }
          where
            rests : set_after k G M B (suc S.round) ≡ set_after k G M B S.round
            rests =
                one_set L.bits _ _ (subst (λ (x : ℕ). Denotes (2 * L.bits) (rows_of Y) x (fn_of L.bits (set_after k G M B (suc
                S.round)))) h
                next-denotes) last-denotes (after-size k G M B (suc S.round)) (after-size k G M B S.round)

            done : set_after k G M B S.round ≡ forced k G M B
            done = after-found k G M B S.round rests

            answer-noted : AnswerNoted k G M B a.state a.press noted
            answer-noted = record {
              none = made_none k G M B P.open_is done S.noted-is;
              found = made_found k G M B P.open_is done S.noted-is;
            }

        -- otherwise the rounds go on
        module _ (differs : b ≢ current) where
          bound' : Bound L W Y stack last 0 nothing σ Mu 0 f b q
          bound' = bind-turns P.ready S.bound z room answered more is differs

          module _ (z' : length last ≡ length stack) where
            ready' : Ready L Y last no_places 0 σ
            ready' = ready-next P.ready bound'.moved bound'.turning.kept last z' bound'.kept

            machine-denotes : Denotes (2 * L.bits) (rows_of Y) a.machine (fn_of_pairs L.bits M)
            machine-denotes =
                place-holds (fn_of_pairs L.bits) (σ.rel machine)
                (bound'.moved.frame.header (FIRST_RELATION + machine) (omega arith) (omega arith) (omega arith) (omega arith)
                ∙ P.machine-is) (ready'.rel machine P.machine_in)

            pub note-asks : NotePre L.bits Y a current b
            note-asks = record {
              bits = base-bits P.ready.base;
              machine = holds-pre ready'.base machine-denotes.arrow;
              last-is = holds-pre ready'.base last-denotes.arrow;
              next-is = holds-pre ready'.base next-denotes.arrow;
            }

            -- what is noted is what a round notes
            note-is : note_by L.bits Y a noted current b ≡ noting k G M B a.open_move a.state a.press S.round noted
            note-is =
                let e = ready'.base.ready.levels-is in
                let last-test = set_holds L.bits Y (set_after k G M B S.round) e last-denotes in
                ap (λ (c : Bool). cond a.open_move (cond c noted
                (cond (holds_at Y b a.state 0) (first_of k (next_in Y a.machine a.press current)) noted)) noted)
                (last-test a.state P.state)
                ∙ ap₂ (λ (c : Bool) (x : ℕ). cond a.open_move (cond (mem (set_after k G M B S.round) a.state) noted
                (cond c x noted)) noted)
                (set_holds L.bits Y (set_after k G M B (suc S.round)) e next-denotes a.state P.state)
                (first-same k (next_in Y a.machine a.press current) (λ u. pair M a.press u && mem (set_after k G M B S.round) u)
                (λ u l. ap₂ ◌&&◌ (pair-holds L.bits Y M e machine-denotes a.press u P.press l) (last-test u l)))

            pub iterate-turns : {x : ℕ} → x ≡ note_by L.bits Y a noted current b → Standing L W Y stack last a σ goal guest machine x b q
            iterate-turns {x} ex = record {
              bound = bound';
              round = suc S.round;
              set_is =
                  one_set L.bits _ _ bound'.turning.denotes next-denotes bound'.turning.sized (after-size k G M B (suc
                  S.round));
              noted-is = subst (Noted k G M B a.open_move a.state a.press (suc S.round)) (sym (ex ∙ note-is))
                  (noted-next k G M B a.open_move a.state a.press S.round noted P.open_is P.press
                  (still-below k G M B S.round grew) S.noted-is);
            }
              where
                grew : set_after k G M B (suc S.round) ≢ set_after k G M B S.round
                grew same_set =
                    let d = arrow-apart L.bits L.rows evals.wf (set_after k G M B S.round) (set_after k G M B (suc
                    S.round)) last-denotes
                    next-denotes differs in
                    subst T d (subst (λ (A : List Bool). T (same A (set_after k G M B S.round))) (sym same_set)
                    (same_refl (set_after k G M B
                    S.round)))

            pub iterate-less : count.rounds < q.rounds
            iterate-less = bind-less P.ready S.bound z room answered more is

-- ---- noting

module _ (n : ℕ) (W : View) (a : Asked) (noted last next : ℕ) where
  abbrev seen : ℕ
  seen = first_of (2 ^ n) (next_in W a.machine a.press last)

  abbrev by_open : Bool → ℕ
  by_open o = cond o (cond (holds_at W last a.state 0) noted (cond (holds_at W next a.state 0) seen noted)) noted

  -- the press is not open
  pub note_shut : not a.open_move ≡ true → noted ≡ note_by n W a noted last next
  note_shut t = sym (ap by_open (test_no {b = a.open_move} refl t))

  module _ (o : not a.open_move ≡ false) {r : Bool} (e : r ≡ holds_at W last a.state 0) where
    is_open : {x : ℕ} → x ≡ by_open true → x ≡ note_by n W a noted last next
    is_open h = h ∙ sym (ap by_open (test_yes {b = a.open_move} refl o))

    -- the state was in the set before
    pub note-kept : r ≡ true → noted ≡ note_by n W a noted last next
    note-kept t = is_open (ap (λ (b : Bool). cond b noted (cond (holds_at W next a.state 0) seen noted)) (sym t ∙ e))

    module _ (f : r ≡ false) {q : Bool} (i : q ≡ holds_at W next a.state 0) where
      by : {b : Bool} → holds_at W next a.state 0 ≡ b → cond b seen noted ≡ by_open true
      by h = ap₂ (λ (b c : Bool). cond b noted (cond c seen noted)) (sym f ∙ e) (sym h)

      -- it is not in the set yet
      pub note-none : not q ≡ true → noted ≡ note_by n W a noted last next
      note-none t = is_open (by (test_no i t))

      -- it enters
      pub note-found : not q ≡ false → {x : ℕ} → x ≡ seen → x ≡ note_by n W a noted last next
      note-found t h = is_open (h ∙ by (test_yes i t))

-- ---- the loop

-- what it keeps, from the words and the stack at its start
pub record Looping (L : Limits) (words₀ words counts₀ counts stack₀ stack bs : List ℕ)
    (a : Asked) (noted current : ℕ) (count : Count) : Type 0 where
  pub words_size : length words ≡ length words₀
  pub counts-size : length counts ≡ length counts₀
  pub stack_size_lem : length stack ≡ length stack₀
  pub counts_of : CountsOf (view L.rows words) counts
  pub stands : (σ : Scene) (goal guest machine : ℕ) → HoldsGame L (view L.rows words₀) stack₀ bs a σ goal guest machine
      → Standing L (view L.rows words₀) (view L.rows words) stack₀ stack a σ goal guest machine noted current count

pub loop-starts : {L : Limits} {words counts stack bs : List ℕ} {a : Asked} {noted : ℕ} → CountsOf (view L.rows words) counts
    → noted ≡ 2 ^ L.bits → Looping L words words counts counts stack stack bs a noted 0 nothing
loop-starts C e = record {
  words_size = refl;
  counts-size = refl;
  stack_size_lem = refl;
  counts_of = C;
  stands = λ σ goal guest machine P. iterate-starts P e;
}

module _ {L : Limits} {words₀ words counts₀ counts stack₀ stack bs : List ℕ} {a : Asked} {noted current : ℕ} {count : Count}
    (P : IteratePre L (view L.rows words₀) stack₀ bs a)
    (I : Looping L words₀ words counts₀ counts stack₀ stack bs a noted current count) where
  own : Standing L (view L.rows words₀) (view L.rows words) stack₀ stack a P.scene P.goal P.guest
      P.machine noted current count
  own = I.stands P.scene P.goal P.guest P.machine P.plays

  pub turn-asks : count.rounds < L.rounds → L.rounds < 2 ^ 32 → OncePre L (view L.rows words) stack bs current count
  turn-asks more top = round-asks P.plays own I.stack_size_lem more top

  pub loop-out : L.rounds ≤ count.rounds → IteratePost L (view L.rows words₀) (view L.rows words) stack₀ bs a (Err stopped.Spent)
  loop-out l σ goal guest machine Q = iterate_out Q (I.stands σ goal guest machine Q) I.stack_size_lem l

  module _ {Y : View} {last : List ℕ} {r : Result Value Stopped}
      (E : OncePost L (view L.rows words) Y stack last bs current count r) (more : count.rounds < L.rounds) where
    pub loop_halts : {s : Stopped} → r ≡ Err s → IteratePost L (view L.rows words₀) Y stack₀ bs a (Err s)
    loop_halts e σ goal guest machine Q = iterate_halts Q (I.stands σ goal guest machine Q) I.stack_size_lem E more e

    module _ {b j : ℕ} {q : Count} (is : r ≡ evaluated b j q) where
      pub loop-same : b ≡ current → IteratePost L (view L.rows words₀) Y stack₀ bs a (Ok noted)
      loop-same h σ goal guest machine Q = iterate-same Q (I.stands σ goal guest machine Q) I.stack_size_lem E more is h

      module _ (differs : b ≢ current) (z : length last ≡ length stack) where
        size : length last ≡ length stack₀
        size = z ∙ I.stack_size_lem

        pub turn-notes : NotePre L.bits Y a current b
        turn-notes = note-asks P.plays own I.stack_size_lem E more is differs size

        pub turn-less : count.rounds < q.rounds
        turn-less = iterate-less P.plays own I.stack_size_lem E more is differs size

        pub loop-turns : {x : ℕ} → x ≡ note_by L.bits Y a noted current b → (next : List ℕ) → Y ≡ view L.rows next
            → {more-counts : List ℕ} → CountsOf Y more-counts → length next ≡ length words → length more-counts ≡ length counts
            → Looping L words₀ next counts₀ more-counts stack₀ last bs a x b q
        loop-turns {x} ex next y {more-counts} C w v = record {
          words_size = w ∙ I.words_size;
          counts-size = v ∙ I.counts-size;
          stack_size_lem = size;
          counts_of = subst (λ (Z : View). CountsOf Z more-counts) y C;
          stands = λ σ goal guest machine Q.
              subst (λ (Z : View). Standing L (view L.rows words₀) Z stack₀ last a σ goal guest machine x b q) y
              (iterate-turns Q (I.stands σ goal guest machine Q) I.stack_size_lem E more is differs size ex);
        }
