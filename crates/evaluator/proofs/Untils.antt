-- Until, round by round: what each of its functions asks, and what its answers are made of; a round is one of the formula written with a
-- binder, whose laws are those of AND, OR, box, diamond and mu. Assumes nothing.
use Rattle.std.specs.Prelude.{Option, Some, None, Result}
use mathlib.Core.Path.{◌≡◌, refl, sym, ap, ◌∙◌, subst}
use mathlib.Core.Logic.{inr}
use mathlib.Core.Bool.{Bool, true, false}
use mathlib.Core.List.Memᴰ.{head as here}
use mathlib.Core.List.Memᴰ.{tail as there}
use mathlib.Core.List.{List}
use Prim.Native.Nat.{ℕ, ◌+◌, ◌*◌, ◌≤◌, ◌<◌}
use native.Mathlib.Omega.{arith}
use lib.Dec.{T}
use lib.ListN.{length, set, take, length-set}
use lib.Seq.{set_out}
use Rattle.mucalculus.specs.Order.{Below}
use Rattle.mucalculus.specs.Form.{Form, var, top, conj, box, dia}
use Rattle.mucalculus.specs.Written.{absent, goes, written}
use Rattle.mucalculus.proofs.Written.{put-here}
use Rattle.tokens.specs.declared.Grammar.TheVariants.{Runs}
use Rattle.tokens.specs.declared.Mode.{Mode}
use Rattle.tokens.specs.declared.Mode.TheVariants as mode
use Rattle.tokens.specs.declared.Join.TheVariants.{And, Or}
use Rattle.tokens.specs.declared.Fix.{Fix}
use Rattle.formula.specs.Parse.{until_form, parse}
use Rattle.formula.specs.Checks.{pass_at, pass_of}
use Rattle.formula.specs.declared.Pass.{Pass}
use Rattle.formula.proofs.Passes.{not-past, place_of}
use Rattle.formula.proofs.Readings.{parse_reads}
use Rattle.formula.proofs.Written.{read_taken}
use Rattle.formula.proofs.Versions.{takes-absent}
use Rattle.accounts.specs.declared.Count.{Count}
use Rattle.layout.specs.Places.{VALID, HEADER, FIRST_RELATION}
use Rattle.layout.specs.View.{View}
use Rattle.diagram.specs.Post.{Denotes}
use Rattle.diagram.specs.Keep.{Keeps}
use Rattle.diagram.proofs.Keep.{keeps_denotes}
use Rattle.rows.specs.Used.{rows_of}
use Rattle.table.specs.declared.Full.{Full}
use Rattle.counting.specs.declared.Taken.{Taken}
use Rattle.book.specs.Bridge.{fn_of}
use Rattle.book.proofs.Written.{run-written}
use Rattle.book.proofs.Follow.{evals-same, evals-leaf, denotes_in}
use Rattle.modal.specs.declared.Limits.{Limits}
use Rattle.modal.specs.Modal.{ModalPre}
use Rattle.modal.proofs.Chain.{moved_refl, base-wf}
use Rattle.evaluator.specs.Scene.{evaluated}
use Rattle.evaluator.specs.Scene.{stack_size, Scene, model_in, exist_in, Ready, Part, holds_reg, holds_rel, Answers, from_taken, OverPost}
use Rattle.evaluator.specs.Scene.{JoinedPre, JoinedPost, EvalPre, EvalPost, round_of, own, is_some, round_form, Current, IsValue}
use Rattle.evaluator.specs.Scene.{ReachPre, ReachPost, FurtherPre, FurtherPost, KeepPre, KeepPost, RoundPre, RoundPost, variable_of}
use Rattle.evaluator.specs.Scene.{BodyPart, TurnPre, TurnPost, UntilPost}
use Rattle.evaluator.proofs.Scene.{pushed, opened}
use Rattle.evaluator.specs.declared.Body.{Body}
use Rattle.evaluator.specs.declared.Body.TheVariants.{Binder, Until}
use Rattle.evaluator.specs.declared.Context.{Context}
use Rattle.evaluator.specs.declared.Stopped.{Stopped}
use Rattle.evaluator.specs.declared.Value.{Value}
use Rattle.evaluator.proofs.Outcomes.{Halts}
use Rattle.evaluator.proofs.State.{valid-asks, valid-read}
use Rattle.evaluator.proofs.Tokens.{read-depth}
use Rattle.evaluator.proofs.Steps.{first_stops, value_set, value-is, value-end, both-ready, both-asks, both-joined}
use Rattle.evaluator.proofs.Relations.{rel-range, rel-some, over-asks, over-ends}

-- ---- the current set

module _ {L : Limits} {W : View} {σ : Scene} {x : ℕ} (c : Current L W σ x) where
  -- it is kept
  pub current-next : {X : View} → Keeps (rows_of W) (rows_of X) σ.roots → Current L X σ x
  current-next k = record { root = c.root; denotes = keeps_denotes k c.root c.denotes; exists = c.exists }

  -- with a value more
  pub current-push : (a : ℕ) (C : List Bool) → Current L W (pushed σ a (fn_of L.bits C)) x
  current-push a C = record { root = there c.root; denotes = c.denotes; exists = c.exists }

module _ (c : Context) {L : Limits} {W : View} {stack : List ℕ} {σ : Scene} (R : Ready L W stack c.places c.held σ) where
  -- it is X's value
  pub own_value : {x : ℕ} (e : ℕ) → Current L W σ x → IsValue L W stack c σ (var own) x e
  own_value e u =
      record {
        moved =
            moved_refl R.base;
        kept =
            refl;
        evals =
            evals-leaf L.bits L.rows c.count (base-wf R.base) R.lives
            (denotes_in L.bits L.rows (σ.env own) (exist_in L.bits σ) u.exists u.denotes);
        end = refl;
      }

  -- V is the value of true
  pub all-value : {v : ℕ} (e : ℕ) → v + 1 ≡ W.header VALID → IsValue L W stack c σ top v e
  all-value {v} e r = record {
    moved = moved_refl R.base;
    kept = refl;
    evals =
        evals-leaf L.bits L.rows c.count (base-wf R.base) R.lives
        (subst (λ (y : ℕ). Denotes (2 * L.bits) (rows_of W) y (fn_of L.bits (exist_in L.bits σ))) (sym (valid-read W v r)) R.valid);
    end = refl;
  }

-- ---- box and diamond of a value

module _ {L : Limits} {W : View} {stack : List ℕ} {c : Context} {t x e : ℕ} (P : ReachPre L W stack c t x e) where
  pub reach-relation : (FIRST_RELATION + t < HEADER) × (HEADER ≤ W.size) × (0 < W.header (FIRST_RELATION + t))
  reach-relation = (
    let l = rel-range P.ready P.is-value refl refl t P.relation in omega arith,
    let l = P.ready.base.sound.good.sizes.room in omega arith,
    rel-some P.ready P.is-value refl refl t P.relation,
  )

  pub reach-within : c.held ≤ length stack
  reach-within = let w = P.ready.within in let s = P.ready.size in omega arith

  pub reach-asks : (y : ℕ) → y + 1 ≡ W.header (FIRST_RELATION + t) → ModalPre L.bits L.rows L.limit W (take c.held stack) y x
  reach-asks y arrow = over-asks P.ready P.is-value refl refl t P.relation y arrow

pub reach-answers : {L : Limits} {W : View} {stack : List ℕ} {c : Context} {t x e : ℕ} (y : ℕ) → y + 1 ≡ W.header (FIRST_RELATION + t)
    → {X : View} (o : Result Taken Full) (m : Mode) {r : Result Value Stopped}
    → OverPost m L.bits L.rows L.limit W X (take c.held stack) y x c.count o → r ≡ from_taken e o
    → ReachPost L W X stack c m t x e r
reach-answers {t = t} y arrow {X} o m v is-r = record { answers = λ σ f R h A. over-ends R A refl refl t h y arrow X o m v is-r }

-- ---- box of the current set and diamond of true

module _ {L : Limits} {W : View} {stack : List ℕ} {c : Context} {t x : ℕ} (P : FurtherPre L W stack c t x) where
  pub own-asked : (e : ℕ) → ReachPre L W stack c t x e
  own-asked e =
      record {
        scene = P.scene;
        form = var own;
        ready = P.ready;
        relation = P.relation;
        is-value = own_value c P.ready e P.current;
      }

  module _ {X : View} {e : ℕ} {r : Result Value Stopped} (E : ReachPost L W X stack c mode.All t x e r) where
    pub box_halts : Halts r → FurtherPost L W X stack stack c mode.All t x e r
    box_halts s = record { answers = λ σ R h u. first_stops (E.answers σ (var own) R h (own_value c R e u)) s And (dia t top) e }

    module _ {a k : ℕ} {q : Count} (is : r ≡ evaluated a k q) where
      boxed : (σ : Scene) → Ready L W stack c.places c.held σ → holds_rel σ t ≡ true → Current L W σ x
          → Answers true L W X stack stack c.held c.count σ (box t (var own)) e r
      boxed σ R h u = E.answers σ (var own) R h (own_value c R e u)

      -- V's word may be read
      pub true-asked : (VALID < HEADER) × (HEADER ≤ X.size) × (0 < X.header VALID)
      true-asked = valid-asks (boxed P.scene P.ready P.relation P.current).moved.sound

      pub all_asked : {v : ℕ} → v + 1 ≡ X.header VALID → {b : Context} → b ≡ round_of c c.at q
          → ReachPre L X (set stack c.held a) b t v e
      all_asked {v} w i =
          let A = boxed P.scene P.ready P.relation P.current in
          let R = both-ready P.ready A refl is P.room (value_set P.ready A refl is) (value-is P.ready A refl is) in
          subst (λ (d : Context). ReachPre L X (set stack c.held a) d t v e) (sym i)
          (record { scene = _; form = top; ready = R; relation = P.relation; is-value = all-value (round_of c c.at q) R e w })

      module _ {v : ℕ} (w : v + 1 ≡ X.header VALID) {b : Context} (i : b ≡ round_of c c.at q)
          {Y : View} {r' : Result Value Stopped} (E' : ReachPost L X Y (set stack c.held a) b mode.Some t v e r') where
        D : ReachPost L X Y (set stack c.held a) (round_of c c.at q) mode.Some t v e r'
        D = subst (λ (d : Context). ReachPost L X Y (set stack c.held a) d mode.Some t v e r') i E'

        same : length (set stack c.held a) ≡ length stack
        same = length-set stack c.held a

        all_dia : (σ : Scene) (R : Ready L W stack c.places c.held σ) (h : holds_rel σ t ≡ true) (u : Current L W σ x) (C : List Bool)
            → Denotes (2 * L.bits) (rows_of X) a (fn_of L.bits C)
            → Answers true L X Y (set stack c.held a) (set stack c.held a) (c.held + 1) q (pushed σ a (fn_of L.bits C)) (dia t top)
            e r'
        all_dia σ R h u C d =
            let S = both-ready R (boxed σ R h u) refl is P.room C d in D.answers _ top S h (all-value (round_of c c.at q) S e w)

        pub and-asked : JoinedPre L Y (set stack c.held a) c.held And a r'
        and-asked = record {
          asks = λ b' k' q' is'. both-asks P.ready (boxed P.scene P.ready P.relation P.current) refl is P.room same
              (all_dia P.scene P.ready P.relation P.current) is' And refl;
        }

        pub and-answered : {Z : View} {r'' : Result Value Stopped} → JoinedPost L Y Z (set stack c.held a) c.held And a r' r''
            → FurtherPost L W Z stack (set stack c.held a) c mode.All t x e r''
        and-answered J = record { answers = λ σ R h u. both-joined R (boxed σ R h u) refl is P.room same (all_dia σ R h u) And J }

  -- diamond of the current set alone
  pub some-answered : {X : View} {e : ℕ} {r : Result Value Stopped} → ReachPost L W X stack c mode.Some t x e r
      → FurtherPost L W X stack stack c mode.Some t x e r
  some-answered {e = e} E = record { answers = λ σ R h u. E.answers σ (var own) R h (own_value c R e u) }

pub further_as : {L : Limits} {W X : View} {stack after : List ℕ} {c : Context} {t x e : ℕ} {r : Result Value Stopped} {m n : Mode} → n ≡ m
    → FurtherPost L W X stack after c m t x e r → FurtherPost L W X stack after c n t x e r
further_as {L} {W} {X} {stack} {after} {c} {t} {x} {e} {r} q E = subst (λ (m : Mode). FurtherPost L W X stack after c m t x e r) (sym q) E

-- ---- f and that

pub kept-asked : {L : Limits} {W : View} {stack bs : List ℕ} {c : Context} {t x : ℕ} → KeepPre L W stack bs c t x
    → EvalPre Runs L W stack bs c
kept-asked P = record { takes = inr refl; room = P.room; scene = P.scene; form = P.form; end = P.end; ready = P.ready; part = P.part }

module _ {L : Limits} {W X : View} {stack after bs : List ℕ} {c : Context} {t x : ℕ} {r : Result Value Stopped}
    (P : KeepPre L W stack bs c t x)
    (E : EvalPost Runs L W X stack after bs c r) where
  pub keep_halts : Halts r → (m : Mode) (e : ℕ) → KeepPost L W X stack after bs c m t x e r
  keep_halts s m e = record { answers = λ σ f k R p h u. first_stops (E.answers σ f k R p) s And (goes (is_some m) t own) e }

  pub keep-room : c.held + 1 < stack_size
  keep-room = let l = P.room in let d = read-depth P.part.stands in omega arith

  module _ (z : length after ≡ length stack) {a k : ℕ} {q : Count} (is : r ≡ evaluated a k q) where
    free : c.held < stack_size
    free = let l = keep-room in omega arith

    pub further-asked : {b : Context} → b ≡ round_of c c.at q → FurtherPre L X (set after c.held a) b t x
    further-asked i =
        let A = E.answers P.scene P.form P.end P.ready P.part in
        subst (λ (d : Context). FurtherPre L X (set after c.held a) d t x) (sym i) (record {
          room = keep-room;
          scene = _;
          ready = both-ready P.ready A z is free (value_set P.ready A z is) (value-is P.ready A z is);
          relation = P.relation;
          current = current-push (current-next P.current A.evals.kept) a (value_set P.ready A z is);
        })

    module _ {b : Context} (i : b ≡ round_of c c.at q) {Y : View} {last : List ℕ}
        {m : Mode} {e : ℕ} {r' : Result Value Stopped} (F' : FurtherPost L X Y (set after c.held a) last b m t x e r')
        (z' : length last ≡ length (set after c.held a)) where
      F : FurtherPost L X Y (set after c.held a) last (round_of c c.at q) m t x e r'
      F = subst (λ (d : Context). FurtherPost L X Y (set after c.held a) last d m t x e r') i F'

      same₂ : length last ≡ length after
      same₂ = simp length-set at z'

      module _ {σ : Scene} {f : Form} {k₁ : ℕ} (R : Ready L W stack c.places c.held σ)
          (p : Part Runs L.bits bs c.at c.depth σ.scope (holds_reg σ) (holds_rel σ) f k₁) (h : holds_rel σ t ≡ true)
          (u : Current L W σ x) where
        part-answers : Answers true L W X stack after c.held c.count σ f k₁ r
        part-answers = E.answers σ f k₁ R p

        rest-answers : (C : List Bool) → Denotes (2 * L.bits) (rows_of X) a (fn_of L.bits C)
            → Answers true L X Y (set after c.held a) last (c.held + 1) q (pushed σ a (fn_of L.bits C)) (goes (is_some m) t own) e r'
        rest-answers C d =
            F.answers _ (both-ready R part-answers z is free C d) h (current-push (current-next u part-answers.evals.kept) a C)

      pub keep-asked : JoinedPre L Y last c.held And a r'
      keep-asked = record {
        asks = λ b' k' q' is'. both-asks P.ready (part-answers P.ready P.part P.relation P.current) z is free same₂
            (rest-answers P.ready P.part P.relation P.current) is' And refl;
      }

      pub keep-answered : {Z : View} {r'' : Result Value Stopped} → JoinedPost L Y Z last c.held And a r' r''
          → KeepPost L W Z stack last bs c m t x e r''
      keep-answered J =
          record { answers = λ σ f k R p h u. both-joined R (part-answers R p h u) z is free same₂ (rest-answers R p h u) And J }

-- ---- a round

-- g's context
abbrev pub goal_of : Context → ℕ → Context
goal_of c k = record { at = k; depth = c.depth; held = c.held; places = c.places; count = c.count }

pub goal-asked : {L : Limits} {W : View} {stack bs : List ℕ} {c : Context} {middle t x : ℕ} → RoundPre L W stack bs c middle t x
    → EvalPre Runs L W stack bs (goal_of c middle)
goal-asked P =
    record {
      takes = inr refl;
      room = let l = P.room in
          omega arith;
      scene = P.scene;
      form = P.right;
      end = P.end;
      ready = P.ready;
      part = P.second;
    }

module _ {L : Limits} {W X : View} {stack after bs : List ℕ}
    {c : Context} {middle t x : ℕ} {r : Result Value Stopped} (P : RoundPre L W stack bs c middle t x)
    (E : EvalPost Runs L W X stack after bs (goal_of c middle) r) where
  pub goal_halts : Halts r → (m : Mode) → RoundPost L W X stack after bs c middle m t x r
  goal_halts s m = record { answers = λ σ f g e R p g' h u. first_stops (E.answers σ g e R g') s Or (conj f (goes (is_some m) t own)) e }

  pub round-free : c.held < stack_size
  round-free = let l = P.room in omega arith

  module _ (z : length after ≡ length stack) {a k : ℕ} {q : Count} (is : r ≡ evaluated a k q) where
    pub kept-part : {b : Context} → b ≡ round_of c c.at q → KeepPre L X (set after c.held a) bs b t x
    kept-part i =
        let A = E.answers P.scene P.right P.end P.ready P.second in
        subst (λ (d : Context). KeepPre L X (set after c.held a) bs d t x) (sym i) (record {
          room = let l = P.room in omega arith;
          scene = _;
          form = P.left;
          end = middle;
          ready = both-ready P.ready A z is round-free (value_set P.ready A z is) (value-is P.ready A z is);
          part = P.first;
          relation = P.relation;
          current = current-push (current-next P.current A.evals.kept) a (value_set P.ready A z is);
        })

    module _ {b : Context} (i : b ≡ round_of c c.at q) {Y : View} {last : List ℕ}
        {m : Mode} {r' : Result Value Stopped} (K' : KeepPost L X Y (set after c.held a) last bs b m t x k r')
        (z' : length last ≡ length (set after c.held a)) where
      K : KeepPost L X Y (set after c.held a) last bs (round_of c c.at q) m t x k r'
      K = subst (λ (d : Context). KeepPost L X Y (set after c.held a) last bs d m t x k r') i K'

      same₃ : length last ≡ length after
      same₃ = simp length-set at z'

      module _ {σ : Scene} {f g : Form} {e : ℕ} (R : Ready L W stack c.places c.held σ)
          (p : Part Runs L.bits bs c.at c.depth σ.scope (holds_reg σ) (holds_rel σ) f middle)
          (p' : Part Runs L.bits bs middle c.depth σ.scope (holds_reg σ) (holds_rel σ) g e) (h : holds_rel σ t ≡ true)
          (u : Current L W σ x) where
        goal-answers : Answers true L W X stack after c.held c.count σ g e r
        goal-answers = E.answers σ g e R p'

        keep-answers : (C : List Bool) → Denotes (2 * L.bits) (rows_of X) a (fn_of L.bits C)
            → Answers true L X Y (set after c.held a) last (c.held + 1) q (pushed σ a (fn_of L.bits C))
            (conj f (goes (is_some m) t own)) e r'
        keep-answers C d =
            subst (λ (y : ℕ). Answers true L X Y (set after c.held a) last (c.held + 1) q (pushed σ a (fn_of L.bits C))
            (conj f (goes (is_some m) t own)) y r') (value-end R goal-answers z is)
            (K.answers _ f middle (both-ready R goal-answers z is round-free C d) p h
            (current-push (current-next u goal-answers.evals.kept) a C))

      pub or-asked : JoinedPre L Y last c.held Or a r'
      or-asked = record {
        asks = λ b' k' q' is'. both-asks P.ready (goal-answers P.ready P.first P.second P.relation P.current) z is
            round-free same₃ (keep-answers P.ready P.first P.second P.relation P.current) is' Or refl;
      }

      pub or-answered : {Z : View} {r'' : Result Value Stopped} → JoinedPost L Y Z last c.held Or a r' r''
          → RoundPost L W Z stack last bs c middle m t x r''
      or-answered J =
          record {
            answers = λ σ f g e R p p' h u. both-joined R (goal-answers R p p' h u) z is round-free same₃ (keep-answers R p p' h u) Or J;
          }

-- ---- until as a body of rounds

-- where g begins is what the syntax pass of f says
pub body-read : {L : Limits} {bs : List ℕ} {c : Context} {y : Option Pass}
    → y ≡ pass_of (λ (g : Form). true) (parse L.bits Runs c.depth bs c.at)
    → {middle : ℕ} {ok : Bool} → y ≡ Some (pass_at middle ok) → {m : Mode} {t : ℕ} → UntilPost L bs c m t (Until m t middle)
body-read h {middle} {ok} z {m} {t} = record {
  says = λ f k p. let w : Some (pass_at k true) ≡ Some (pass_at middle ok) = sym (ap (pass_of (λ (g : Form). true)) p.reads) ∙ sym h ∙ z in
      ap (Until m t) (sym (ap place_of w));
}

pub body_unread : {L : Limits} {bs : List ℕ} {c : Context} {y : Option Pass}
    → y ≡ pass_of (λ (g : Form). true) (parse L.bits Runs c.depth bs c.at) → y ≡ None
    → {m : Mode} {t : ℕ} {b : Body} → UntilPost L bs c m t b
body_unread h z = record { says = λ f k p. absurd (not-past (sym z ∙ h ∙ ap (pass_of (λ (g : Form). true)) p.reads)) }

-- X stands nowhere in a formula of the bytes
pub absent_of : {n : ℕ} {bs : List ℕ} {at depth : ℕ} {scope : List Bool} {regs rels : ℕ → Bool} {f : Form} {k : ℕ}
    → Part Runs n bs at depth scope regs rels f k → T (absent own f)
absent_of {n} {bs} {at} {depth} {f = f} {k = k} p =
    takes-absent n Runs f (read_taken n Runs bs (parse_reads n Runs bs depth at f k p.stands.reads))

-- the formula written with the binder of X is until
pub until_as : {L : Limits} {W X : View} {stack after : List ℕ}
    {held : ℕ} {count : Count} {σ : Scene} {f g : Form} {e : ℕ} {r : Result Value Stopped} (m : Mode) (t : ℕ) → T (absent own f)
    → T (absent own g)
    → Answers true L W X stack after held count σ (written (is_some m) t own f g) e r
    → Answers true L W X stack after held count σ (until_form m t f g) e r
until_as {L} {count = count} {σ = σ} {f = f} {g = g} mode.All t hf hg A =
    record {
      moved =
          A.moved;
      kept =
          A.kept;
      evals =
          evals-same (sym (run-written (model_in L.bits σ) L.limit L.rounds σ.env t own false f g hf hg σ.fns count))
          A.evals;
      end = A.end;
    }
until_as {L} {count = count} {σ = σ} {f = f} {g = g} mode.Some t hf hg A =
    record {
      moved =
          A.moved;
      kept =
          A.kept;
      evals =
          evals-same (sym (run-written (model_in L.bits σ) L.limit L.rounds σ.env t own true f g hf hg σ.fns count))
          A.evals;
      end = A.end;
    }

-- X is none of a formula's variables
own_open : {n : ℕ} {bs : List ℕ} {at depth : ℕ} {scope : List Bool} {regs rels : ℕ → Bool} {f : Form} {e : ℕ} → length scope ≡ 16
    → Part Runs n bs at depth scope regs rels f e
    → Part Runs n bs at depth (set scope own true) regs rels f e
own_open {n} {bs} {at} {depth} {scope} {regs} {rels} {f} {e} z p =
    subst (λ (s : List Bool). Part Runs n bs at depth s regs rels f e) (sym (set_out scope own true (omega (arith, z)))) p

pub until-part : {L : Limits} {W : View} {stack places bs : List ℕ} {held at depth : ℕ} {σ : Scene} {f g : Form} {e t middle : ℕ} (m : Mode)
    → Ready L W stack places held σ
    → Part Runs L.bits bs at depth σ.scope (holds_reg σ) (holds_rel σ) f middle
    → Part Runs L.bits bs middle depth σ.scope (holds_reg σ) (holds_rel σ) g e → holds_rel σ t ≡ true
    → BodyPart L.bits bs at depth (set σ.scope own true) (holds_reg σ) (holds_rel σ) (Until m t middle) (round_form m t f g) e
until-part m R p p' h = record {
  parts = record { left = _; right = _; is-round = refl; first = own_open R.vars p; second = own_open R.vars p'; relation = h };
}

-- ---- one round

current_open : {L : Limits} {W : View} (σ : Scene) (a : ℕ) (A : List Bool) → Denotes (2 * L.bits) (rows_of W) a (fn_of L.bits A)
    → Below A (exist_in L.bits σ) → Current L W (opened L.bits σ own a A) a
current_open {L} {W} σ a A d i = record {
  root = here refl;
  denotes = subst (λ (C : List Bool). Denotes (2 * L.bits) (rows_of W) a (fn_of L.bits C)) (sym (put-here σ.env own A)) d;
  exists = subst (λ (C : List Bool). Below C (exist_in L.bits σ)) (sym (put-here σ.env own A)) i;
}

module _ {L : Limits} {W : View} {stack bs : List ℕ} {c : Context} {a : ℕ} (σ : Scene) (A : List Bool)
    (d : Denotes (2 * L.bits) (rows_of W) a (fn_of L.bits A)) (in_v : Below A (exist_in L.bits σ)) {f : Form} {e : ℕ} where
  pub turn-asks : (b : Body) → Ready L W stack c.places c.held (opened L.bits σ (variable_of b) a A)
      → c.held + 2 * c.depth < stack_size
      → BodyPart L.bits bs c.at c.depth (set σ.scope (variable_of b) true) (holds_reg σ) (holds_rel σ) b f e
      → TurnPre L W stack bs c b a
  turn-asks (Binder x P) R l p =
      record { asks = record { takes = inr refl; room = omega (arith, l); scene = _; form = f; end = e; ready = R; part = p.parts } }
  turn-asks (Until m t middle) R l p = record {
    asks = record {
      room = l;
      scene = _;
      left = p.parts.left;
      right = p.parts.right;
      end = e;
      ready = R;
      first = p.parts.first;
      second = p.parts.second;
      relation = p.parts.relation;
      current = current_open σ a A d in_v;
    };
  }

  pub turn-answers : (b : Body) {X : View} {after : List ℕ} {r : Result Value Stopped} → TurnPost L W X stack after bs c b a r
      → Ready L W stack c.places c.held (opened L.bits σ (variable_of b) a A)
      → BodyPart L.bits bs c.at c.depth (set σ.scope (variable_of b) true) (holds_reg σ) (holds_rel σ) b f e
      → Answers true L W X stack after c.held c.count (opened L.bits σ (variable_of b) a A) f e r
  turn-answers (Binder x P) T R p = T.says.answers _ f e R p.parts
  turn-answers (Until m t middle) {X} {after} {r} T R p =
      subst (λ (h : Form). Answers true L W X stack after c.held c.count (opened L.bits σ own a A) h e r)
      (sym p.parts.is-round)
      (T.says.answers _ p.parts.left p.parts.right e R p.parts.first p.parts.second p.parts.relation
      (current_open σ a A d in_v))

-- a binder's round is its formula, until's one is its own
module _ {L : Limits} {W : View} {stack bs : List ℕ} {c : Context} {b : Body} {x : ℕ} where
  pub formula_asked : {y : Fix} {P : ℕ} → b ≡ Binder y P → TurnPre L W stack bs c b x → EvalPre Runs L W stack bs c
  formula_asked e T = (subst (λ (d : Body). TurnPre L W stack bs c d x) e T).asks

  pub round-asked : {m : Mode} {t middle : ℕ} → b ≡ Until m t middle → TurnPre L W stack bs c b x → RoundPre L W stack bs c middle t x
  round-asked e T = (subst (λ (d : Body). TurnPre L W stack bs c d x) e T).asks

  pub formula_answered : {y : Fix} {P : ℕ} → b ≡ Binder y P → {X : View} {after : List ℕ} {r : Result Value Stopped}
      → EvalPost Runs L W X stack after bs c r → TurnPost L W X stack after bs c b x r
  formula_answered e {X} {after} {r} E = subst (λ (d : Body). TurnPost L W X stack after bs c d x r) (sym e) (record { says = E })

  pub round-answered : {m : Mode} {t middle : ℕ} → b ≡ Until m t middle → {X : View} {after : List ℕ} {r : Result Value Stopped}
      → RoundPost L W X stack after bs c middle m t x r
      → TurnPost L W X stack after bs c b x r
  round-answered e {X} {after} {r} E = subst (λ (d : Body). TurnPost L W X stack after bs c d x r) (sym e) (record { says = E })
