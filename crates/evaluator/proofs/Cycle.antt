-- What each function of the cycle asks of those that it calls, and what its answers are made of theirs: a law for each call and return.
-- Assumes nothing.
use Rattle.std.specs.Prelude.{Option, Some, Result, Err}
use mathlib.Core.Path.{◌≡◌, refl, sym, ap, ◌∙◌, subst}
use mathlib.Core.Logic.{◌≢◌, ⊎_elim, inr}
use mathlib.Core.Bool.{true, false, true≢false}
use mathlib.Core.List.{List}
use Prim.Native.Nat.{ℕ, ◌+◌, ◌*◌, ◌-◌, ◌≤◌, ◌<◌}
use native.Mathlib.Omega.{arith}
use lib.ListN.{length, set, take, length-set}
use Rattle.mucalculus.specs.Form.{Form}
use Rattle.tokens.specs.Tokens.{only_now, allowed, lead_at}
use Rattle.tokens.specs.declared.Grammar.{Grammar}
use Rattle.tokens.specs.declared.Grammar.TheVariants.{Pairs, Runs}
use Rattle.tokens.specs.declared.Leaf.{Leaf}
use Rattle.tokens.specs.declared.Join.{Join}
use Rattle.tokens.specs.declared.Mode.{Mode}
use Rattle.tokens.specs.declared.Fix.{Fix}
use Rattle.tokens.specs.declared.Two.TheVariants.{Join as Joins, Until}
use Rattle.tokens.specs.declared.Token.{Token}
use Rattle.tokens.specs.declared.Token.TheVariants.{Leaf as LeafToken, Not, Both, Modal, Binder}
use Rattle.formula.proofs.Steps.{is-not, is-modal, is_binder}
use Rattle.accounts.specs.declared.Count.{Count}
use Rattle.accounts.specs.Count.{another}
use Rattle.layout.specs.Places.{VALID, HEADER, FIRST_RELATION}
use Rattle.layout.specs.View.{View, view}
use Rattle.table.specs.declared.Full.{Full}
use Rattle.counting.specs.Counts.{CountsOf}
use Rattle.steps.specs.declared.Step.TheVariants as step
use Rattle.counting.specs.declared.Taken.{Taken}
use Rattle.book.specs.Turns.{start_arrow}
use Rattle.modal.specs.declared.Limits.{Limits}
use Rattle.modal.specs.Modal.{ModalPre}
use Rattle.evaluator.specs.Scene.{evaluated}
use Rattle.evaluator.specs.Scene.{stack_size, Scene, Ready, holds_reg, holds_rel, Answers, from_taken, body_of, round_of, is_least, OverPost}
use Rattle.evaluator.specs.Scene.{LivePre, LivePost, JoinedPre, JoinedPost, ConfinedPre, ConfinedPost, LeafPre, LeafPost, Evaluates}
use Rattle.evaluator.specs.Scene.{EvalPre, EvalPost, NegatePost, BothPre, BothPost, ModePre, ModePost, fix_of, variable_of, BodyPart}
use Rattle.evaluator.specs.Scene.{UntilPost, TurnPre, TurnPost, BindPre, BindPost}
use Rattle.evaluator.proofs.Scene.{opened}
use Rattle.evaluator.specs.declared.Body.{Body}
use Rattle.evaluator.specs.declared.Body.TheVariants as body
use Rattle.evaluator.specs.declared.Context.{Context}
use Rattle.evaluator.specs.declared.Stopped.{Stopped}
use Rattle.evaluator.specs.declared.Value.{Value}
use Rattle.evaluator.specs.declared.Stopped.TheVariants as stopped
use Rattle.evaluator.proofs.Tokens.{read-depth, read-allowed, leaf_form_lem, leaf-end, one_form, both-form}
use Rattle.evaluator.proofs.Parts.{leaf-named, not-part, modal-part, modal-relation, binder_part, left-part, right-part}
use Rattle.evaluator.proofs.Parts.{until-relation}
use Rattle.evaluator.proofs.State.{valid-asks, valid-read}
use Rattle.evaluator.proofs.Outcomes.{Halts}
use Rattle.evaluator.proofs.Steps.{answers-same, eval-leaf, negate_stops, first_stops, mode_stops, value_set, value-is, negate-asks}
use Rattle.evaluator.proofs.Steps.{negate-confined, negate-ends, both-part, both-ready, both-asks, both-joined}
use Rattle.evaluator.proofs.Relations.{rel-range, rel-some, over-asks, over-ends}
use Rattle.evaluator.proofs.Rounds.{Bound, bind-starts, bind_out, bind-ready, bind_stops, bind-ends, bind-turns, bind-less}
use Rattle.evaluator.proofs.Untils.{absent_of, until_as, until-part, turn-asks, turn-answers}

-- the part after an operator's byte
abbrev pub inward : Context → Context
inward c = record { at = c.at + 1; depth = c.depth - 1; held = c.held; places = c.places; count = c.count }

-- ---- by the token

module _ {g : Grammar} {L : Limits} {W : View} {stack bs : List ℕ} {c : Context} (P : EvalPre g L W stack bs c)
    {ld : Option Token} (found : ld ≡ lead_at L.bits g bs c.at) {t : Token} (is : ld ≡ Some t) where
  room : c.held + 2 * (c.depth - 1) + 1 < stack_size
  room = let l = P.room in let d = read-depth P.part.stands in omega arith

  module _ {l : Leaf} (leaf : t ≡ LeafToken l) where
    pub leaf-asked : LeafPre g L W stack c l
    leaf-asked =
        record {
          scene =
              P.scene;
          ready = P.ready;
          named = leaf-named P.part found is leaf;
          taken = read-allowed P.part.stands found is leaf;
        }

    pub leaf-answered : {X : View} {o : Result Taken Full} {r : Result Value Stopped} → LeafPost g L W X stack c l o
        → r ≡ from_taken (c.at + 1) o
        → EvalPost g L W X stack stack bs c r
    leaf-answered A is-r = record {
      answers =
          λ σ f e R p. eval-leaf l (leaf_form_lem p.stands found is leaf) (leaf-end p.stands found is leaf)
          (A.answers σ R (leaf-named p found is leaf)) is-r;
    }

  module _ (one : t ≡ Not) where
    pub not-asked : EvalPre g L W stack bs (inward c)
    not-asked =
        record {
          takes = P.takes;
          room = let l = room in
              omega arith;
          scene = P.scene;
          form = _;
          end = P.end;
          ready = P.ready;
          part = not-part P.part found is one;
        }

    pub not-answered : {X : View} {after : List ℕ} {r : Result Value Stopped} → NegatePost g L W X stack after bs (inward c) r
        → EvalPost g L W X stack after bs c r
    not-answered A =
        record {
          answers = λ σ f e R p. answers-same (one_form p.stands found is one is-not) (A.answers σ _ e R (not-part p found is one));
        }

  module _ {j : Join} (two : t ≡ Both (Joins j)) where
    pub both-asked : BothPre g L W stack bs (inward c)
    both-asked = record {
      takes = P.takes;
      room = room;
      scene = P.scene;
      left = _;
      right = _;
      middle = _;
      end = P.end;
      ready = P.ready;
      first = left-part P.part found is two;
      second = right-part P.part found is two;
    }

    pub both-answered : {X : View} {after : List ℕ} {r : Result Value Stopped} → BothPost g L W X stack after bs (inward c) j r
        → EvalPost g L W X stack after bs c r
    both-answered A = record {
      answers =
          λ σ f e R p. answers-same (both-form p.stands found is two)
          (A.answers σ _ _ _ e R (left-part p found is two) (right-part p found is two));
    }

-- the same of a formula of runs
module _ {L : Limits} {W : View} {stack bs : List ℕ} {c : Context} (P : EvalPre Runs L W stack bs c)
    {ld : Option Token} (found : ld ≡ lead_at L.bits Runs bs c.at) {t : Token} (is : ld ≡ Some t) where
  module _ {m : Mode} {u : ℕ} (two : t ≡ Both (Until m u)) {b b' : Body} (same : b ≡ b') (body : UntilPost L bs (inward c) m u b') where
    run-until-asked : BindPre L W stack bs (inward c) b
    run-until-asked =
        let p = left-part P.part found is two in
        subst (BindPre L W stack bs (inward c)) (sym (same ∙ body.says _ _ p.stands)) (record {
          room = room P found is;
          scene = P.scene;
          form = _;
          end = P.end;
          ready = P.ready;
          part = until-part m P.ready p (right-part P.part found is two) (until-relation P.part found is two);
        })

    run-until-answered : {X : View} {after : List ℕ} {r : Result Value Stopped} → BindPost L W X stack after bs (inward c) b r
        → EvalPost Runs L W X stack after bs c r
    run-until-answered {X} {after} {r} A = record {
      answers = λ σ f e R p.
          let q = left-part p found is two in
          let q' = right-part p found is two in
          let B = subst (λ (d : Body). BindPost L W X stack after bs (inward c) d r) (same ∙ body.says _ _ q.stands) A in
          answers-same (both-form p.stands found is two)
          (until_as m u (absent_of q) (absent_of q') (B.answers σ _ e R (until-part m R q q' (until-relation p found is two))));
    }

  module _ {m : Mode} {u : ℕ} (one : t ≡ Modal m u) where
    run_mode_asked : ModePre L W stack bs (inward c) u
    run_mode_asked = record {
      room = room P found is;
      scene = P.scene;
      form = _;
      end = P.end;
      ready = P.ready;
      part = modal-part P.part found is one;
      relation = modal-relation P.part found is one;
    }

    run_mode_answered : {X : View} {after : List ℕ} {r : Result Value Stopped} → ModePost L W X stack after bs (inward c) m u r
        → EvalPost Runs L W X stack after bs c r
    run_mode_answered A = record {
      answers =
          λ σ f e R p. answers-same (one_form p.stands found is one (is-modal m u))
          (A.answers σ _ e R (modal-part p found is one) (modal-relation p found is one));
    }

  module _ {x : Fix} {v : ℕ} (one : t ≡ Binder x v) {b : Body} (same : b ≡ body.Binder x v) where
    run-bind-asked : BindPre L W stack bs (inward c) b
    run-bind-asked = subst (BindPre L W stack bs (inward c)) (sym same) (record {
      room = room P found is;
      scene = P.scene;
      form = _;
      end = P.end;
      ready = P.ready;
      part = record { parts = binder_part P.part found is one };
    })

    run-bind-answered : {X : View} {after : List ℕ} {r : Result Value Stopped} → BindPost L W X stack after bs (inward c) b r
        → EvalPost Runs L W X stack after bs c r
    run-bind-answered {X} {after} {r} A = record {
      answers = λ σ f e R p.
          let B = subst (λ (d : Body). BindPost L W X stack after bs (inward c) d r) same A in
          answers-same (one_form p.stands found is one (is_binder x v))
          (B.answers σ _ e R (record { parts = binder_part p found is one }));
    }

-- only formulas of states have what is not of pairs
runs-only : {g : Grammar} → Evaluates g → (t : Token) (n : ℕ) → allowed t n g ≡ true → (allowed t n Pairs ≡ false) → g ≡ Runs
runs-only takes t n a none = ⊎_elim (λ e. absurd (true≢false (sym a ∙ ap (allowed t n) e ∙ none))) (λ e. e) takes

module _ {g : Grammar} {L : Limits} {W : View} {stack bs : List ℕ} {c : Context} (P : EvalPre g L W stack bs c)
    {ld : Option Token} (found : ld ≡ lead_at L.bits g bs c.at) {t : Token} (is : ld ≡ Some t) where
  -- read as a formula of runs
  module _ (e : g ≡ Runs) where
    run-pre : EvalPre Runs L W stack bs c
    run-pre = subst (λ (h : Grammar). EvalPre h L W stack bs c) e P

    run-found : ld ≡ lead_at L.bits Runs bs c.at
    run-found = subst (λ (h : Grammar). ld ≡ lead_at L.bits h bs c.at) e found

    run-post : {X : View} {after : List ℕ} {r : Result Value Stopped} → EvalPost Runs L W X stack after bs c r
        → EvalPost g L W X stack after bs c r
    run-post {X} {after} {r} A = subst (λ (h : Grammar). EvalPost h L W X stack after bs c r) (sym e) A

  module _ {m : Mode} {u : ℕ} (two : t ≡ Both (Until m u)) {b b' : Body} (same : b ≡ b') (body : UntilPost L bs (inward c) m u b') where
    is-until : g ≡ Runs
    is-until = runs-only P.takes (Both (Until m u)) L.bits (read-allowed P.part.stands found is two) refl

    pub until-asked : BindPre L W stack bs (inward c) b
    until-asked = run-until-asked (run-pre is-until) (run-found is-until) is two same body

    pub until-answered : {X : View} {after : List ℕ} {r : Result Value Stopped} → BindPost L W X stack after bs (inward c) b r
        → EvalPost g L W X stack after bs c r
    until-answered A = run-post is-until (run-until-answered (run-pre is-until) (run-found is-until) is two same body A)

  module _ {m : Mode} {u : ℕ} (one : t ≡ Modal m u) where
    is-modal-runs : g ≡ Runs
    is-modal-runs = runs-only P.takes (Modal m u) L.bits (read-allowed P.part.stands found is one) refl

    pub mode_asked : ModePre L W stack bs (inward c) u
    mode_asked = run_mode_asked (run-pre is-modal-runs) (run-found is-modal-runs) is one

    pub mode_answered : {X : View} {after : List ℕ} {r : Result Value Stopped} → ModePost L W X stack after bs (inward c) m u r
        → EvalPost g L W X stack after bs c r
    mode_answered A = run-post is-modal-runs (run_mode_answered (run-pre is-modal-runs) (run-found is-modal-runs) is one A)

  module _ {x : Fix} {v : ℕ} (one : t ≡ Binder x v) {b : Body} (same : b ≡ body.Binder x v) where
    is_binder_runs : g ≡ Runs
    is_binder_runs = runs-only P.takes (Binder x v) L.bits (read-allowed P.part.stands found is one) refl

    pub bind-asked : BindPre L W stack bs (inward c) b
    bind-asked = run-bind-asked (run-pre is_binder_runs) (run-found is_binder_runs) is one same

    pub bind-answered : {X : View} {after : List ℕ} {r : Result Value Stopped} → BindPost L W X stack after bs (inward c) b r
        → EvalPost g L W X stack after bs c r
    bind-answered A = run-post is_binder_runs (run-bind-answered (run-pre is_binder_runs) (run-found is_binder_runs) is one same A)

-- ---- NOT

module _ {g : Grammar} {L : Limits} {W X : View} {stack after bs : List ℕ}
    {c : Context} {r : Result Value Stopped} (E : EvalPost g L W X stack after bs c r) where
  pub negate_halts : Halts r → NegatePost g L W X stack after bs c r
  negate_halts s = record { answers = λ σ f e R p. negate_stops (E.answers σ f e R p) s }

  module _ (z : length after ≡ length stack) {a k : ℕ} {q : Count} (is : r ≡ evaluated a k q) where
    pub negate-asked : EvalPre g L W stack bs c → LivePre L X after c.held (step.Not a)
    negate-asked P = negate-asks P.ready (E.answers P.scene P.form P.end P.ready P.part) z is

    module _ {Y : View} {o : Result Taken Full} (s : LivePost L X Y after c.held (step.Not a) q o) where
      pub confined-asked : EvalPre g L W stack bs c → ConfinedPre L Y after c.held o
      confined-asked P = negate-confined P.ready (E.answers P.scene P.form P.end P.ready P.part) z is s

      pub negate-answered : {Z : View} {u : Result Taken Full} {r' : Result Value Stopped}
          → ConfinedPost (only_now g) L Y Z after c.held o u
          → r' ≡ from_taken k u → NegatePost g L W Z stack after bs c r'
      negate-answered w is-r = record { answers = λ σ f e R p. negate-ends R (E.answers σ f e R p) z is s w is-r }

-- ---- AND and OR

pub first-asked : {g : Grammar} {L : Limits} {W : View} {stack bs : List ℕ} {c : Context} → BothPre g L W stack bs c
    → EvalPre g L W stack bs c
first-asked P =
    record {
      takes = P.takes;
      room = let l = P.room in
          omega arith;
      scene = P.scene;
      form = P.left;
      end = P.middle;
      ready = P.ready;
      part = P.first;
    }

module _ {g : Grammar} {L : Limits} {W X : View} {stack after bs : List ℕ} {c : Context} {r : Result Value Stopped}
    (P : BothPre g L W stack bs c)
    (E : EvalPost g L W X stack after bs c r) where
  pub first_halts : Halts r → (j : Join) → BothPost g L W X stack after bs c j r
  first_halts s j = record { answers = λ σ f h m e R p q. first_stops (E.answers σ f m R p) s j h e }

  module _ (z : length after ≡ length stack) {a k : ℕ} {q : Count} (is : r ≡ evaluated a k q) where
    free : c.held < stack_size
    free = let l = P.room in omega arith

    first : Answers (only_now g) L W X stack after c.held c.count P.scene P.left P.middle r
    first = E.answers P.scene P.left P.middle P.ready P.first

    pub second-asked : {b : Context} → b ≡ round_of c k q → EvalPre g L X (set after c.held a) bs b
    second-asked i = subst (λ (d : Context). EvalPre g L X (set after c.held a) bs d) (sym i) (record {
      takes = P.takes;
      room = let l = P.room in omega arith;
      scene = _;
      form = P.right;
      end = P.end;
      ready = both-ready P.ready first z is free (value_set P.ready first z is) (value-is P.ready first z is);
      part = both-part P.ready first z is P.second;
    })

    module _ {b : Context} (i : b ≡ round_of c k q) {Y : View} {last : List ℕ}
        {r' : Result Value Stopped} (F' : EvalPost g L X Y (set after c.held a) last bs b r')
        (z' : length last ≡ length (set after c.held a)) where
      F : EvalPost g L X Y (set after c.held a) last bs (round_of c k q) r'
      F = subst (λ (d : Context). EvalPost g L X Y (set after c.held a) last bs d r') i F'

      same : length last ≡ length after
      same = simp length-set at z'

      pub joined-asked : (j : Join) → JoinedPre L Y last c.held j a r'
      joined-asked j = record {
        asks = λ b k' q' is'. both-asks P.ready first z is free same
            (λ C d. F.answers _ P.right P.end (both-ready P.ready first z is free C d)
            (both-part P.ready first z is P.second)) is' j refl;
      }

      pub joined-answered : {j : Join} {Z : View} {r'' : Result Value Stopped} → JoinedPost L Y Z last c.held j a r' r''
          → BothPost g L W Z stack last bs c j r''
      joined-answered {j} J = record {
        answers = λ σ f h m e R p q. let A = E.answers σ f m R p in
            both-joined R A z is free same (λ C d. F.answers _ h e (both-ready R A z is free C d) (both-part R A z is q)) j J;
      }

-- ---- box and diamond

pub part-asked : {L : Limits} {W : View} {stack bs : List ℕ} {c : Context} {t : ℕ} → ModePre L W stack bs c t → EvalPre Runs L W stack bs c
part-asked P =
    record {
      takes = inr refl;
      room = let l = P.room in
          omega arith;
      scene = P.scene;
      form = P.form;
      end = P.end;
      ready = P.ready;
      part = P.part;
    }

module _ {L : Limits} {W X : View} {stack after bs : List ℕ} {c : Context} {r : Result Value Stopped} {t : ℕ} (P : ModePre L W stack bs c t)
    (E : EvalPost Runs L W X stack after bs c r) where
  pub mode_halts : Halts r → (m : Mode) → ModePost L W X stack after bs c m t r
  mode_halts s m = record { answers = λ σ f e R p h. mode_stops (E.answers σ f e R p) s m t }

  module _ (z : length after ≡ length stack) {a k : ℕ} {q : Count} (is : r ≡ evaluated a k q) where
    whole : Answers true L W X stack after c.held c.count P.scene P.form P.end r
    whole = E.answers P.scene P.form P.end P.ready P.part

    pub relation-asked : (FIRST_RELATION + t < HEADER) × (HEADER ≤ X.size) × (0 < X.header (FIRST_RELATION + t))
    relation-asked = (
      let l = rel-range P.ready whole z is t P.relation in
          omega arith,
      let l = whole.moved.sound.good.sizes.room in omega arith,
      rel-some P.ready whole z is t P.relation,
    )

    pub live-within : c.held ≤ length after
    live-within = let w = P.ready.within in let s = P.ready.size in omega arith

    module _ (x : ℕ) (arrow : x + 1 ≡ X.header (FIRST_RELATION + t)) where
      pub over-asked : ModalPre L.bits L.rows L.limit X (take c.held after) x a
      over-asked = over-asks P.ready whole z is t P.relation x arrow

      pub over-answered : {Y : View} (o : Result Taken Full) (m : Mode) {r' : Result Value Stopped}
          → OverPost m L.bits L.rows L.limit X Y (take c.held after) x a q o → r' ≡ from_taken k o
          → ModePost L W Y stack after bs c m t r'
      over-answered {Y} o m v is-r = record { answers = λ σ f e R p h. over-ends R (E.answers σ f e R p) z is t h x arrow Y o m v is-r }

-- ---- the rounds of a body

pub same-depth : {b d : Context} → b ≡ d → b.depth ≡ d.depth
same-depth e = ap (λ (x : Context). x.depth) e

-- where a body's loop stands in every scene: after some rounds, with the arrow a as the current set
pub record Turns (L : Limits) (W X : View) (stack after bs : List ℕ) (c : Context) (body : Body) (a : ℕ) (counted : Count) : Type 0 where
  pub bound : (σ : Scene) (f : Form) (e : ℕ) → Ready L W stack c.places c.held σ
      → BodyPart L.bits bs c.at c.depth (set σ.scope (variable_of body) true) (holds_reg σ) (holds_rel σ) body f e
      → Bound L W X stack after c.held c.count σ (fix_of body) (variable_of body) f a counted

-- what a loop keeps, from the words and the stack at its start: their sizes, what the counts say of the words, and where it stands
pub record Looping (L : Limits) (words₀ words counts₀ counts stack₀ stack bs : List ℕ)
    (c : Context) (body : Body) (a : ℕ) (counted : Count) : Type 0 where
  pub words_size : length words ≡ length words₀
  pub counts-size : length counts ≡ length counts₀
  pub stack_size_lem : length stack ≡ length stack₀
  pub counts_of : CountsOf (view L.rows words) counts
  pub turns : Turns L (view L.rows words₀) (view L.rows words) stack₀ stack bs c body a counted

-- V's word may be read at a body's start
pub start-asked : {L : Limits} {W : View} {stack bs : List ℕ} {c : Context} {b : Body} → BindPre L W stack bs c b
    → (VALID < HEADER) × (HEADER ≤ W.size) × (0 < W.header VALID)
start-asked P = valid-asks P.ready.base.sound

pub loop-starts : {L : Limits} {words counts stack bs : List ℕ} {c : Context} {body : Body} {a : ℕ} → CountsOf (view L.rows words) counts
    → (v : ℕ) → v + 1 ≡ (view L.rows words).header VALID → a ≡ start_arrow (is_least (fix_of body)) v
    → Looping L words words counts counts stack stack bs c body a c.count
loop-starts {L} {words} {body = body} C v r e = record {
  words_size = refl;
  counts-size = refl;
  stack_size_lem = refl;
  counts_of = C;
  turns =
      record {
        bound =
            λ σ f _ R p. bind-starts R (fix_of body) (variable_of body) f
            (e ∙ ap (start_arrow (is_least (fix_of body))) (valid-read (view L.rows words) v r));
      };
}

module _ {L : Limits} {words₀ words counts₀ counts stack after bs : List ℕ}
    {c : Context} {body : Body} {a : ℕ} {counted : Count} (P : BindPre L (view L.rows words₀) stack bs c body)
    (I : Looping L words₀ words counts₀ counts stack after bs c body a counted) where
  pub rounds_out : L.rounds ≤ counted.rounds → BindPost L (view L.rows words₀) (view L.rows words) stack after bs c body (Err stopped.Spent)
  rounds_out l = record { answers = λ σ f e R p. bind_out R (I.turns.bound σ f e R p) e l }

  module _ {b : Context} {v : ℕ} {n : Count} (is-opened : b ≡ body_of c v n) (is-variable : v ≡ variable_of body)
      (is-count : n ≡ another counted) where
    is_body : b ≡ body_of c (variable_of body) (another counted)
    is_body = is-opened ∙ ap (λ (w : ℕ). body_of c w n) is-variable ∙ ap (body_of c (variable_of body)) is-count

    open_room : c.held < stack_size
    open_room = let l = P.room in omega arith

    -- the scene of a round
    module _ {σ : Scene} {f : Form} {e : ℕ} (R : Ready L (view L.rows words₀) stack c.places c.held σ)
        (p : BodyPart L.bits bs c.at c.depth (set σ.scope (variable_of body) true) (holds_reg σ) (holds_rel σ) body f e) where
      stands : Bound L (view L.rows words₀) (view L.rows words) stack after c.held c.count σ (fix_of body) (variable_of body) f a
          counted
      stands = I.turns.bound σ f e R p

      inner : Ready L (view L.rows words) (set after c.held a) (set c.places (variable_of body) c.held) (c.held + 1)
          (opened L.bits σ (variable_of body) a stands.turning.A)
      inner = bind-ready R stands I.stack_size_lem open_room

    pub body-asked : TurnPre L (view L.rows words) (set after c.held a) bs b body a
    body-asked =
        let T = stands P.ready P.part in
        subst (λ (d : Context). TurnPre L (view L.rows words) (set after c.held a) bs d body a) (sym is_body)
        (turn-asks {c = body_of c (variable_of body) (another counted)} P.scene T.turning.A T.turning.denotes T.turning.exists
        body (inner P.ready P.part) (let l = P.room in omega arith) P.part)

    module _ {Y : View} {last : List ℕ} {r : Result Value Stopped}
        (E : TurnPost L (view L.rows words) Y (set after c.held a) last bs b body a r)
        (more : counted.rounds < L.rounds) where
      module _ {σ : Scene} {f : Form} {e : ℕ} (R : Ready L (view L.rows words₀) stack c.places c.held σ)
          (p : BodyPart L.bits bs c.at c.depth (set σ.scope (variable_of body) true) (holds_reg σ) (holds_rel σ) body f e) where
        answered : Answers true L (view L.rows words) Y (set after c.held a) last (c.held + 1) (another counted)
            (opened L.bits σ (variable_of body) a (stands R p).turning.A) f e r
        answered =
            turn-answers {c = body_of c (variable_of body) (another counted)} σ (stands R p).turning.A (stands R p).turning.denotes
            (stands R p).turning.exists body
            (subst (λ (d : Context). TurnPost L (view L.rows words) Y (set after c.held a) last bs d body a r) is_body E) (inner R p)
            p

      pub body_halts : Halts r → BindPost L (view L.rows words₀) Y stack last bs c body r
      body_halts h = record { answers = λ σ f e R p. bind_stops R (stands R p) I.stack_size_lem open_room (answered R p) more h }

      module _ {d k : ℕ} {q : Count} (is : r ≡ evaluated d k q) where
        pub body_same : d ≡ a → BindPost L (view L.rows words₀) Y stack last bs c body (evaluated d k q)
        body_same h = record { answers = λ σ f e R p. bind-ends R (stands R p) I.stack_size_lem open_room (answered R p) more is h }

        pub body_less : counted.rounds < q.rounds
        body_less = bind-less P.ready (stands P.ready P.part) I.stack_size_lem open_room (answered P.ready P.part) more is

        body-turns : d ≢ a → Turns L (view L.rows words₀) Y stack last bs c body d q
        body-turns h = record { bound = λ σ f e R p. bind-turns R (stands R p) I.stack_size_lem open_room (answered R p) more is h }

        pub loop-turns : d ≢ a → (next : List ℕ) → Y ≡ view L.rows next → {more-counts : List ℕ} → CountsOf Y more-counts
            → length next ≡ length words → length more-counts ≡ length counts
            → length last ≡ length (set after c.held a) → Looping L words₀ next counts₀ more-counts stack last bs c body d q
        loop-turns h next y {more-counts} C w v z = record {
          words_size = w ∙ I.words_size;
          counts-size = v ∙ I.counts-size;
          stack_size_lem = simp length-set at z ∙ I.stack_size_lem;
          counts_of = subst (λ (Z : View). CountsOf Z more-counts) y C;
          turns = subst (λ (Z : View). Turns L (view L.rows words₀) Z stack last bs c body d q) y (body-turns h);
        }
