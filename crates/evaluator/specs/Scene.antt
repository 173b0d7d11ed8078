-- What an evaluation of a formula stands in, what it asks, and what it answers. Assumes nothing.
use Rattle.std.specs.Prelude.{◌≡◌, ◌⊎◌, Bool, true, false, ◌&&◌, ℕ, ◌+◌, ◌*◌, ◌^◌, ◌≤◌, ◌<◌, ltb, length, get_or, set, take, Result, Ok, Err}
use mathlib.Core.List.{List, Memᴰ as Mem}
use Rattle.std.proofs.Math.Option.{Option, some}
use Rattle.mucalculus.specs.Order.{Below}
use Rattle.mucalculus.specs.Means.{clip}
use Rattle.mucalculus.specs.Exist.{Inside}
use Rattle.mucalculus.specs.Form.{Form, neg, conj, disj, Pairs, Model, Env, bound, filled as has_content}
use Rattle.mucalculus.specs.Written.{goes}
use Rattle.tokens.specs.declared.Grammar.{Grammar}
use Rattle.tokens.specs.declared.Grammar.TheVariants.{Pairs as PairsGrammar, Runs}
use Rattle.tokens.specs.Tokens.{only_now, leaf_allowed}
use Rattle.tokens.specs.declared.Leaf.{Leaf}
use Rattle.tokens.specs.declared.Fix.{Fix}
use Rattle.tokens.specs.declared.Fix.TheVariants.{Mu, Nu}
use Rattle.tokens.specs.declared.Join.{Join}
use Rattle.tokens.specs.declared.Join.TheVariants.{And, Or}
use Rattle.tokens.specs.declared.Mode.{Mode}
use Rattle.tokens.specs.declared.Mode.TheVariants as mode
use Rattle.formula.specs.Parse.{leaf_form, join_form, modal_form, binder_form, got, parse}
use Rattle.formula.specs.Checks.{filled}
use Rattle.accounts.specs.declared.Count.{Count}
use Rattle.layout.specs.Places.{FIRST_REGISTER, FIRST_RELATION}
use Rattle.layout.specs.View.{View}
use Rattle.diagram.specs.Level.{Fn}
use Rattle.diagram.specs.Rows.{Arrow}
use Rattle.diagram.specs.Post.{Denotes}
use Rattle.rows.specs.Used.{rows_of}
use Rattle.rows.specs.Within.{valid_of}
use Rattle.collect.specs.Lent.{live}
use Rattle.steps.specs.declared.Step.{Step}
use Rattle.steps.specs.declared.Step.TheVariants as step
use Rattle.steps.specs.Steps.{step_f, live_at, StepPre, Stepped}
use Rattle.table.specs.declared.Full.{Full}
use Rattle.counting.specs.Taken.{taken, ran_out, made_in, Counted}
use Rattle.counting.specs.declared.Taken.{Taken}
use Rattle.book.specs.Bridge.{fn_of, fn_of_pairs}
use Rattle.book.specs.Book.{registers, relations}
use Rattle.book.specs.Table.{Place}
use Rattle.book.specs.Over.{Over, states, pairs, levels}
use Rattle.book.specs.Run.{Outcome, run}
use Rattle.book.specs.Held.{Held}
use Rattle.book.specs.Follow.{Ended, ends, eight, nine, EvalsBy}
use Rattle.contract.specs.Seen.{arrow_in}
use Rattle.modal.specs.declared.Limits.{Limits}
use Rattle.modal.specs.Chain.{Alike, Base, Moved}
use Rattle.modal.specs.Modal.{DiamondPost, BoxPost}
use Rattle.evaluator.specs.declared.Body.{Body}
use Rattle.evaluator.specs.declared.Body.TheVariants.{Binder, Until}
use Rattle.evaluator.specs.declared.Context.{Context}
use Rattle.evaluator.specs.declared.Stopped.{Stopped}
use Rattle.evaluator.specs.declared.Value.{Value}
use Rattle.evaluator.specs.declared.Stopped.TheVariants as stopped

-- what a formula is evaluated over: the book's V, registers and relations, the open variables and their sets, and what is live: the roots
-- and the functions that they hold
pub record Scene : Type 0 where
  pub valid : List Bool
  pub reg : ℕ → Option (List Bool)
  pub rel : ℕ → Option Pairs
  pub scope : List Bool
  pub env : Env
  pub roots : List ℕ
  pub fns : List Fn

-- how many words the stack has: two for each level that a formula may have
abbrev pub stack_size : ℕ
stack_size = 128

abbrev pub model_in : ℕ → Scene → Model
model_in n σ = record { n = n; valid = σ.valid; rel = σ.rel; reg = σ.reg }

-- what a formula in the scene is read over: states with `true`, which are those of the model, or all pairs
abbrev pub over_of : Bool → Model → Env → Over
over_of true m e = states m e
over_of false m e = pairs m.n

abbrev pub over_in : Bool → ℕ → Scene → Over
over_in b n σ = over_of b (model_in n σ) σ.env

-- a value's function of levels
abbrev pub value_in : Bool → ℕ → Scene → List Bool → Fn
value_in b n σ A = levels (over_in b n σ) A

-- the states that exist
abbrev pub exist_in : ℕ → Scene → List Bool
exist_in n σ = clip (2 ^ n) σ.valid

-- variable P's place on the stack is live, and holds its set
pub record Open (n : ℕ) (W : View) (stack places : List ℕ) (held : ℕ) (A : List Bool) (P : ℕ) : Type 0 where
  pub below : get_or places P 0 < held
  pub denotes : Denotes (2 * n) (rows_of W) (get_or stack (get_or places P 0) 0) (fn_of n A)

-- the words and the stack hold the scene
pub record Ready (L : Limits) (W : View) (stack places : List ℕ) (held : ℕ) (σ : Scene) : Type 0 where
  pub base : Base L.bits L.rows L.limit W
  pub valid : Denotes (2 * L.bits) (rows_of W) (valid_of W) (fn_of L.bits (exist_in L.bits σ))
  pub reg : (r : ℕ) → r < registers → Place (2 * L.bits) (rows_of W) (fn_of L.bits) (σ.reg r) (arrow_in (W.header (FIRST_REGISTER + r)))
  pub rel : (t : ℕ) → t < relations
      → Place (2 * L.bits) (rows_of W) (fn_of_pairs L.bits) (σ.rel t) (arrow_in (W.header (FIRST_RELATION + t)))
  -- what registers, relations and variables hold are states that exist
  pub in-reg : (r : ℕ) (A : List Bool) → σ.reg r ≡ some A → Below A (exist_in L.bits σ)
  pub in-rel : (t : ℕ) (Q : Pairs) → σ.rel t ≡ some Q → Inside (2 ^ L.bits) (exist_in L.bits σ) Q
  pub in-env : (P : ℕ) → get_or σ.scope P false ≡ true → Below (σ.env P) (exist_in L.bits σ)
  -- "Live at a step: all filled registers and relations, the current set of each open binder, each value made and not yet used"
  pub roots : Alike (live W (take held stack)) σ.roots
  pub lives : Held (2 * L.bits) (rows_of W) σ.roots σ.fns
  pub size : length stack ≡ stack_size
  pub within : held ≤ stack_size
  pub vars : length σ.scope ≡ 16
  pub slots : length places ≡ 16
  pub open_at : (P : ℕ) → get_or σ.scope P false ≡ true → Open L.bits W stack places held (σ.env P) P

-- the registers and relations that a formula may name
abbrev pub holds_reg : Scene → ℕ → Bool
holds_reg σ r = ltb r registers && has_content (σ.reg r)

abbrev pub holds_rel : Scene → ℕ → Bool
holds_rel σ t = ltb t relations && has_content (σ.rel t)

-- f has passed checks 5 and 7, where `scope` has the open variables, and `regs` and `rels` what is filled
pub record Named (scope : List Bool) (regs rels : ℕ → Bool) (f : Form) : Type 0 where
  pub is_bound : bound scope f ≡ true
  pub is_filled : filled regs rels f ≡ true

-- f stands in the bytes at a place, with depth enough, and ends before the place e
pub record Stands (n : ℕ) (g : Grammar) (bs : List ℕ) (at depth : ℕ) (f : Form) (e : ℕ) : Type 0 where
  pub reads : parse n g depth bs at ≡ got f e

-- a formula of the grammar g, or a part of one, that has passed the checks
pub record Part (g : Grammar) (n : ℕ) (bs : List ℕ) (at depth : ℕ) (scope : List Bool)
    (regs rels : ℕ → Bool) (f : Form) (e : ℕ) : Type 0 where
  pub stands : Stands n g bs at depth f e
  pub named : Named scope regs rels f

-- the answer that has the arrow a, the place k after the formula and the count q
abbrev pub evaluated : ℕ → ℕ → Count → Result Value Stopped
evaluated a k q = Ok (record { arrow = a; next = k; count = q })

-- the answer as the book has it, and the place after the formula
abbrev pub ended_of : Result Value Stopped → Ended
ended_of (Ok v) = ends v.arrow v.count
ended_of (Err stopped.Full) = eight
ended_of (Err stopped.Spent) = nine

abbrev pub EndsAt : ℕ → Result Value Stopped → Type 0
EndsAt e (Ok v) = v.next ≡ e
EndsAt e (Err stopped.Full) = Unit {0}
EndsAt e (Err stopped.Spent) = Unit {0}

-- the run of f in a scene, so much being counted before
abbrev pub run_in : Bool → Limits → Scene → Form → Count → Outcome
run_in b L σ f r = run (over_in b L.bits σ) L.limit L.rounds σ.fns f r

-- the evaluation of f, with `true` over states, with `false` over pairs: what it leaves of the words, the live part of the stack as it was,
-- and the book's outcome
pub record Answers (b : Bool) (L : Limits) (W X : View) (stack after : List ℕ)
    (held : ℕ) (count : Count) (σ : Scene) (f : Form) (e : ℕ) (r : Result Value Stopped) : Type 0 where
  pub moved : Moved L.bits W X
  pub kept : take held after ≡ take held stack
  pub evals : EvalsBy (value_in b L.bits σ) L.bits L.rows (rows_of W) (rows_of X) σ.roots (run_in b L σ f count) (ended_of r)
  pub end : EndsAt e r

-- a step's answer as the book has it
abbrev pub ended_in : Result Taken Full → Ended
ended_in (Ok t) = ends t.arrow t.count
ended_in (Err x) = eight

-- the value of a leaf, or its step
pub record LeafAnswers (b : Bool) (L : Limits) (W X : View) (count : Count) (σ : Scene) (f : Form) (o : Result Taken Full) : Type 0 where
  pub moved : Moved L.bits W X
  pub evals : EvalsBy (value_in b L.bits σ) L.bits L.rows (rows_of W) (rows_of X) σ.roots (run_in b L σ f count) (ended_in o)

-- a step's result as an answer
abbrev pub from_taken : ℕ → Result Taken Full → Result Value Stopped
from_taken e (Ok t) = evaluated t.arrow e t.count
from_taken e (Err x) = Err stopped.Full

-- the step of AND or OR
abbrev pub join_step : Join → ℕ → ℕ → Step
join_step And a b = step.And a b
join_step Or a b = step.Or a b

-- the context of a binder's body: variable P's place is the next one of the stack, and so much is counted
abbrev pub body_of : Context → ℕ → Count → Context
body_of c P q = record { at = c.at; depth = c.depth; held = c.held + 1; places = set c.places P c.held; count = q }

-- the context of what follows at k, with one live word more and so much counted
abbrev pub round_of : Context → ℕ → Count → Context
round_of c k q = record { at = k; depth = c.depth; held = c.held + 1; places = c.places; count = q }

-- mu is the least fixpoint
abbrev pub is_least : Fix → Bool
is_least Mu = true
is_least Nu = false

-- box within V, whose arrow is v
pub record Boxes (n N limit : ℕ) (W X : View) (lent : List ℕ) (v t a : ℕ) (q : Count) (o : Result Taken Full) : Type 0 where
  pub box : BoxPost n N limit W X lent v t a q o

-- that, or diamond, over functions of levels
abbrev pub OverPost : Mode → ℕ → ℕ → ℕ → View → View → List ℕ → ℕ → ℕ → Count → Result Taken Full → Type 0
OverPost mode.All n N limit W X lent t a q o = Boxes n N limit W X lent (valid_of W) t a q o
OverPost mode.Some n N limit W X lent t a q o = DiamondPost n N limit W X lent t a q o

-- ---- what the functions ask, and what they promise in every scene that the words and the stack hold

-- a step over the stack's first `held` words
pub record LivePre (L : Limits) (W : View) (stack : List ℕ) (held : ℕ) (s : Step) : Type 0 where
  pub within : held ≤ length stack
  pub asks : StepPre (2 * L.bits) L.rows L.limit W (take held stack) s

pub record LivePost (L : Limits) (W X : View) (stack : List ℕ) (held : ℕ) (s : Step) (q : Count) (o : Result Taken Full) : Type 0 where
  pub stepped : Stepped (2 * L.bits) L.rows L.limit W X (take held stack) s (made_in o)
  pub count : Counted (2 * L.bits) (rows_of W) (live_at W (take held stack) s) (step_f (2 * L.bits) (rows_of W) s) q o

-- two parts, of which the first has the value a: the second one's answer where that is no value, else the step of both values
pub record JoinedPre (L : Limits) (W : View) (stack : List ℕ) (held : ℕ) (j : Join) (a : ℕ) (second : Result Value Stopped) : Type 0 where
  pub asks : (b k : ℕ) (q : Count) → second ≡ evaluated b k q → LivePre L W stack held (join_step j a b)

abbrev pub JoinedTo : Limits → View → View → List ℕ → ℕ → Join → ℕ → Result Value Stopped → Result Value Stopped → Type 0
JoinedTo L W X stack held j a (Ok v) r =
    (o : Result Taken Full) × LivePost L W X stack held (join_step j a v.arrow) v.count o × (r ≡ from_taken v.next o)
JoinedTo L W X stack held j a (Err stopped.Full) r = (X ≡ W) × (r ≡ Err stopped.Full)
JoinedTo L W X stack held j a (Err stopped.Spent) r = (X ≡ W) × (r ≡ Err stopped.Spent)

pub record JoinedPost (L : Limits) (W X : View) (stack : List ℕ) (held : ℕ) (j : Join) (a : ℕ)
    (second r : Result Value Stopped) : Type 0 where
  pub joins : JoinedTo L W X stack held j a second r

-- the result of a step, which began with the words `earlier`, and over states AND with V
pub record ConfinedPre (L : Limits) (W : View) (stack : List ℕ) (held : ℕ) (first : Result Taken Full) : Type 0 where
  pub scene : Scene
  pub places : List ℕ
  pub ready : Ready L W stack places held scene
  pub arrow : (x : ℕ) (q : Count) → first ≡ taken x q → Arrow (rows_of W) x
  pub earlier : View
  pub last : Step
  pub before : Count
  pub told : LivePost L earlier W stack held last before first

abbrev pub ConfinedTo : Bool → Limits → View → View → List ℕ → ℕ → Result Taken Full → Result Taken Full → Type 0
ConfinedTo true L W X stack held (Ok t) r = LivePost L W X stack held (step.And t.arrow (valid_of W)) t.count r
ConfinedTo false L W X stack held (Ok t) r = (X ≡ W) × (r ≡ Ok t)
ConfinedTo true L W X stack held (Err x) r = (X ≡ W) × (r ≡ ran_out)
ConfinedTo false L W X stack held (Err x) r = (X ≡ W) × (r ≡ ran_out)

pub record ConfinedPost (b : Bool) (L : Limits) (W X : View) (stack : List ℕ) (held : ℕ) (first r : Result Taken Full) : Type 0 where
  pub to : ConfinedTo b L W X stack held first r

-- true, V's word being w: V over states, else all pairs
abbrev pub TrueBy : Bool → ℕ → ℕ → Type 0
TrueBy true w x = x + 1 ≡ w
TrueBy false w x = x ≡ 1

pub record TrueIs (b : Bool) (w x : ℕ) : Type 0 where
  pub says : TrueBy b w x

-- a leaf
pub record LeafPre (g : Grammar) (L : Limits) (W : View) (stack : List ℕ) (c : Context) (l : Leaf) : Type 0 where
  pub scene : Scene
  pub ready : Ready L W stack c.places c.held scene
  pub named : Named scene.scope (holds_reg scene) (holds_rel scene) (leaf_form l)
  pub taken : leaf_allowed l L.bits g ≡ true

pub record LeafPost (g : Grammar) (L : Limits) (W X : View) (stack : List ℕ) (c : Context) (l : Leaf) (o : Result Taken Full) : Type 0 where
  pub answers : (σ : Scene) → Ready L W stack c.places c.held σ → Named σ.scope (holds_reg σ) (holds_rel σ) (leaf_form l)
      → LeafAnswers (only_now g) L W X c.count σ (leaf_form l) o

-- formulas of pairs, or of states and runs
abbrev pub Evaluates : Grammar → Type 0
Evaluates g = (g ≡ PairsGrammar) ⊎ (g ≡ Runs)

pub record EvalPre (g : Grammar) (L : Limits) (W : View) (stack bs : List ℕ) (c : Context) : Type 0 where
  pub takes : Evaluates g
  pub room : c.held + 2 * c.depth ≤ stack_size
  pub scene : Scene
  pub form : Form
  pub end : ℕ
  pub ready : Ready L W stack c.places c.held scene
  pub part : Part g L.bits bs c.at c.depth scene.scope (holds_reg scene) (holds_rel scene) form end

pub record EvalPost (g : Grammar) (L : Limits) (W X : View) (stack after bs : List ℕ) (c : Context)
    (r : Result Value Stopped) : Type 0 where
  pub answers : (σ : Scene) (f : Form) (e : ℕ) → Ready L W stack c.places c.held σ
      → Part g L.bits bs c.at c.depth σ.scope (holds_reg σ) (holds_rel σ) f e
      → Answers (only_now g) L W X stack after c.held c.count σ f e r

-- NOT: f is its part, of which it asks what evaluating it does
pub record NegatePost (g : Grammar) (L : Limits) (W X : View) (stack after bs : List ℕ) (c : Context)
    (r : Result Value Stopped) : Type 0 where
  pub answers : (σ : Scene) (f : Form) (e : ℕ) → Ready L W stack c.places c.held σ
      → Part g L.bits bs c.at c.depth σ.scope (holds_reg σ) (holds_rel σ) f e
      → Answers (only_now g) L W X stack after c.held c.count σ (neg f) e r

-- AND and OR: f and, after it, g are the parts
pub record BothPre (g : Grammar) (L : Limits) (W : View) (stack bs : List ℕ) (c : Context) : Type 0 where
  pub takes : Evaluates g
  pub room : c.held + 2 * c.depth + 1 < stack_size
  pub scene : Scene
  pub left : Form
  pub right : Form
  pub middle : ℕ
  pub end : ℕ
  pub ready : Ready L W stack c.places c.held scene
  pub first : Part g L.bits bs c.at c.depth scene.scope (holds_reg scene) (holds_rel scene) left middle
  pub second : Part g L.bits bs middle c.depth scene.scope (holds_reg scene) (holds_rel scene) right end

pub record BothPost (g : Grammar) (L : Limits) (W X : View) (stack after bs : List ℕ)
    (c : Context) (j : Join) (r : Result Value Stopped) : Type 0 where
  pub answers : (σ : Scene) (f h : Form) (m e : ℕ) → Ready L W stack c.places c.held σ
      → Part g L.bits bs c.at c.depth σ.scope (holds_reg σ) (holds_rel σ) f m
      → Part g L.bits bs m c.depth σ.scope (holds_reg σ) (holds_rel σ) h e
      → Answers (only_now g) L W X stack after c.held c.count σ (join_form j f h) e r

-- box and diamond over relation t: f is the part
pub record ModePre (L : Limits) (W : View) (stack bs : List ℕ) (c : Context) (t : ℕ) : Type 0 where
  pub room : c.held + 2 * c.depth + 1 < stack_size
  pub scene : Scene
  pub form : Form
  pub end : ℕ
  pub ready : Ready L W stack c.places c.held scene
  pub part : Part Runs L.bits bs c.at c.depth scene.scope (holds_reg scene) (holds_rel scene) form end
  pub relation : holds_rel scene t ≡ true

pub record ModePost (L : Limits) (W X : View) (stack after bs : List ℕ) (c : Context) (m : Mode) (t : ℕ)
    (r : Result Value Stopped) : Type 0 where
  pub answers : (σ : Scene) (f : Form) (e : ℕ) → Ready L W stack c.places c.held σ
      → Part Runs L.bits bs c.at c.depth σ.scope (holds_reg σ) (holds_rel σ) f e
      → holds_rel σ t ≡ true → Answers true L W X stack after c.held c.count σ (modal_form m t f) e r

-- ---- until: "mu X (g or (f and diamond X))", "mu X (g or (f and (box X and diamond true)))", "X a variable of its own"

-- X, which no formula's bytes name
abbrev pub own : ℕ
own = 16

-- on some run, or on every one
abbrev pub is_some : Mode → Bool
is_some mode.All = false
is_some mode.Some = true

-- a round's formula
abbrev pub round_form : Mode → ℕ → Form → Form → Form
round_form m t f g = disj g (conj f (goes (is_some m) t own))

-- the arrow x is live, and is the current set
pub record Current (L : Limits) (W : View) (σ : Scene) (x : ℕ) : Type 0 where
  pub root : Mem x σ.roots
  pub denotes : Denotes (2 * L.bits) (rows_of W) x (fn_of L.bits (σ.env own))
  pub exists : Below (σ.env own) (exist_in L.bits σ)

-- x is the value of f, which took no step
abbrev pub IsValue : Limits → View → List ℕ → Context → Scene → Form → ℕ → ℕ → Type 0
IsValue L W stack c σ f x e = Answers true L W W stack stack c.held c.count σ f e (evaluated x e c.count)

-- box and diamond of a value
pub record ReachPre (L : Limits) (W : View) (stack : List ℕ) (c : Context) (t x e : ℕ) : Type 0 where
  pub scene : Scene
  pub form : Form
  pub ready : Ready L W stack c.places c.held scene
  pub relation : holds_rel scene t ≡ true
  pub is-value : IsValue L W stack c scene form x e

pub record ReachPost (L : Limits) (W X : View) (stack : List ℕ) (c : Context) (m : Mode) (t x e : ℕ)
    (r : Result Value Stopped) : Type 0 where
  pub answers : (σ : Scene) (f : Form) → Ready L W stack c.places c.held σ → holds_rel σ t ≡ true → IsValue L W stack c σ f x e
      → Answers true L W X stack stack c.held c.count σ (modal_form m t f) e r

-- what is wanted of the next states
pub record FurtherPre (L : Limits) (W : View) (stack : List ℕ) (c : Context) (t x : ℕ) : Type 0 where
  pub room : c.held < stack_size
  pub scene : Scene
  pub ready : Ready L W stack c.places c.held scene
  pub relation : holds_rel scene t ≡ true
  pub current : Current L W scene x

pub record FurtherPost (L : Limits) (W X : View) (stack after : List ℕ) (c : Context) (m : Mode) (t x e : ℕ)
    (r : Result Value Stopped) : Type 0 where
  pub answers : (σ : Scene) → Ready L W stack c.places c.held σ → holds_rel σ t ≡ true → Current L W σ x
      → Answers true L W X stack after c.held c.count σ (goes (is_some m) t own) e r

-- f and that
pub record KeepPre (L : Limits) (W : View) (stack bs : List ℕ) (c : Context) (t x : ℕ) : Type 0 where
  pub room : c.held + 2 * c.depth ≤ stack_size
  pub scene : Scene
  pub form : Form
  pub end : ℕ
  pub ready : Ready L W stack c.places c.held scene
  pub part : Part Runs L.bits bs c.at c.depth scene.scope (holds_reg scene) (holds_rel scene) form end
  pub relation : holds_rel scene t ≡ true
  pub current : Current L W scene x

pub record KeepPost (L : Limits) (W X : View) (stack after bs : List ℕ) (c : Context) (m : Mode) (t x e : ℕ)
    (r : Result Value Stopped) : Type 0 where
  pub answers : (σ : Scene) (f : Form) (k : ℕ) → Ready L W stack c.places c.held σ
      → Part Runs L.bits bs c.at c.depth σ.scope (holds_reg σ) (holds_rel σ) f k
      → holds_rel σ t ≡ true → Current L W σ x → Answers true L W X stack after c.held c.count σ (conj f (goes (is_some m) t own)) e r

-- a round: g, or f and that
pub record RoundPre (L : Limits) (W : View) (stack bs : List ℕ) (c : Context) (middle t x : ℕ) : Type 0 where
  pub room : c.held + 2 * c.depth < stack_size
  pub scene : Scene
  pub left : Form
  pub right : Form
  pub end : ℕ
  pub ready : Ready L W stack c.places c.held scene
  pub first : Part Runs L.bits bs c.at c.depth scene.scope (holds_reg scene) (holds_rel scene) left middle
  pub second : Part Runs L.bits bs middle c.depth scene.scope (holds_reg scene) (holds_rel scene) right end
  pub relation : holds_rel scene t ≡ true
  pub current : Current L W scene x

pub record RoundPost (L : Limits) (W X : View) (stack after bs : List ℕ)
    (c : Context) (middle : ℕ) (m : Mode) (t x : ℕ) (r : Result Value Stopped) : Type 0 where
  pub answers : (σ : Scene) (f g : Form) (e : ℕ) → Ready L W stack c.places c.held σ
      → Part Runs L.bits bs c.at c.depth σ.scope (holds_reg σ) (holds_rel σ) f middle
      → Part Runs L.bits bs middle c.depth σ.scope (holds_reg σ) (holds_rel σ) g e → holds_rel σ t ≡ true → Current L W σ x
      → Answers true L W X stack after c.held c.count σ (round_form m t f g) e r

-- ---- the rounds of a body: of a binder's formula, or of until

-- until is mu X
abbrev pub fix_of : Body → Fix
fix_of (Binder x P) = x
fix_of (Until m t middle) = Mu

abbrev pub variable_of : Body → ℕ
variable_of (Binder x P) = P
variable_of (Until m t middle) = own

-- f is a round of until, whose parts stand in the bytes
pub record UntilParts (n : ℕ) (bs : List ℕ) (at depth : ℕ) (scope : List Bool)
    (regs rels : ℕ → Bool) (m : Mode) (t middle : ℕ) (f : Form) (e : ℕ) : Type 0 where
  pub left : Form
  pub right : Form
  pub is-round : f ≡ round_form m t left right
  pub first : Part Runs n bs at depth scope regs rels left middle
  pub second : Part Runs n bs middle depth scope regs rels right e
  pub relation : rels t ≡ true

abbrev pub PartsOf : ℕ → List ℕ → ℕ → ℕ → List Bool → (ℕ → Bool) → (ℕ → Bool) → Body → Form → ℕ → Type 0
PartsOf n bs at depth scope regs rels (Binder x P) f e = Part Runs n bs at depth scope regs rels f e
PartsOf n bs at depth scope regs rels (Until m t middle) f e = UntilParts n bs at depth scope regs rels m t middle f e

-- f is what a round evaluates
pub record BodyPart (n : ℕ) (bs : List ℕ) (at depth : ℕ) (scope : List Bool)
    (regs rels : ℕ → Bool) (b : Body) (f : Form) (e : ℕ) : Type 0 where
  pub parts : PartsOf n bs at depth scope regs rels b f e

-- where f stands, until's g begins after it
pub record UntilPost (L : Limits) (bs : List ℕ) (c : Context) (m : Mode) (t : ℕ) (b : Body) : Type 0 where
  pub says : (f : Form) (k : ℕ) → Stands L.bits Runs bs c.at c.depth f k → b ≡ Until m t k

-- one round, x being the current set
abbrev pub BodyAsks : Limits → View → List ℕ → List ℕ → Context → Body → ℕ → Type 0
BodyAsks L W stack bs c (Binder y P) x = EvalPre Runs L W stack bs c
BodyAsks L W stack bs c (Until m t middle) x = RoundPre L W stack bs c middle t x

pub record TurnPre (L : Limits) (W : View) (stack bs : List ℕ) (c : Context) (b : Body) (x : ℕ) : Type 0 where
  pub asks : BodyAsks L W stack bs c b x

abbrev pub BodySays : Limits → View → View → List ℕ → List ℕ → List ℕ → Context → Body → ℕ → Result Value Stopped → Type 0
BodySays L W X stack after bs c (Binder y P) x r = EvalPost Runs L W X stack after bs c r
BodySays L W X stack after bs c (Until m t middle) x r = RoundPost L W X stack after bs c middle m t x r

pub record TurnPost (L : Limits) (W X : View) (stack after bs : List ℕ) (c : Context) (b : Body) (x : ℕ)
    (r : Result Value Stopped) : Type 0 where
  pub says : BodySays L W X stack after bs c b x r

-- all rounds: mu or nu of f
pub record BindPre (L : Limits) (W : View) (stack bs : List ℕ) (c : Context) (b : Body) : Type 0 where
  pub room : c.held + 2 * c.depth + 1 < stack_size
  pub scene : Scene
  pub form : Form
  pub end : ℕ
  pub ready : Ready L W stack c.places c.held scene
  pub part : BodyPart L.bits bs c.at c.depth (set scene.scope (variable_of b) true) (holds_reg scene) (holds_rel scene) b form end

pub record BindPost (L : Limits) (W X : View) (stack after bs : List ℕ) (c : Context) (b : Body) (r : Result Value Stopped) : Type 0 where
  pub answers : (σ : Scene) (f : Form) (e : ℕ) → Ready L W stack c.places c.held σ
      → BodyPart L.bits bs c.at c.depth (set σ.scope (variable_of b) true) (holds_reg σ) (holds_rel σ) b f e
      → Answers true L W X stack after c.held c.count σ (binder_form (fix_of b) (variable_of b) f) e r
