-- "Steps of evaluation" as one list of ticks: each step with its need and each round, in order, without N and R; and the verdict on such a
-- list, which is the book's third rule word for word. Values are meanings. Assumes nothing.
use Rattle.std.specs.Prelude.{Bool, true, false, cond, List, [], ◌∷◌, ◌++◌, ℕ, zero, suc, ◌*◌, ◌^◌, max, leb, ltb}
use Rattle.std.proofs.Math.Option.{Option, none, some}
use Rattle.mucalculus.specs.Sets.{same}
use Rattle.mucalculus.specs.Order.{start}
use Rattle.mucalculus.specs.Form.{Form, bot, top, neg, conj, disj, now, next, var, reg, box, dia, mu, nu, until, Pairs, Model, Env, put}
use Rattle.mucalculus.specs.Means.{compl, inter, union, bit_states, always, sometimes, size, exist, related, means}
use Rattle.mucalculus.specs.Until.{further, onward}
use Rattle.accounts.specs.declared.Count.{Count}
use Rattle.accounts.specs.Count.{needing, another}
use Rattle.diagram.specs.Level.{Fn}
use Rattle.diagram.specs.Need.{step_need}
use Rattle.diagram.specs.Steps.{and_f, shift_f, exists_f}
use Rattle.book.specs.Bridge.{fn_of, fn_of_pairs}
use Rattle.book.specs.Over.{Over, states, pairs, bits_of, pair_f, value_f}

-- what an evaluation does, in order
pub data Tick : Type 0 where
  step : ℕ → Tick  -- a step, with its need
  round : Tick  -- the evaluation of a binder's body starts

-- ---- live functions and needs

-- the content of a filled place, in front
abbrev pub add_filled : {X : Type 0} → (X → Fn) → Option X → List Fn → List Fn
add_filled f none l = l
add_filled f (some x) l = f x ∷ l

-- the contents of the filled places below k
abbrev pub contents : {X : Type 0} → (X → Fn) → ℕ → (ℕ → Option X) → List Fn
contents f zero h = []
contents f (suc k) h = add_filled f (h 0) (contents f k (λ i. h (suc i)))

-- EXISTS at levels 2j − 1, 2j − 3, down to 1
abbrev pub exists_needs : ℕ → List Fn → ℕ → Fn → List ℕ
exists_needs n live zero F = []
exists_needs n live (suc j) F = let E = exists_f (suc (2 * j)) F in step_need (2 * n) (F ∷ live) E ∷ exists_needs n live j E

-- NOT of the value A
abbrev pub not_need : ℕ → List Fn → List Bool → ℕ
not_need n live A = step_need (2 * n) (fn_of n A ∷ live) (fn_of n (compl (2 ^ n) A))

-- AND or OR of the values A and B
abbrev pub two_need : ℕ → List Fn → (List Bool → List Bool → List Bool) → List Bool → List Bool → ℕ
two_need n live op A B = step_need (2 * n) (fn_of n B ∷ fn_of n A ∷ live) (fn_of n (op A B))

-- "each such bit and NOT, the NOTs of a box included, is followed by AND with V as a step": E is V
abbrev pub bit_needs : ℕ → List Fn → List Bool → ℕ → List ℕ
bit_needs n live E p = let B = bit_states (2 ^ n) p in step_need (2 * n) live (fn_of n B) ∷ two_need n live (inter (2 ^ n)) B E ∷ []

-- the needs of NOT: its own, and that of the AND with V after it
abbrev pub not_needs : ℕ → List Fn → List Bool → List Bool → List ℕ
not_needs n live E A = not_need n live A ∷ two_need n live (inter (2 ^ n)) (compl (2 ^ n) A) E ∷ []

-- "Diamond of f: SHIFT f, AND with the relation, EXISTS at levels 2n − 1, 2n − 3, down to 1", of functions of levels
abbrev pub diamond_needs : ℕ → List Fn → Fn → Fn → List ℕ
diamond_needs n live R F =
    let S = shift_f F in
    let C = and_f S R in
    step_need (2 * n) (F ∷ live) S ∷ step_need (2 * n) (S ∷ R ∷ live) C ∷ exists_needs n live n C

-- of the set A over the relation R
abbrev pub dia_needs : ℕ → List Fn → Pairs → List Bool → List ℕ
dia_needs n live R A = diamond_needs n live (fn_of_pairs n R) (fn_of n A)

-- "Box: NOT f, diamond, NOT"
abbrev pub box_needs : ℕ → List Fn → List Bool → Pairs → List Bool → List ℕ
box_needs n live E R A =
    let B = inter (2 ^ n) (compl (2 ^ n) A) E in
    not_needs n live E A ++ (dia_needs n live R B ++ not_needs n live E (sometimes (2 ^ n) R B))

-- ---- rounds and until, over states

-- steps and no round
abbrev pub steps : List ℕ → List Tick
steps [] = []
steps (k ∷ ks) = step k ∷ steps ks

-- the rounds of a binder from the set A on: the body's ticks at A are h A and its value is F A.
-- "If the value is the same set the binder ends with it, otherwise it becomes the current set"; j bounds the rounds
abbrev pub round_ticks : (List Bool → List Tick) → (List Bool → List Bool) → ℕ → List Bool → List Tick
round_ticks h F zero A = []
round_ticks h F (suc j) A = let B = F A in let more = round_ticks h F j B in round ∷ (h A ++ cond (same B A) [] more)

-- the steps after f in a round of until at the set A: those of diamond X, with `false` those of box X and diamond true, which is V
abbrev pub further_ticks : Bool → ℕ → List Fn → List Bool → Pairs → List Bool → List Tick
further_ticks true n live E R A = steps (dia_needs n live R A)
further_ticks false n live E R A =
    let B = inter (2 ^ n) (always (2 ^ n) R A) E in
    let D = sometimes (2 ^ n) R E in
    steps (box_needs n live E R A) ++ (steps (dia_needs n (fn_of n B ∷ live) R E) ++ steps (two_need n live (inter (2 ^ n)) B D ∷ []))

-- f and what follows, in a round of until at the set A: f's ticks are fs and its value is F
abbrev pub keep_ticks : ℕ → List Fn → Bool → List Bool → Pairs → List Bool → (List Fn → List Tick) → List Bool → List Tick
keep_ticks n live b E R F fs A =
    fs live ++ (further_ticks b n (fn_of n F ∷ live) E R A ++ steps (two_need n live (inter (2 ^ n)) F (further b (2 ^ n) R A) ∷ []))

-- a round of until at the set A: g's ticks are gs and its value is G
abbrev pub until_ticks : ℕ → List Fn → Bool → List Bool → Pairs → List Bool → List Bool → (List Fn → List Tick) → (List Fn → List Tick)
    → List Bool → List Tick
until_ticks n live b E R F G fs gs A =
    let held = fn_of n A ∷ live in
    gs held ++ (keep_ticks n (fn_of n G ∷ held) b E R F fs A
    ++ steps (two_need n held (union (2 ^ n)) G (inter (2 ^ n) F (further b (2 ^ n) R A)) ∷ []))

-- ---- ticks of a formula

-- NOT of f, over states within V
abbrev pub neg_needs : Over → List Fn → Form → List ℕ
neg_needs (states m e) live f = not_needs m.n live (exist m) (means m e f)
neg_needs (pairs n) live f = step_need (2 * n) (pair_f n f ∷ live) (pair_f n (neg f)) ∷ []

-- a current bit, over states within V
abbrev pub now_needs : Over → List Fn → ℕ → List ℕ
now_needs (states m e) live p = bit_needs m.n live (exist m) p
now_needs (pairs n) live p = step_need (2 * n) live (pair_f n (now p)) ∷ []

-- a next bit, which a formula of states does not have
abbrev pub next_needs : Over → List Fn → ℕ → List ℕ
next_needs (states m e) live p = []
next_needs (pairs n) live p = step_need (2 * n) live (pair_f n (next p)) ∷ []

-- AND or OR of f and g, which is h
abbrev pub join_need : Over → List Fn → Form → Form → Form → ℕ
join_need o live f g h = step_need (2 * bits_of o) (value_f o g ∷ value_f o f ∷ live) (value_f o h)

-- what the formulas of states alone have takes no step over pairs
abbrev pub of_states : {X : Type 0} → Over → X → (Model → Env → X) → X
of_states (states m e) x h = h m e
of_states (pairs n) x h = x

-- the ticks of f: "Left before right, parts before operator". `live` are the functions live throughout: V, filled registers and
-- relations, current sets of open binders, values made and not yet used. "True takes no step".
-- "Mu starts from the empty set", "nu starts from V"; a binder has ended after 2^n + 1 rounds, a larger bound gives the same ticks:
-- `ticks_cap` (Larger). "relation has no rounds"
abbrev pub ticks : Over → List Fn → Form → List Tick
ticks o live bot = []
ticks o live top = []
ticks o live (neg f) = ticks o live f ++ steps (neg_needs o live f)
ticks o live (conj f g) = ticks o live f ++ (ticks o (value_f o f ∷ live) g ++ steps (join_need o live f g (conj f g) ∷ []))
ticks o live (disj f g) = ticks o live f ++ (ticks o (value_f o f ∷ live) g ++ steps (join_need o live f g (disj f g) ∷ []))
ticks o live (now p) = steps (now_needs o live p)
ticks o live (next p) = steps (next_needs o live p)
ticks o live (var P) = []
ticks o live (reg x) = []
ticks o live (box t f) = of_states o [] (λ m e. ticks o live f ++ steps (box_needs m.n live (exist m) (related m t) (means m e f)))
ticks o live (dia t f) = of_states o [] (λ m e. ticks o live f ++ steps (dia_needs m.n live (related m t) (means m e f)))
ticks o live (mu P f) = of_states o [] (λ m e.
    round_ticks
    (λ A. ticks (states m (put e P A))
    (fn_of m.n A ∷ live) f) (λ A. means m (put e P A) f) (suc (size m)) (start true (size m) (exist m)))
ticks o live (nu P f) = of_states o [] (λ m e.
    round_ticks (λ A. ticks (states m (put e P A)) (fn_of m.n A ∷ live) f) (λ A. means m (put e P A) f) (suc (size m))
    (start false (size m) (exist m)))
-- "Steps and rounds are those of the formula written so": mu X (g or (f and diamond X)), or mu X (g or (f and (box X and diamond true)))
ticks o live (until b t f g) = of_states o [] (λ m e.
    let F = means m e f in
    let G = means m e g in
    let R = related m t in
    round_ticks (until_ticks m.n live b (exist m) R F G (λ l. ticks o l f) (λ l. ticks o l g)) (onward b (size m) R F G) (suc (size m))
    (start true (size m) (exist m)))

-- ---- a relation's steps

-- "A relation's formula is read as before, then ANDed with V, then with SHIFT of V": the three steps after the value F, W being V
abbrev pub within_needs : ℕ → List Fn → Fn → Fn → List ℕ
within_needs n live W F =
    let G = and_f F W in
    let S = shift_f W in
    step_need (2 * n) (W ∷ F ∷ live) G ∷ step_need (2 * n) (W ∷ G ∷ live) S ∷ step_need (2 * n) (S ∷ G ∷ live) (and_f G S) ∷ []

-- the steps of a relation call: those of its formula, then the three with V
abbrev pub relation_ticks : ℕ → List Fn → List Bool → Form → List Tick
relation_ticks n live E f = ticks (pairs n) live f ++ steps (within_needs n live (fn_of n E) (pair_f n f))

-- ---- the verdict

-- what becomes of a call's steps: all are counted, or the first cause to stop
pub data Verdict : Type 0 where
  counted : Count → Verdict  -- every step fits, and so much is counted
  full : Verdict  -- 8: a reached step needs more than N rows
  spent : Verdict  -- 9: a round is wanted when R are counted

-- "A reached step with a need above N is refusal 8; a round wanted beyond R before any such step is 9": the first in order decides, c being
-- counted before
abbrev pub verdict : ℕ → ℕ → Count → List Tick → Verdict
verdict N R c [] = counted c
verdict N R c (step k ∷ l) = let more = verdict N R (needing c k) l in cond (leb k N) more full
verdict N R c (round ∷ l) = let more = verdict N R (another c) l in cond (ltb c.rounds R) more spent

-- the needs of the steps within the rounds: of all that come before a round beyond R is wanted, whatever N is
abbrev pub within_rounds : ℕ → ℕ → List Tick → List ℕ
within_rounds R r [] = []
within_rounds R r (step k ∷ l) = k ∷ within_rounds R r l
within_rounds R r (round ∷ l) = let more = within_rounds R (suc r) l in cond (ltb r R) more []

-- the largest of some needs, 0 of none
abbrev pub peak : List ℕ → ℕ
peak [] = 0
peak (k ∷ ks) = max k (peak ks)

-- the needs of all steps
abbrev pub needs_in : List Tick → List ℕ
needs_in [] = []
needs_in (step k ∷ l) = k ∷ needs_in l
needs_in (round ∷ l) = needs_in l
