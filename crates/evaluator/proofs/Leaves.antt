-- Leaves: constants, registers and variables take no step; a bit is one, and over states AND with V another. Assumes nothing.
use Rattle.std.specs.Prelude.{Result}
use mathlib.Core.Path.{◌≡◌, refl, sym, ap, ◌∙◌, subst}
use mathlib.Core.Bool.{Bool, true, false, cond, true≢false}
use mathlib.Core.List.Memᴰ.{not-nil as mem-nil}
use mathlib.Core.List.{List, []}
use mathlib.Core.Option.{Option, some}
use Prim.Native.Nat.{ℕ, suc, ◌+◌, ◌*◌, ◌^◌, ◌<◌}
use native.Mathlib.Numerals.{add-one}
use native.Mathlib.Omega.{arith}
use lib.Dec.{ltb}
use borrow.Author.Tests.{ltb-true}
use lib.ListN.{length, get_or}
use Rattle.mucalculus.specs.Sets.{no_states, all_states}
use Rattle.mucalculus.specs.Form.{Form, bot, top, now, next, var, reg, bound, inside, Model, Env}
use Rattle.mucalculus.specs.Means.{inter}
use Rattle.tokens.specs.Tokens.{is_states, only_now, leaf_allowed}
use Rattle.tokens.specs.declared.Grammar.{Grammar}
use Rattle.tokens.specs.declared.Grammar.TheVariants.{Pairs, States, Runs, Bits}
use Rattle.tokens.specs.declared.Leaf.{Leaf}
use Rattle.tokens.specs.declared.Leaf.TheVariants.{Now, Next, Var, Reg}
use Rattle.formula.specs.Parse.{leaf_form}
use Rattle.formula.specs.Checks.{filled}
use Rattle.accounts.specs.declared.Count.{Count}
use Rattle.layout.specs.Places.{VALID, FIRST_REGISTER}
use Rattle.layout.specs.View.{View}
use Rattle.diagram.specs.Level.{Fn}
use Rattle.diagram.specs.Rows.{Arrow}
use Rattle.diagram.proofs.Den.{den-zero, den-one}
use Rattle.diagram.specs.Post.{Denotes}
use Rattle.diagram.specs.Steps.{bit_f}
use Rattle.rows.specs.Used.{rows_of}
use Rattle.steps.specs.declared.Step.TheVariants as step
use Rattle.table.specs.declared.Full.{Full}
use Rattle.counting.specs.Taken.{taken, ran_out}
use Rattle.counting.specs.Counts.{CountsOf}
use Rattle.counting.proofs.After.{and-all}
use Rattle.counting.specs.declared.Taken.{Taken}
use Rattle.book.specs.Bridge.{fn_of}
use Rattle.book.proofs.Bridge.{fn_of-bit, pairs-now, pairs_next}
use Rattle.book.specs.Over.{pairs, size_of, all_pairs, levels, now_bit, next_bit}
use Rattle.book.proofs.Over.{levels-table, points_value}
use Rattle.book.specs.Book.{registers}
use Rattle.book.specs.Run.{value}
use Rattle.book.proofs.Follow.{evals-same, evals-leaf, evals-step, denotes_in}
use Rattle.modal.specs.declared.Limits.{Limits}
use Rattle.modal.proofs.Chain.{moved_refl, base-wf, Took, took}
use Rattle.evaluator.specs.Scene.{Scene, model_in, over_of, over_in, value_in, run_in, exist_in, holds_reg, holds_rel, Named, Ready}
use Rattle.evaluator.specs.Scene.{LeafAnswers, LivePre, LivePost, ConfinedPre, ConfinedTo, ConfinedPost, TrueBy, TrueIs}
use Rattle.evaluator.proofs.Parts.{and_first, and_second}
use Rattle.evaluator.proofs.State.{valid-read, in_scope, live-pre, filled-place}
use Rattle.evaluator.proofs.Outcomes.{run-now}
use Rattle.evaluator.proofs.Steps.{took_roots, took_evals, confined-asks, confined-ends}

module _ {L : Limits} {W : View} {stack places : List ℕ} {held : ℕ} {σ : Scene} (R : Ready L W stack places held σ) where
  -- a leaf that takes no step
  still : {on_states : Bool} {q : Count} (f : Form) (a : ℕ) (A : List Bool) → run_in on_states L σ f q ≡ value A q
      → Denotes (2 * L.bits) (rows_of W) a (value_in on_states L.bits σ A)
      → LeafAnswers on_states L W W q σ f (taken a q)
  still {on_states} {q} f a A e d = record {
    moved = moved_refl R.base;
    evals = evals-same (sym e) (evals-leaf L.bits L.rows q (base-wf R.base) R.lives d);
  }

  pub leaf-none : {on_states : Bool} {q : Count} → LeafAnswers on_states L W W q σ bot (taken 0 q)
  leaf-none {on_states} = let o = over_in on_states L.bits σ in
      still bot 0 (no_states (size_of o)) refl
      (record {
        arrow = tt;
        same = λ v. den-zero (2 * L.bits) (rows_of W) v ∙ sym (ap (λ (F : Fn). F v) (levels-table o (λ s. false)));
      })

  leaf-true : {x : ℕ} {q : Count} (on_states : Bool) → TrueBy on_states (W.header VALID) x
      → LeafAnswers on_states L W W q σ top (taken x q)
  leaf-true {x} true e =
      still top x (exist_in L.bits σ) refl
      (subst (λ (y : ℕ). Denotes (2 * L.bits) (rows_of W) y (fn_of L.bits (exist_in L.bits σ))) (sym (valid-read W x e)) R.valid)
  leaf-true {x} {q} false e = subst (λ (y : ℕ). LeafAnswers false L W W q σ top (taken y q)) (sym e)
      (still top 1 (all_states (all_pairs L.bits)) refl
      (record {
        arrow =
            tt;
        same = λ v. den-one (2 * L.bits) (rows_of W) v ∙ sym (ap (λ (F : Fn). F v) (levels-table (pairs L.bits) (λ s. true)));
      }))

  pub leaf-all : {on_states : Bool} {x : ℕ} {q : Count} → TrueIs on_states (W.header VALID) x
      → LeafAnswers on_states L W W q σ top (taken x q)
  leaf-all {on_states} e = leaf-true on_states e.says

  -- a variable
  module _ {P : ℕ} (h : Named σ.scope (holds_reg σ) (holds_rel σ) (var P)) where
    is_open : get_or σ.scope P false ≡ true
    unfolding bound
    is_open = h.is_bound

    pub var_slot : P < 16
    var_slot = let l = in_scope σ.scope P is_open in let v = R.vars in omega arith

    pub var_below : get_or places P 0 < length stack
    var_below = let w = (R.open_at P is_open).below in let a = R.within in let b = R.size in omega arith

    pub leaf_var : {q : Count} → LeafAnswers true L W W q σ (var P) (taken (get_or stack (get_or places P 0) 0) q)
    leaf_var =
        still (var P) _ (inter (2 ^ L.bits) (σ.env P) (exist_in L.bits σ)) refl
        (denotes_in L.bits L.rows (σ.env P) (exist_in L.bits σ) (R.in-env P is_open) (R.open_at P is_open).denotes)

  -- a register
  module _ {r : ℕ} (h : Named σ.scope (holds_reg σ) (holds_rel σ) (reg r)) where
    is_filled : holds_reg σ r ≡ true
    unfolding filled
    is_filled = h.is_filled

    pub reg-range : r < registers
    reg-range = ltb-true r registers (and_first (ltb r registers) _ is_filled)

    content : (A : List Bool) × (σ.reg r ≡ some A) × (a : ℕ) × (W.header (FIRST_REGISTER + r) ≡ suc a)
        × Denotes (2 * L.bits) (rows_of W) a (fn_of L.bits A)
    content =
        filled-place (2 * L.bits) (rows_of W) (fn_of L.bits) (σ.reg r) (W.header (FIRST_REGISTER + r))
        (and_second (ltb r registers) _ is_filled) (R.reg r reg-range)

    pub reg-some : 0 < W.header (FIRST_REGISTER + r)
    reg-some = let e = content.3 in omega arith

    pub leaf-reg : {x : ℕ} {q : Count} → x + 1 ≡ W.header (FIRST_REGISTER + r) → LeafAnswers true L W W q σ (reg r) (taken x q)
    leaf-reg {x} {q} e =
        let same : content.2 ≡ x = let c = content.3 in omega arith in
        let d = subst (λ (a : ℕ). Denotes (2 * L.bits) (rows_of W) a (fn_of L.bits content.0)) same content.4 in
        let E = exist_in L.bits σ in
        still (reg r) x (inter (2 ^ L.bits) content.0 E)
        (ap (λ (o : Option (List Bool)). value (inter (2 ^ L.bits) (inside o) E) q) content.1)
        (denotes_in L.bits L.rows content.0 E (R.in-reg r content.0 content.1) d)

-- a bit: its step, and for a current bit over states AND with V
module _ {L : Limits} {W : View} {stack places : List ℕ} {held : ℕ} {σ : Scene} (R : Ready L W stack places held σ)
    (x : ℕ) (l : x < 2 * L.bits) where
  pub bit-asks : LivePre L W stack held (step.Bit x)
  bit-asks = live-pre R l

  bit_took : {X : View} {q : Count} {o : Result Taken Full} → LivePost L W X stack held (step.Bit x) q o
      → Took L.bits L.rows L.limit W X σ.roots q o (bit_f x)
  bit_took {q = q} {o} s =
      took_roots [] R (λ a h. absurd (mem-nil h)) (took {q = q} {o = o} R.base bit-asks.asks s.stepped s.count)

  pub bit-confined : {X : View} {q : Count} {o : Result Taken Full} → LivePost L W X stack held (step.Bit x) q o
      → ConfinedPre L X stack held o
  bit-confined s = confined-asks R (λ a i. i) (bit_took s) s

-- current bit p is level 2p
now-exact : (on_states : Bool) (m : Model) (e : Env) (p : ℕ) → p < m.n
    → bit_f (2 * p) ≡ levels (over_of on_states m e) (now_bit (over_of on_states m e) p)
now-exact true m e p l = sym (fn_of-bit m.n p l)
now-exact false m e p l = sym (points_value m.n (now p) ∙ pairs-now m.n p l)

module _ {L : Limits} {W : View} {stack places : List ℕ} {held : ℕ} {σ : Scene} (R : Ready L W stack places held σ)
    {p : ℕ} (l : p < L.bits) {X : View} {q : Count} {o : Result Taken Full} where
  pub leaf-now : {on_states : Bool} → LivePost L W X stack held (step.Bit (2 * p)) q o → {Y : View} {u : Result Taken Full}
      → ConfinedPost on_states L X Y stack held o u → LeafAnswers on_states L W Y q σ (now p) u
  leaf-now {on_states} s c =
      let m = model_in L.bits σ in
      let w = confined-ends R (λ a i. i) R.lives (now_bit (over_in on_states L.bits σ) p) (now-exact on_states m σ.env p l)
      (bit_took R (2 * p) (omega arith) s) c in
      record { moved = w.moved; evals = evals-same (sym (run-now on_states m σ.env L.limit L.rounds σ.fns p q)) w.evals }

  -- next bit p is level 2p + 1, over pairs
  pub leaf-next : LivePost L W X stack held (step.Bit (2 * p + 1)) q o → LeafAnswers false L W X q σ (next p) o
  leaf-next s =
      let t = bit_took R (2 * p + 1) (omega arith) s in
      record {
        moved = t.moved;
        evals =
            took_evals t
            (evals-step L.bits L.rows (next_bit L.bits p) q (λ k. k) R.lives
            (ap bit_f (add-one (2 * p)) ∙ sym (points_value L.bits (next p) ∙ pairs_next L.bits p l)));
      }

-- by the leaf that stands there
pub as_leaf : {scope : List Bool} {regs rels : ℕ → Bool} {l : Leaf} (m : Leaf) → l ≡ m → Named scope regs rels (leaf_form l)
    → Named scope regs rels (leaf_form m)
as_leaf {scope} {regs} {rels} m e h = subst (λ (x : Leaf). Named scope regs rels (leaf_form x)) e h

pub leaf_as : {on_states : Bool} {L : Limits} {W X : View} {q : Count} {σ : Scene} {o : Result Taken Full} {l : Leaf} (m : Leaf) → l ≡ m
    → LeafAnswers on_states L W X q σ (leaf_form m) o → LeafAnswers on_states L W X q σ (leaf_form l) o
leaf_as {on_states} {L} {W} {X} {q} {σ} {o} m e h = subst (λ (x : Leaf). LeafAnswers on_states L W X q σ (leaf_form x) o) (sym e) h

-- what only one of the two takes
pub leaf-over : {on_states c : Bool} {L : Limits} {W X : View} {q : Count} {σ : Scene} {o : Result Taken Full} {f : Form} → on_states ≡ c
    → LeafAnswers c L W X q σ f o → LeafAnswers on_states L W X q σ f o
leaf-over {on_states} {c} {L} {W} {X} {q} {σ} {o} {f} e h = subst (λ (x : Bool). LeafAnswers x L W X q σ f o) (sym e) h

as_taken : (n : ℕ) (g : Grammar) {l : Leaf} (m : Leaf) → l ≡ m → leaf_allowed l n g ≡ true → leaf_allowed m n g ≡ true
as_taken n g m e h = subst (λ (x : Leaf). leaf_allowed x n g ≡ true) e h

pub now-taken : (n : ℕ) (g : Grammar) {l : Leaf} {p : ℕ} → l ≡ Now p → leaf_allowed l n g ≡ true → p < n
now-taken n g {p = p} e h = ltb-true p n (as_taken n g (Now p) e h)

pub next-taken : (n : ℕ) (g : Grammar) {l : Leaf} {p : ℕ} → l ≡ Next p → leaf_allowed l n g ≡ true → (p < n) × (only_now g ≡ false)
next-taken n g {p = p} e h = go (only_now g) (as_taken n g (Next p) e h)
  where
    go : (b : Bool) → cond b false (ltb p n) ≡ true → (p < n) × (b ≡ false)
    go true i = absurd (true≢false (sym i))
    go false i = (ltb-true p n i, refl)

states-now : (g : Grammar) → is_states g ≡ true → only_now g ≡ true
states-now Pairs h = absurd (true≢false (sym h))
states-now States h = refl
states-now Runs h = refl
states-now Bits h = refl

pub var_taken : (n : ℕ) (g : Grammar) {l : Leaf} {p : ℕ} → l ≡ Var p → leaf_allowed l n g ≡ true → only_now g ≡ true
var_taken n g {p = p} e h = states-now g (as_taken n g (Var p) e h)

pub reg-taken : (n : ℕ) (g : Grammar) {l : Leaf} {p : ℕ} → l ≡ Reg p → leaf_allowed l n g ≡ true → only_now g ≡ true
reg-taken n g {p = p} e h = states-now g (as_taken n g (Reg p) e h)

-- ---- `confined` and `truth`

pub valid-asked : {L : Limits} {W : View} {stack : List ℕ} {held : ℕ} {first : Result Taken Full} {x : ℕ} {q : Count}
    → first ≡ taken x q → (v : ℕ)
    → v + 1 ≡ W.header VALID → ConfinedPre L W stack held first
    → LivePre L W stack held (step.And x v)
valid-asked {W = W} {x = x} {q} e v read P =
    live-pre P.ready (P.arrow x q e, subst (Arrow (rows_of W)) (sym (valid-read W v read)) P.ready.valid.arrow)

module _ {on_states : Bool} {L : Limits} {W : View} {stack : List ℕ} {held : ℕ} {first : Result Taken Full} where
  pub confined-none : first ≡ ran_out → ConfinedPost on_states L W W stack held first ran_out
  confined-none e = subst (λ (x : Result Taken Full). ConfinedPost on_states L W W stack held x ran_out) (sym e)
      (record { to = go on_states })
    where
      go : (b : Bool) → ConfinedTo b L W W stack held ran_out ran_out
      go true = (refl, refl)
      go false = (refl, refl)

  module _ {x : ℕ} {q : Count} (e : first ≡ taken x q) where
    -- pairs are of all states
    pub confined-all : on_states ≡ false → ConfinedPost on_states L W W stack held first (taken x q)
    confined-all i =
        subst (λ (b : Bool). ConfinedPost b L W W stack held first (taken x q)) (sym i)
        (subst (λ (y : Result Taken Full). ConfinedPost false L W W stack held y (taken x q)) (sym e) (record { to = (refl, refl) }))

    module _ (v : ℕ) (read : v + 1 ≡ W.header VALID) where
      pub confined-valid : on_states ≡ true → {X : View} {u : Result Taken Full} → LivePost L W X stack held (step.And x v) q u
          → ConfinedPost on_states L W X stack held first u
      confined-valid i {X} {u} s =
          subst (λ (b : Bool). ConfinedPost b L W X stack held first u) (sym i)
          (subst (λ (y : Result Taken Full). ConfinedPost true L W X stack held y u) (sym e)
          (record { to = subst (λ (y : ℕ). LivePost L W X stack held (step.And x y) q u) (valid-read W v read) s }))

      -- V is every state: AND with it answers what the step before answered, and needs no more
      pub confined-known : {c : List ℕ} → on_states ≡ true → v ≡ 1 → ConfinedPre L W stack held first → CountsOf W c
          → ConfinedPost on_states L W W stack held first (taken x q)
      confined-known i one P k =
          let z = and-all P.before first e (P.told.stepped, k, P.told.count) (valid-asked e v read P).asks one in
          confined-valid i (record { stepped = z.0; count = z.2 })

pub truth-valid : {on_states : Bool} {w x : ℕ} → on_states ≡ true → x + 1 ≡ w → TrueIs on_states w x
truth-valid {w = w} {x} i e = subst (λ (b : Bool). TrueIs b w x) (sym i) (record { says = e })

pub truth-all : {on_states : Bool} {w : ℕ} → on_states ≡ false → TrueIs on_states w 1
truth-all {w = w} i = subst (λ (b : Bool). TrueIs b w 1) (sym i) (record { says = refl })
