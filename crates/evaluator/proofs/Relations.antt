-- Box and diamond of a value, over a relation. Assumes nothing.
use Rattle.std.specs.Prelude.{Result}
use mathlib.Core.Path.{◌≡◌, refl, sym, ap, ◌∙◌, subst, fun_ext}
use mathlib.Core.Bool.{Bool, true}
use mathlib.Core.List.Memᴰ.{head as here}
use mathlib.Core.List.{List, [], ◌∷◌, Memᴰ as Mem}
use mathlib.Core.Option.{Option, some}
use Prim.Native.Nat.{ℕ, suc, ◌+◌, ◌*◌, ◌^◌, ◌<◌}
use native.Mathlib.Numerals.{add-one}
use native.Mathlib.Omega.{arith}
use lib.Dec.{ltb}
use borrow.Author.Tests.{ltb-true}
use lib.ListN.{length, take}
use Rattle.mucalculus.specs.Form.{Form, Pairs, inside}
use Rattle.mucalculus.specs.Means.{related}
use Rattle.mucalculus.specs.Exist.{Inside}
use Rattle.mucalculus.proofs.Exist.{related-inside, related_same}
use Rattle.tokens.specs.declared.Mode.{Mode}
use Rattle.tokens.specs.declared.Mode.TheVariants as mode
use Rattle.formula.specs.Parse.{modal_form}
use Rattle.accounts.specs.declared.Count.{Count}
use Rattle.layout.specs.Places.{VALID, FIRST_RELATION}
use Rattle.layout.specs.View.{View}
use Rattle.diagram.specs.Level.{Fn}
use Rattle.diagram.specs.Rows.{den}
use Rattle.diagram.specs.Post.{Denotes}
use Rattle.diagram.proofs.Keep.{keeps_within}
use Rattle.diagram.proofs.Reach.{reached_root}
use Rattle.diagram.specs.Even.{even}
use Rattle.diagram.proofs.Even.{reads_levels}
use Rattle.rows.specs.Used.{rows_of}
use Rattle.rows.specs.Within.{valid_of}
use Rattle.collect.specs.Lent.{live}
use Rattle.table.specs.Make.{result}
use Rattle.table.specs.declared.Full.{Full}
use Rattle.counting.specs.Taken.{made_in, count_in}
use Rattle.counting.specs.declared.Taken.{Taken}
use Rattle.book.specs.States.{now_of, next_of}
use Rattle.book.proofs.States.{now_of-lt}
use Rattle.book.specs.Bridge.{fn_of, fn_of_pairs}
use Rattle.book.proofs.Bridge.{fn_of-even}
use Rattle.book.specs.Book.{relations}
use Rattle.book.specs.Ticks.{diamond_needs}
use Rattle.book.specs.Diamond.{diamond_f}
use Rattle.book.specs.Run.{needing_all}
use Rattle.book.specs.Run.{fit}
use Rattle.book.proofs.Held.{denoted}
use Rattle.book.specs.Follow.{Evals}
use Rattle.book.proofs.Follow.{evals-same, evals_then, evals-from}
use Rattle.book.specs.Pairs.{PairEvals}
use Rattle.contract.specs.Seen.{arrow_in}
use Rattle.modal.specs.declared.Limits.{Limits}
use Rattle.modal.proofs.Chain.{alike_sym, held_alike, moved_trans}
use Rattle.modal.specs.Chain.{Moved}
use Rattle.modal.specs.Modal.{boxed_needs, boxed_f, Chained, ModalPre, BoxPre}
use Rattle.evaluator.specs.Scene.{evaluated}
use Rattle.evaluator.specs.Scene.{Scene, run_in, model_in, exist_in, Boxes, holds_rel, Ready, Answers, ended_in, from_taken, OverPost}
use Rattle.evaluator.specs.declared.Stopped.{Stopped}
use Rattle.evaluator.specs.declared.Value.{Value}
use Rattle.evaluator.proofs.Parts.{and_first, and_second}
use Rattle.evaluator.proofs.State.{valid-root, valid-read, lent-arrows, word_root, filled-place}
use Rattle.evaluator.proofs.Outcomes.{over_steps, run-modal, diamond-evals, box-evals}
use Rattle.evaluator.proofs.Steps.{answers-taken, value-evals, value-end, value_set, value-is, value-ready}

-- box asks of V what a sound table has, and is within the V that was read
pub box-asks : {n N limit : ℕ} {W : View} {lent : List ℕ} {t a : ℕ} (v : ℕ) → v + 1 ≡ W.header VALID → ModalPre n N limit W lent t a
    → BoxPre n N limit W lent v t a
box-asks {n} {W = W} {lent} v read p = record {
  valid = subst (λ (x : ℕ). Mem x (live W lent)) (sym (valid-read W v read)) (valid-root lent p.base.sound);
  states =
      reads_levels (rows_of W) even (v ∷ []) (p.base.sound.even VALID (omega arith) (omega arith) v (sym read ∙ add-one v)) (2 * n) v
      (reached_root (rows_of W) (v ∷ []) v (here refl));
  modal = p;
}

pub box_read : {n N limit : ℕ} {W X : View} {lent : List ℕ} {t a : ℕ} {q : Count} {o : Result Taken Full} (v : ℕ) → v + 1 ≡ W.header VALID
    → Boxes n N limit W X lent v t a q o → Boxes n N limit W X lent (valid_of W) t a q o
box_read {n} {N} {limit} {W} {X} {lent} {t} {a} {q} {o} v read b =
    subst (λ (x : ℕ). Boxes n N limit W X lent x t a q o) (valid-read W v read) b

module _ {L : Limits} {W X : View} {stack after places : List ℕ}
    {held : ℕ} {count : Count} {σ : Scene} {f : Form} {e : ℕ} {r : Result Value Stopped} (R : Ready L W stack places held σ)
    (A : Answers true L W X stack after held count σ f e r) (z : length after ≡ length stack) {a k : ℕ} {q : Count}
    (is : r ≡ evaluated a k q)
    (t : ℕ) (h : holds_rel σ t ≡ true) where
  R₁ : Ready L X after places held σ
  R₁ = value-ready R A z is

  pub rel-range : t < relations
  rel-range = ltb-true t relations (and_first (ltb t relations) _ h)

  content : (Q : Pairs) × (σ.rel t ≡ some Q) × (b : ℕ) × (X.header (FIRST_RELATION + t) ≡ suc b)
      × Denotes (2 * L.bits) (rows_of X) b (fn_of_pairs L.bits Q)
  content =
      filled-place (2 * L.bits) (rows_of X) (fn_of_pairs L.bits) (σ.rel t) (X.header (FIRST_RELATION + t))
      (and_second (ltb t relations) _ h) (R₁.rel t rel-range)

  pub rel-some : 0 < X.header (FIRST_RELATION + t)
  rel-some = let c = content.3 in omega arith

  module _ (x : ℕ) (arrow : x + 1 ≡ X.header (FIRST_RELATION + t)) where
    -- the relation's pairs are those that exist
    abbrev Q : Pairs
    Q = related (model_in L.bits σ) t

    pairs_in : Inside (2 ^ L.bits) (exist_in L.bits σ) Q
    pairs_in = related-inside (model_in L.bits σ) t

    pairs-same : fn_of_pairs L.bits content.0 ≡ fn_of_pairs L.bits Q
    pairs-same =
        let i : Inside (2 ^ L.bits) (exist_in L.bits σ)
        (inside (σ.rel t)) = subst (λ (o : Option Pairs). Inside (2 ^ L.bits) (exist_in L.bits σ) (inside o)) (sym content.1)
        (R₁.in-rel t content.0 content.1) in
        ap (λ (o : Option Pairs). fn_of_pairs L.bits (inside o)) (sym content.1)
        ∙ fun_ext
        (λ v. sym
        (related_same (model_in L.bits σ) t i (now_of L.bits v) (next_of L.bits v) (now_of-lt L.bits v)
        (now_of-lt L.bits (λ l. v (suc l)))))

    x_is : Denotes (2 * L.bits) (rows_of X) x (fn_of_pairs L.bits Q)
    x_is =
        let same : content.2 ≡ x = let c = content.3 in omega arith in
        subst (λ (F : Fn). Denotes (2 * L.bits) (rows_of X) x F) pairs-same
        (subst (λ (b : ℕ). Denotes (2 * L.bits) (rows_of X) b (fn_of_pairs L.bits content.0)) same content.4)

    pub over-asks : ModalPre L.bits L.rows L.limit X (take held after) x a
    over-asks = record {
      base = R₁.base;
      arrows = lent-arrows R₁;
      relation = word_root R₁ (FIRST_RELATION + t) x (omega arith) (let l = rel-range in omega arith) (ap arrow_in (sym arrow ∙ add-one x));
      operand = (value-is R A z is).arrow;
      even = λ v w g. (value-is R A z is).same v ∙ fn_of-even L.bits (value_set R A z is) v w g ∙ sym ((value-is R A z is).same w);
    }

    module _ (Y : View) (o : Result Taken Full) where
      -- a chain for F with these needs
      abbrev Chain : List ℕ → Fn → Type 0
      Chain needs F =
          PairEvals L.bits L.rows (rows_of X) (rows_of Y) σ.roots (fit L.limit needs) F (needing_all q needs) (result (made_in o))
          (count_in o)

      -- a chain over the relation and the set, as functions of levels
      as_sets : (needs : Fn → Fn → List ℕ) (op_f : Fn → Fn → Fn) (C : List Bool) → Denotes (2 * L.bits) (rows_of X) a (fn_of L.bits C)
          → Chained L.bits L.rows L.limit X Y (take held after)
          (needs (den (2 * L.bits) (rows_of X) x) (den (2 * L.bits) (rows_of X) a))
          (op_f (den (2 * L.bits) (rows_of X) x) (den (2 * L.bits) (rows_of X) a)) q o
          → Chain (needs (fn_of_pairs L.bits Q) (fn_of L.bits C)) (op_f (fn_of_pairs L.bits Q) (fn_of L.bits C))
      as_sets needs op_f C d p =
          let v = p.evals in
          let v1 : Chain (needs (den (2 * L.bits) (rows_of X) x) (den (2 * L.bits) (rows_of X) a))
          (op_f (den (2 * L.bits) (rows_of X) x) (den (2 * L.bits) (rows_of X) a)) =
          record { wf = v.wf; kept = keeps_within R₁.roots.from v.kept; result = v.result } in
          let v2 = subst (λ (F : Fn). Chain (needs F (den (2 * L.bits) (rows_of X) a)) (op_f F (den (2 * L.bits) (rows_of X) a)))
          (denoted x_is) v1 in
          subst (λ (F : Fn). Chain (needs (fn_of_pairs L.bits Q) F) (op_f (fn_of_pairs L.bits Q) F)) (denoted d) v2

      over-evals : (m : Mode) → OverPost m L.bits L.rows L.limit X Y (take held after) x a q o → (C : List Bool)
          → Denotes (2 * L.bits) (rows_of X) a (fn_of L.bits C)
          → Evals L.bits L.rows (rows_of X) (rows_of Y) σ.roots
          (over_steps m L.bits L.limit σ.fns (exist_in L.bits σ) Q C q) (ended_in o)
      over-evals mode.All p C d =
          let E = fn_of L.bits (exist_in L.bits σ) in
          let w = p.box σ.fns (held_alike (alike_sym R₁.roots) R₁.lives) in
          let w1 =
          subst (λ (G : Fn). Chained L.bits L.rows L.limit X Y (take held after)
          (boxed_needs L.bits σ.fns G (den (2 * L.bits) (rows_of X) x) (den (2 * L.bits) (rows_of X) a))
          (boxed_f L.bits G (den (2 * L.bits) (rows_of X) x) (den (2 * L.bits) (rows_of X) a)) q o) (denoted R₁.valid) w in
          box-evals L.limit σ.fns Q C o q (exist_in L.bits σ) pairs_in
          (as_sets (λ S F. boxed_needs L.bits σ.fns E S F) (boxed_f L.bits E) C d w1)
      over-evals mode.Some p C d =
          diamond-evals L.limit σ.fns Q C o q
          (as_sets (λ Q F. diamond_needs L.bits σ.fns Q F) (diamond_f L.bits) C d
          (p σ.fns (held_alike (alike_sym R₁.roots) R₁.lives)))

      over-moved : (m : Mode) → OverPost m L.bits L.rows L.limit X Y (take held after) x a q o → Moved L.bits X Y
      over-moved mode.All p = (p.box σ.fns (held_alike (alike_sym R₁.roots) R₁.lives)).moved
      over-moved mode.Some p = (p σ.fns (held_alike (alike_sym R₁.roots) R₁.lives)).moved

      pub over-ends : (m : Mode) {r' : Result Value Stopped} → OverPost m L.bits L.rows L.limit X Y (take held after) x a q o
          → r' ≡ from_taken k o
          → Answers true L W Y stack after held count σ (modal_form m t f) e r'
      over-ends m p is-r = answers-taken (modal_form m t f) k o (value-end R A z is) is-r (moved_trans A.moved (over-moved m p)) A.kept
          (evals-same (sym (run-modal (model_in L.bits σ) L.limit L.rounds σ.env σ.fns m t f count))
          (evals_then L.bits L.rows (run_in true L σ f count)
          (λ C p. over_steps m L.bits L.limit σ.fns (exist_in L.bits σ) (related (model_in L.bits σ) t) C p)
          (value-evals R A z is) (λ C d.
          evals-from L.bits L.rows A.evals.kept (λ b i. i) (over-evals m p C d))))
