-- SHIFT and EXISTS, by rows: what is known at once, what two calls make, and what a row remembers. Assumes nothing.
use mathlib.Core.Path.{◌≡◌, sym, ◌∙◌, subst, fun_ext}
use mathlib.Core.Bool.{true, false}
use mathlib.Core.Logic.{◌≢◌}
use Prim.Native.Nat.{ℕ, suc, ◌+◌, ◌%◌, ◌<◌}
use native.Mathlib.Omega.{arith}
use native.Mathlib.Numerals.{add-one}
use borrow.Author.Tests.{eq-eqb}
use Rattle.diagram.specs.Level.{Fn}
use Rattle.diagram.proofs.Level.{splits_low, splits_high}
use Rattle.diagram.specs.Rows.{Rows, target, Arrow, ArrowTo, level_of, level_to, den, Extends}
use Rattle.diagram.proofs.Rows.{leads-arrow, leads-level}
use Rattle.diagram.proofs.Den.{den_constant}
use Rattle.diagram.proofs.Grow.{den_extends}
use Rattle.diagram.specs.Even.{ReadsOn, even}
use Rattle.diagram.proofs.Even.{cofactor_reads_on}
use Rattle.diagram.specs.Post.{Denotes}
use Rattle.diagram.specs.Steps.{shift_f, exists_f, or_f}
use Rattle.diagram.proofs.Recur.{Divides, exists_divides, shift_divides, exists-or, exists-leaf}
use Rattle.layout.specs.View.{View}
use Rattle.layout.specs.Arrows.{is_row}
use Rattle.layout.proofs.Arrows.{no_row-leads}
use Rattle.rows.specs.Used.{rows_of}
use Rattle.std.specs.Prelude.{Option, Some, Result, Ok, Err}
use Rattle.table.specs.declared.Full.{Full}
use Rattle.memory.specs.Memo.{ODD, KINDS, unary_f, RowPost}
use Rattle.memory.proofs.Memo.{arrow-right}
use Rattle.memory.specs.Store.{keep_row}
use Rattle.memory.proofs.Store.{keep_row-frame, RightRow, remembers_row}
use Rattle.operations.specs.Work.{Ready, Known, Worked}
use Rattle.operations.proofs.Work.{known_at, ready-wf, worked_kept}
use Rattle.operations.proofs.Open.{RowAt, Opened}

-- m is even
pub even-levels : {m N limit : ℕ} {W : View} → Ready m N limit W → even m ≡ true
even-levels {m} r = let e = r.levels-is in let z : m % 2 ≡ 0 = omega arith in eq-eqb (m % 2) 0 z

-- SHIFT of the constants; EXISTS of them is a case of `exists-leaf`
shift_is : (m : ℕ) (rows : Rows) (a : ℕ) → target a ≡ 0 → Denotes m rows a (shift_f (den m rows a))
shift_is m rows a e =
    record {
      arrow = subst (ArrowTo rows) (sym e) tt;
      same = λ v. den_constant m rows a e v ∙ sym (den_constant m rows a e (λ l. v (suc l)));
    }

module _ {m N : ℕ} {W : View} {R : Type 0} (r : Ready m N 0 W) where
  pub shift_constant : (a : ℕ) → is_row a ≡ false → Known m W (Some a) (shift_f (den m (rows_of W) a)) R
  shift_constant a h = known_at (shift_is m (rows_of W) a (no_row-leads a h))

  -- EXISTS at x below the arrow's level
  exists_deeper : (x a : ℕ) → Arrow (rows_of W) a → x < level_of m (rows_of W) a → Known m W (Some a) (exists_f x (den m (rows_of W) a)) R
  exists_deeper x a u h = let p = exists-leaf (ready-wf r) {limit = 0} x a u h in known_at p.result

  pub exists_constant : (x a : ℕ) → x < m → Arrow (rows_of W) a → is_row a ≡ false → Known m W (Some a) (exists_f x (den m (rows_of W) a)) R
  exists_constant x a h u n = exists_deeper x a u (subst (λ (k : ℕ). x < level_to m (rows_of W) k) (sym (no_row-leads a n)) h)

  pub exists-past : {i l : ℕ} (x a : ℕ) → Arrow (rows_of W) a → RowAt (rows_of W) a i → l ≡ (rows_of W).level i → x < l
      → Known m W (Some a) (exists_f x (den m (rows_of W) a)) R
  exists-past x a u q e h = exists_deeper x a u (subst (λ (k : ℕ). x < k) (e ∙ sym (leads-level m (rows_of W) a _ q.leads)) h)

  -- what row i remembers for a
  pub row-known : {a i : ℕ} {f : Option ℕ} (kind : ℕ) → kind ≢ 0 → RowAt (rows_of W) a i → R → RowPost W a i kind f
      → Known m W f (unary_f kind (den m (rows_of W) a)) R
  row-known {a} kind n o x p = record {
    at = λ v e. (arrow-right kind a r.memory o.used n o.leads (rw e at p)).answer;
    none = λ e. x;
  }

module _ {m N limit : ℕ} {W : View} (r : Ready m N limit W) where
  -- the result is remembered by the operand's row
  pub row_kept : {X Y : View} {a i : ℕ} (kind : ℕ) (c : Result ℕ Full) → kind ≢ ODD → kind < KINDS → RowAt (rows_of W) a i
      → Worked m N limit W X c (unary_f kind (den m (rows_of W) a))
      → Y ≡ keep_row X a i kind c → Worked m N limit W Y c (unary_f kind (den m (rows_of W) a))
  row_kept {X} {a = a} {i = i} kind c n l p w e =
      subst (λ (v : View). Worked m N limit W v c (unary_f kind (den m (rows_of W) a))) (sym e)
      (worked_kept w (keep_row-frame X a i kind c)
      (remembers_row X a i kind c (omega (arith, l)) p.leads w.memory (right c w)))
    where
      right : (t : Result ℕ Full) → Worked m N limit W X t (unary_f kind (den m (rows_of W) a)) → RightRow m (rows_of X) a kind t
      right (Ok v) q =
          let u = leads-arrow (rows_of W) a i p.leads p.used in
          let e : den m (rows_of W) a ≡ den m (rows_of X) a = fun_ext (λ x. sym (den_extends q.post.kept (ready-wf r) m a u x)) in
          record { answer = subst (λ (f : Fn). Denotes m (rows_of X) v (unary_f kind f)) e q.post.result; covered = λ z. absurd (n z) }
      right (Err _) q = tt

-- what the two calls compute
module _ {m N limit : ℕ} {W : View} {a i l lo hi : ℕ} (r : Ready m N limit W) (o : Opened m (rows_of W) a i l lo hi) where
  pub exists-calls : (x : ℕ) → l < x
      → Divides m (rows_of W) l (exists_f x (den m (rows_of W) a)) (exists_f x (den m (rows_of W) lo)) (λ t. exists_f x (den m t hi))
  exists-calls x h = exists_divides (ready-wf r) o.shallow o.parts x h

  -- EXISTS at the row's level is OR of its arrows
  pub exists-own : {X : View} {t : Result ℕ Full} → Worked m N limit W X t (or_f (den m (rows_of W) lo) (den m (rows_of W) hi))
      → Worked m N limit W X t (exists_f l (den m (rows_of W) a))
  exists-own w = record { good = w.good; memory = w.memory; frame = w.frame; post = exists-or o.parts w.post }

  -- SHIFT, of a function of even levels
  module _ (on : ReadsOn even (den m (rows_of W) a)) where
    pub shift-calls : Divides m (rows_of W) (l + 1) (shift_f (den m (rows_of W) a)) (shift_f (den m (rows_of W) lo)) (λ t. shift_f (den m t hi))
    shift-calls =
        rw (add-one, o.words.level, o.words.low, o.words.high)
        (shift_divides m a i o.at.leads (even-levels r) (ready-wf r) o.at.used on)

    pub shift-low : ReadsOn even (den m (rows_of W) lo)
    shift-low = cofactor_reads_on on (splits_low o.parts.splits)

    pub shift-high : {new : Rows} → Extends (rows_of W) new → ReadsOn even (den m new hi)
    shift-high e =
        let q : ReadsOn even (den m (rows_of W) hi) = cofactor_reads_on on (splits_high o.parts.splits) in
        let d = den_extends e (ready-wf r) m hi o.parts.high-arrow in
        λ v w h. d v ∙ q v w h ∙ sym (d w)

-- the kind of EXISTS at x
pub exists-kind : (x : ℕ) (f : Fn) → unary_f (3 + x) f ≡ exists_f x f
exists-kind x f = let e : 3 + x ≡ suc (suc (suc x)) = omega arith in rw e

pub exists_known_lem : {m N : ℕ} {W : View} {a i : ℕ} {f : Option ℕ} {R : Type 0} (x : ℕ) → Ready m N 0 W → RowAt (rows_of W) a i → R
    → RowPost W a i (3 + x) f
    → Known m W f (exists_f x (den m (rows_of W) a)) R
exists_known_lem {m} {W = W} {a = a} {f = f} {R = R} x r q y p =
    subst (λ (g : Fn). Known m W f g R) (exists-kind x (den m (rows_of W) a)) (row-known r (3 + x) (omega arith) q y p)

module _ {m N limit : ℕ} {W : View} {a i : ℕ} (r : Ready m N limit W) (x : ℕ) (q : RowAt (rows_of W) a i) where
  pub exists-kept : {X Y : View} (c : Result ℕ Full) → x < 32 → Worked m N limit W X c (exists_f x (den m (rows_of W) a))
      → Y ≡ keep_row X a i (3 + x) c
      → Worked m N limit W Y c (exists_f x (den m (rows_of W) a))
  exists-kept {X} {Y} c l w e =
      let k = exists-kind x (den m (rows_of W) a) in
      subst (λ (f : Fn). Worked m N limit W Y c f) k
      (row_kept r (3 + x) c (omega arith) (omega (arith, l)) q (subst (λ (f : Fn). Worked m N limit W X c f) (sym k) w) e)
