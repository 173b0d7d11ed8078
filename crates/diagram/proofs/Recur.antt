-- The recursive steps meet the side conditions of `compose`: which two calls and which level make AND, OR, SHIFT and EXISTS.
-- NOT is no call. Assumes nothing.
use mathlib.Core.Path.{◌≡◌, sym, ap, ◌∙◌, subst₂, fun_ext}
use mathlib.Core.Bool.{Bool, true, false, true≢false}
use mathlib.Core.Logic.{◌≢◌}
use Prim.Native.Nat.{ℕ, zero, suc, ◌<◌, ◌%◌}
use native.Mathlib.Omega.{arith}
use lib.Dec.{eqb→eq}
use Rattle.diagram.specs.Level.{Val, Fn, upd}
use Rattle.diagram.proofs.Level.{T_false, Splits, Reads, reads_from, splits_low, splits_high}
use Rattle.diagram.specs.Rows.{Rows, Leads, Arrow, level_of, follow, den, WellFormed, Extends}
use Rattle.diagram.proofs.Den.{den-zero, den-one, den_reads, arrow_splits, follow-arrow}
use Rattle.diagram.proofs.Grow.{den_extends}
use Rattle.diagram.specs.Post.{Result, at, Denotes, OpPost, Making}
use Rattle.diagram.proofs.Post.{Run, denotes_extends, post-arrow, post-make, post_cong, compose}
use Rattle.diagram.specs.Steps.{bit_f, two_f, or_f, shift_f, exists_f}
use Rattle.diagram.proofs.Steps.{bit_splits, exists-past, shift_reads, two_splits, shift_splits, exists_splits, exists-here, Parts}
use Rattle.diagram.specs.Even.{ReadsOn, even}
use Rattle.diagram.proofs.Even.{cofactor_reads_on, row-level-read, even_reads}

-- Where no call is made: the answer is an arrow that is there already.
module _ {m N : ℕ} {rows : Rows} (wf : WellFormed m N rows) where
  answer-arrow : {limit : ℕ} (a : ℕ) (F : Fn) → Arrow rows a → ((v : Val) → den m rows a v ≡ F v) → OpPost m N limit rows rows (at a) F
  answer-arrow a F u e = post-arrow wf (record { arrow = u; same = e })

  pub answer-same : {limit : ℕ} (a : ℕ) (F : Fn) → Arrow rows a → ((v : Val) → F v ≡ den m rows a v) → OpPost m N limit rows rows (at a) F
  answer-same a F u e = answer-arrow a F u (λ v. sym (e v))

  -- EXISTS at a level less than the arrow's.
  pub exists-leaf : {limit : ℕ} (x a : ℕ) → Arrow rows a → x < level_of m rows a
      → OpPost m N limit rows rows (at a) (exists_f x (den m rows a))
  exists-leaf x a u h = answer-same a (exists_f x (den m rows a)) u (exists-past x h (den_reads wf m a u))

-- The step that makes a bit.
pub bit-made : {m N limit l : ℕ} {before after : Rows} {answer : Result} → WellFormed m N before → l < m
    → Making m N limit before after l 0 1 answer
    → OpPost m N limit before after answer (bit_f l)
bit-made {m} {before = before} wf lm r =
    post-make wf lm (bit_splits m _) (record { arrow = tt; same = λ v. den-zero m before v })
    (record { arrow = tt; same = λ v. den-one m before v }) r

-- A remembered result stays right while rows are only added.
pub remembered : {m N : ℕ} {old new : Rows} (G : Fn → Fn → Fn) (a b r : ℕ) → WellFormed m N old → Extends old new → Arrow old a
    → Arrow old b
    → Denotes m old r (G (den m old a) (den m old b)) → Denotes m new r (G (den m new a) (den m new b))
remembered {m} {old = old} {new = new} G a b r wf e ua ub d =
    let ea : den m old a ≡ den m new a = fun_ext (λ v. sym (den_extends e wf m a ua v)) in
    let eb : den m old b ≡ den m new b = fun_ext (λ v. sym (den_extends e wf m b ub v)) in
    subst₂ (λ f g. Denotes m new r (G f g)) ea eb (denotes_extends wf e d)

-- F is made at level l of what two calls compute: F0, and F1, which says it of the table that it starts from.
pub record Divides (m : ℕ) (before : Rows) (l : ℕ) (F F0 : Fn) (F1 : Rows → Fn) : Type 0 where
  pub shallow : l < m
  pub splits : Splits m l F F0 (F1 before)
  pub stable : (mid : Rows) → Extends before mid → (v : Val) → F1 mid v ≡ F1 before v

-- The two calls and a row make F.
pub divided : {m N limit l : ℕ} {before after : Rows} {answer : Result} {F F0 : Fn} {F1 : Rows → Fn} → Divides m before l F F0 F1
    → Run m N limit before after l F0 F1 answer → OpPost m N limit before after answer F
divided d r = compose d.shallow d.splits d.stable r

-- Operations on an arrow a at a level l no greater than its own, where its parts are x and y.
module _ {m N l a x y : ℕ} {before : Rows} (wf : WellFormed m N before) (lm : l < m) (s : Parts m before l a x y) where
  -- AND and OR, by `op`.
  pub two_divides : (op : Bool → Bool → Bool) {b z w : ℕ} → Parts m before l b z w
      → Divides m before l (two_f op (den m before a) (den m before b)) (two_f op (den m before x) (den m before z))
      (λ t. two_f op (den m t y) (den m t w))
  two_divides op {w = w} t = record {
    shallow = lm;
    splits = two_splits s.splits op t.splits;
    stable = λ mid e v.
        let p = den_extends e wf m y s.high-arrow v in
        let q = den_extends e wf m w t.high-arrow v in
        cc (p, q);
  }

  -- EXISTS at a greater level k.
  pub exists_divides : (k : ℕ) → l < k
      → Divides m before l (exists_f k (den m before a)) (exists_f k (den m before x)) (λ t. exists_f k (den m t y))
  exists_divides k h = record {
    shallow = lm;
    splits = exists_splits s.splits k h;
    stable = λ mid e v.
        let p = den_extends e wf m y s.high-arrow (upd v k false) in
        let q = den_extends e wf m y s.high-arrow (upd v k true) in
        cc (p, q);
  }

-- EXISTS at the level of the parts is OR of them.
pub exists-or : {m N limit l a x y : ℕ} {before after : Rows} {answer : Result} → Parts m before l a x y
    → OpPost m N limit before after answer (or_f (den m before x) (den m before y))
    → OpPost m N limit before after answer (exists_f l (den m before a))
exists-or s p = post_cong (λ v. sym (exists-here s.splits v)) p

-- The number after an odd one is even.
odd-pred : (k : ℕ) → even (suc k) ≡ true → even k ≡ false
odd-pred k e =
    let h : suc k % 2 ≡ 0 = eqb→eq (suc k % 2) 0 (rw e tt) in
    T_false (even k) (λ t. let g : k % 2 ≡ 0 = eqb→eq (k % 2) 0 t in omega arith)

-- SHIFT of a function of even levels below m, an even number, reads levels below m.
pub shift_reads_all : {f : Fn} (m : ℕ) → even m ≡ true → ReadsOn even f → Reads 0 m f → Reads 0 m (shift_f f)
shift_reads_all zero em on r = λ v w h. r _ _ (λ l a b. absurd (omega arith))
shift_reads_all (suc k) em on r = reads_from 0 (omega arith) (shift_reads (even_reads 0 k (odd-pred k em) on r))

-- SHIFT at an arrow to row i, of a function of even levels, where m is even: the row that is made is one level further.
pub shift_divides : (m : ℕ) {N : ℕ} {before : Rows} (a i : ℕ) → Leads a i → even m ≡ true → (wf : WellFormed m N before)
    → before.used i ≡ true → ReadsOn even (den m before a)
    → Divides m before (suc (before.level i)) (shift_f (den m before a)) (shift_f (den m before (follow before a i false)))
    (λ t. shift_f (den m t (follow before a i true)))
shift_divides zero a i g em wf u on = absurd (let o = wf.ok i u in omega arith)
shift_divides (suc k) {before = before} a i g em wf u on =
    let o = wf.ok i u in
    let s = arrow_splits wf a i g u in
    let l = before.level i in
    let odd = odd-pred k em in
    let le : even l ≡ true = row-level-read wf even a i g u on in
    let ne : l ≢ k = λ e. true≢false (sym le ∙ ap even e ∙ odd) in
    let s' : Splits k l (den (suc k) before a) (den (suc k) before (follow before a i false))
    (den (suc k) before (follow before a i true)) = record {
      same = s.same;
      reads0 = even_reads (suc l) k odd (cofactor_reads_on on (splits_low s)) s.reads0;
      reads1 = even_reads (suc l) k odd (cofactor_reads_on on (splits_high s)) s.reads1;
    }
    in
    record {
      shallow = omega (arith, o.shallow);
      splits = shift_splits s';
      stable = λ mid e v. den_extends e wf (suc k) (follow before a i true) (follow-arrow wf a i g true u) (λ j. v (suc j));
    }
