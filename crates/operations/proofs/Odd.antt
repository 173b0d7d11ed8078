-- Laws of what specs/Odd.antt defines. Assumes nothing.
use mathlib.Core.Path.{◌≡◌, refl, sym, ap, ◌∙◌, subst, fun_ext}
use mathlib.Core.Bool.{true, false, ◌||◌}
use mathlib.Core.Logic.{◌≢◌}
use Prim.Native.Nat.{ℕ, suc, ◌%◌, ◌<◌}
use native.Mathlib.Omega.{arith}
use borrow.Author.Tests.{eq-eqb}
use Rattle.diagram.specs.Level.{Val, Fn}
use Rattle.diagram.proofs.Level.{Splits, Reads}
use Rattle.diagram.specs.Rows.{Rows, Arrow, level_of, follow, den, Extends, carry, marked}
use Rattle.diagram.proofs.Rows.{leads-arrow}
use Rattle.diagram.proofs.Grow.{extends_refl, extends_trans, arrow_extends, den_extends}
use Rattle.diagram.proofs.Canon.{reads_level}
use Rattle.diagram.specs.Post.{Denotes}
use Rattle.diagram.proofs.Post.{denotes_extends, post-make}
use Rattle.diagram.specs.Steps.{two_f, or_f}
use Rattle.diagram.specs.Odd.{odd_f, Covered}
use Rattle.diagram.proofs.OddLaws.{odd_constant as odd-of-constant, odd_even, odd-at, covered_extends, covered_constant, covered-row}
use Rattle.layout.specs.View.{View}
use Rattle.layout.specs.Arrows.{is_row}
use Rattle.layout.proofs.Arrows.{no_row-leads}
use Rattle.rows.specs.Used.{rows_of}
use Rattle.rows.proofs.Alike.{alike_good}
use Rattle.table.specs.Make.{MakePre, MakePost}
use Rattle.std.specs.Prelude.{Option, Some, Result, Ok, Err}
use Rattle.table.specs.declared.Full.{Full}
use Rattle.memory.specs.Frame.{MemoFrame}
use Rattle.memory.proofs.Frame.{rows_same, memo_alike}
use Rattle.memory.specs.Memo.{ODD, RightFor, RowPost}
use Rattle.memory.proofs.Memo.{arrow-right}
use Rattle.memory.specs.Store.{keep_row}
use Rattle.memory.proofs.Store.{keep_row-frame, RightRow, remembers_row}
use Rattle.operations.proofs.Work.{op_refl, op_trans, op_memo, ready-wf, ready-frame, make-pre, making, worked_made, worked_cong}
use Rattle.operations.specs.Work.{Ready, Worked}
use Rattle.operations.proofs.Open.{RowAt, Opened}
use Rattle.operations.specs.Odd.{Grown, OddPost, OddKnown, JoinPre, JoinPost, by-or, by_row}

module _ {m N limit : ℕ} {W : View} (r : Ready m N limit W) where
  pub grown-none : Grown m W W
  grown-none = record { good = r.good; memory = r.memory; frame = op_refl W; kept = extends_refl (rows_of W) }

  -- an arrow that is there already
  pub odd-there : {a v : ℕ} {f : Option ℕ} → f ≡ Some v → OddKnown m W a f → OddPost m W W a (Ok v)
  odd-there {v = v} e k = record {
    grown = grown-none;
    result = λ x q. k.at x (let z : v ≡ x = cc in e ∙ ap Some z);
    covered = λ x q. k.covered v e;
  }

  pub ready-grown : {X : View} → Grown m W X → Ready m N limit X
  ready-grown g = ready-frame r g.frame g.good g.memory

pub grown_trans : {m : ℕ} {U W X : View} → Grown m U W → Grown m W X → Grown m U X
grown_trans p q =
    record { good = q.good; memory = q.memory; frame = op_trans p.frame q.frame; kept = extends_trans p.kept q.kept }

pub grown_worked : {m N limit : ℕ} {W X : View} {o : Result ℕ Full} {F : Fn} → Worked m N limit W X o F → Grown m W X
grown_worked w = record { good = w.good; memory = w.memory; frame = w.frame; kept = w.post.kept }

-- the constants
pub odd_constant : {m : ℕ} {W : View} (a : ℕ) → is_row a ≡ false → OddKnown m W a (Some a)
odd_constant {m} {W} a h = record {
  at = λ v e. let z : a ≡ v = cc in
      subst (λ (x : ℕ). Denotes m (rows_of W) x (odd_f (den m (rows_of W) a))) z (odd-of-constant m (rows_of W) a (no_row-leads a h));
  covered = λ v e. covered_constant m (rows_of W) a (no_row-leads a h);
  none = λ e. absurd (let z : ◌≡◌ {A = ℕ} 0 1 = cc in omega arith);
}

-- what row i remembers for a
pub odd_remembered : {m N limit : ℕ} {W : View} {a i : ℕ} {f : Option ℕ} → Ready m N limit W → RowAt (rows_of W) a i → is_row a ≡ true
    → RowPost W a i ODD f → OddKnown m W a f
odd_remembered {m} {W = W} {a = a} {i = i} {f = f} r o h p = record {
  at = λ v e. (right v e).answer;
  covered = λ v e. (right v e).covered refl;
  none = λ e. h;
}
  where
    right : (v : ℕ) → f ≡ Some v → RightFor m (rows_of W) ODD a v
    right v e = arrow-right ODD a r.memory o.used (omega arith) o.leads (rw e at p)

-- a row: two calls, and OR or the making of a row
module _ {m N limit : ℕ} {W : View} {a i l lo hi : ℕ} (r : Ready m N limit W) (o : Opened m (rows_of W) a i l lo hi) where
  none_stops : {X : View} {e : Full} → Grown m W X → OddPost m W X a (Err e)
  none_stops {e = e} g = record { grown = g; result = λ x q. absurd (differ x q); covered = λ x q. absurd (differ x q) }
    where
      differ : (x : ℕ) → Err e ≡ Ok x → ⊥
      differ x q = let z : ◌≡◌ {A = ℕ} 0 1 = cc in omega arith

  pub odd_low_stops : {X : View} {e f : Full} → OddPost m W X lo (Err e) → OddPost m W X a (Err f)
  odd_low_stops p = none_stops p.grown

  module _ {X₁ : View} {x : ℕ} (p₁ : OddPost m W X₁ lo (Ok x)) where
    pub odd-high-pre : Ready m N limit X₁ × Arrow (rows_of X₁) hi
    odd-high-pre = (ready-grown r p₁.grown, arrow_extends p₁.grown.kept hi o.parts.high-arrow)

    pub odd_high_stops : {X₂ : View} {e f : Full} → OddPost m X₁ X₂ hi (Err e) → OddPost m W X₂ a (Err f)
    odd_high_stops p = none_stops (grown_trans p₁.grown p.grown)

    module _ {X₂ : View} {y : ℕ} (p₂ : OddPost m X₁ X₂ hi (Ok y)) where
      both : Grown m W X₂
      both = grown_trans p₁.grown p₂.grown

      ready₁ : Ready m N limit X₁
      ready₁ = ready-grown r p₁.grown

      ready₂ : Ready m N limit X₂
      ready₂ = ready-grown r both

      low-is : Denotes m (rows_of X₂) x (odd_f (den m (rows_of W) lo))
      low-is = denotes_extends (ready-wf ready₁) p₂.grown.kept (p₁.result x refl)

      high_is : Denotes m (rows_of X₂) y (odd_f (den m (rows_of W) hi))
      high_is =
          subst (λ (f : Fn). Denotes m (rows_of X₂) y (odd_f f))
          (fun_ext (den_extends p₁.grown.kept (ready-wf r) m hi o.parts.high-arrow)) (p₂.result y refl)

      -- at an odd level: OR
      odd-or : {X₃ : View} {t : Result ℕ Full} → l % 2 ≡ 1
          → Worked m N limit X₂ X₃ t (two_f ◌||◌ (den m (rows_of X₂) x) (den m (rows_of X₂) y))
          → Worked m N limit X₂ X₃ t (odd_f (den m (rows_of W) a))
      odd-or h w =
          let s = r.good.sizes.n_max in let e = r.levels-is in let k = o.shallow in
          worked_cong (λ v. sym (odd-at h (omega arith) o.parts.splits v ∙ sym (two v))) w
        where
          two : (v : Val)
              → two_f ◌||◌ (den m (rows_of X₂) x) (den m (rows_of X₂) y) v ≡ or_f (odd_f (den m (rows_of W) lo)) (odd_f (den m (rows_of W) hi)) v
          two v = let p = low-is.same v in let q = high_is.same v in cc (p, q)

      -- at an even level: a row
      module _ (h : l % 2 ≢ 1) where
        splits : Splits m l (odd_f (den m (rows_of W) a)) (odd_f (den m (rows_of W) lo)) (odd_f (den m (rows_of W) hi))
        splits = odd_even (let z : l % 2 ≡ 0 = omega arith in eq-eqb (l % 2) 0 z) o.parts.splits

        deeper : (b : ℕ) (G : Fn) → Reads (suc l) m G → Denotes m (rows_of X₂) b G → l < level_of m (rows_of X₂) b
        deeper b G s p = reads_level (ready-wf ready₂) (suc l) b o.shallow p.arrow (λ v w k. p.same v ∙ s v w k ∙ sym (p.same w))

        odd-make-pre : MakePre X₂ limit l x y
        odd-make-pre = make-pre ready₂ (record {
          shallow = o.shallow;
          low-arrow = low-is.arrow;
          high-arrow = high_is.arrow;
          low_deeper = deeper x _ splits.reads0 low-is;
          high_deeper = deeper y _ splits.reads1 high_is;
        })

        odd-made : {X₃ : View} {t : Result ℕ Full} → MakePost X₂ X₃ limit l x y t → Worked m N limit X₂ X₃ t (odd_f (den m (rows_of W) a))
        odd-made p = worked_made ready₂ p (post-make (ready-wf ready₂) o.shallow splits low-is high_is (making ready₂ p))

      pub odd_join-pre : JoinPre m N limit X₂ l x y
      odd_join-pre = record { ready = ready₂; low = low-is.arrow; high = high_is.arrow; make = odd-make-pre }

      pub odd-joined : {X₃ : View} {t : Result ℕ Full} → JoinPost m N limit X₂ X₃ l x y t
          → Worked m N limit X₂ X₃ t (odd_f (den m (rows_of W) a))
      odd-joined (by-or h w) = odd-or h w
      odd-joined (by_row h p) = odd-made h p

      -- the result is remembered by the row
      module _ {X₃ : View} (c : Result ℕ Full) (w : Worked m N limit X₂ X₃ c (odd_f (den m (rows_of W) a))) where
        whole : Grown m W X₃
        whole = grown_trans both (grown_worked w)

        value : (v : ℕ) → c ≡ Ok v → Denotes m (rows_of X₃) v (odd_f (den m (rows_of W) a))
        value v e = (rw e at w).post.result

        own : (v : ℕ) → c ≡ Ok v → Denotes m (rows_of X₃) v (odd_f (den m (rows_of X₃) a))
        own v q =
            let u = leads-arrow (rows_of W) a i o.at.leads o.at.used in
            let e : den m (rows_of W) a ≡ den m (rows_of X₃) a = fun_ext (λ v. sym (den_extends whole.kept (ready-wf r) m a u v)) in
            subst (λ (f : Fn). Denotes m (rows_of X₃) v (odd_f f)) e (value v q)

        cover : (v : ℕ) → c ≡ Ok v → Covered m (rows_of X₃) a
        cover v q =
            let el : follow (rows_of X₃) a i false ≡ lo = ap (carry (marked a)) (whole.kept.low i o.at.used) ∙ sym o.words.low in
            let eh : follow (rows_of X₃) a i true ≡ hi = ap (carry (marked a)) (whole.kept.high i o.at.used) ∙ sym o.words.high in
            let kl = covered_extends {a = lo} (ready-wf ready₁) (extends_trans p₂.grown.kept w.post.kept)
            (arrow_extends p₁.grown.kept lo o.parts.low-arrow) (p₁.covered x refl) in
            let kh = covered_extends {a = hi} (ready-wf ready₂) w.post.kept (arrow_extends both.kept hi o.parts.high-arrow)
            (p₂.covered y refl) in
            covered-row {b = v} o.at.leads (own v q) (subst (Covered m (rows_of X₃)) (sym el) kl)
            (subst (Covered m (rows_of X₃)) (sym eh) kh)

        right : (t : Result ℕ Full) → c ≡ t → RightRow m (rows_of X₃) a ODD t
        right (Ok v) e = record { answer = own v e; covered = λ q. cover v e }
        right (Err _) e = tt

        pub odd-kept : {Y : View} → Y ≡ keep_row X₃ a i ODD c → OddPost m W Y a c
        odd-kept {Y} e = subst (λ (Z : View). OddPost m W Z a c) (sym e) (record {
          grown = record {
            good = alike_good (memo_alike f) w.good;
            memory = remembers_row X₃ a i ODD c (omega arith) o.at.leads w.memory (right c refl);
            frame = op_trans whole.frame (op_memo f);
            kept = subst (Extends (rows_of W)) (sym (rows_same f)) whole.kept;
          };
          result = λ v q. subst (λ (t : Rows). Denotes m t v (odd_f (den m (rows_of W) a))) (sym (rows_same f)) (value v q);
          covered = λ v q. subst (λ (t : Rows). Covered m t a) (sym (rows_same f)) (cover v q);
        })
          where
            f : MemoFrame X₃ (keep_row X₃ a i ODD c)
            f = keep_row-frame X₃ a i ODD c
