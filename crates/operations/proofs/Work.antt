-- Laws of what specs/Work.antt defines. Assumes nothing.
use mathlib.Core.Path.{◌≡◌, refl, sym, ap, ◌∙◌, subst}
use Prim.Native.Nat.{ℕ, suc, ◌*◌, ◌<◌}
use native.Mathlib.Omega.{arith}
use Rattle.diagram.specs.Level.{Val, Fn}
use Rattle.diagram.proofs.Level.{Reads}
use Rattle.diagram.specs.Rows.{Rows, flip, level_of, WellFormed}
use Rattle.diagram.proofs.Canon.{reads_level}
use Rattle.diagram.specs.Post.{Denotes, OpPost, Making}
use Rattle.diagram.proofs.Post.{low-full, high-full, made, denotes_extends, post-arrow, post_cong, post-flip}
use Rattle.diagram.specs.Steps.{bit_f, not_f}
use Rattle.diagram.proofs.Recur.{Divides, divided, bit-made}
use Rattle.layout.specs.Places.{BITS}
use Rattle.layout.specs.View.{View}
use Rattle.rows.specs.Used.{rows_of}
use Rattle.rows.specs.Lookup.{Room}
use Rattle.rows.specs.Sound.{Good}
use Rattle.rows.proofs.Alike.{alike_good}
use Rattle.table.specs.Add.{Frame, Fit}
use Rattle.table.specs.Make.{result, MakePre, MakePost}
use Rattle.table.proofs.FindLaws.{good-room}
use Rattle.table.proofs.Keep.{made_extends}
use Rattle.std.specs.Prelude.{Some, Result, Ok, Err}
use Rattle.table.specs.declared.Full.{Full}
use Rattle.memory.specs.Frame.{MemoFrame}
use Rattle.memory.proofs.Frame.{rows_same, memo_alike}
use Rattle.memory.specs.Memo.{Remembers}
use Rattle.memory.proofs.Memo.{remembers_extends}
use Rattle.operations.specs.Work.{OpFrame, Ready, Known, Worked}

pub op_refl : (W : View) → OpFrame W W
op_refl W = record { rows = refl; size = refl; header = λ h _ _ _ _. refl; spare = λ j k _. refl; beyond = refl }

pub op_trans : {U W X : View} → OpFrame U W → OpFrame W X → OpFrame U X
op_trans p q = record {
  rows = q.rows ∙ p.rows;
  size = q.size ∙ p.size;
  header = λ h a b c d. q.header h a b c d ∙ p.header h a b c d;
  spare = λ j k l. q.spare j k l ∙ p.spare j k l;
  beyond = q.beyond ∙ p.beyond;
}

pub op_made : {W X : View} → Frame W X → OpFrame W X
op_made f =
    record {
      rows = f.rows;
      size = f.size;
      header = λ h a b _ _. f.header h a b;
      spare = λ j k l. f.memo j k (omega arith);
      beyond = f.beyond;
    }

pub op_memo : {W X : View} → MemoFrame W X → OpFrame W X
op_memo f =
    record {
      rows = f.rows;
      size = f.size;
      header = λ h _ _ a b. f.header h a b;
      spare = λ j k l. f.cell j k (omega arith) (omega arith);
      beyond = f.beyond;
    }

pub known_at : {m : ℕ} {W : View} {x : ℕ} {F : Fn} {R : Type 0} → Denotes m (rows_of W) x F → Known m W (Some x) F R
known_at {m} {W} {x} {F} d = record {
  at = λ v e. let z : x ≡ v = cc in subst (λ (a : ℕ). Denotes m (rows_of W) a F) z d;
  none = λ e. absurd (let z : ◌≡◌ {A = ℕ} 0 1 = cc in omega arith);
}

module _ {m N limit : ℕ} {W : View} (r : Ready m N limit W) where
  pub ready-wf : WellFormed m N (rows_of W)
  ready-wf = rw (r.levels-is, r.rows_is) r.good.rows

  pub ready-room : Room W
  ready-room = good-room W r.good

  -- the table is ready for the next operation
  pub ready-frame : {X : View} → OpFrame W X → Good X → Remembers m X → Ready m N limit X
  ready-frame f g k = record {
    good = g;
    memory = k;
    levels-is = r.levels-is ∙ ap (λ (b : ℕ). 2 * b) (sym (f.header BITS (omega arith) (omega arith) (omega arith) (omega arith)));
    rows_is = r.rows_is ∙ sym f.rows;
    limit-le = r.limit-le;
  }

  pub ready-next : {X : View} {o : Result ℕ Full} {F : Fn} → Worked m N limit W X o F → Ready m N limit X
  ready-next w = ready-frame w.frame w.good w.memory

  -- an answer that is there already
  pub worked_there : {a : ℕ} {F : Fn} → Denotes m (rows_of W) a F → Worked m N limit W W (Ok a) F
  worked_there d = record { good = r.good; memory = r.memory; frame = op_refl W; post = post-arrow ready-wf d }

  -- to look up what is known takes no rows
  pub ready-look : Ready m N 0 W
  ready-look = record { good = r.good; memory = r.memory; levels-is = r.levels-is; rows_is = r.rows_is; limit-le = omega arith }

  -- what the making of a row asks
  pub make-pre : {l lo hi : ℕ} → Fit m (rows_of W) l lo hi → MakePre W limit l lo hi
  make-pre {l} {lo} {hi} f =
      record {
        good = r.good;
        limit-le = rw (← r.rows_is) r.limit-le;
        fit = subst (λ (k : ℕ). Fit k (rows_of W) l lo hi) r.levels-is f;
      }

  pub making : {X : View} {l lo hi : ℕ} {o : Result ℕ Full} → MakePost W X limit l lo hi o
      → Making m N limit (rows_of W) (rows_of X) l lo hi (result o)
  making p = rw (r.levels-is, r.rows_is) p.made

  -- what making a row leaves
  pub worked_made : {X : View} {l lo hi : ℕ} {o : Result ℕ Full} {F : Fn} → MakePost W X limit l lo hi o
      → OpPost m N limit (rows_of W) (rows_of X) (result o) F → Worked m N limit W X o F
  worked_made p q =
      record {
        good = p.good;
        memory = remembers_extends ready-wf q.kept p.frame p.keys r.memory;
        frame = op_made p.frame;
        post = q;
      }

-- NOT of what was made
module _ {m N limit : ℕ} {W X : View} {F : Fn} where
  pub worked_not_full : {e f : Full} → Worked m N limit W X (Err e) F → Worked m N limit W X (Err f) (not_f F)
  worked_not_full w = record { good = w.good; memory = w.memory; frame = w.frame; post = post-flip w.post }

  pub worked_not : {r s : ℕ} → Worked m N limit W X (Ok r) F → s ≡ flip r → Worked m N limit W X (Ok s) (not_f F)
  worked_not w e = rw e (record { good = w.good; memory = w.memory; frame = w.frame; post = post-flip w.post })

-- a bit is one row
module _ {m N limit : ℕ} {W : View} (r : Ready m N limit W) (l : ℕ) (h : l < m) where
  pub bit_worked : {X : View} {o : Result ℕ Full} → MakePost W X limit l 0 1 o → Worked m N limit W X o (bit_f l)
  bit_worked p = worked_made r p (bit-made (ready-wf r) h (making r p))

-- the promise for a function is one for each with the same values
pub worked_cong : {m N limit : ℕ} {W X : View} {o : Result ℕ Full} {F G : Fn} → ((v : Val) → F v ≡ G v) → Worked m N limit W X o F
    → Worked m N limit W X o G
worked_cong e w = record { good = w.good; memory = w.memory; frame = w.frame; post = post_cong e w.post }

-- remembering changes no row
pub worked_kept : {m N limit : ℕ} {W X Y : View} {o : Result ℕ Full} {F : Fn} → Worked m N limit W X o F → MemoFrame X Y → Remembers m Y
    → Worked m N limit W Y o F
worked_kept {m} {N} {limit} {W} {o = o} {F = F} w f g = record {
  good = alike_good (memo_alike f) w.good;
  memory = g;
  frame = op_trans w.frame (op_memo f);
  post = subst (λ (t : Rows). OpPost m N limit (rows_of W) t (result o) F) (sym (rows_same f)) w.post;
}

-- an operation for F by two calls, for F0 and then for F1, and the making of a row at level l
module _ {m N limit : ℕ} {W : View} {l : ℕ} {F F0 : Fn} {F1 : Rows → Fn} (r : Ready m N limit W) (d : Divides m (rows_of W) l F F0 F1) where
  -- the rows run out in the first call
  pub low_stops : {X : View} {e f : Full} → Worked m N limit W X (Err e) F0 → Worked m N limit W X (Err f) F
  low_stops w = record { good = w.good; memory = w.memory; frame = w.frame; post = divided d (low-full w.post) }

  module _ {X₁ : View} {x : ℕ} (first : Worked m N limit W X₁ (Ok x) F0) where
    -- in the second
    pub high_stops : {X₂ : View} {e f : Full} → Worked m N limit X₁ X₂ (Err e) (F1 (rows_of X₁)) → Worked m N limit W X₂ (Err f) F
    high_stops w =
        record {
          good = w.good;
          memory = w.memory;
          frame = op_trans first.frame w.frame;
          post = divided d (high-full first.post w.post);
        }

    module _ {X₂ : View} {y : ℕ} (second : Worked m N limit X₁ X₂ (Ok y) (F1 (rows_of X₁))) where
      deeper : (a : ℕ) (G : Fn) → Reads (suc l) m G → Denotes m (rows_of X₂) a G → l < level_of m (rows_of X₂) a
      deeper a G s p = reads_level second.post.wf (suc l) a d.shallow p.arrow (λ v w h. p.same v ∙ s v w h ∙ sym (p.same w))

      low-denotes : Denotes m (rows_of X₂) x F0
      low-denotes = denotes_extends first.post.wf second.post.kept first.post.result

      high-denotes : Denotes m (rows_of X₂) y (F1 (rows_of W))
      high-denotes =
          let q = second.post.result in record { arrow = q.arrow; same = λ v. q.same v ∙ d.stable (rows_of X₁) first.post.kept v }

      ready₂ : Ready m N limit X₂
      ready₂ = ready-next (ready-next r first) second

      -- both answer: what the making of the row asks, and what it leaves
      pub row-pre : MakePre X₂ limit l x y
      row-pre = make-pre ready₂ (record {
        shallow = d.shallow;
        low-arrow = low-denotes.arrow;
        high-arrow = high-denotes.arrow;
        low_deeper = deeper x F0 d.splits.reads0 low-denotes;
        high_deeper = deeper y (F1 (rows_of W)) d.splits.reads1 high-denotes;
      })

      pub row_made : {X₃ : View} {o : Result ℕ Full} → MakePost X₂ X₃ limit l x y o → Worked m N limit W X₃ o F
      row_made p =
          let q = divided d (made first.post second.post (making ready₂ p)) in
          record {
            good = p.good;
            memory = remembers_extends second.post.wf (made_extends p.made) p.frame p.keys second.memory;
            frame = op_trans first.frame (op_trans second.frame (op_made p.frame));
            post = q;
          }
