-- Laws of what specs/Frame.antt defines. Assumes nothing.
use mathlib.Core.Path.{◌≡◌, refl, ap, sym, ◌∙◌, subst}
use mathlib.Core.Bool.{true}
use Prim.Native.Nat.{ℕ, ◌<◌}
use native.Mathlib.Omega.{arith}
use borrow.Author.Tests.{ne_eqb}
use Rattle.diagram.specs.Rows.{Rows}
use Rattle.layout.specs.Places.{BITS, ROWS, USED, LAYOUT, SLOTS, STORED, LOW, HIGH, LEVEL, RANK, MEMO_KEY, MEMO_VALUE}
use Rattle.layout.specs.View.{View, put_header, put_cell}
use Rattle.rows.specs.Used.{used, used_at, rows_of}
use Rattle.rows.specs.Index.{key_of}
use Rattle.rows.proofs.Alike.{Alike}
use Rattle.rows.specs.Lookup.{Room}
use Rattle.memory.specs.Frame.{set_slots, MemoFrame}

pub memo_refl : (W : View) → MemoFrame W W
memo_refl W = record { rows = refl; size = refl; header = λ h _ _. refl; cell = λ j k _ _. refl; list = refl; head = refl; beyond = refl }

pub memo_trans : {U W X : View} → MemoFrame U W → MemoFrame W X → MemoFrame U X
memo_trans p q = record {
  rows = q.rows ∙ p.rows;
  size = q.size ∙ p.size;
  header = λ h a b. q.header h a b ∙ p.header h a b;
  cell = λ j k a b. q.cell j k a b ∙ p.cell j k a b;
  list = q.list ∙ p.list;
  head = q.head ∙ p.head;
  beyond = q.beyond ∙ p.beyond;
}

-- the words that may be written
pub memo-slots : (W : View) (v : ℕ) → MemoFrame W (put_header W SLOTS v)
memo-slots W v =
    record {
      rows = refl;
      size = refl;
      header = λ h a b. rw (ne_eqb h 5 a);
      cell = λ j k _ _. refl;
      list = refl;
      head = refl;
      beyond = refl;
    }

pub memo-stored : (W : View) (v : ℕ) → MemoFrame W (put_header W STORED v)
memo-stored W v =
    record {
      rows = refl;
      size = refl;
      header = λ h a b. rw (ne_eqb h 6 b);
      cell = λ j k _ _. refl;
      list = refl;
      head = refl;
      beyond = refl;
    }

pub memo-set : (W : View) (f : ℕ → ℕ) → MemoFrame W (set_slots W f)
memo-set W f = record { rows = refl; size = refl; header = λ h _ _. refl; cell = λ j k _ _. refl; list = refl; head = refl; beyond = refl }

pub memo_key : (W : View) (i v : ℕ) → MemoFrame W (put_cell W i MEMO_KEY v)
memo_key W i v =
    record {
      rows = refl;
      size = refl;
      header = λ h _ _. refl;
      cell = λ j k a b. rw (ne_eqb k 5 a);
      list = refl;
      head = refl;
      beyond = refl;
    }

pub memo-value : (W : View) (i v : ℕ) → MemoFrame W (put_cell W i MEMO_VALUE v)
memo-value W i v =
    record {
      rows = refl;
      size = refl;
      header = λ h _ _. refl;
      cell = λ j k a b. rw (ne_eqb k 6 b);
      list = refl;
      head = refl;
      beyond = refl;
    }

module _ {W X : View} (f : MemoFrame W X) where
  low-header : (h : ℕ) → h < SLOTS → X.header h ≡ W.header h
  low-header h l = f.header h (omega arith) (omega arith)

  low-cell : (j k : ℕ) → k < MEMO_KEY → X.cell j k ≡ W.cell j k
  low-cell j k l = f.cell j k (omega arith) (omega arith)

  -- the rows are the same
  pub rows_same : rows_of X ≡ rows_of W
  rows_same = λ q. record {
    used = used_at (f.rows q) (low-header USED (omega arith) q) (λ i. low-cell i RANK (omega arith) q) (f.list q);
    level = λ i. low-cell i LEVEL (omega arith) q;
    low = λ i. low-cell i LOW (omega arith) q;
    high = λ i. low-cell i HIGH (omega arith) q;
  }

  pub used-same : (j : ℕ) → used X j ≡ true → used W j ≡ true
  used-same j u = subst (λ (r : Rows). r.used j ≡ true) rows_same u

  -- and soundness does not see the difference
  pub memo_alike : Alike W X
  memo_alike = record {
    rows = f.rows;
    size = f.size;
    bits = low-header BITS (omega arith);
    count = low-header ROWS (omega arith);
    used = low-header USED (omega arith);
    layout = f.header LAYOUT (omega arith) (omega arith);
    roots = λ h a l. f.header h (omega arith) (omega arith);
    list = λ k l. ap (λ (t : ℕ → ℕ). t k) f.list;
    cell = λ k h l m. low-cell (W.list k) l (omega arith);
    head = λ k h. ap (λ (t : ℕ → ℕ). t (key_of W (W.list k))) f.head;
  }

-- and the words still have room
pub room-memo : {W X Y : View} → MemoFrame W Y → X ≡ Y → Room W → Room X
room-memo f e r = subst Room (sym e) (record {
  words = let a = f.rows in let b = f.size in let c = r.words in omega arith;
  count-le = let a = f.rows in let b = f.header USED (omega arith) (omega arith) in let c = r.count-le in omega arith;
  max = let a = f.rows in let b = r.max in omega arith;
})
