-- Laws of what specs/Memo.antt defines. Assumes nothing.
use mathlib.Core.Path.{◌≡◌, sym, ◌∙◌, subst, subst₂}
use mathlib.Core.Bool.{true, Bool-discrete}
use mathlib.Core.Logic.{◌≢◌, by_cases}
use Prim.Native.Nat.{ℕ, suc, ◌+◌, ◌*◌, ◌<◌}
use native.Mathlib.Omega.{arith}
use Rattle.diagram.specs.Rows.{Rows, marked, Leads, row, Arrow, WellFormed, Extends}
use Rattle.diagram.proofs.Rows.{leads-is, row-arrow, carry_arrow}
use Rattle.diagram.proofs.Canon.{not-true}
use Rattle.diagram.proofs.Grow.{arrow_extends}
use Rattle.diagram.specs.Steps.{and_f}
use Rattle.diagram.proofs.Recur.{remembered}
use Rattle.diagram.proofs.OddLaws.{covered_extends}
use Rattle.layout.specs.Places.{SLOTS, STORED, MEMO_KEY, MEMO_VALUE}
use Rattle.layout.specs.View.{View}
use Rattle.rows.specs.Used.{used, rows_of}
use Rattle.table.specs.Add.{Frame, Keys}
use Rattle.memory.specs.Memo.{unary_f, kind_in, held, RightFor, Right, Entry, Remembers, Held}

-- what is recalled is right
pub held-entry : {m : ℕ} {W : View} {x y v : ℕ} → Remembers m W → x ≢ 0 → Held W x y v → Entry m (rows_of W) x y v
held-entry g n h =
    let e = g.pairs h.at h.active (λ z. n (sym h.first ∙ z)) in
    rw (← h.first, ← h.second, h.value) e

-- what is recalled for an arrow to row i is right
pub arrow-right : {m : ℕ} {W : View} {i v : ℕ} (kind a : ℕ) → Remembers m W → used W i ≡ true → kind ≢ 0 → Leads a i
    → (kind_in (W.cell i MEMO_KEY) ≡ kind) × (held (marked a) (W.cell i MEMO_KEY) (W.cell i MEMO_VALUE) ≡ suc v)
    → RightFor m (rows_of W) kind a v
arrow-right {m} {W} {i} {v} kind a g u n e (p, q) =
    subst₂ (λ (k b : ℕ). RightFor m (rows_of W) k b v) p (sym (leads-is a i e)) ((g.singles i u).each (λ z. n (sym p ∙ z)) (marked a) v q)

-- entries stay right while rows are only added
pub entry_extends : {m N : ℕ} {old new : Rows} {x y r : ℕ} → WellFormed m N old → Extends old new → Entry m old x y r → Entry m new x y r
entry_extends {x = x} {y = y} {r = r} wf e d =
    record {
      left = arrow_extends e x d.left;
      right = arrow_extends e y d.right;
      answer = remembered and_f x y r wf e d.left d.right d.answer;
    }

for_extends : {m N : ℕ} {old new : Rows} {kind a r : ℕ} → WellFormed m N old → Extends old new → Arrow old a → RightFor m old kind a r
    → RightFor m new kind a r
for_extends {kind = kind} {a = a} {r = r} wf e w d =
    record {
      answer =
          remembered (λ f g. unary_f kind f) a a r wf e w w d.answer;
      covered = λ z. covered_extends {a = a} wf e w (d.covered z);
    }

right_extends : {m N : ℕ} {old new : Rows} {key value : ℕ} (i : ℕ) → WellFormed m N old → Extends old new → old.used i ≡ true
    → Right m old i key value → Right m new i key value
right_extends {old = old} i wf e u d =
    record { each = λ n b v q. for_extends wf e (carry_arrow old b (row i) (row-arrow old i u)) (d.each n b v q) }

-- so what is remembered is right in the larger table
pub remembers_extends : {m N : ℕ} {W X : View} → WellFormed m N (rows_of W) → Extends (rows_of W) (rows_of X) → Frame W X → Keys W X
    → Remembers m W → Remembers m X
remembers_extends {m} {W = W} {X = X} wf e f k g = record {
  sizes = record { room = rw (hs, f.rows) g.sizes.room; few = rw (ht, hs) g.sizes.few };
  pairs = λ s l n. slots X.slot f.slot s (rw hs at l) n;
  singles = λ i u. by_cases (Bool-discrete (used W i) true)
      (λ w. rows i w (sym (k.kept i w)) (sym (f.memo i MEMO_VALUE (omega arith))))
      (λ w. record { each = λ n b v q. absurd (n (let z = k.fresh i (not-true _ w) u in omega (arith, z))) });
}
  where
    hs : X.header SLOTS ≡ W.header SLOTS
    hs = f.header SLOTS (omega arith) (omega arith)

    ht : X.header STORED ≡ W.header STORED
    ht = f.header STORED (omega arith) (omega arith)

    slots : (t : ℕ → ℕ) → t ≡ W.slot → (s : ℕ) → s < W.header SLOTS → t (3 * s) ≢ 0
        → Entry m (rows_of X) (t (3 * s)) (t (3 * s + 1)) (t (3 * s + 2))
    slots t q s l =
        subst (λ (t : ℕ → ℕ). t (3 * s) ≢ 0 → Entry m (rows_of X) (t (3 * s)) (t (3 * s + 1)) (t (3 * s + 2))) (sym q)
        (λ n. entry_extends wf e (g.pairs s l n))

    rows : {key v : ℕ} (i : ℕ) → used W i ≡ true → W.cell i MEMO_KEY ≡ key → W.cell i MEMO_VALUE ≡ v → Right m (rows_of X) i key v
    rows {key} {v} i u a b =
        subst₂ (λ (x y : ℕ). Right m (rows_of X) i x y) a b (right_extends i wf e u (g.singles i u))
