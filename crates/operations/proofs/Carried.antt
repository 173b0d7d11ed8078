-- Laws of what specs/Carried.antt defines. Assumes nothing.
use mathlib.Core.Path.{◌≡◌, refl, sym, ap, ◌∙◌, subst}
use mathlib.Core.Bool.{Bool, true, false}
use Prim.Native.Nat.{ℕ, suc, ◌-◌}
use native.Mathlib.Omega.{arith}
use Rattle.diagram.specs.Level.{Val, Fn, turn}
use Rattle.diagram.proofs.Level.{turn-back}
use Rattle.diagram.specs.Rows.{Rows, marked, target, row, carry, child, Arrow, level_of, den}
use Rattle.diagram.proofs.Rows.{row-leads, row_plain, carry-target, carry-marked, carry_arrow, carry-level}
use Rattle.diagram.proofs.Den.{den-carry, den-leads}
use Rattle.diagram.specs.Even.{ReadsOn, even}
use Rattle.diagram.specs.Post.{Denotes}
use Rattle.diagram.proofs.Post.{denotes-flip}
use Rattle.diagram.specs.Steps.{shift_f}
use Rattle.layout.specs.Places.{MEMO_KEY, MEMO_VALUE}
use Rattle.layout.specs.View.{View}
use Rattle.layout.specs.Arrows.{is_row, row_of}
use Rattle.layout.proofs.Arrows.{row_is, is_row-leads}
use Rattle.rows.specs.Used.{rows_of}
use Rattle.table.specs.declared.Full.{Full}
use Rattle.std.specs.Prelude.{Option, Some, None, Result, Ok, Err}
use Rattle.memory.specs.Memo.{held, RowPost}
use Rattle.memory.specs.Store.{keep_row}
use Rattle.operations.specs.Work.{Ready, Known, Worked}
use Rattle.operations.proofs.Work.{known_at, worked_cong, worked_not, worked_not_full}
use Rattle.operations.specs.Open.{RowIs}
use Rattle.operations.proofs.Open.{RowAt, depth}
use Rattle.operations.proofs.Rows.{row-known, row_kept}
use Rattle.operations.specs.Carried.{CarriedMade, carried_found}

-- a promise for F is one for G, which is F turned by b, where b is carried to the answer
pub worked_carried : {m N limit : ℕ} {W X : View} {r : Result ℕ Full} {F G : Fn} (b : Bool) (c : Result ℕ Full)
    → ((v : Val) → turn b (F v) ≡ G v) → Worked m N limit W X c F → CarriedMade b c r → Worked m N limit W X r G
worked_carried false (Ok x) same w e = rw e (worked_cong same w)
worked_carried false (Err _) same w e = rw e (worked_cong same w)
worked_carried true (Ok x) same w e = rw e (worked_cong same (worked_not w refl))
worked_carried true (Err _) same w e = rw e (worked_cong same (worked_not_full w))

pub denotes-carried : {m : ℕ} {rows : Rows} {x : ℕ} {F G : Fn} (b : Bool) → ((v : Val) → turn b (F v) ≡ G v) → Denotes m rows x F
    → Denotes m rows (carry b x) G
denotes-carried false same d = record { arrow = d.arrow; same = λ v. d.same v ∙ same v }
denotes-carried true same d = let t = denotes-flip d in record { arrow = t.arrow; same = λ v. t.same v ∙ same v }

known_carried : {m : ℕ} {W : View} {g : Option ℕ} {F G : Fn} {R : Type 0} (b : Bool) (f : Option ℕ) → ((v : Val) → turn b (F v) ≡ G v)
    → Known m W f F R → g ≡ carried_found b f → Known m W g G R
known_carried {m} {W} {G = G} {R = R} b (Some x) same k e =
    subst (λ (h : Option ℕ). Known m W h G R) (sym e) (known_at (denotes-carried b same (k.at x refl)))
known_carried {m} {W} {G = G} {R = R} b None same k e =
    subst (λ (h : Option ℕ). Known m W h G R) (sym e) (record {
      at = λ v z. absurd (let q : ◌≡◌ {A = ℕ} 0 1 = cc in omega arith);
      none = λ z. k.none refl;
    })

-- what a row remembers for the arrow without a NOT: 0 carries none either
plain-post : (W : View) (i kind : ℕ) (f : Option ℕ) → RowPost W 0 i kind f → RowPost W (row i) i kind f
plain-post W i kind (Some v) q = (q.0, ap (λ (b : Bool). held b (W.cell i MEMO_KEY) (W.cell i MEMO_VALUE)) (row_plain i) ∙ q.1)
plain-post W i kind None q = tt

pub shift_remembered : {m N : ℕ} {W : View} {i : ℕ} {g : Option ℕ} {R : Type 0} (a : ℕ) (f : Option ℕ) → Ready m N 0 W
    → RowAt (rows_of W) a i → R → RowPost W 0 i 1 f → g ≡ carried_found (marked a) f → Known m W g (shift_f (den m (rows_of W) a)) R
shift_remembered {m} {W = W} {i = i} a f r o x p e =
    known_carried (marked a) f (λ v. sym (den-leads m (rows_of W) a i o.leads (λ l. v (suc l))))
    (row-known r {a = row i} 1 (omega arith) (record { leads = row-leads i; used = o.used }) x (plain-post W i 1 f p)) e

-- p is the arrow without a NOT to where a leads
module _ {p : ℕ} (a : ℕ) (e : p ≡ carry (marked a) a) where
  pub plain_row : is_row a ≡ true → is_row p ≡ true
  plain_row h = is_row-leads p (row_of a) (ap target e ∙ carry-target (marked a) a ∙ row_is a h)

  pub plain-mark : marked p ≡ false
  plain-mark = ap marked e ∙ carry-marked (marked a) a ∙ self (marked a)
    where
      self : (b : Bool) → turn b b ≡ false
      self false = refl
      self true = refl

  plain-den : (m : ℕ) (rows : Rows) (v : Val) → den m rows p v ≡ turn (marked a) (den m rows a v)
  plain-den m rows v = ap (λ (x : ℕ). den m rows x v) e ∙ den-carry m rows (marked a) a v

  module _ {m N limit : ℕ} {W : View} (r : Ready m N limit W) where
    pub plain-arrow : Arrow (rows_of W) a → Arrow (rows_of W) p
    plain-arrow u = subst (Arrow (rows_of W)) (sym e) (carry_arrow (rows_of W) (marked a) a u)

    pub plain-depth : depth m (rows_of W) p ≡ depth m (rows_of W) a
    plain-depth = ap (λ (l : ℕ). m - l) (ap (level_of m (rows_of W)) e ∙ carry-level m (rows_of W) (marked a) a)

    pub plain_reads : ReadsOn even (den m (rows_of W) a) → ReadsOn even (den m (rows_of W) p)
    plain_reads on v w h = plain-den m (rows_of W) v ∙ ap (turn (marked a)) (on v w h) ∙ sym (plain-den m (rows_of W) w)

  -- SHIFT of a, from SHIFT of p
  pub shift-carried : {m N limit : ℕ} {W X : View} {c r : Result ℕ Full} → Worked m N limit W X c (shift_f (den m (rows_of W) p))
      → CarriedMade (marked a) c r → Worked m N limit W X r (shift_f (den m (rows_of W) a))
  shift-carried {m} {W = W} {c = c} w k =
      worked_carried (marked a) c (λ v. let u : Val = λ l. v (suc l) in
      ap (turn (marked a)) (plain-den m (rows_of W) u) ∙ turn-back (marked a) (den m (rows_of W) a u)) w k

-- the words of a row, and what it remembers, for an arrow without a NOT
pub plain-is : {rows : Rows} {i l lo hi : ℕ} (a : ℕ) → marked a ≡ false → RowIs rows 0 i l lo hi → RowIs rows a i l lo hi
plain-is {rows} {i} a e n = record {
  level = n.level;
  low = n.low ∙ ap (λ (b : Bool). carry b (child rows i false)) (sym e);
  high = n.high ∙ ap (λ (b : Bool). carry b (child rows i true)) (sym e);
}

keep-plain : (X : View) (a i kind : ℕ) (c : Result ℕ Full) → marked a ≡ false → keep_row X 0 i kind c ≡ keep_row X a i kind c
unfolding keep_row
keep-plain X a i kind (Ok x) e = rw e
keep-plain X a i kind (Err _) e = refl

pub plain-kept : {m N limit : ℕ} {W X Y : View} {a i : ℕ} (r : Ready m N limit W) (c : Result ℕ Full) → marked a ≡ false
    → RowAt (rows_of W) a i → Worked m N limit W X c (shift_f (den m (rows_of W) a)) → Y ≡ keep_row X 0 i 1 c
    → Worked m N limit W Y c (shift_f (den m (rows_of W) a))
plain-kept {X = X} {a = a} {i = i} r c e o w q = row_kept r 1 c (omega arith) (omega arith) o w (q ∙ keep-plain X a i 1 c e)
