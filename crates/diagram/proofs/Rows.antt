-- Laws of what specs/Rows.antt defines. Assumes nothing.
use mathlib.Core.Path.{◌≡◌, refl, sym, ap, ◌∙◌, subst}
use mathlib.Core.Logic.{◌≢◌}
use mathlib.Core.Bool.{Bool, true, false, not, true≢false}
use Prim.Native.Nat.{ℕ, ◌%◌}
use native.Mathlib.Omega.{arith}
use lib.Dec.{eqb, eqb→eq, eqb_refl}
use Rattle.diagram.specs.Level.{turn}
use Rattle.diagram.proofs.Level.{T_true, T_false}
use Rattle.diagram.specs.Rows.{Rows, marked, target, Leads, row, flip, carry, ArrowTo, Arrow, level_to, level_of}

-- Marks as numbers.
pub marked-odd : (a : ℕ) → marked a ≡ true → a % 2 ≡ 1
marked-odd a e = eqb→eq (a % 2) 1 (rw e tt)

odd-marked : (a : ℕ) → a % 2 ≡ 1 → marked a ≡ true
odd-marked a e = rw e (T_true (eqb 1 1) (eqb_refl 1))

pub marked-even : (a : ℕ) → marked a ≡ false → a % 2 ≡ 0
marked-even a e =
    let ne : a % 2 ≢ 1 = λ q. true≢false (sym (odd-marked a q) ∙ e) in
    omega arith

pub even-marked : (a : ℕ) → a % 2 ≡ 0 → marked a ≡ false
even-marked a e = T_false (eqb (a % 2) 1) (λ t. let q : a % 2 ≡ 1 = eqb→eq (a % 2) 1 t in omega arith)

-- The arrow to a row.
pub row-leads : (i : ℕ) → Leads (row i) i
row-leads i = omega arith

pub row_plain : (i : ℕ) → marked (row i) ≡ false
row_plain i = even-marked (row i) (omega arith)

-- An arrow is told by where it leads and by its mark.
pub arrow-told : (a b : ℕ) → target a ≡ target b → marked a ≡ marked b → a ≡ b
arrow-told a b e q = by-mark (marked a) refl
  where
    by-mark : (c : Bool) → marked a ≡ c → a ≡ b
    by-mark true m = let x = marked-odd a m in let y = marked-odd b (sym q ∙ m) in omega arith
    by-mark false m = let x = marked-even a m in let y = marked-even b (sym q ∙ m) in omega arith

-- NOT of an arrow leads to the same place, with the other mark, and NOT twice is nothing.
flip-target : (a : ℕ) → target (flip a) ≡ target a
flip-target a = omega arith

flip-flip : (a : ℕ) → flip (flip a) ≡ a
flip-flip a = omega arith

flip-marked : (a : ℕ) → marked (flip a) ≡ not (marked a)
flip-marked a = by-mark (marked a) refl
  where
    by-mark : (c : Bool) → marked a ≡ c → marked (flip a) ≡ not (marked a)
    by-mark true m = let x = marked-odd a m in even-marked (flip a) (omega arith) ∙ sym (ap not m)
    by-mark false m = let x = marked-even a m in odd-marked (flip a) (omega arith) ∙ sym (ap not m)

pub carry-target : (b : Bool) (a : ℕ) → target (carry b a) ≡ target a
carry-target false a = refl
carry-target true a = flip-target a

pub carry-marked : (b : Bool) (a : ℕ) → marked (carry b a) ≡ turn b (marked a)
carry-marked false a = refl
carry-marked true a = flip-marked a

carry_back : (b : Bool) (a : ℕ) → carry b (carry b a) ≡ a
carry_back false a = refl
carry_back true a = flip-flip a

pub carry_inj : (b : Bool) (x y : ℕ) → carry b x ≡ carry b y → x ≡ y
carry_inj b x y e = sym (carry_back b x) ∙ ap (carry b) e ∙ carry_back b y

-- An arrow to row i is that of row i, with its mark.
pub leads-is : (a i : ℕ) → Leads a i → a ≡ carry (marked a) (row i)
leads-is a i e =
    arrow-told a (carry (marked a) (row i)) (e ∙ sym (carry-target (marked a) (row i) ∙ row-leads i))
    (plain (marked a) ∙ sym (carry-marked (marked a) (row i) ∙ ap (turn (marked a)) (row_plain i)))
  where
    plain : (b : Bool) → b ≡ turn b false
    plain true = refl
    plain false = refl

module _ (rows : Rows) where
  -- An arrow to a row is one where the row is used.
  pub row-arrow : (i : ℕ) → rows.used i ≡ true → Arrow rows (row i)
  row-arrow i u = subst (ArrowTo rows) (sym (row-leads i)) u

  pub leads-arrow : (a i : ℕ) → Leads a i → rows.used i ≡ true → Arrow rows a
  leads-arrow a i e u = subst (ArrowTo rows) (sym e) u

  pub leads-used : (a i : ℕ) → Leads a i → Arrow rows a → rows.used i ≡ true
  leads-used a i e u = subst (ArrowTo rows) e u

  pub carry_arrow : (b : Bool) (a : ℕ) → Arrow rows a → Arrow rows (carry b a)
  carry_arrow b a u = subst (ArrowTo rows) (sym (carry-target b a)) u

-- Where it leads is all that counts for the level.
pub leads-level : (m : ℕ) (rows : Rows) (a i : ℕ) → Leads a i → level_of m rows a ≡ rows.level i
leads-level m rows a i e = ap (level_to m rows) e

pub carry-level : (m : ℕ) (rows : Rows) (b : Bool) (a : ℕ) → level_of m rows (carry b a) ≡ level_of m rows a
carry-level m rows b a = ap (level_to m rows) (carry-target b a)
