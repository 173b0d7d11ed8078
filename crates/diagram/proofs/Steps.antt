-- Laws of what specs/Steps.antt defines. Assumes nothing.
use mathlib.Core.Path.{◌≡◌, refl, sym, ap, ◌∙◌}
use mathlib.Core.Logic.{◌≢◌, by_cases}
use mathlib.Core.Bool.{Bool, true, false, cond, not, ◌||◌, or_self, true≢false}
use Prim.Native.Nat.{ℕ, zero, suc, ◌≤◌, ◌<◌}
use native.Mathlib.Decide.{ℕ_discrete}
use native.Mathlib.Omega.{arith}
use lib.Dec.{eqb, eqb_refl, eqb→eq}
use Rattle.diagram.specs.Level.{Val, Fn, upd}
use Rattle.diagram.proofs.Level.{upd_same, upd_other, upd_unread, Reads, reads_from, Splits, T_true, T_false}
use Rattle.diagram.specs.Rows.{Rows, target, Leads, Arrow, level_of, follow, den, WellFormed}
use Rattle.diagram.proofs.Rows.{leads-used, leads-level}
use Rattle.diagram.proofs.Den.{den_reads, follow-arrow, follow_deeper, arrow_splits}
use Rattle.diagram.specs.Steps.{bit_f, not_f, two_f, or_f, shift_f, exists_f, side_to, low_at, high_at}

-- An operation goes through a choice.
cond_map₂ : {A B C : Type 0} (f : A → B → C) (b : Bool) (x y : A) (z w : B) → f (cond b x y) (cond b z w) ≡ cond b (f x z) (f y w)
cond_map₂ f true x y z w = refl
cond_map₂ f false x y z w = refl

pub bit_splits : (m l : ℕ) → Splits m l (bit_f l) (λ v. false) (λ v. true)
bit_splits m l = record { same = λ v. bit (v l); reads0 = λ v w h. refl; reads1 = λ v w h. refl }
  where
    bit : (b : Bool) → b ≡ cond b true false
    bit true = refl
    bit false = refl

-- The steps read no more levels than their operands.
pub two_reads : {lo hi : ℕ} {f g : Fn} (op : Bool → Bool → Bool) → Reads lo hi f → Reads lo hi g → Reads lo hi (two_f op f g)
two_reads op r s v w h =
    let p = r v w h in
    let q = s v w h in
    cc (p, q)

pub not_reads : {lo hi : ℕ} {f : Fn} → Reads lo hi f → Reads lo hi (not_f f)
not_reads r v w h = ap not (r v w h)

pub exists_reads : {lo hi : ℕ} {f : Fn} (x : ℕ) → Reads lo hi f → Reads lo hi (exists_f x f)
exists_reads {lo} {hi} x r v w h =
    let agree : (b : Bool) (k : ℕ) → lo ≤ k → k < hi → upd v x b k ≡ upd w x b k = λ b k lk kh.
    by_cases (ℕ_discrete k x) (λ e. rw e (upd_same v x b ∙ sym (upd_same w x b)))
    (λ ne. upd_other v x b k ne ∙ h k lk kh ∙ sym (upd_other w x b k ne))
    in
    let p = r _ _ (agree false) in
    let q = r _ _ (agree true) in
    cc (p, q)

pub shift_reads : {lo hi : ℕ} {f : Fn} → Reads lo hi f → Reads (suc lo) (suc hi) (shift_f f)
shift_reads r v w h = r _ _ (λ k a b. h (suc k) (omega arith) (omega arith))

module _ {m l : ℕ} {f f0 f1 : Fn} (s : Splits m l f f0 f1) where
  -- An operation on two functions, as AND and OR.
  pub two_splits : (op : Bool → Bool → Bool) {g g0 g1 : Fn} → Splits m l g g0 g1 → Splits m l (two_f op f g) (two_f op f0 g0) (two_f op f1 g1)
  two_splits op {g} {g0} {g1} t = record {
    same = λ v.
        let p = s.same v in
        let q = t.same v in
        let c = cond_map₂ op (v l) (f1 v) (f0 v) (g1 v) (g0 v) in
        cc (p, q, c);
    reads0 = two_reads op s.reads0 t.reads0;
    reads1 = two_reads op s.reads1 t.reads1;
  }

  -- SHIFT, of a function that reads levels below m: the result reads levels below m + 1, and splits one level further.
  pub shift_splits : Splits (suc m) (suc l) (shift_f f) (shift_f f0) (shift_f f1)
  shift_splits = record {
    same = λ v. s.same (λ k. v (suc k));
    reads0 = shift_reads s.reads0;
    reads1 = shift_reads s.reads1;
  }

  -- EXISTS at a greater level.
  pub exists_splits : (x : ℕ) → l < x → Splits m l (exists_f x f) (exists_f x f0) (exists_f x f1)
  exists_splits x h = record {
    same = λ v.
        let p = s.same (upd v x false) in
        let q = s.same (upd v x true) in
        let e0 = upd_other v x false l (omega arith) in
        let e1 = upd_other v x true l (omega arith) in
        let c = cond_map₂ ◌||◌ (v l) (f1 (upd v x false)) (f0 (upd v x false)) (f1 (upd v x true)) (f0 (upd v x true)) in
        cc (p, q, e0, e1, c);
    reads0 = exists_reads x s.reads0;
    reads1 = exists_reads x s.reads1;
  }

  -- EXISTS at the level of the split is OR of the two parts.
  pub exists-here : (v : Val) → exists_f l f v ≡ or_f f0 f1 v
  exists-here v =
      let p = s.same (upd v l false) in
      let q = s.same (upd v l true) in
      let e0 = upd_same v l false in
      let e1 = upd_same v l true in
      let u0 = upd_unread v l false s.reads0 (omega arith) in
      let u1 = upd_unread v l true s.reads1 (omega arith) in
      cc (p, q, e0, e1, u0, u1)

-- EXISTS at a lesser level changes nothing.
pub exists-past : {k m : ℕ} {f : Fn} (x : ℕ) → x < k → Reads k m f → (v : Val) → exists_f x f v ≡ f v
exists-past {f = f} x h r v =
    let u0 = upd_unread v x false r h in
    let u1 = upd_unread v x true r h in
    let o = or_self (f v) in
    cc (u0, u1, o)

-- What they are of an arrow to row i: at the row's level, and at another.
module _ (rows : Rows) (l a i : ℕ) (e : Leads a i) where
  pub low-here : rows.level i ≡ l → low_at rows l a ≡ follow rows a i false
  unfolding low_at
  low-here q = ap (side_to rows l a false) e ∙ rw (T_true (eqb (rows.level i) l) (rw q (eqb_refl l)))

  pub high-here : rows.level i ≡ l → high_at rows l a ≡ follow rows a i true
  unfolding high_at
  high-here q = ap (side_to rows l a true) e ∙ rw (T_true (eqb (rows.level i) l) (rw q (eqb_refl l)))

  pub low-past : rows.level i ≢ l → low_at rows l a ≡ a
  unfolding low_at
  low-past n = ap (side_to rows l a false) e ∙ rw (T_false (eqb (rows.level i) l) (λ t. n (eqb→eq (rows.level i) l t)))

  pub high-past : rows.level i ≢ l → high_at rows l a ≡ a
  unfolding high_at
  high-past n = ap (side_to rows l a true) e ∙ rw (T_false (eqb (rows.level i) l) (λ t. n (eqb→eq (rows.level i) l t)))

module _ {m N : ℕ} {rows : Rows} (wf : WellFormed m N rows) where
  -- An arrow that leads further splits into itself twice.
  pub skip_splits : (l a : ℕ) → Arrow rows a → l < level_of m rows a → Splits m l (den m rows a) (den m rows a) (den m rows a)
  skip_splits l a u h =
      let r = reads_from (suc l) h (den_reads wf m a u) in
      record { same = λ v. twice (v l) (den m rows a v); reads0 = r; reads1 = r }
    where
      twice : (b c : Bool) → c ≡ cond b c c
      twice true c = refl
      twice false c = refl

-- What an operation needs of an operand at level l, no greater than the operand's: the arrows followed there where the level is 0 and where
-- it is 1, and that they split it.
pub record Parts (m : ℕ) (rows : Rows) (l a lo hi : ℕ) : Type 0 where
  pub low-arrow : Arrow rows lo
  pub high-arrow : Arrow rows hi
  pub low_deeper : l < level_of m rows lo
  pub high_deeper : l < level_of m rows hi
  pub splits : Splits m l (den m rows a) (den m rows lo) (den m rows hi)

module _ {m N : ℕ} {rows : Rows} (wf : WellFormed m N rows) where
  -- An arrow to a row at the row's level, and an arrow at a lesser one.
  pub parts-row : (a i : ℕ) → Leads a i → rows.used i ≡ true
      → Parts m rows (rows.level i) a (follow rows a i false) (follow rows a i true)
  parts-row a i e u = record {
    low-arrow = follow-arrow wf a i e false u;
    high-arrow = follow-arrow wf a i e true u;
    low_deeper = follow_deeper wf a i e false u;
    high_deeper = follow_deeper wf a i e true u;
    splits = arrow_splits wf a i e u;
  }

  parts-skip : (l a : ℕ) → Arrow rows a → l < level_of m rows a → Parts m rows l a a a
  parts-skip l a u h = record { low-arrow = u; high-arrow = u; low_deeper = h; high_deeper = h; splits = skip_splits wf l a u h }

  parts_at : (l a i : ℕ) (b : Bool) → eqb (rows.level i) l ≡ b → Leads a i → Arrow rows a → l ≤ rows.level i
      → Parts m rows l a (cond b (follow rows a i false) a) (cond b (follow rows a i true) a)
  parts_at l a i true e g u h =
      let q : rows.level i ≡ l = eqb→eq (rows.level i) l (rw e tt) in rw q at (parts-row a i g (leads-used rows a i g u))
  parts_at l a i false e g u h =
      let ne : rows.level i ≢ l = λ q. true≢false (sym (T_true (eqb (rows.level i) l) (rw q (eqb_refl l))) ∙ e) in
      let q = leads-level m rows a i g in
      parts-skip l a u (omega arith)

  parts-to : (l a k : ℕ) → target a ≡ k → l < m → Arrow rows a → l ≤ level_of m rows a
      → Parts m rows l a (side_to rows l a false k) (side_to rows l a true k)
  parts-to l a zero e lm u h = parts-skip l a u (rw e lm)
  parts-to l a (suc i) e lm u h = parts_at l a i (eqb (rows.level i) l) refl e u (let q = leads-level m rows a i e in omega arith)

  pub parts : (l a : ℕ) → l < m → Arrow rows a → l ≤ level_of m rows a → Parts m rows l a (low_at rows l a) (high_at rows l a)
  unfolding low_at high_at
  parts l a lm u h = parts-to l a (target a) refl lm u h
