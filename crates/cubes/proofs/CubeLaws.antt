-- Laws of what specs/Cube.antt defines: a cube splits at its first level into the rest and nothing; bits that clash leave nothing.
-- Assumes nothing.
use mathlib.Core.Path.{◌≡◌, refl, sym, ap, ap₂, ◌∙◌, subst}
use mathlib.Core.Logic.{◌≢◌}
use mathlib.Core.Bool.{Bool, true, false, cond, ◌&&◌}
use Prim.Native.Nat.{ℕ, zero, suc, ◌+◌, ◌-◌, ◌*◌, ◌/◌, ◌%◌, ◌^◌, ◌≤◌, ◌<◌, min}
use native.Mathlib.Nat.{div-one, pow-suc, div-lt_iff_lt-mul}
use native.Mathlib.Omega.{arith}
use lib.Bits.{bit_and, and_step}
use lib.Dec.{T, eqb, eqb→eq}
use lib.Pow.{pow_pos}
use Rattle.mucalculus.specs.Means.{bit}
use Rattle.mucalculus.proofs.Means.{bit-half}
use Rattle.diagram.specs.Level.{Val, Fn}
use Rattle.diagram.proofs.Level.{Reads, Splits, T_true, T_false}
use Rattle.diagram.specs.Rows.{Rows}
use Rattle.diagram.proofs.Den.{den-zero, den-one}
use Rattle.diagram.specs.Post.{Denotes}
use Rattle.diagram.proofs.Recur.{Divides}
use Rattle.layout.specs.View.{View}
use Rattle.rows.specs.Used.{rows_of}
use Rattle.table.specs.Make.{MakePre, MakePost}
use Rattle.std.specs.Prelude.{Result, Ok, Err}
use Rattle.table.specs.declared.Full.{Full}
use Rattle.operations.specs.Work.{Ready, Worked}
use Rattle.operations.proofs.Work.{worked_there, worked_cong, low_stops, high_stops, row-pre, row_made, ready-next}
use Rattle.cubes.specs.Cube.{literal, cube_from, cube_rest, cube_f, unless_arrow, Disjoint, CubePre}

-- ---- what is read

pub cube_reads : (j p o z lo hi : ℕ) → lo ≤ 2 * p → 2 * (p + j) ≤ hi → Reads lo hi (cube_from j p o z)
cube_reads zero p o z lo hi a b v w h = refl
cube_reads (suc j) p o z lo hi a b v w h =
    ap₂ (λ (x y : Bool). literal (bit p o) (bit p z) x && y) (h (2 * p) a (omega arith))
    (cube_reads j (suc p) o z lo hi (omega arith) (omega arith) v w h)

-- a cube reads levels below m only
pub cube_f_reads : (m o z : ℕ) → Reads 0 m (cube_f m o z)
cube_f_reads m o z v w h = ap (λ (b : Bool). eqb (o / 2 ^ (m / 2)) 0 && b) (cube_reads (m / 2) 0 o z 0 m (omega arith) (omega arith) v w h)

-- ---- clashing bits

-- one level further, of numbers halved
pub cube-shift : (j p o z : ℕ) (v : Val) → cube_from j (suc p) o z v ≡ cube_from j p (o / 2) (z / 2) (λ l. v (suc (suc l)))
cube-shift zero p o z v = refl
cube-shift (suc j) p o z v =
    let e : 2 * suc p ≡ suc (suc (2 * p)) = omega arith in
    ap₂ ◌&&◌ (literal-same (bit-half p o) (bit-half p z) (ap v e)) (cube-shift j (suc p) o z v)
  where
    literal-same : {a b c d x y : Bool} → a ≡ b → c ≡ d → x ≡ y → literal a c x ≡ literal b d y
    literal-same p q r = rw (p, q, r) refl

low_bit : (k : ℕ) → k % 2 ≡ 1 → bit 0 k ≡ true
low_bit k e = ap (λ (q : ℕ). eqb (q % 2) 1) (div-one k) ∙ T_true (eqb (k % 2) 1) (rw e tt)

bit-low : (k : ℕ) → bit 0 k ≡ true → k % 2 ≡ 1
bit-low k e = eqb→eq (k % 2) 1 (subst T (sym (sym (ap (λ (q : ℕ). eqb (q % 2) 1) (div-one k)) ∙ e)) tt)

none_both : (b x : Bool) → (literal true true b && x) ≡ false
none_both true x = refl
none_both false x = refl

false_right : (x : Bool) → (x && false) ≡ false
false_right true = refl
false_right false = refl

-- where a bit below n is in both, no state is in the cube
clash_step : (n o z : ℕ) (v : Val) → o < 2 ^ suc n → bit_and o z ≢ 0
    → (o / 2 < 2 ^ n → bit_and (o / 2) (z / 2) ≢ 0 → cube_from n 0 (o / 2) (z / 2) (λ l. v (suc (suc l))) ≡ false)
    → cube_from (suc n) 0 o z v ≡ false
clash_step n o z v l h below = go (o % 2) refl (z % 2) refl
  where
    rest : bit_and (o / 2) (z / 2) ≢ 0 → cube_from n 1 o z v ≡ false
    rest g = cube-shift n 0 o z v ∙ below (let e = pow-suc 2 n in omega (arith, e, l)) g

    later : min (o % 2) (z % 2) ≡ 0 → cube_from (suc n) 0 o z v ≡ false
    later e =
        let g : bit_and (o / 2) (z / 2) ≢ 0 = λ q. h (and_step o z ∙ ap₂ (λ (x y : ℕ). x * 2 + y) q e) in
        ap (λ (b : Bool). literal (bit 0 o) (bit 0 z) (v (2 * 0)) && b) (rest g)
        ∙ false_right (literal (bit 0 o) (bit 0 z) (v (2 * 0)))

    go : (a : ℕ) → o % 2 ≡ a → (b : ℕ) → z % 2 ≡ b → cube_from (suc n) 0 o z v ≡ false
    go zero ea b eb = later (omega (arith, ea))
    go (suc a) ea zero eb = later (omega (arith, eb))
    go (suc a) ea (suc b) eb =
        let p : o % 2 ≡ 1 = omega (arith, ea) in
        let q : z % 2 ≡ 1 = omega (arith, eb) in
        ap₂ (λ (x y : Bool). literal x y (v (2 * 0)) && cube_from n 1 o z v) (low_bit o p) (low_bit z q)
        ∙ none_both (v (2 * 0)) (cube_from n 1 o z v)

pub clash_none : (n o z : ℕ) (v : Val) → o < 2 ^ n → bit_and o z ≢ 0 → cube_from n 0 o z v ≡ false
clash_none zero o z v l h = absurd (h (let e : o ≡ 0 = omega (arith, l) in rw e refl))
clash_none (suc n) o z v l h = clash_step n o z v l h (λ k g. clash_none n (o / 2) (z / 2) (λ l. v (suc (suc l))) k g)

-- where no bit is in both
pub and-apart : (o z : ℕ) → bit_and o z ≡ 0 → Disjoint o z
and-apart o z e zero a b =
    let p = bit-low o a in
    let q = bit-low z b in
    let s = and_step o z in
    let m : min (o % 2) (z % 2) ≡ 1 = rw (p, q) refl in
    omega (arith, s, e, m)
and-apart o z e (suc p) a b =
    let s = and_step o z in
    let h : bit_and (o / 2) (z / 2) ≡ 0 = omega (arith, s, e) in
    and-apart (o / 2) (z / 2) h p (sym (bit-half p o) ∙ a) (sym (bit-half p z) ∙ b)

-- ---- rows

nothing-denotes : (m : ℕ) (rows : Rows) → Denotes m rows 0 (λ v. false)
nothing-denotes m rows = record { arrow = tt; same = λ v. den-zero m rows v }

everything-denotes : (m : ℕ) (rows : Rows) → Denotes m rows 1 (λ v. true)
everything-denotes m rows = record { arrow = tt; same = λ v. den-one m rows v }

-- one bit more, at level l, before the rest G of a cube
abbrev more : ℕ → Fn → Bool → Bool → Fn
more l G o z v = literal o z (v l) && G v

module _ {m l : ℕ} {G : Fn} (g : Reads (suc l) m G) where
  splits_plain : Splits m l (more l G false false) G G
  splits_plain = record { same = λ v. go (v l) (G v); reads0 = g; reads1 = g }
    where
      go : (b x : Bool) → (literal false false b && x) ≡ cond b x x
      go true x = refl
      go false x = refl

  splits_one : Splits m l (more l G true false) (λ v. false) G
  splits_one = record { same = λ v. go (v l) (G v); reads0 = λ v w h. refl; reads1 = g }
    where
      go : (b x : Bool) → (literal true false b && x) ≡ cond b x false
      go true x = refl
      go false x = refl

  splits_zero : Splits m l (more l G false true) G (λ v. false)
  splits_zero = record { same = λ v. go (v l) (G v); reads0 = g; reads1 = λ v w h. refl }
    where
      go : (b x : Bool) → (literal false true b && x) ≡ cond b false x
      go true x = refl
      go false x = refl

divides : {m l : ℕ} {F F0 F1 : Fn} (rows : Rows) → l < m → Splits m l F F0 F1 → Divides m rows l F F0 (λ t. F1)
divides rows lm s = record { shallow = lm; splits = s; stable = λ mid e v. refl }

at-nothing : {m N limit : ℕ} {U : View} → Ready m N limit U → Worked m N limit U U (Ok 0) (λ v. false)
at-nothing {m} q = worked_there q (nothing-denotes m _)

-- the rows ran out before
module _ {m N limit : ℕ} {W X : View} {l : ℕ} {G : Fn} (r : Ready m N limit W) (lm : l < m) (g : Reads (suc l) m G) where
  cube-full : {e f : Full} → Worked m N limit W X (Err e) G → (o z : Bool) → (o ≡ true → z ≡ true → ⊥)
      → Worked m N limit W X (Err f) (more l G o z)
  cube-full w false false h = low_stops r (divides (rows_of W) lm (splits_plain g)) w
  cube-full w false true h = low_stops r (divides (rows_of W) lm (splits_zero g)) w
  cube-full w true false h = high_stops r (divides (rows_of W) lm (splits_one g)) (at-nothing r) w
  cube-full w true true h = absurd (h refl refl)

module _ {m N limit : ℕ} {W X : View} {l a : ℕ} {G : Fn} (r : Ready m N limit W) (lm : l < m) (g : Reads (suc l) m G)
    (w : Worked m N limit W X (Ok a) G) where
  ready : Ready m N limit X
  ready = ready-next r w

  again : Worked m N limit X X (Ok a) G
  again = worked_there ready w.post.result

  -- what the row asks
  pub cube-asks : (o z : Bool) → (o ≡ true → z ≡ true → ⊥) → MakePre X limit l (unless_arrow o a) (unless_arrow z a)
  cube-asks false false h = row-pre r (divides (rows_of W) lm (splits_plain g)) w again
  cube-asks false true h = row-pre r (divides (rows_of W) lm (splits_zero g)) w (at-nothing ready)
  cube-asks true false h = row-pre r (divides (rows_of W) lm (splits_one g)) (at-nothing r) w
  cube-asks true true h = absurd (h refl refl)

  -- and what it leaves
  pub cube-made : (o z : Bool) → (o ≡ true → z ≡ true → ⊥) → {Y : View} {t : Result ℕ Full}
      → MakePost X Y limit l (unless_arrow o a) (unless_arrow z a) t → Worked m N limit W Y t (more l G o z)
  cube-made false false h p = row_made r (divides (rows_of W) lm (splits_plain g)) w again p
  cube-made false true h p = row_made r (divides (rows_of W) lm (splits_zero g)) w (at-nothing ready) p
  cube-made true false h p = row_made r (divides (rows_of W) lm (splits_one g)) (at-nothing r) w p
  cube-made true true h p = absurd (h refl refl)

-- ---- the calls

module _ {m N limit : ℕ} {W : View} {o z p : ℕ} (c : CubePre m N limit W o z p) where
  -- there are at most 32 levels
  pub cube-levels : m ≤ 32
  cube-levels = let e = c.ready.levels-is in let l = c.ready.good.sizes.n_max in omega arith

  -- no bit is left
  pub cube-ends : m ≤ 2 * p → Worked m N limit W W (Ok 1) (cube_rest m p o z)
  cube-ends l =
      let e : 0 ≡ m / 2 - p = omega arith in
      subst (λ (j : ℕ). Worked m N limit W W (Ok 1) (cube_from j p o z)) e (worked_there c.ready (everything-denotes m _))

  module _ (l : 2 * p < m) where
    two : (b : ℕ) → m ≡ 2 * b → suc (m / 2 - suc p) ≡ m / 2 - p
    two b e = omega arith

    pub cube-next : CubePre m N limit W o z (p + 1)
    cube-next = record { ready = c.ready; within = let e = c.ready.levels-is in omega arith; apart = c.apart }

    reads : Reads (suc (2 * p)) m (cube_rest m (suc p) o z)
    reads = let e = c.ready.levels-is in cube_reads (m / 2 - suc p) (suc p) o z (suc (2 * p)) m (omega arith) (omega arith)

    to-rest : {X : View} {t : Result ℕ Full}
        → Worked m N limit W X t (λ v. literal (bit p o) (bit p z) (v (2 * p)) && cube_rest m (suc p) o z v)
        → Worked m N limit W X t (cube_rest m p o z)
    to-rest {X} {t} w = subst (λ (j : ℕ). Worked m N limit W X t (cube_from j p o z)) (two _ c.ready.levels-is) w

    from_next : {X : View} {t : Result ℕ Full} → Worked m N limit W X t (cube_rest m (p + 1) o z)
        → Worked m N limit W X t (cube_rest m (suc p) o z)
    from_next {X} {t} w = let e : p + 1 ≡ suc p = omega arith in subst (λ (q : ℕ). Worked m N limit W X t (cube_rest m q o z)) e w

    pub rest-full : {X : View} {e f : Full} → Worked m N limit W X (Err e) (cube_rest m (p + 1) o z)
        → Worked m N limit W X (Err f) (cube_rest m p o z)
    rest-full w = to-rest (cube-full c.ready l reads (from_next w) (bit p o) (bit p z) (c.apart p))

    module _ {X : View} {a lo hi : ℕ} (w : Worked m N limit W X (Ok a) (cube_rest m (p + 1) o z)) {bo bz : Bool}
        (eo : bo ≡ bit p o) (el : lo ≡ unless_arrow bo a) (ez : bz ≡ bit p z) (eh : hi ≡ unless_arrow bz a) where
      low-is : unless_arrow (bit p o) a ≡ lo
      low-is = sym (el ∙ ap (λ (b : Bool). unless_arrow b a) eo)

      high_is : unless_arrow (bit p z) a ≡ hi
      high_is = sym (eh ∙ ap (λ (b : Bool). unless_arrow b a) ez)

      pub rest-asks : MakePre X limit (2 * p) lo hi
      rest-asks =
          subst (λ (x : ℕ). MakePre X limit (2 * p) x hi) low-is
          (subst (λ (y : ℕ). MakePre X limit (2 * p) (unless_arrow (bit p o) a) y) high_is
          (cube-asks c.ready l reads (from_next w) (bit p o) (bit p z) (c.apart p)))

      pub rest-made : {Y : View} {t : Result ℕ Full} → MakePost X Y limit (2 * p) lo hi t → Worked m N limit W Y t (cube_rest m p o z)
      rest-made {Y} {t} q =
          let q1 = subst (λ (x : ℕ). MakePost X Y limit (2 * p) x hi t) (sym low-is) q in
          let q2 = subst (λ (y : ℕ). MakePost X Y limit (2 * p) (unless_arrow (bit p o) a) y t) (sym high_is) q1 in
          to-rest (cube-made c.ready l reads (from_next w) (bit p o) (bit p z) (c.apart p) q2)

module _ {m N limit : ℕ} {W : View} (r : Ready m N limit W) (o z : ℕ) where
  empty : ((v : Val) → cube_f m o z v ≡ false) → Worked m N limit W W (Ok 0) (cube_f m o z)
  empty e = worked_cong (λ v. sym (e v)) (worked_there r (nothing-denotes m _))

  false_left : (b x : Bool) → b ≡ false → (b && x) ≡ false
  false_left b x e = rw e refl

  -- a bit of `ones` that no state has
  pub cube-beyond : o / 2 ^ (m / 2) ≢ 0 → Worked m N limit W W (Ok 0) (cube_f m o z)
  cube-beyond h = empty (λ v. false_left (eqb (o / 2 ^ (m / 2)) 0) _ (T_false _ (λ t. h (eqb→eq _ 0 t))))

  -- a bit in both
  pub cube_clash : bit_and o z ≢ 0 → Worked m N limit W W (Ok 0) (cube_f m o z)
  cube_clash h = empty (λ v. go v (eqb (o / 2 ^ (m / 2)) 0) refl)
    where
      go : (v : Val) (b : Bool) → eqb (o / 2 ^ (m / 2)) 0 ≡ b → (b && cube_from (m / 2) 0 o z v) ≡ false
      go v false e = refl
      go v true e = clash_none (m / 2) o z v (div-zero (o) (m / 2) (eqb→eq _ 0 (subst T (sym e) tt))) h
        where
          div-zero : (o k : ℕ) → o / 2 ^ k ≡ 0 → o < 2 ^ k
          div-zero o k e =
              let h : o / 2 ^ k < 1 = omega (arith, e) in
              let g = (div-lt_iff_lt-mul {k = 2 ^ k} {x = o} {y = 1} (pow_pos k)).0 h in
              omega (arith, g)

  pub cube-starts : bit_and o z ≡ 0 → CubePre m N limit W o z 0
  cube-starts e = record { ready = r; within = omega arith; apart = and-apart o z e }

  pub cube-whole : {X : View} {t : Result ℕ Full} → o / 2 ^ (m / 2) ≡ 0 → Worked m N limit W X t (cube_rest m 0 o z)
      → Worked m N limit W X t (cube_f m o z)
  cube-whole {X} {t} e w =
      let h : m / 2 - 0 ≡ m / 2 = omega arith in
      let w1 = subst (λ (j : ℕ). Worked m N limit W X t (cube_from j 0 o z)) h w in
      let inside = T_true (eqb (o / 2 ^ (m / 2)) 0) (subst (λ (k : ℕ). T (eqb k 0)) (sym e) tt) in
      worked_cong (λ v. sym (ap (λ (b : Bool). b && cube_from (m / 2) 0 o z v) inside)) w1
