-- Laws of what specs/Pairs.antt defines. Assumes nothing.
use mathlib.Core.Path.{◌≡◌, refl, sym, ap, ap₂, ◌∙◌, subst, subst₂}
use mathlib.Core.Bool.{Bool, true, false, cond, not, ◌&&◌, ◌||◌}
use mathlib.Core.Logic.{◌≢◌, by_cases}
use Prim.Native.Nat.{ℕ, zero, suc, ◌-◌, ◌≤◌, ◌<◌, min, max}
use native.Mathlib.Decide.{dec_le}
use native.Mathlib.Omega.{arith}
use lib.Dec.{eqb}
use borrow.Author.Tests.{eqb-true, eqb-false, eq-eqb, ne_eqb}
use Rattle.diagram.specs.Level.{Val}
use Rattle.diagram.specs.Rows.{Rows, Leads, flip, Arrow, level_of, den, WellFormed, Extends}
use Rattle.diagram.proofs.Rows.{leads-level, carry_arrow}
use Rattle.diagram.proofs.Den.{den-zero, den-one, den-flip}
use Rattle.diagram.proofs.Grow.{arrow_extends, den_extends, level_extends}
use Rattle.diagram.specs.Post.{Denotes}
use Rattle.diagram.specs.Steps.{and_f, or_f, low_at, high_at}
use Rattle.diagram.proofs.Steps.{low-here, high-here, low-past, high-past, Parts, parts}
use Rattle.diagram.proofs.Recur.{Divides, two_divides}
use Rattle.layout.specs.View.{View}
use Rattle.layout.specs.Arrows.{is_row, row_of}
use Rattle.layout.proofs.Arrows.{row_is, row-yes, no_row}
use Rattle.rows.specs.Used.{rows_of}
use Rattle.rows.proofs.Used.{of_arrow}
use Rattle.std.specs.Prelude.{Option, Some, None, Result, Ok, Err}
use Rattle.table.specs.declared.Full.{Full}
use Rattle.memory.specs.Memo.{Remembers, RecallPost}
use Rattle.memory.proofs.Memo.{held-entry}
use Rattle.memory.specs.Store.{RememberPost}
use Rattle.memory.proofs.Store.{remember-frame, RightPair, remembers_pair}
use Rattle.operations.specs.Work.{Ready, Worked}
use Rattle.operations.proofs.Work.{ready-wf, worked_there, worked_kept, worked_cong}
use Rattle.operations.specs.Open.{RowIs}
use Rattle.operations.specs.Carried.{CarriedMade, carried_found}
use Rattle.operations.proofs.Carried.{worked_carried, denotes-carried}
use Rattle.operations.specs.Pairs.{short_of, BothRows, KnownAt, at_once, recalled, KnownPost, OrKnown, OrRemembered}

-- the ways through it
module _ (lo hi : ℕ) where
  pub short-same : lo ≡ hi → Some lo ≡ short_of lo hi
  unfolding short_of
  short-same e = rw (eq-eqb lo hi e)

  pub short-not : {x : ℕ} → lo ≢ hi → x ≡ flip lo → hi ≡ x → Some 0 ≡ short_of lo hi
  unfolding short_of
  short-not n e q = rw (ne_eqb lo hi n, eq-eqb hi (flip lo) (q ∙ e))

  pub short_row : {x : ℕ} {b : Bool} → lo ≢ hi → x ≡ flip lo → hi ≢ x → b ≡ is_row lo → b ≡ true → None ≡ short_of lo hi
  unfolding short_of
  short_row n e q f t = rw (ne_eqb lo hi n, ne_eqb hi (flip lo) (λ z. q (z ∙ sym e)), sym f ∙ t)

  pub short-zero : {x : ℕ} {b : Bool} → lo ≢ hi → x ≡ flip lo → hi ≢ x → b ≡ is_row lo → b ≡ false → lo ≡ 0 → Some lo ≡ short_of lo hi
  unfolding short_of
  short-zero n e q f t z = rw (ne_eqb lo hi n, ne_eqb hi (flip lo) (λ y. q (y ∙ sym e)), sym f ∙ t, eq-eqb lo 0 z)

  pub short-one : {x : ℕ} {b : Bool} → lo ≢ hi → x ≡ flip lo → hi ≢ x → b ≡ is_row lo → b ≡ false → lo ≢ 0 → Some hi ≡ short_of lo hi
  unfolding short_of
  short-one n e q f t z = rw (ne_eqb lo hi n, ne_eqb hi (flip lo) (λ y. q (y ∙ sym e)), sym f ∙ t, ne_eqb lo 0 z)

and_self : (b : Bool) → (b && b) ≡ b
and_self true = refl
and_self false = refl

and-not : (b : Bool) → (b && not b) ≡ false
and-not true = refl
and-not false = refl

and-swap : (p q : Bool) → (p && q) ≡ (q && p)
and-swap true true = refl
and-swap true false = refl
and-swap false true = refl
and-swap false false = refl

module _ (m : ℕ) (rows : Rows) where
  -- the constants: nothing decides, and everything yields to the other
  decides : (lo hi : ℕ) → lo ≡ 0 → Denotes m rows lo (and_f (den m rows lo) (den m rows hi))
  decides lo hi e = rw e (record { arrow = tt; same = λ v. rw (den-zero m rows v) })

  yields : (lo hi : ℕ) → lo < 2 → lo ≢ 0 → Arrow rows hi → Denotes m rows hi (and_f (den m rows lo) (den m rows hi))
  yields zero hi h n u = absurd (n refl)
  yields (suc zero) hi h n u = record { arrow = u; same = λ v. rw (den-one m rows v) }
  yields (suc (suc i)) hi h n u = absurd (omega arith)

  -- an arrow and its NOT
  excludes : (lo hi : ℕ) → hi ≡ flip lo → Denotes m rows 0 (and_f (den m rows lo) (den m rows hi))
  excludes lo hi e =
      record {
        arrow =
            tt;
        same =
            λ v. den-zero m rows v
            ∙ sym (ap (λ x. den m rows lo v && den m rows x v) e ∙ ap (λ y. den m rows lo v && y) (den-flip m rows lo v)
            ∙ and-not (den m rows lo v));
      }

  pub short-right : (lo hi v : ℕ) → Arrow rows lo → Arrow rows hi → short_of lo hi ≡ Some v
      → Denotes m rows v (and_f (den m rows lo) (den m rows hi))
  unfolding short_of
  short-right lo hi v a b = go (eqb lo hi) refl (eqb hi (flip lo)) refl (is_row lo) refl (eqb lo 0) refl
    where
      at : {x : ℕ} → Some x ≡ Some v → Denotes m rows x (and_f (den m rows lo) (den m rows hi))
          → Denotes m rows v (and_f (den m rows lo) (den m rows hi))
      at {x} e d = let z : x ≡ v = cc in subst (λ (r : ℕ). Denotes m rows r (and_f (den m rows lo) (den m rows hi))) z d

      go : (p : Bool) → eqb lo hi ≡ p → (t : Bool) → eqb hi (flip lo) ≡ t → (q : Bool) → is_row lo ≡ q → (s : Bool) → eqb lo 0 ≡ s
          → cond p (Some lo) (cond t (Some 0) (cond q None (cond s (Some lo) (Some hi)))) ≡ Some v
          → Denotes m rows v (and_f (den m rows lo) (den m rows hi))
      go true e t k q f s g h =
          at h (record { arrow = a; same = λ x. let z : lo ≡ hi = eqb-true lo hi e in rw (← z) (sym (and_self (den m rows lo x))) })
      go false e true k q f s g h = at h (excludes lo hi (eqb-true hi (flip lo) k))
      go false e false k true f s g h = absurd (let z : ◌≡◌ {A = ℕ} 0 1 = cc in omega arith)
      go false e false k false f true g h = at h (decides lo hi (eqb-true lo 0 g))
      go false e false k false f false g h = at h (yields lo hi (no_row lo f) (eqb-false lo 0 g) b)

is_row_lem : (a : ℕ) → is_row a ≡ true → 2 ≤ a
is_row_lem a h = let e = row_is a h in omega arith

-- what is not known at once are two, and the first leads to a row
short-differ : (lo hi : ℕ) → short_of lo hi ≡ None → (lo ≢ hi) × (is_row lo ≡ true)
unfolding short_of
short-differ lo hi = go (eqb lo hi) refl (eqb hi (flip lo)) refl (is_row lo) refl (eqb lo 0) refl
  where
    go : (p : Bool) → eqb lo hi ≡ p → (t : Bool) → eqb hi (flip lo) ≡ t → (q : Bool) → is_row lo ≡ q → (s : Bool) → eqb lo 0 ≡ s
        → cond p (Some lo) (cond t (Some 0) (cond q None (cond s (Some lo) (Some hi)))) ≡ None
        → (lo ≢ hi) × (is_row lo ≡ true)
    go true e t k q f s g h = absurd (let z : ◌≡◌ {A = ℕ} 0 1 = cc in omega arith)
    go false e true k q f s g h = absurd (let z : ◌≡◌ {A = ℕ} 0 1 = cc in omega arith)
    go false e false k true f s g h = (eqb-false lo hi e, f)
    go false e false k false f true g h = absurd (let z : ◌≡◌ {A = ℕ} 0 1 = cc in omega arith)
    go false e false k false f false g h = absurd (let z : ◌≡◌ {A = ℕ} 0 1 = cc in omega arith)

pub short_none : (lo hi : ℕ) → lo ≤ hi → short_of lo hi ≡ None → BothRows lo hi
short_none lo hi l e =
    let d = short-differ lo hi e in
    let n = d.0 in
    let j = is_row_lem lo d.1 in
    record { left = d.1; right = row-yes hi (omega arith); less = omega arith }

pub known-recalled : (W : View) (lo hi : ℕ) (f : Option ℕ) → short_of lo hi ≡ None → RecallPost W lo hi f → KnownPost W lo hi f
known-recalled W lo hi (Some v) e h = recalled e h
known-recalled W lo hi None e h = e

-- what is known of AND is right
known-right : {m N limit : ℕ} {W : View} (lo hi v : ℕ) → Ready m N limit W → Arrow (rows_of W) lo → Arrow (rows_of W) hi → KnownAt W lo hi v
    → Denotes m (rows_of W) v (and_f (den m (rows_of W) lo) (den m (rows_of W) hi))
known-right {m} {W = W} lo hi v r a b (at_once q) = short-right m (rows_of W) lo hi v a b q
known-right lo hi v r a b (recalled q h) =
    (held-entry r.memory (λ e. let k = is_row_lem lo (short-differ lo hi q).1 in omega arith) h).answer

-- lo and hi are a and b, the lesser first
pub data Swap (a b : ℕ) : ℕ → ℕ → Type 0 where
  same : Swap a b a b
  swapped : Swap a b b a

pub sorted_swap : {lo hi : ℕ} (a b : ℕ) → lo ≡ min a b → hi ≡ max a b → Swap a b lo hi
sorted_swap {lo} {hi} a b p q = by_cases (dec_le a b)
    (λ h. let x : lo ≡ a = omega arith in let y : hi ≡ b = omega arith in rw (x, y) same)
    (λ h. let x : lo ≡ b = omega arith in let y : hi ≡ a = omega arith in rw (x, y) swapped)

pub swap-arrows : {m N limit : ℕ} {W : View} {a b lo hi : ℕ} → Ready m N limit W → Swap a b lo hi → Arrow (rows_of W) a → Arrow (rows_of W) b → Arrow (rows_of W) lo × Arrow (rows_of W) hi
swap-arrows r same x y = (x, y)
swap-arrows r swapped x y = (y, x)

swap_fn : {a b lo hi : ℕ} (m : ℕ) (rows : Rows) → Swap a b lo hi → (v : Val)
    → and_f (den m rows lo) (den m rows hi) v ≡ and_f (den m rows a) (den m rows b) v
swap_fn m rows same v = refl
swap_fn {a} {b} m rows swapped v = and-swap (den m rows b v) (den m rows a v)

swap-level : {a b lo hi : ℕ} (f : ℕ → ℕ) → Swap a b lo hi → min (f lo) (f hi) ≡ min (f a) (f b)
swap-level f same = refl
swap-level f swapped = omega arith

-- the levels from the lesser level of two arrows on
abbrev pub depth : ℕ → Rows → ℕ → ℕ → ℕ
depth m rows a b = m - min (level_of m rows a) (level_of m rows b)

-- two rows at their lesser level l, and their parts there
pub record Split (m : ℕ) (rows : Rows) (lo hi l x₀ x₁ y₀ y₁ : ℕ) : Type 0 where
  pub level : l ≡ min (level_of m rows lo) (level_of m rows hi)
  pub shallow : l < m
  pub left : Parts m rows l lo x₀ x₁
  pub right : Parts m rows l hi y₀ y₁

level-row : (m : ℕ) (rows : Rows) (a : ℕ) → is_row a ≡ true → level_of m rows a ≡ rows.level (row_of a)
level-row m rows a h = leads-level m rows a (row_of a) (row_is a h)

pub split : {m N : ℕ} {rows : Rows} {l x₀ x₁ y₀ y₁ : ℕ} (lo hi : ℕ) → WellFormed m N rows → Arrow rows lo × Arrow rows hi → BothRows lo hi
    → l ≡ min (rows.level (row_of lo)) (rows.level (row_of hi)) → (x₀ ≡ low_at rows l lo) × (x₁ ≡ high_at rows l lo)
    → (y₀ ≡ low_at rows l hi) × (y₁ ≡ high_at rows l hi)
    → Split m rows lo hi l x₀ x₁ y₀ y₁
split {m} {N} {rows} {l} lo hi wf u b e p q =
    let i = level-row m rows lo b.left in
    let j = level-row m rows hi b.right in
    let s = (wf.ok (row_of lo) (of_arrow rows lo b.left refl u.0)).shallow in
    let lm : l < m = omega arith in
    record {
      level = omega arith;
      shallow = lm;
      left = rw (p.0, p.1) (parts wf l lo lm u.0 (omega arith));
      right = rw (q.0, q.1) (parts wf l hi lm u.1 (omega arith));
    }

pub both-within : {m N limit : ℕ} {W : View} {lo hi : ℕ} → Ready m N limit W → Arrow (rows_of W) lo × Arrow (rows_of W) hi → BothRows lo hi
    → (row_of lo < N) × (row_of hi < N)
both-within {W = W} {lo = lo} {hi = hi} r u b =
    let wf = ready-wf r in (
      wf.bounded (row_of lo) (of_arrow (rows_of W) lo b.left refl u.0),
      wf.bounded (row_of hi) (of_arrow (rows_of W) hi b.right refl u.1),
    )

pub swap-depth : {m N limit : ℕ} {W : View} {a b lo hi : ℕ} → Ready m N limit W → Swap a b lo hi
    → depth m (rows_of W) lo hi ≡ depth m (rows_of W) a b
swap-depth {m} {W = W} r w = ap (λ (l : ℕ). m - l) (swap-level (level_of m (rows_of W)) w)

module _ {m : ℕ} {rows : Rows} {lo hi l x₀ x₁ y₀ y₁ : ℕ} (s : Split m rows lo hi l x₀ x₁ y₀ y₁) where
  pub pair-low-falls : depth m rows x₀ y₀ < depth m rows lo hi
  pair-low-falls =
      let p = s.left.low_deeper in
      let q = s.right.low_deeper in
      let f = s.level in
      let h = s.shallow in
      omega arith

  pub pair-high-falls : {new : Rows} → Extends rows new → depth m new x₁ y₁ < depth m rows lo hi
  pair-high-falls x =
      let p = s.left.high_deeper in
      let q = s.right.high_deeper in
      let f = s.level in
      let h = s.shallow in
      rw (level_extends x m x₁ s.left.high-arrow, level_extends x m y₁ s.right.high-arrow) (omega arith)

  pub pair-high-later : {new : Rows} → Extends rows new → Arrow new x₁ × Arrow new y₁
  pair-high-later x = (arrow_extends x x₁ s.left.high-arrow, arrow_extends x y₁ s.right.high-arrow)

-- the arrows followed from an arrow where level l is 0 and where it is 1
module _ {rows : Rows} {j k x y : ℕ} (l a : ℕ) (h : is_row a ≡ true) (q : j ≡ row_of a) (r : RowIs rows a j k x y) where
  leads : Leads a j
  leads = row_is a h ∙ ap suc (sym q)

  pub halves-past : k ≢ l → (a ≡ low_at rows l a) × (a ≡ high_at rows l a)
  halves-past n =
      let z : rows.level j ≢ l = λ e. n (r.level ∙ e) in (sym (low-past rows l a j leads z), sym (high-past rows l a j leads z))

  pub halves-here : k ≡ l → (x ≡ low_at rows l a) × (y ≡ high_at rows l a)
  halves-here e =
      let z : rows.level j ≡ l = sym r.level ∙ e in
      (r.low ∙ sym (low-here rows l a j leads z), r.high ∙ sym (high-here rows l a j leads z))

-- AND of a and b is AND of lo and hi
module _ {m N limit : ℕ} {W : View} {a b lo hi : ℕ} (r : Ready m N limit W) (w : Swap a b lo hi) where
  pub swap_worked : {X : View} {t : Result ℕ Full} → Worked m N limit W X t (and_f (den m (rows_of W) lo) (den m (rows_of W) hi))
      → Worked m N limit W X t (and_f (den m (rows_of W) a) (den m (rows_of W) b))
  swap_worked k = worked_cong (swap_fn m (rows_of W) w) k

-- AND of lo and hi may be remembered
pair_remembers : {m N limit : ℕ} {W X Y : View} (lo hi : ℕ) (t : Result ℕ Full) → Ready m N limit W
    → Arrow (rows_of W) lo × Arrow (rows_of W) hi
    → Worked m N limit W X t (and_f (den m (rows_of W) lo) (den m (rows_of W) hi)) → RememberPost X Y lo hi t → Remembers m Y
pair_remembers {m} {N} {limit} {W} {X} lo hi t r u k p = remembers_pair lo hi t k.memory (right t k) p
  where
    right : (s : Result ℕ Full) → Worked m N limit W X s (and_f (den m (rows_of W) lo) (den m (rows_of W) hi))
        → RightPair m (rows_of X) lo hi s
    right (Ok v) q =
        let x = q.post.kept in
        record {
          left = arrow_extends x lo u.0;
          right = arrow_extends x hi u.1;
          answer = record {
            arrow = q.post.result.arrow;
            same = λ y. q.post.result.same y
                ∙ ap₂ ◌&&◌ (sym (den_extends x (ready-wf r) m lo u.0 y)) (sym (den_extends x (ready-wf r) m hi u.1 y));
          };
        }
    right (Err _) q = tt

module _ {m N limit : ℕ} {W : View} {lo hi : ℕ} (r : Ready m N limit W) (u : Arrow (rows_of W) lo × Arrow (rows_of W) hi) where
  -- what is known
  pub known_worked : {v : ℕ} {f : Option ℕ} → lo ≤ hi → f ≡ Some v → KnownPost W lo hi f
      → Worked m N limit W W (Ok v) (and_f (den m (rows_of W) lo) (den m (rows_of W) hi))
  known_worked {v} l e p = worked_there r (known-right lo hi v r u.0 u.1 (rw e at p))

  -- what the two calls compute
  pub pair-calls : {l x₀ x₁ y₀ y₁ : ℕ} → Split m (rows_of W) lo hi l x₀ x₁ y₀ y₁
      → Divides m (rows_of W) l (and_f (den m (rows_of W) lo) (den m (rows_of W) hi)) (and_f (den m (rows_of W) x₀) (den m (rows_of W) y₀))
      (λ t. and_f (den m t x₁) (den m t y₁))
  pair-calls s = two_divides (ready-wf r) s.shallow s.left ◌&&◌ s.right

  -- the result is remembered
  pub pair-kept : {X Y : View} {t : Result ℕ Full} → BothRows lo hi
      → Worked m N limit W X t (and_f (den m (rows_of W) lo) (den m (rows_of W) hi)) → RememberPost X Y lo hi t
      → Worked m N limit W Y t (and_f (den m (rows_of W) lo) (den m (rows_of W) hi))
  pair-kept {t = t} z k p = worked_kept k (remember-frame lo hi t p) (pair_remembers lo hi t r u k p)

-- OR, and AND of the two with the other mark: each is NOT of the other
not-and : (p q : Bool) → not (not p && not q) ≡ (p || q)
not-and true q = refl
not-and false true = refl
not-and false false = refl

not-or : (p q : Bool) → not (p || q) ≡ (not p && not q)
not-or true q = refl
not-or false q = refl

or_swap : (p q : Bool) → (p || q) ≡ (q || p)
or_swap true true = refl
or_swap true false = refl
or_swap false true = refl
or_swap false false = refl

module _ (m : ℕ) (rows : Rows) (a b : ℕ) (v : Val) where
  turned_or : not (and_f (den m rows (flip a)) (den m rows (flip b)) v) ≡ or_f (den m rows a) (den m rows b) v
  turned_or = ap₂ (λ p q. not (p && q)) (den-flip m rows a v) (den-flip m rows b v) ∙ not-and (den m rows a v) (den m rows b v)

  turned-and : not (or_f (den m rows a) (den m rows b) v) ≡ and_f (den m rows (flip a)) (den m rows (flip b)) v
  turned-and = not-or (den m rows a v) (den m rows b v) ∙ sym (ap₂ ◌&&◌ (den-flip m rows a v) (den-flip m rows b v))

swap_or : {a b lo hi : ℕ} (m : ℕ) (rows : Rows) → Swap a b lo hi → (v : Val)
    → or_f (den m rows lo) (den m rows hi) v ≡ or_f (den m rows a) (den m rows b) v
swap_or m rows same v = refl
swap_or {a} {b} m rows swapped v = or_swap (den m rows b v) (den m rows a v)

turned-arrows : (rows : Rows) (a b : ℕ) → Arrow rows a × Arrow rows b → Arrow rows (flip a) × Arrow rows (flip b)
turned-arrows rows a b u = (carry_arrow rows true a u.0, carry_arrow rows true b u.1)

-- what the code turns
module _ (lo hi : ℕ) {x y : ℕ} (ex : x ≡ flip lo) (ey : y ≡ flip hi) where
  pub or-by : {r : Option ℕ} (W : View) (f : Option ℕ) → KnownPost W x y f → r ≡ carried_found true f → OrKnown W lo hi r
  or-by W f k e = record { found = f; known = subst₂ (λ (i j : ℕ). KnownPost W i j f) ex ey k; turned = e }

  pub or-stored : {W X : View} (c z : Result ℕ Full) → CarriedMade true c z → RememberPost W X x y z → OrRemembered W X lo hi c
  or-stored {W} {X} c z t p =
      record { answer = z; turned = t; post = subst₂ (λ (i j : ℕ). RememberPost W X i j z) ex ey p }

-- where OR is not known, both lead to rows
pub or-none : {W : View} (lo hi : ℕ) {f : Option ℕ} → lo ≤ hi → f ≡ None → OrKnown W lo hi f → BothRows lo hi
or-none {W} lo hi {f} l e k = go k.found k.known (sym k.turned ∙ e)
  where
    go : (g : Option ℕ) → KnownPost W (flip lo) (flip hi) g → carried_found true g ≡ None → BothRows lo hi
    go (Some v) p q = absurd (let z : ◌≡◌ {A = ℕ} 0 1 = cc in omega arith)
    go None p q =
        let d = short-differ (flip lo) (flip hi) p in
        let n : lo ≢ hi = λ z. d.0 (ap flip z) in
        let j = is_row_lem (flip lo) d.1 in
        record { left = row-yes lo (omega arith); right = row-yes hi (omega arith); less = omega arith }

module _ {m N limit : ℕ} {W : View} {a b lo hi : ℕ} (r : Ready m N limit W) (w : Swap a b lo hi) where
  pub or-swapped : {X : View} {t : Result ℕ Full} → Worked m N limit W X t (or_f (den m (rows_of W) lo) (den m (rows_of W) hi))
      → Worked m N limit W X t (or_f (den m (rows_of W) a) (den m (rows_of W) b))
  or-swapped k = worked_cong (swap_or m (rows_of W) w) k

module _ {m N limit : ℕ} {W : View} {lo hi : ℕ} (r : Ready m N limit W) (u : Arrow (rows_of W) lo × Arrow (rows_of W) hi) where
  -- what is known
  pub or_known_lem : {v : ℕ} {f : Option ℕ} → f ≡ Some v → OrKnown W lo hi f
      → Worked m N limit W W (Ok v) (or_f (den m (rows_of W) lo) (den m (rows_of W) hi))
  or_known_lem {v} e k = worked_there r (go k.found k.known (sym k.turned ∙ e))
    where
      go : (g : Option ℕ) → KnownPost W (flip lo) (flip hi) g → carried_found true g ≡ Some v
          → Denotes m (rows_of W) v (or_f (den m (rows_of W) lo) (den m (rows_of W) hi))
      go (Some x) p q =
          let z : flip x ≡ v = cc in
          let U = turned-arrows (rows_of W) lo hi u in
          subst (λ (y : ℕ). Denotes m (rows_of W) y (or_f (den m (rows_of W) lo) (den m (rows_of W) hi))) z
          (denotes-carried true (turned_or m (rows_of W) lo hi)
          (known-right (flip lo) (flip hi) x r U.0 U.1 p))
      go None p q = absurd (let z : ◌≡◌ {A = ℕ} 0 1 = cc in omega arith)

  -- what the two calls compute
  pub or-calls : {l x₀ x₁ y₀ y₁ : ℕ} → Split m (rows_of W) lo hi l x₀ x₁ y₀ y₁
      → Divides m (rows_of W) l (or_f (den m (rows_of W) lo) (den m (rows_of W) hi)) (or_f (den m (rows_of W) x₀) (den m (rows_of W) y₀))
      (λ t. or_f (den m t x₁) (den m t y₁))
  or-calls s = two_divides (ready-wf r) s.shallow s.left ◌||◌ s.right

  -- the result is remembered, as AND of the two with the other mark
  pub or_kept : {X Y : View} {c : Result ℕ Full} → Worked m N limit W X c (or_f (den m (rows_of W) lo) (den m (rows_of W) hi))
      → OrRemembered X Y lo hi c
      → Worked m N limit W Y c (or_f (den m (rows_of W) lo) (den m (rows_of W) hi))
  or_kept {c = c} k p =
      worked_kept k (remember-frame (flip lo) (flip hi) p.answer p.post)
      (pair_remembers (flip lo) (flip hi) p.answer r (turned-arrows (rows_of W) lo hi u)
      (worked_carried true c (turned-and m (rows_of W) lo hi) k p.turned) p.post)
