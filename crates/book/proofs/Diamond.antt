-- Laws of what specs/Diamond.antt defines. Assumes nothing.
use mathlib.Core.Path.{◌≡◌, refl, sym, ap, ◌∙◌, subst, fun_ext}
use mathlib.Core.Logic.{◌≢◌, ◌⊎◌, inl, inr, by_cases}
use mathlib.Core.Bool.{Bool, true, false, ◌&&◌}
use mathlib.Core.List.{List, Memᴰ}
use Prim.Native.Nat.{ℕ, zero, suc, ◌*◌, ◌/◌, ◌^◌, ◌<◌}
use native.Mathlib.Decide.{dec_le, ℕ_discrete}
use native.Mathlib.Omega.{arith}
use lib.Dec.{T}
use Rattle.mucalculus.specs.Sets.{mem, table, any}
use Rattle.mucalculus.proofs.Sets.{any_in, any_out, and_in, and_out, or_left, or_right, or_out}
use Rattle.mucalculus.specs.Form.{Pairs}
use Rattle.mucalculus.specs.Means.{pair, compl, sometimes, always}
use Rattle.mucalculus.proofs.Laws.{table_out, box_dual}
use Rattle.diagram.specs.Level.{Val, Fn, upd, splice}
use Rattle.diagram.proofs.Level.{upd_same, upd_other, splice-below, splice-above}
use Rattle.diagram.specs.Steps.{not_f, and_f, shift_f, exists_f}
use Rattle.book.specs.States.{now_of, next_of, pair_val}
use Rattle.book.proofs.States.{now_of-lt, now_of_cong, now_of-bit, now_of-state, pair_val-now, pair_val-next}
use Rattle.book.specs.Bridge.{fn_of, fn_of_pairs}
use Rattle.book.proofs.Bridge.{fn_of-table, fn_of-not}
use Rattle.book.specs.Diamond.{exists_next, diamond_f}

-- the steps of box: NOT, diamond, NOT
abbrev pub box_f : ℕ → Fn → Fn → Fn
box_f n relation f = not_f (diamond_f n relation (not_f f))

-- w is v but at the levels 1, 3, .., 2n − 1
abbrev pub ButNext : ℕ → Val → Val → Type 0
ButNext n v w = (l : ℕ) → ((p : ℕ) → p < n → l ≢ suc (2 * p)) → w l ≡ v l

-- what is quantified holds at some choice of the next bits
pub exists_out : (n : ℕ) (F : Fn) (v : Val) → T (exists_next n F v) → (w : Val) × ButNext n v w × T (F w)
unfolding exists_next
exists_out zero F v t = (v, (λ l _. refl), t)
exists_out (suc n) F v t = go (exists_out n (exists_f (suc (2 * n)) F) v t)
  where
    set : (w : Val) (b : Bool) → ButNext n v w → ButNext (suc n) v (upd w (suc (2 * n)) b)
    set w b s l h = upd_other w (suc (2 * n)) b l (h n (omega arith)) ∙ s l (λ p k. h p (omega arith))

    go : (w : Val) × ButNext n v w × T (exists_f (suc (2 * n)) F w) → (w : Val) × ButNext (suc n) v w × T (F w)
    go (w, s, u) = pick (or_out (F (upd w (suc (2 * n)) false)) (F (upd w (suc (2 * n)) true)) u)
      where
        pick : T (F (upd w (suc (2 * n)) false)) ⊎ T (F (upd w (suc (2 * n)) true)) → (w : Val) × ButNext (suc n) v w × T (F w)
        pick (inl x) = (upd w (suc (2 * n)) false, set w false s, x)
        pick (inr x) = (upd w (suc (2 * n)) true, set w true s, x)

-- what holds at some choice of the next bits, is quantified
pub exists_in : (n : ℕ) (F : Fn) (v w : Val) → ButNext n v w → T (F w) → T (exists_next n F v)
unfolding exists_next
exists_in zero F v w s t = subst (λ (u : Val). T (F u)) (fun_ext (λ l. s l (λ p h. absurd (omega arith)))) t
exists_in (suc n) F v w s t = exists_in n (exists_f (suc (2 * n)) F) v back kept (some (w k) refl)
  where
    k : ℕ
    k = suc (2 * n)

    back : Val
    back = upd w k (v k)

    kept : ButNext n v back
    kept l h =
        by_cases (ℕ_discrete l k)
        (λ e. ap back e ∙ upd_same w k (v k) ∙ sym (ap v e))
        (λ ne. upd_other w k (v k) l ne
        ∙ s l (λ p j. by_cases (ℕ_discrete p n) (λ e q. ne (q ∙ ap (λ (x : ℕ). suc (2 * x)) e)) (λ d. h p (omega arith))))

    again : (b : Bool) → w k ≡ b → upd back k b ≡ w
    again b e =
        fun_ext
        (λ l. by_cases (ℕ_discrete l k) (λ q. ap (upd back k b) q ∙ upd_same back k b ∙ sym e ∙ sym (ap w q))
        (λ ne. upd_other back k b l ne ∙ upd_other w k (v k) l ne))

    some : (b : Bool) → w k ≡ b → T (exists_f k F back)
    some true e = or_right (F (upd back k false)) (F (upd back k true)) (subst (λ (u : Val). T (F u)) (sym (again true e)) t)
    some false e = or_left (F (upd back k false)) (F (upd back k true)) (subst (λ (u : Val). T (F u)) (sym (again false e)) t)

module _ (n : ℕ) (v : Val) where
  -- v with the next bits of t
  with_next : ℕ → Val
  with_next t = splice (2 * n) (pair_val (now_of n v) t) v

  with_next_but : (t : ℕ) → ButNext n v (with_next t)
  unfolding with_next
  with_next_but t l h =
      by_cases (dec_le (2 * n) l)
      (λ g. splice-above (2 * n) _ v l g)
      (λ g.
      let e : l ≡ 2 * (l / 2) = let odd = h (l / 2) (omega arith) in omega arith in
      splice-below (2 * n) _ v l (omega arith) ∙ ap (pair_val (now_of n v) t) e ∙ pair_val-now (l / 2) (now_of n v) t
      ∙ now_of-bit n v (l / 2) (omega arith) ∙ ap v (sym e))

  with_next_next : (t : ℕ) → t < 2 ^ n → next_of n (with_next t) ≡ t
  unfolding with_next
  with_next_next t h =
      now_of-state n (λ l. with_next t (suc l)) t h
      (λ p l. splice-below (2 * n) _ v (suc (2 * p)) (omega arith) ∙ pair_val-next p (now_of n v) t)

  -- what is v but at the next bits has v's current bits
  but_now : (w : Val) → ButNext n v w → now_of n w ≡ now_of n v
  but_now w s = now_of_cong n w v (λ p l. s (2 * p) (λ q k. omega arith))

-- the elements of a table
pub table_in : {X : Type 0} (k : ℕ) (h : ℕ → X) (i : ℕ) → i < k → Memᴰ (h i) (table k h)
table_in zero h i l = absurd (omega arith)
table_in (suc k) h zero l = Memᴰ.head refl
table_in (suc k) h (suc i) l = Memᴰ.tail (table_in k (λ j. h (suc j)) i (omega arith))

-- two tests that imply one another are the same
same_test : (a b : Bool) → (T a → T b) → (T b → T a) → a ≡ b
same_test true true f g = refl
same_test true false f g = absurd (f tt)
same_test false true f g = absurd (g tt)
same_test false false f g = refl

-- the steps of diamond compute the states of which some next state is in A
pub diamond-exact : (n : ℕ) (R : Pairs) (A : List Bool) → fn_of n (sometimes (2 ^ n) R A) ≡ diamond_f n (fn_of_pairs n R) (fn_of n A)
diamond-exact n R A =
    fn_of-table n (λ s. any (λ t. pair R s t && mem A t) (table (2 ^ n) (λ t. t))) ∙ fun_ext (λ v. same_test _ _ (there v) (back v))
  where
    C : Fn
    C = and_f (shift_f (fn_of n A)) (fn_of_pairs n R)

    there : (v : Val) → T (any (λ t. pair R (now_of n v) t && mem A t) (table (2 ^ n) (λ t. t))) → T (exists_next n C v)
    there v x =
        let (t, i, p) = any_out (λ t. pair R (now_of n v) t && mem A t) (table (2 ^ n) (λ t. t)) x in
        let h : t < 2 ^ n = table_out (2 ^ n) (λ t. t) (λ t. t < 2 ^ n) (λ t l. l) t i in
        let w = and_out (pair R (now_of n v) t) (mem A t) p in
        let a = but_now n v (with_next n v t) (with_next_but n v t) in
        let b = with_next_next n v t h in
        exists_in n C v (with_next n v t) (with_next_but n v t) (rw (a, b) (and_in (mem A t) (pair R (now_of n v) t) w.1 w.0))

    back : (v : Val) → T (exists_next n C v) → T (any (λ t. pair R (now_of n v) t && mem A t) (table (2 ^ n) (λ t. t)))
    back v x =
        let (w, s, p) = exists_out n C v x in
        let q = and_out (mem A (next_of n w)) (pair R (now_of n w) (next_of n w)) p in
        let a = but_now n v w s in
        any_in (λ t. pair R (now_of n v) t && mem A t) (table_in (2 ^ n) (λ t. t) (next_of n w) (now_of-lt n (λ l. w (suc l))))
        (and_in (pair R (now_of n v) (next_of n w)) (mem A (next_of n w)) (rw (← a) q.1) q.0)

-- and those of box the states of which every next state is in A
pub box-exact : (n : ℕ) (R : Pairs) (A : List Bool) → fn_of n (always (2 ^ n) R A) ≡ box_f n (fn_of_pairs n R) (fn_of n A)
box-exact n R A =
    ap (fn_of n) (box_dual (2 ^ n) R A) ∙ fn_of-not n (sometimes (2 ^ n) R (compl (2 ^ n) A))
    ∙ ap not_f (diamond-exact n R (compl (2 ^ n) A) ∙ ap (diamond_f n (fn_of_pairs n R)) (fn_of-not n A))
