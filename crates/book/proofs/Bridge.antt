-- Laws of what specs/Bridge.antt defines. Assumes nothing.
use mathlib.Core.Path.{◌≡◌, sym, ap, ap₂, ◌∙◌, subst, fun_ext}
use mathlib.Core.Bool.{Bool, true, false, not, ◌&&◌, ◌||◌}
use mathlib.Core.List.{List, []}
use Prim.Native.Nat.{ℕ, suc, ◌*◌, ◌^◌, ◌%◌, ◌<◌}
use native.Mathlib.Omega.{arith}
use lib.Dec.{T, eqb, eqb_refl}
use lib.ListN.{length, get_or}
use lib.Seq.{ext_get_or}
use Rattle.mucalculus.specs.Sets.{mem, table, no_states, all_states}
use Rattle.mucalculus.proofs.Sets.{length-table}
use Rattle.mucalculus.specs.Form.{Form, neg, conj, disj, now, next, Pairs}
use Rattle.mucalculus.specs.Means.{clip, compl, inter, union, bit, bit_states, pair, holds, means_pair}
use Rattle.mucalculus.proofs.Laws.{get_or-table}
use Rattle.diagram.specs.Level.{Val, Fn}
use Rattle.diagram.proofs.Level.{T_true}
use Rattle.diagram.specs.Even.{ReadsOn, even}
use Rattle.diagram.specs.Steps.{bit_f, not_f, and_f, or_f}
use Rattle.book.specs.States.{now_of, next_of, pair_val}
use Rattle.book.proofs.States.{now_of-lt, now_of_cong, now_of-bit, pair_val-now, now_of-pair_val, next_of-pair_val}
use Rattle.book.specs.Bridge.{fn_of, fn_of_pairs, set_of, pairs_of, Sized, SizedPairs}

module _ (n : ℕ) where
  -- ---- sets given by a test

  -- a set given by a test of its states, as a function
  pub fn_of-table : (h : ℕ → Bool) → fn_of n (table (2 ^ n) h) ≡ (λ v. h (now_of n v))
  fn_of-table h = fun_ext (λ v. get_or-table (2 ^ n) h (now_of n v) false (now_of-lt n v))

  -- pairs given by a test, as a function
  pub fn_of_pairs-table : (h : ℕ → ℕ → Bool) → fn_of_pairs n (table (2 ^ n) (λ s. table (2 ^ n) (h s))) ≡ (λ v. h (now_of n v) (next_of n v))
  fn_of_pairs-table h = fun_ext (λ v.
      ap (λ (A : List Bool). mem A (next_of n v)) (get_or-table (2 ^ n) (λ s. table (2 ^ n) (h s)) (now_of n v) [] (now_of-lt n v))
      ∙ get_or-table (2 ^ n) (h (now_of n v)) (next_of n v) false (now_of-lt n (λ l. v (suc l))))

  pub sized-table : (h : ℕ → ℕ → Bool) → SizedPairs n (table (2 ^ n) (λ s. table (2 ^ n) (h s)))
  sized-table h = record {
    rows = length-table (2 ^ n) _;
    each = λ s l. ap length (get_or-table (2 ^ n) (λ u. table (2 ^ n) (h u)) s [] l) ∙ length-table (2 ^ n) (h s);
  }

module _ (n : ℕ) where
  -- ---- what is read

  -- a set of states reads only the levels of current bits
  pub fn_of-even : (A : List Bool) → ReadsOn even (fn_of n A)
  fn_of-even A v w h = ap (mem A) (now_of_cong n v w (λ p l. h (2 * p) (level p)))
    where
      level : (p : ℕ) → even (2 * p) ≡ true
      level p = T_true (even (2 * p)) (subst (λ (k : ℕ). T (eqb k 0)) (rest p) (eqb_refl 0))
        where
          rest : (p : ℕ) → 0 ≡ 2 * p % 2
          rest p = omega arith

  -- ---- the same set exactly where the same function

  pub fn_of_inj : (A B : List Bool) → Sized n A → Sized n B → ((v : Val) → fn_of n A v ≡ fn_of n B v) → A ≡ B
  fn_of_inj A B a b e = ext_get_or false A B (a ∙ sym b) (λ s l.
      let h : now_of n (pair_val s 0) ≡ s = now_of-pair_val n s 0 (subst (λ (k : ℕ). s < k) a l) in
      sym (ap (mem A) h) ∙ e (pair_val s 0) ∙ ap (mem B) h)

  pub fn_of_pairs_inj : (Q R : Pairs) → SizedPairs n Q → SizedPairs n R → ((v : Val) → fn_of_pairs n Q v ≡ fn_of_pairs n R v) → Q ≡ R
  fn_of_pairs_inj Q R a b e = ext_get_or [] Q R (a.rows ∙ sym b.rows) (λ s l.
      let i : s < 2 ^ n = subst (λ (k : ℕ). s < k) a.rows l in
      ext_get_or false (get_or Q s []) (get_or R s []) (a.each s i ∙ sym (b.each s i)) (λ t k.
      let j : t < 2 ^ n = subst (λ (m : ℕ). t < m) (a.each s i) k in
      let g = now_of-pair_val n s t i in
      let h = next_of-pair_val n s t j in
      sym (ap₂ (pair Q) g h) ∙ e (pair_val s t) ∙ ap₂ (pair R) g h))

  -- ---- there and back

  pub set_of-fn_of : (A : List Bool) → Sized n A → set_of n (fn_of n A) ≡ A
  set_of-fn_of A a = ext_get_or false (set_of n (fn_of n A)) A (length-table (2 ^ n) _ ∙ sym a) (λ s l.
      let i : s < 2 ^ n = subst (λ (k : ℕ). s < k) (length-table (2 ^ n) (λ u. fn_of n A (pair_val u 0))) l in
      get_or-table (2 ^ n) _ s false i ∙ ap (mem A) (now_of-pair_val n s 0 i))

  pub pairs_of-fn_of_pairs : (R : Pairs) → SizedPairs n R → pairs_of n (fn_of_pairs n R) ≡ R
  pairs_of-fn_of_pairs R a = fn_of_pairs_inj (pairs_of n (fn_of_pairs n R)) R (sized-table n (λ s t. fn_of_pairs n R (pair_val s t))) a (λ v.
      ap (λ (F : Fn). F v) (fn_of_pairs-table n (λ s t. fn_of_pairs n R (pair_val s t)))
      ∙ ap₂ (pair R) (now_of-pair_val n (now_of n v) (next_of n v) (now_of-lt n v))
      (next_of-pair_val n (now_of n v) (next_of n v) (now_of-lt n (λ l. v (suc l)))))

  pub fn_of-set_of : (F : Fn) → ((v w : Val) → ((p : ℕ) → p < n → v (2 * p) ≡ w (2 * p)) → F v ≡ F w) → fn_of n (set_of n F) ≡ F
  fn_of-set_of F r = fn_of-table n (λ s. F (pair_val s 0)) ∙ fun_ext (λ v. r _ v (λ p l. pair_val-now p (now_of n v) 0 ∙ now_of-bit n v p l))

  -- ---- the steps

  pub fn_of-none : fn_of n (no_states (2 ^ n)) ≡ (λ v. false)
  fn_of-none = fn_of-table n (λ s. false)

  pub fn_of-all : fn_of n (all_states (2 ^ n)) ≡ (λ v. true)
  fn_of-all = fn_of-table n (λ s. true)

  pub fn_of-clip : (A : List Bool) → fn_of n (clip (2 ^ n) A) ≡ fn_of n A
  fn_of-clip A = fn_of-table n (mem A)

  -- a bit: current bit p is level 2p
  pub fn_of-bit : (p : ℕ) → p < n → fn_of n (bit_states (2 ^ n) p) ≡ bit_f (2 * p)
  fn_of-bit p l = fn_of-table n (bit p) ∙ fun_ext (λ v. now_of-bit n v p l)

  -- NOT, AND, OR
  pub fn_of-not : (A : List Bool) → fn_of n (compl (2 ^ n) A) ≡ not_f (fn_of n A)
  fn_of-not A = fn_of-table n (λ s. not (mem A s))

  pub fn_of-and : (A B : List Bool) → fn_of n (inter (2 ^ n) A B) ≡ and_f (fn_of n A) (fn_of n B)
  fn_of-and A B = fn_of-table n (λ s. mem A s && mem B s)

  pub fn_of-or : (A B : List Bool) → fn_of n (union (2 ^ n) A B) ≡ or_f (fn_of n A) (fn_of n B)
  fn_of-or A B = fn_of-table n (λ s. mem A s || mem B s)

  -- ---- the steps on pairs

  -- what a relation's formula means, as a function of levels
  pub fn_of-holds : (f : Form) → fn_of_pairs n (means_pair n f) ≡ (λ v. holds f (now_of n v) (next_of n v))
  fn_of-holds f = fn_of_pairs-table n (holds f)

  -- current bit p is level 2p, next bit p level 2p + 1
  pub pairs-now : (p : ℕ) → p < n → fn_of_pairs n (means_pair n (now p)) ≡ bit_f (2 * p)
  pairs-now p l = fn_of-holds (now p) ∙ fun_ext (λ v. now_of-bit n v p l)

  pub pairs_next : (p : ℕ) → p < n → fn_of_pairs n (means_pair n (next p)) ≡ bit_f (suc (2 * p))
  pairs_next p l = fn_of-holds (next p) ∙ fun_ext (λ v. now_of-bit n (λ k. v (suc k)) p l)

  pub pairs-not : (f : Form) → fn_of_pairs n (means_pair n (neg f)) ≡ not_f (fn_of_pairs n (means_pair n f))
  pairs-not f = fn_of-holds (neg f) ∙ ap not_f (sym (fn_of-holds f))

  pub pairs-and : (f g : Form) → fn_of_pairs n (means_pair n (conj f g)) ≡ and_f (fn_of_pairs n (means_pair n f)) (fn_of_pairs n (means_pair n g))
  pairs-and f g = fn_of-holds (conj f g) ∙ ap₂ and_f (sym (fn_of-holds f)) (sym (fn_of-holds g))

  pub pairs-or : (f g : Form) → fn_of_pairs n (means_pair n (disj f g)) ≡ or_f (fn_of_pairs n (means_pair n f)) (fn_of_pairs n (means_pair n g))
  pairs-or f g = fn_of-holds (disj f g) ∙ ap₂ or_f (sym (fn_of-holds f)) (sym (fn_of-holds g))
