-- Laws of what specs/Stored.antt defines. Assumes nothing.
use mathlib.Core.Path.{◌≡◌, refl, sym, ap, ◌∙◌, subst}
use mathlib.Core.Bool.{Bool, true, false, not, ◌&&◌, cond}
use mathlib.Core.List.{List, [], ◌∷◌}
use mathlib.Core.Option.{Option, none, some}
use Prim.Native.Nat.{ℕ, zero, suc, ◌^◌, ◌+◌, ◌≤◌, ◌<◌, max, zero-le}
use native.Mathlib.Omega.{arith}
use native.Mathlib.Nat.{lt_of_not-le}
use lib.Dec.{T, ltb, ltb→lt, lt→ltb, eqb, eqb→eq}
use lib.ListN.{length}
use Rattle.mucalculus.specs.Form.{filled as filled_place, Form, bound, none_open, mentioned, steady, Pairs, no_env, put}
use Rattle.mucalculus.specs.Means.{clip, means, means_pair, pair, pairs_within}
use Rattle.mucalculus.proofs.Means.{length-means}
use Rattle.mucalculus.specs.Sets.{mem, table}
use Rattle.mucalculus.proofs.Sets.{mem-table, length-table, and_out}
use Rattle.mucalculus.specs.Order.{Below}
use Rattle.mucalculus.proofs.Laws.{get_or-table}
use Rattle.mucalculus.specs.Exist.{Inside}
use Rattle.mucalculus.proofs.Exist.{means_in}
use Rattle.mucalculus.specs.Rounds.{rounds}
use Rattle.tokens.specs.declared.Kind.{Kind}
use Rattle.formula.specs.Parse.{is_formula, formula_of}
use Rattle.formula.specs.Checks.{filled, first_of, first_refusal}
use Rattle.tokens.specs.declared.Kind.TheVariants.{Relation, Set, Valid}
use Rattle.accounts.specs.declared.Terms.{Terms}
use Rattle.accounts.specs.Terms.{named, rows_under, rounds_under}
use Rattle.accounts.specs.declared.Count.{Count}
use Rattle.accounts.specs.Count.{nothing}
use Rattle.book.specs.Over.{states, pairs}
use Rattle.book.specs.Bridge.{Sized, SizedPairs}
use Rattle.book.proofs.Bridge.{sized-table}
use Rattle.book.specs.Ticks.{ticks, relation_ticks, Verdict, counted, full, spent, verdict, peak, needs_in}
use Rattle.book.proofs.Verdicts.{rounds_in, verdict-counted, ticks-rounds}
use Rattle.book.specs.Book.{formula_in, Book, fresh, Call, relation, set, valid, clear, collect, with_valid, everything, states_of}
use Rattle.book.specs.Book.{vacant, unfilled, valid_done, valid_steps, registers, relations, model_of, live_of, reg_filled, rel_filled}
use Rattle.book.specs.Book.{checks, Done, refuse, with_rel, with_reg, ended, relation_done, set_done, relation_steps, set_steps, passing}
use Rattle.book.specs.Book.{formula_call, does}
use Rattle.book.specs.Stored.{Passed, Whole}

-- ---- the checks

-- the first refusal by the five tests
tested : Bool → Bool → Bool → Bool → Bool → ℕ
tested w x u y z = first_of ((w, 4) ∷ (x, 5) ∷ (u, 12) ∷ (y, 6) ∷ (z, 7) ∷ [])

tested_all : (w x u y z : Bool) → tested w x u y z ≡ 0 → T w × T x × T u × T y × T z
unfolding tested
tested_all true true true true true i = (tt, tt, tt, tt, tt)
tested_all true true true true false i = absurd (omega arith)
tested_all true true true false z i = absurd (omega arith)
tested_all true true false y z i = absurd (omega arith)
tested_all true false u y z i = absurd (omega arith)
tested_all false x u y z i = absurd (omega arith)

tested_range : (k : ℕ) (w x u y z : Bool) → tested w x u y z ≡ suc k → (3 ≤ k) × (k ≤ 11)
unfolding tested
tested_range k true true true true true i = absurd (omega arith)
tested_range k true true true true false i = (omega arith, omega arith)
tested_range k true true true false z i = (omega arith, omega arith)
tested_range k true true false y z i = (omega arith, omega arith)
tested_range k true false u y z i = (omega arith, omega arith)
tested_range k false x u y z i = (omega arith, omega arith)

module _ (b : Book) (c : Kind) (bs : List ℕ) where
  number_is : checks b c bs
      ≡ tested (is_formula (formula_of c b.n bs)) (bound none_open (formula_in b c bs)) (mentioned (formula_in b c bs))
      (steady (formula_in b c bs)) (filled (reg_filled b) (rel_filled b) (formula_in b c bs))
  unfolding first_refusal tested
  number_is = refl

  pub checks-passed : checks b c bs ≡ 0 → Passed b c bs
  checks-passed h =
      let u = tested_all (is_formula (formula_of c b.n bs)) (bound none_open (formula_in b c bs)) (mentioned (formula_in b c bs))
      (steady (formula_in b c bs)) (filled (reg_filled b) (rel_filled b) (formula_in b c bs)) (sym number_is ∙ h) in
      record { is_read = u.0; is_bound = u.1; is_mentioned = u.2; is_steady = u.3; is_filled = u.4 }

  -- the checks' number is 0 or one of 4 to 7 and 12
  checks-range : (k : ℕ) → checks b c bs ≡ suc k → (3 ≤ k) × (k ≤ 11)
  checks-range k h =
      tested_range k (is_formula (formula_of c b.n bs)) (bound none_open (formula_in b c bs)) (mentioned (formula_in b c bs))
      (steady (formula_in b c bs)) (filled (reg_filled b) (rel_filled b) (formula_in b c bs)) (sym number_is ∙ h)

  -- a call that takes a formula is refused by a check, 4 to 7 or 12, or goes on with a formula that passed
  formula_cases : (P : Done → Type 0) (go : Form → Done) → ((k : ℕ) → 3 ≤ k → k ≤ 11 → P (refuse b (suc k)))
      → (Passed b c bs → P (go (formula_in b c bs))) → P (formula_call b c bs go)
  formula_cases P go refuses goes = pass (checks b c bs) refl
    where
      pass : (k : ℕ) → checks b c bs ≡ k → P (passing b k (go (formula_in b c bs)))
      pass zero h = goes (checks-passed h)
      pass (suc k) h = let r = checks-range k h in refuses k r.0 r.1

-- a number in range, or out of it
pub range_cases : {X : Type 0} (P : X → Type 0) (k limit : ℕ) (x y : X) → (k < limit → P x) → (limit ≤ k → P y) → P (cond (ltb k limit) x y)
range_cases {X} P k limit x y p q = go (ltb k limit) refl
  where
    go : (t : Bool) → ltb k limit ≡ t → P (cond t x y)
    go true e = p (ltb→lt k limit (subst T (sym e) tt))
    go false e = let h : limit < suc k = lt_of_not-le (λ l. subst T e (lt→ltb k limit l)) in q (omega arith)

ended_cases : (P : Done → Type 0) (b : Book) (w : Verdict) (go : Count → Done) → ((q : Count) → P (go q)) → P (refuse b 8) → P (refuse b 9)
    → P (ended b w go)
ended_cases P b (counted q) go k x y = k q
ended_cases P b full go k x y = x
ended_cases P b spent go k x y = y

-- a test that holds, or fails
test_cases : {X : Type 0} (P : X → Type 0) (t : Bool) (x y : X) → (T t → P x) → (t ≡ false → P y) → P (cond t x y)
test_cases P true x y p q = p tt
test_cases P false x y p q = q refl

-- a property of what a set or relation call leaves and answers holds if it holds of each refusal, 3 to 9, 12 and 14, and of what is stored
pub set_cases : (P : Done → Type 0) (b : Book) (acc : Terms) (r R : ℕ) (bs : List ℕ) → ((k : ℕ) → 2 ≤ k → k ≤ 13 → P (refuse b (suc k)))
    → (r < registers → Passed b Set bs → (q : Count) → P (set_done b r (means (model_of b) no_env (formula_in b Set bs)) q))
    → P (does b (set acc r R bs))
set_cases P b acc r R bs refuses goes =
    range_cases P r registers _ _
    (λ l. test_cases P (named acc) _ _
    (λ t. formula_cases b Set bs P (set_steps b acc r R) (λ k i j. refuses k (omega arith) (omega arith))
    (λ p. ended_cases P b
    (verdict (rows_under b.N acc) (rounds_under R acc) nothing (ticks (states (model_of b) no_env) (live_of b) (formula_in b Set bs))) _
    (goes l p) (refuses 7 (omega arith) (omega arith)) (refuses 8 (omega arith) (omega arith))))
    (λ e. refuses 13 (omega arith) (omega arith)))
    (λ l. refuses 2 (omega arith) (omega arith))

pub relation_cases : (P : Done → Type 0) (b : Book) (t : ℕ) (bs : List ℕ) → ((k : ℕ) → 2 ≤ k → k ≤ 11 → P (refuse b (suc k)))
    → (t < relations → Passed b Relation bs → (q : Count) → P (relation_done b t (formula_in b Relation bs) q)) → P (does b (relation t bs))
relation_cases P b t bs refuses goes =
    range_cases P t relations _ _
    (λ l. formula_cases b Relation bs P (relation_steps b t) (λ k i j. refuses k (omega arith) (omega arith))
    (λ p. ended_cases P b (verdict b.N 0 nothing (relation_ticks b.n (live_of b) b.valid (formula_in b Relation bs))) _ (goes l p)
    (refuses 7 (omega arith) (omega arith)) (refuses 8 (omega arith) (omega arith))))
    (λ l. refuses 2 (omega arith) (omega arith))

pub valid_cases : (P : Done → Type 0) (b : Book) (bs : List ℕ) → ((k : ℕ) → 2 ≤ k → k ≤ 13 → P (refuse b (suc k)))
    → (T (unfilled b) → Passed b Valid bs → P (valid_done b (formula_in b Valid bs))) → P (does b (valid bs))
valid_cases P b bs refuses goes =
    test_cases P (unfilled b) _ _
    (λ t. formula_cases b Valid bs P (valid_steps b) (λ k i j. refuses k (omega arith) (omega arith))
    (λ p. ended_cases P b (verdict b.N 0 nothing (ticks (pairs b.n) (live_of b) (formula_in b Valid bs))) _ (λ q. goes t p)
    (refuses 7 (omega arith) (omega arith)) (refuses 8 (omega arith) (omega arith))))
    (λ e. refuses 12 (omega arith) (omega arith))

-- ---- what is stored

-- "register r exactly the states in which the formula holds", with the formula's rounds, and the largest need of its steps
pub record SetStored (b : Book) (acc : Terms) (r R : ℕ) (f : Form) (d : Done) : Type 0 where
  pub book : d.0 ≡ with_reg b r (some (means (model_of b) no_env f))
  pub count : d.1.rounds ≡ rounds (model_of b) no_env f
  pub within : rounds (model_of b) no_env f ≤ rounds_under R acc
  pub peaks : d.1.peak ≡ peak (needs_in (ticks (states (model_of b) no_env) (live_of b) f))

pub set_stored : (b : Book) (acc : Terms) (r R : ℕ) (f : Form) → (set_steps b acc r R f).1.number ≡ 0
    → SetStored b acc r R f (set_steps b acc r R f)
set_stored b acc r R f h =
    go (verdict (rows_under b.N acc) (rounds_under R acc) nothing (ticks (states (model_of b) no_env) (live_of b) f)) refl h
  where
    A : List Bool
    A = means (model_of b) no_env f

    go : (w : Verdict) → verdict (rows_under b.N acc) (rounds_under R acc) nothing (ticks (states (model_of b) no_env) (live_of b) f) ≡ w
        → (ended b w (λ q. set_done b r A q)).1.number ≡ 0 → SetStored b acc r R f (ended b w (λ q. set_done b r A q))
    go (counted q) e z =
        let d = verdict-counted (rows_under b.N acc) (rounds_under R acc) nothing (ticks (states (model_of b) no_env) (live_of b) f) q zero-le
        e in
        let j : q.rounds ≡ 0 + rounds_in (ticks (states (model_of b) no_env) (live_of b) f) = ap (λ (c : Count). c.rounds) d.0 in
        let i : q.rounds ≡ rounds (model_of b) no_env f = omega (arith, j, ticks-rounds (model_of b) no_env (live_of b) f) in
        let k : max 0 (peak (needs_in (ticks (states (model_of b) no_env) (live_of b) f)))
        ≡ peak (needs_in (ticks (states (model_of b) no_env) (live_of b) f)) = omega arith in
        record { book = refl; count = i; within = omega (arith, d.1); peaks = ap (λ (c : Count). c.peak) d.0 ∙ k }
    go full e z = absurd (omega arith)
    go spent e z = absurd (omega arith)

-- an answered set call: its bytes were a formula, which passed the checks, and its meaning is what register r holds
pub record Sets (b : Book) (acc : Terms) (r R : ℕ) (bs : List ℕ) (d : Done) : Type 0 where
  pub range : r < registers
  pub listed : T (named acc)
  pub passed : Passed b Set bs
  pub stored : SetStored b acc r R (formula_in b Set bs) d

pub set-means : (b : Book) (acc : Terms) (r R : ℕ) (bs : List ℕ) → (does b (set acc r R bs)).1.number ≡ 0
    → Sets b acc r R bs (does b (set acc r R bs))
set-means b acc r R bs =
    range_cases (λ (d : Done). d.1.number ≡ 0 → Sets b acc r R bs d) r registers _ _
    (λ l. test_cases (λ (d : Done). d.1.number ≡ 0 → Sets b acc r R bs d) (named acc) _ _
    (λ t. formula_cases b Set bs (λ (d : Done). d.1.number ≡ 0 → Sets b acc r R bs d) (set_steps b acc r R)
    (λ k i j z. absurd (omega arith))
    (λ p z. record { range = l; listed = t; passed = p; stored = set_stored b acc r R (formula_in b Set bs) z }))
    (λ e z. absurd (omega arith)))
    (λ l z. absurd (omega arith))

-- an answered relation call: its bytes were a formula, the pairs within V in which it holds are what relation t holds, and the peak is the
-- largest need of its steps
pub record Relates (b : Book) (t : ℕ) (bs : List ℕ) (d : Done) : Type 0 where
  pub range : t < relations
  pub passed : Passed b Relation bs
  pub stored : d.0 ≡ with_rel b t (some (pairs_within b.n b.valid (means_pair b.n (formula_in b Relation bs))))
  pub peaks : d.1.peak ≡ peak (needs_in (relation_ticks b.n (live_of b) b.valid (formula_in b Relation bs)))

relation_stored : (b : Book) (t : ℕ) (f : Form) → (relation_steps b t f).1.number ≡ 0
    → ((relation_steps b t f).0 ≡ with_rel b t (some (pairs_within b.n b.valid (means_pair b.n f))))
    × ((relation_steps b t f).1.peak ≡ peak (needs_in (relation_ticks b.n (live_of b) b.valid f)))
relation_stored b t f h = go (verdict b.N 0 nothing (relation_ticks b.n (live_of b) b.valid f)) refl h
  where
    go : (w : Verdict) → verdict b.N 0 nothing (relation_ticks b.n (live_of b) b.valid f) ≡ w
        → (ended b w (λ q. relation_done b t f q)).1.number ≡ 0
        → ((ended b w (λ q. relation_done b t f q)).0 ≡ with_rel b t (some (pairs_within b.n b.valid (means_pair b.n f))))
        × ((ended b w (λ q. relation_done b t f q)).1.peak ≡ peak (needs_in (relation_ticks b.n (live_of b) b.valid f)))
    go (counted q) e z =
        let d = verdict-counted b.N 0 nothing (relation_ticks b.n (live_of b) b.valid f) q zero-le e in
        let k : max 0 (peak (needs_in (relation_ticks b.n (live_of b) b.valid f)))
        ≡ peak (needs_in (relation_ticks b.n (live_of b) b.valid f)) = omega arith in
        (refl, ap (λ (c : Count). c.peak) d.0 ∙ k)
    go full e z = absurd (omega arith)
    go spent e z = absurd (omega arith)

pub relation-means : (b : Book) (t : ℕ) (bs : List ℕ) → (does b (relation t bs)).1.number ≡ 0 → Relates b t bs (does b (relation t bs))
relation-means b t bs =
    range_cases (λ (d : Done). d.1.number ≡ 0 → Relates b t bs d) t relations _ _
    (λ l. formula_cases b Relation bs (λ (d : Done). d.1.number ≡ 0 → Relates b t bs d) (relation_steps b t)
    (λ k i j z. absurd (omega arith))
    (λ p z. let w = relation_stored b t (formula_in b Relation bs) z in record { range = l; passed = p; stored = w.0; peaks = w.1 }))
    (λ l z. absurd (omega arith))

-- an answered valid: nothing was filled, its bytes were a formula, and the states in which it holds, over all 2^n, are V
pub record Fixes (b : Book) (bs : List ℕ) (d : Done) : Type 0 where
  pub free : T (unfilled b)
  pub passed : Passed b Valid bs
  pub stored : d.0 ≡ with_valid b (states_of b.n (formula_in b Valid bs))

pub valid-means : (b : Book) (bs : List ℕ) → (does b (valid bs)).1.number ≡ 0 → Fixes b bs (does b (valid bs))
valid-means b bs =
    valid_cases (λ (d : Done). d.1.number ≡ 0 → Fixes b bs d) b bs (λ k i j z. absurd (omega arith))
    (λ t p z. record { free = t; passed = p; stored = refl })

-- ---- every filled place has its full size and is within V, and none is filled past the registers and relations

-- a place of a filled or emptied function: the new one or an old one
put_cases : {X : Type 0} (h : ℕ → Option X) (i : ℕ) (o : Option X) (P : ℕ → X → Type 0) → ((x : X) → o ≡ some x → P i x)
    → ((j : ℕ) (x : X) → h j ≡ some x → P j x)
    → (j : ℕ) (x : X) → put h i o j ≡ some x → P j x
put_cases h i o P new old j x = go (eqb j i) refl
  where
    go : (t : Bool) → eqb j i ≡ t → cond t o (h j) ≡ some x → P j x
    go true u e = subst (λ (k : ℕ). P k x) (sym (eqb→eq j i (subst T (sym u) tt))) (new x e)
    go false u e = old j x e

pub some_inj : {X : Type 0} {x y : X} → some x ≡ some y → x ≡ y
some_inj e = cc

pub none-some : {X : Type 0} {x : X} → none ≡ some x → ⊥
none-some e = let z : ◌≡◌ {A = ℕ} 0 1 = cc in absurd (omega arith)

pub whole_fresh : (n N : ℕ) → Whole (fresh n N)
whole_fresh n N =
    record { valid = length-table (2 ^ n) (λ s. true); reg = λ r A e. absurd (none-some e); rel = λ t Q e. absurd (none-some e) }

whole_reg : (b : Book) (r : ℕ) (o : Option (List Bool)) → Whole b
    → ((A : List Bool) → o ≡ some A → Sized b.n A × (r < registers) × Below A b.valid) → Whole (with_reg b r o)
whole_reg b r o w h =
    record {
      valid = w.valid;
      reg = put_cases b.reg r o (λ i A. Sized b.n A × (i < registers) × Below A b.valid) h w.reg;
      rel = w.rel;
    }

-- pairs within V
pub within-inside : (n : ℕ) (E : List Bool) (Q : Pairs) → Inside (2 ^ n) E (pairs_within n E Q)
within-inside n E Q s u l i p =
    let e : pair (pairs_within n E Q) s u ≡ ((pair Q s u && mem E s) && mem E u) =
    ap (λ (A : List Bool). mem A u) (get_or-table (2 ^ n) (λ s. table (2 ^ n) (λ t. (pair Q s t && mem E s) && mem E t)) s [] l)
    ∙ get_or-table (2 ^ n) (λ t. (pair Q s t && mem E s) && mem E t) u false i
    in
    let w = and_out (pair Q s u && mem E s) (mem E u) (subst T e p) in
    ((and_out (pair Q s u) (mem E s) w.0).1, w.1)

whole-rel : (b : Book) (t : ℕ) (f : Form) → t < relations → Whole b
    → Whole (with_rel b t (some (pairs_within b.n b.valid (means_pair b.n f))))
whole-rel b t f l w = record {
  valid = w.valid;
  reg = w.reg;
  rel = put_cases b.rel t (some (pairs_within b.n b.valid (means_pair b.n f)))
      (λ i Q. SizedPairs b.n Q × (i < relations) × Inside (2 ^ b.n) b.valid Q)
      (λ Q i. subst (λ (Z : Pairs). SizedPairs b.n Z × (t < relations) × Inside (2 ^ b.n) b.valid Z) (some_inj i) (
        sized-table b.n (λ s u. (pair (means_pair b.n f) s u && mem b.valid s) && mem b.valid u),
        l,
        within-inside b.n b.valid (means_pair b.n f),
      )) w.rel;
}

-- a place of vacant ones is empty
pub vacant-none : {X : Type 0} (k : ℕ) (h : ℕ → Option X) → T (vacant k h) → (i : ℕ) (x : X) → i < k → h i ≡ some x → ⊥
vacant-none zero h t i x l e = absurd (omega arith)
vacant-none {X} (suc k) h t zero x l e = go (h 0) e (and_out (not (filled_place (h 0))) (vacant k (λ i. h (suc i))) t).0
  where
    go : (o : Option X) → o ≡ some x → T (not (filled_place o)) → ⊥
    go none i y = none-some i
    go (some z) i y = y
vacant-none (suc k) h t (suc i) x l e =
    vacant-none k (λ j. h (suc j)) (and_out (not (filled_place (h 0))) (vacant k (λ i. h (suc i))) t).1 i x (omega arith) e

-- another V where nothing is filled
whole-valid : (b : Book) (E : List Bool) → Sized b.n E → T (unfilled b) → Whole b → Whole (with_valid b E)
whole-valid b E z t w =
    let u = and_out (vacant registers b.reg) (vacant relations b.rel) t in
    record {
      valid = z;
      reg = λ r A e. absurd (vacant-none registers b.reg u.0 r A (w.reg r A e).1 e);
      rel = λ q Q e. absurd (vacant-none relations b.rel u.1 q Q (w.rel q Q e).1 e);
    }

-- the states that exist are V's
pub exist-below : (n : ℕ) (E : List Bool) → Below (clip (2 ^ n) E) E
exist-below n E s p = (and_out (ltb s (2 ^ n)) (mem E s) (subst T (mem-table (2 ^ n) (λ t. mem E t) s) p)).1

-- a call keeps the book whole
pub whole-does : (b : Book) (c : Call) → Whole b → Whole (does b c).0
whole-does b (relation t bs) w =
    relation_cases (λ (d : Done). Whole d.0) b t bs (λ k i j. w) (λ l p q. whole-rel b t (formula_in b Relation bs) l w)
whole-does b (set acc r R bs) w =
    set_cases (λ (d : Done). Whole d.0) b acc r R bs (λ k i j. w) (λ l p q.
    let f = formula_in b Set bs in
    whole_reg b r (some (means (model_of b) no_env f)) w (λ B i. (
      ap length (sym (some_inj i)) ∙ length-means (model_of b) no_env f,
      l,
      subst (λ (X : List Bool). Below X b.valid) (some_inj i)
          (λ s p. exist-below b.n b.valid s (means_in (model_of b) no_env f s p)),
    )))
whole-does b (clear r) w =
    range_cases (λ (d : Done). Whole d.0) r registers _ _ (λ l. whole_reg b r none w (λ A i. absurd (none-some i))) (λ l. w)
whole-does b (valid bs) w =
    valid_cases (λ (d : Done). Whole d.0) b bs (λ k i j. w)
    (λ t p. whole-valid b (states_of b.n (formula_in b Valid bs)) (length-means (everything b.n) no_env (formula_in b Valid bs)) t w)
whole-does b collect w = w
