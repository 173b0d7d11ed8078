-- Laws of what specs/BookOf.antt defines. Assumes nothing.
use mathlib.Core.Path.{◌≡◌, refl, sym, ap, ◌∙◌, subst, fun_ext}
use mathlib.Core.Bool.{Bool, true, false, cond}
use mathlib.Core.List.Memᴰ.{head as here}
use mathlib.Core.List.{List, [], ◌∷◌}
use mathlib.Core.Option.{Option, none, some}
use Prim.Native.Nat.{ℕ, suc, ◌*◌, ◌<◌, ◌^◌, ◌/◌, ◌%◌}
use native.Mathlib.Decide.{ℕ_discrete}
use native.Mathlib.Omega.{arith}
use lib.Dec.{T, ltb, ltb→lt, lt→ltb, eqb→eq}
use Rattle.mucalculus.specs.Sets.{mem, table}
use Rattle.mucalculus.proofs.Sets.{mem-table, length-table, and_out, true_of}
use Rattle.mucalculus.specs.Order.{Below}
use Rattle.mucalculus.proofs.Laws.{get_or-table}
use Rattle.mucalculus.specs.Means.{pair, exist, related}
use Rattle.mucalculus.specs.Exist.{Inside}
use Rattle.mucalculus.proofs.Exist.{related_same}
use Rattle.mucalculus.specs.Form.{Pairs, inside}
use Rattle.diagram.specs.Level.{Val, Fn}
use Rattle.diagram.proofs.Level.{Reads}
use Rattle.diagram.specs.Rows.{Arrow, den, WellFormed}
use Rattle.diagram.specs.Post.{Denotes}
use Rattle.diagram.proofs.Reach.{reached_root, den_reads_all}
use Rattle.diagram.specs.Even.{ReadsOn, even}
use Rattle.diagram.proofs.Even.{reads_levels, levels-read}
use Rattle.book.specs.States.{now_of, next_of, pair_val}
use Rattle.book.proofs.States.{now_of-bit, now_of-lt, now_of-pair_val, next_of-pair_val, pair_val-now, pair_val-next}
use Rattle.diagram.specs.Steps.{shift_f}
use Rattle.book.specs.Bridge.{fn_of, fn_of_pairs, set_of, pairs_of, Sized, SizedPairs}
use Rattle.book.proofs.Bridge.{sized-table, set_of-fn_of, pairs_of-fn_of_pairs, fn_of-set_of, fn_of_pairs-table, fn_of-even}
use Rattle.book.specs.Book.{Book, registers, relations, model_of}
use Rattle.book.specs.Stored.{Whole}
use Rattle.book.proofs.Stored.{some_inj, none-some}
use Rattle.book.proofs.Effects.{in-range}
use Rattle.book.specs.Table.{Table, Place, Shows}
use Rattle.book.proofs.Held.{denoted}
use Rattle.book.proofs.Leaves.{shows-filled}
use Rattle.book.specs.BookOf.{EvenRows, den_in, Under, SoundTable, stands_for, book_of}

-- what holds of a filled place below a limit
limited : {X : Type 0} (P : ℕ → X → Type 0) (k limit : ℕ) (o : Option X) → (k < limit → (x : X) → o ≡ some x → P k x) → (x : X)
    → cond (ltb k limit) o none ≡ some x → P k x
limited {X} P k limit o h x = go (ltb k limit) refl
  where
    go : (u : Bool) → ltb k limit ≡ u → cond u o none ≡ some x → P k x
    go true e i = h (ltb→lt k limit (subst T (sym e) tt)) x i
    go false e i = absurd (none-some i)

-- a function of n current bits, by the levels that it reads
current : (n : ℕ) (F : Fn) → Reads 0 (2 * n) F → ReadsOn even F → (v w : Val) → ((p : ℕ) → p < n → v (2 * p) ≡ w (2 * p)) → F v ≡ F w
current n F r e v w h = r v u (λ l i j. sym (inner l (ltb l (2 * n)) refl j)) ∙ e u w (λ l p. outer l p (ltb l (2 * n)) refl)
  where
    -- v below level 2n, w from there on
    u : Val
    u l = cond (ltb l (2 * n)) (v l) (w l)

    inner : (l : ℕ) (t : Bool) → ltb l (2 * n) ≡ t → l < 2 * n → cond t (v l) (w l) ≡ v l
    inner l true i j = refl
    inner l false i j = absurd (subst T i (lt→ltb l (2 * n) j))

    outer : (l : ℕ) → even l ≡ true → (t : Bool) → ltb l (2 * n) ≡ t → cond t (v l) (w l) ≡ w l
    outer l p true i =
        let z : l % 2 ≡ 0 = eqb→eq (l % 2) 0 (subst T (sym p) tt) in
        let j = ltb→lt l (2 * n) (subst T (sym i) tt) in
        let half : 2 * (l / 2) ≡ l = omega arith in
        subst (λ (k : ℕ). v k ≡ w k) half (h (l / 2) (omega arith))
    outer l p false i = refl

-- pairs given by a function of 2n levels, as a function
pairs-back : (n : ℕ) (F : Fn) → Reads 0 (2 * n) F → (v : Val) → fn_of_pairs n (pairs_of n F) v ≡ F v
pairs-back n F r v =
    ap (λ (G : Fn). G v) (fn_of_pairs-table n (λ s u. F (pair_val s u)))
    ∙ r (pair_val (now_of n v) (next_of n v)) v (λ l i j. at l j (ℕ_discrete (l % 2) 0))
  where
    at : (l : ℕ) → l < 2 * n → Dec (l % 2 ≡ 0) → pair_val (now_of n v) (next_of n v) l ≡ v l
    at l j (yes e) =
        let half : 2 * (l / 2) ≡ l = omega arith in
        subst (λ (k : ℕ). pair_val (now_of n v) (next_of n v) k ≡ v k) half
        (pair_val-now (l / 2) (now_of n v) (next_of n v) ∙ now_of-bit n v (l / 2) (omega arith))
    at l j (no e) =
        let half : suc (2 * (l / 2)) ≡ l = omega arith in
        subst (λ (k : ℕ). pair_val (now_of n v) (next_of n v) k ≡ v k) half
        (pair_val-next (l / 2) (now_of n v) (next_of n v) ∙ now_of-bit n (λ k. v (suc k)) (l / 2) (omega arith))

-- an arrow with even rows denotes its set of states
even-stands : (t : Table) → WellFormed (2 * t.n) t.N t.rows → (a : ℕ) → Arrow t.rows a → EvenRows t a
    → fn_of t.n (set_of t.n (den_in t a)) ≡ den_in t a
even-stands t wf a r e =
    fn_of-set_of t.n (den_in t a)
    (current t.n (den_in t a) (den_reads_all wf a r)
    (reads_levels t.rows even (a ∷ []) e (2 * t.n) a (reached_root t.rows (a ∷ []) a (here refl))))

module _ (t : Table) (s : SoundTable t) where
  -- V's set
  E : List Bool
  E = set_of t.n (den_in t t.valid)

  valid-stands : fn_of t.n E ≡ den_in t t.valid
  unfolding E
  valid-stands = even-stands t s.wf t.valid s.valid.0 s.valid.1

  -- what is in the book's sets and pairs is what the arrows denote
  valid-at : (v : Val) → den_in t t.valid v ≡ true → T (mem E (now_of t.n v))
  valid-at v p = subst T (sym (ap (λ (F : Fn). F v) valid-stands ∙ p)) tt

  sets-whole : (o : Option ℕ) → ((a : ℕ) → o ≡ some a → Under (den_in t a) (den_in t t.valid)) → (A : List Bool)
      → stands_for (set_of t.n) (den_in t) o ≡ some A
      → Sized t.n A × Below A E
  sets-whole none h A e = absurd (none-some e)
  sets-whole (some a) h A e =
      subst (λ (X : List Bool). Sized t.n X × Below X E) (some_inj e) (
        length-table (2 ^ t.n) (λ s. den_in t a (pair_val s 0)),
        λ u p.
            let w = and_out (ltb u (2 ^ t.n)) (den_in t a (pair_val u 0))
            (subst T (mem-table (2 ^ t.n) (λ s. den_in t a (pair_val s 0)) u) p) in
            subst (λ (x : ℕ). T (mem E x)) (now_of-pair_val t.n u 0 (ltb→lt u (2 ^ t.n) w.0))
            (valid-at (pair_val u 0) (h a refl (pair_val u 0) (true_of _ w.1))),
      )

  pairs-whole : (o : Option ℕ) → ((a : ℕ) → o ≡ some a → Under (den_in t a) (den_in t t.valid))
      → ((a : ℕ) → o ≡ some a → Under (den_in t a) (shift_f (den_in t t.valid))) → (Q : Pairs)
      → stands_for (pairs_of t.n) (den_in t) o ≡ some Q → SizedPairs t.n Q × Inside (2 ^ t.n) E Q
  pairs-whole none h k Q e = absurd (none-some e)
  pairs-whole (some a) h k Q e =
      subst (λ (X : Pairs). SizedPairs t.n X × Inside (2 ^ t.n) E X) (some_inj e) (
        sized-table t.n (λ s u. den_in t a (pair_val s u)),
        λ x u l i p.
            let at : pair (pairs_of t.n (den_in t a)) x u ≡ den_in t a (pair_val x u) =
            ap (λ (A : List Bool). mem A u) (get_or-table (2 ^ t.n) (λ s. table (2 ^ t.n) (λ w. den_in t a (pair_val s w))) x [] l)
            ∙ get_or-table (2 ^ t.n) (λ w. den_in t a (pair_val x w)) u false i
            in
            let q = true_of _ (subst T at p) in (
              subst (λ (z : ℕ). T (mem E z)) (now_of-pair_val t.n x u l) (valid-at (pair_val x u) (h a refl (pair_val x u) q)),
              subst (λ (z : ℕ). T (mem E z)) (next_of-pair_val t.n x u i) (valid-at (λ j. pair_val x u (suc j)) (k a refl (pair_val x u) q)),
            ),
      )

-- the book that a sound table stands for is whole
pub whole-book_of : (t : Table) → SoundTable t → Whole (book_of t)
unfolding E
whole-book_of t s = record {
  valid = length-table (2 ^ t.n) (λ u. den_in t t.valid (pair_val u 0));
  reg = λ r. limited (λ i A. Sized t.n A × (i < registers) × Below A (set_of t.n (den_in t t.valid))) r registers
      (stands_for (set_of t.n) (den (2 * t.n) t.rows) (t.reg r))
      (λ l A e. let w = sets-whole t s (t.reg r) (s.reg_within r l) A e in (w.0, l, w.1));
  rel = λ q. limited (λ i Q. SizedPairs t.n Q × (i < relations) × Inside (2 ^ t.n) (set_of t.n (den_in t t.valid)) Q) q relations
      (stands_for (pairs_of t.n) (den (2 * t.n) t.rows) (t.rel q))
      (λ l Q e. let w = pairs-whole t s (t.rel q) (s.rel_within q l) (s.rel_shifted q l) Q e in (w.0, l, w.1));
}

pub shows-book_of : (t : Table) → SoundTable t → Shows (book_of t) t
shows-book_of t s = record {
  n = refl;
  N = refl;
  wf = s.wf;
  valid =
      record { arrow = s.valid.0; same = λ v. ap (λ (F : Fn). F v) (sym (even-stands t s.wf t.valid s.valid.0 s.valid.1)) };
  reg = λ r l. subst (λ (o : Option (List Bool)). Place (2 * t.n) t.rows (fn_of t.n) o (t.reg r))
      (sym (in-range _ none r registers l)) (sets (t.reg r) (s.reg r l));
  rel = λ q l. subst (λ (o : Option Pairs). Place (2 * t.n) t.rows (fn_of_pairs t.n) o (t.rel q))
      (sym (in-range _ none q relations l)) (pairs (t.rel q) (s.rel q l));
}
  where
    D : ℕ → Fn
    D = den (2 * t.n) t.rows

    sets : (o : Option ℕ) → ((a : ℕ) → o ≡ some a → Arrow t.rows a × EvenRows t a)
        → Place (2 * t.n) t.rows (fn_of t.n) (stands_for (set_of t.n) D o) o
    sets none h = tt
    sets (some a) h =
        let w = h a refl in record { arrow = w.0; same = λ v. ap (λ (F : Fn). F v) (sym (even-stands t s.wf a w.0 w.1)) }

    pairs : (o : Option ℕ) → ((a : ℕ) → o ≡ some a → Arrow t.rows a)
        → Place (2 * t.n) t.rows (fn_of_pairs t.n) (stands_for (pairs_of t.n) D o) o
    pairs none h = tt
    pairs (some a) h = record { arrow = h a refl; same = λ v. sym (pairs-back t.n (D a) (den_reads_all s.wf a (h a refl)) v) }

-- a place of a whole book that the table shows stands for the table's
module _ (b : Book) (t : Table) (w : Whole b) (s : Shows b t) where
  set-stands : (r : ℕ) → r < registers → b.reg r ≡ stands_for (set_of t.n) (den (2 * t.n) t.rows) (t.reg r)
  set-stands r l = go (b.reg r) (t.reg r) (w.reg r) (s.reg r l)
    where
      go : (o : Option (List Bool)) (u : Option ℕ) → ((A : List Bool) → o ≡ some A → Sized b.n A × (r < registers) × Below A b.valid)
          → Place (2 * b.n) t.rows (fn_of b.n) o u → o ≡ stands_for (set_of t.n) (den (2 * t.n) t.rows) u
      go none none z p = refl
      go none (some a) z p = absurd p
      go (some A) none z p = absurd p
      go (some A) (some a) z p =
          subst (λ (n : ℕ). some A ≡ some (set_of n (den (2 * n) t.rows a))) (sym s.n)
          (ap some (sym (ap (set_of b.n) (denoted p) ∙ set_of-fn_of b.n A (z A refl).0)))

  pairs_stand : (q : ℕ) → q < relations → b.rel q ≡ stands_for (pairs_of t.n) (den (2 * t.n) t.rows) (t.rel q)
  pairs_stand q l = go (b.rel q) (t.rel q) (w.rel q) (s.rel q l)
    where
      go : (o : Option Pairs) (u : Option ℕ)
          → ((Q : Pairs) → o ≡ some Q → SizedPairs b.n Q × (q < relations) × Inside (2 ^ b.n) b.valid Q)
          → Place (2 * b.n) t.rows (fn_of_pairs b.n) o u → o ≡ stands_for (pairs_of t.n) (den (2 * t.n) t.rows) u
      go none none z p = refl
      go none (some a) z p = absurd p
      go (some Q) none z p = absurd p
      go (some Q) (some a) z p =
          subst (λ (n : ℕ). some Q ≡ some (pairs_of n (den (2 * n) t.rows a))) (sym s.n)
          (ap some (sym (ap (pairs_of b.n) (denoted p) ∙ pairs_of-fn_of_pairs b.n Q (z Q refl).0)))

  valid-is : b.valid ≡ set_of t.n (den (2 * t.n) t.rows t.valid)
  valid-is =
      subst (λ (n : ℕ). b.valid ≡ set_of n (den (2 * n) t.rows t.valid)) (sym s.n)
      (sym (ap (set_of b.n) (denoted s.valid) ∙ set_of-fn_of b.n b.valid w.valid))

  -- nothing is filled past the limit
  limited_is : {X : Type 0} (h : ℕ → Option X) (k limit : ℕ) (o : Option X) → ((x : X) → h k ≡ some x → k < limit) → (k < limit → h k ≡ o)
      → h k ≡ cond (ltb k limit) o none
  limited_is {X} h k limit o most e = go (ltb k limit) refl
    where
      empty : (z : Option X) → h k ≡ z → ltb k limit ≡ false → z ≡ none
      empty none i u = refl
      empty (some x) i u = absurd (subst T u (lt→ltb k limit (most x i)))

      go : (u : Bool) → ltb k limit ≡ u → h k ≡ cond u o none
      go true i = e (ltb→lt k limit (subst T (sym i) tt))
      go false i = empty (h k) refl i

  -- THE ONLY BOOK: a whole book that the table shows is the one that it stands for
  pub only-book : b ≡ book_of t
  only-book = λ i. record {
    n = sym s.n i;
    N = sym s.N i;
    valid = valid-is i;
    rel = fun_ext (λ q. limited_is b.rel q relations _ (λ Q e. (w.rel q Q e).1) (pairs_stand q)) i;
    reg = fun_ext (λ r. limited_is b.reg r registers _ (λ A e. (w.reg r A e).1) (set-stands r)) i;
  }

-- a table that shows a whole book is sound: V and its registers denote sets of states, which read current bits only, the registers' within
-- V
module _ (b : Book) (t : Table) (w : Whole b) (s : Shows b t) where
  -- what the arrows denote in the book, at the table's own n
  valid-den : (v : Val) → den_in t t.valid v ≡ mem b.valid (now_of b.n v)
  valid-den v = ap (λ (n : ℕ). den (2 * n) t.rows t.valid v) s.n ∙ s.valid.same v

  relation_of : (q a : ℕ) → q < relations → t.rel q ≡ some a
      → (Q : Pairs) × (b.rel q ≡ some Q) × Denotes (2 * b.n) t.rows a (fn_of_pairs b.n Q)
  relation_of q a l e =
      go (b.rel q) refl (subst (λ (u : Option ℕ). Place (2 * b.n) t.rows (fn_of_pairs b.n) (b.rel q) u) e (s.rel q l))
    where
      go : (o : Option Pairs) → b.rel q ≡ o → Place (2 * b.n) t.rows (fn_of_pairs b.n) o (some a)
          → (Q : Pairs) × (b.rel q ≡ some Q) × Denotes (2 * b.n) t.rows a (fn_of_pairs b.n Q)
      go none i p = absurd p
      go (some Q) i p = (Q, i, p)

  -- the pairs of a relation are of existing states
  pair_in : (q a : ℕ) → q < relations → t.rel q ≡ some a → (v : Val) → den_in t a v ≡ true
      → T (mem b.valid (now_of b.n v)) × T (mem b.valid (next_of b.n v))
  pair_in q a l e v h =
      let (Q, i, d) = relation_of q a l e in
      (w.rel q Q i).2 (now_of b.n v) (next_of b.n v) (now_of-lt b.n v) (now_of-lt b.n (λ l. v (suc l)))
      (subst T (sym (sym (ap (λ (n : ℕ). den (2 * n) t.rows a v) s.n ∙ d.same v) ∙ h)) tt)

  pub sound-shows : SoundTable t
  sound-shows = record {
    wf = subst (λ (n : ℕ). WellFormed (2 * n) t.N t.rows) (sym s.n)
        (subst (λ (N : ℕ). WellFormed (2 * b.n) N t.rows) (sym s.N) s.wf);
    valid = (
      s.valid.arrow,
      λ i. levels-read s.wf even t.valid s.valid.arrow
          (subst (ReadsOn even) (sym (denoted s.valid)) (fn_of-even b.n b.valid)) i,
    );
    reg = λ r l a e.
        let (A, i, d) = shows-filled b t r a s l e in
        (d.arrow, λ i. levels-read s.wf even a d.arrow (subst (ReadsOn even) (sym (denoted d)) (fn_of-even b.n A)) i);
    rel = λ q l a e. (relation_of q a l e).2.arrow;
    reg_within = λ r l a e v h.
        let (A, i, d) = shows-filled b t r a s l e in
        valid-den v
        ∙ true_of _
        ((w.reg r A i).2 (now_of b.n v) (subst T (sym (sym (ap (λ (n : ℕ). den (2 * n) t.rows a v) s.n ∙ d.same v) ∙ h)) tt));
    rel_within = λ q l a e v h. valid-den v ∙ true_of _ (pair_in q a l e v h).0;
    rel_shifted = λ q l a e v h. valid-den (λ l. v (suc l)) ∙ true_of _ (pair_in q a l e v h).1;
  }

-- ---- the relations of a whole book are those that exist, as functions

pub related_fn : (b : Book) → Whole b → (q : ℕ) → fn_of_pairs b.n (related (model_of b) q) ≡ fn_of_pairs b.n (inside (b.rel q))
related_fn b w q =
    fun_ext
    (λ v. related_same (model_of b) q (in-v (b.rel q) refl) (now_of b.n v) (next_of b.n v) (now_of-lt b.n v)
    (now_of-lt b.n (λ l. v (suc l))))
  where
    clipped : (s : ℕ) → s < 2 ^ b.n → T (mem b.valid s) → T (mem (exist (model_of b)) s)
    clipped s l p = subst T (sym (get_or-table (2 ^ b.n) (λ x. mem b.valid x) s false l)) p

    in-v : (o : Option Pairs) → b.rel q ≡ o → Inside (2 ^ b.n) (exist (model_of b)) (inside (b.rel q))
    in-v none e s u l i p = absurd (subst (λ (x : Option Pairs). T (pair (inside x) s u)) e p)
    in-v (some Q) e s u l i p =
        let x = (w.rel q Q e).2 s u l i (subst (λ (x : Option Pairs). T (pair (inside x) s u)) e p) in
        (clipped s l x.0, clipped u i x.1)
