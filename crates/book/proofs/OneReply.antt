-- Laws of what specs/OneReply.antt defines. Assumes nothing.
use mathlib.Core.Path.{◌≡◌, refl, sym, ap, ◌∙◌, subst}
use mathlib.Core.Logic.{◌↔◌, by_cases}
use mathlib.Core.Bool.{Bool, true, false, cond, ◌&&◌}
use mathlib.Core.List.{List}
use mathlib.Core.Option.{Option, none, some}
use Prim.Native.Nat.{ℕ, zero, suc, ◌*◌, ◌^◌, ◌<◌, min}
use native.Mathlib.Omega.{arith}
use native.Mathlib.Decide.{ℕ_discrete, dec_lt}
use lib.Dec.{T, ltb, eqb, eqb_refl}
use Rattle.accounts.specs.declared.Terms.{Terms}
use Rattle.mucalculus.specs.Sets.{mem}
use Rattle.mucalculus.proofs.Sets.{true_of, and_in}
use Rattle.mucalculus.specs.Order.{weight}
use Rattle.mucalculus.specs.Form.{filled}
use Rattle.diagram.specs.Level.{Val}
use Rattle.diagram.specs.Rows.{Arrow, den}
use Rattle.diagram.proofs.Den.{den-zero, den-one}
use Rattle.diagram.proofs.Canon.{canonical}
use Rattle.diagram.proofs.Keep.{keeps_reach_back, reach-within}
use Rattle.book.specs.Bridge.{fn_of}
use Rattle.book.specs.Book.{Book, Call, relation, set, valid, clear, collect, Question, node, member, count, Done, registers, refused}
use Rattle.book.specs.Book.{node_of, asked, one_of, does, answer}
use Rattle.book.specs.Stored.{Whole}
use Rattle.book.proofs.Stored.{set_cases, relation_cases, valid_cases, range_cases, set-means, some_inj, none-some}
use Rattle.book.specs.Table.{Table, Reply, Shows, SettledTo, Agrees, Serves, Tells}
use Rattle.book.proofs.Roots.{roots-within}
use Rattle.book.proofs.Leaves.{shows-filled, shows-empty}
use Rattle.book.proofs.Demand.{same_number}
use Rattle.book.specs.OneReply.{settled_in}

-- ---- node numbers

-- two registers are both empty or have one number exactly where the book's are both empty or have one set
pub same_place : (b : Book) (t : Table) → Whole b → Shows b t → (r q : ℕ) → r < registers → q < registers
    → (t.reg r ≡ t.reg q) ↔ (b.reg r ≡ b.reg q)
same_place b t w s r q lr lq = go (t.reg r) (t.reg q) refl refl
  where
    go : (u v : Option ℕ) → t.reg r ≡ u → t.reg q ≡ v → (u ≡ v) ↔ (b.reg r ≡ b.reg q)
    go none none i j = ((λ e. shows-empty b t r s lr i ∙ sym (shows-empty b t q s lq j)), λ e. refl)
    go none (some y) i j =
        ((λ e. absurd (none-some e)), λ e. absurd (none-some (sym (shows-empty b t r s lr i) ∙ e ∙ (shows-filled b t q y s lq j).1)))
    go (some x) none i j = (
      (λ e. absurd (none-some (sym e))),
      λ e. absurd (none-some (sym (shows-empty b t q s lq j) ∙ sym e ∙ (shows-filled b t r x s lr i).1)),
    )
    go (some x) (some y) i j =
        let (A, c, d) = shows-filled b t r x s lr i in
        let (B, f, g) = shows-filled b t q y s lq j in
        let one = same_number b t w s r q lr lq A B x y c f i j in
        ((λ e. c ∙ ap some (one.0 (some_inj e)) ∙ sym f), λ e. ap some (one.1 (some_inj (sym c ∙ e ∙ f))))

-- "An arrow is 0 (nothing), 1 (everything) or a used row": a number 0 or 1 in the one table is the same in the other
pub settled-number : (b : Book) (t u : Table) → Shows b t → Shows b u → (r : ℕ) → r < registers → (x y : ℕ) → x < 2
    → t.reg r ≡ some x → u.reg r ≡ some y → y ≡ x
settled-number b t u s z r l x y h i j =
    let (A, c, d) = shows-filled b t r x s l i in
    let (B, f, g) = shows-filled b u r y z l j in
    canonical z.wf y x g.arrow (arrow x h)
    (λ v. g.same v ∙ ap (λ (C : List Bool). fn_of b.n C v) (some_inj (sym f ∙ c)) ∙ sym (d.same v) ∙ constant x h v)
  where
    arrow : (x : ℕ) → x < 2 → Arrow u.rows x
    arrow zero h = tt
    arrow (suc zero) h = tt
    arrow (suc (suc x)) h = absurd (omega arith)

    constant : (x : ℕ) → x < 2 → (v : Val) → den (2 * b.n) t.rows x v ≡ den (2 * b.n) u.rows x v
    constant zero h v = den-zero (2 * b.n) t.rows v ∙ sym (den-zero (2 * b.n) u.rows v)
    constant (suc zero) h v = den-one (2 * b.n) t.rows v ∙ sym (den-one (2 * b.n) u.rows v)
    constant (suc (suc x)) h v = absurd (omega arith)

-- ---- values

one_value : (o : Option ℕ) {x y : ℕ} → T (filled o) → SettledTo o x → SettledTo o y → x ≡ y
one_value none f p q = absurd f
one_value (some k) f p q = p ∙ sym q

told : (t : Bool) (o : Option (List Bool)) (g : List Bool → ℕ) → T (filled (cond t (asked o (λ A. some (g A))) (refused 3)).value)
told true none g = tt
told true (some A) g = tt
told false o g = tt

-- the number that an answered set returned stands in its register
set-stores : (b : Book) (acc : Terms) (r R : ℕ) (bs : List ℕ) {t u : Table} {y : Reply} → Serves b (set acc r R bs) t u y → r < registers
    → y.number ≡ 0
    → u.reg r ≡ some y.value
set-stores b acc r R bs {t} {u} {y} p l i =
    let both = and_in (eqb y.number 0) (eqb r r) (subst (λ (k : ℕ). T (eqb k 0)) (sym i) tt) (eqb_refl r) in
    p.numbers r l ∙ ap (λ (e : Bool). cond e (some y.value) (t.reg r)) (true_of (eqb y.number 0 && eqb r r) both)

-- from tables that need not be the same
pub call-value : (c : Call) (b : Book) {s t u v : Table} {y z : Reply} → Serves b c s u y → Serves b c t v z
    → settled_in c y.value ≡ settled_in c z.value
call-value (relation t bs) b p q =
    one_value (does b (relation t bs)).1.value
    (relation_cases (λ (d : Done). T (filled d.1.value)) b t bs (λ k i j. tt) (λ l h q. tt)) p.agrees.value q.agrees.value
call-value (set acc r R bs) b {u = u} {v} {y} {z} p q = by_cases (ℕ_discrete y.number 0) answered refusing
  where
    answered : y.number ≡ 0 → min y.value 2 ≡ min z.value 2
    answered i =
        let l = (set-means b acc r R bs (sym p.agrees.number ∙ i)).range in
        let j = set-stores b acc r R bs p l i in
        let k = set-stores b acc r R bs q l (q.agrees.number ∙ sym p.agrees.number ∙ i) in
        by_cases (dec_lt y.value 2)
        (λ h. ap (λ (n : ℕ). min n 2) (sym (settled-number _ u v p.shows q.shows r l y.value z.value h j k))) (λ n.
        by_cases (dec_lt z.value 2)
        (λ h. ap (λ (n : ℕ). min n 2) (settled-number _ v u q.shows p.shows r l z.value y.value h k j)) (λ m. omega arith))

    refusing : (y.number ≡ 0 → ⊥) → min y.value 2 ≡ min z.value 2
    refusing n =
        let settled = set_cases (λ (d : Done). (d.1.number ≡ 0 → ⊥) → T (filled d.1.value)) b acc r R bs (λ k i j m. tt)
        (λ l h k m. absurd (m refl)) (λ e. n (p.agrees.number ∙ e)) in
        ap (λ (k : ℕ). min k 2) (one_value (does b (set acc r R bs)).1.value settled p.agrees.value q.agrees.value)
call-value (valid bs) b p q =
    one_value (does b (valid bs)).1.value (valid_cases (λ (d : Done). T (filled d.1.value)) b bs (λ k i j. tt) (λ t h. tt))
    p.agrees.value q.agrees.value
call-value (clear r) b p q =
    one_value (does b (clear r)).1.value (range_cases (λ (d : Done). T (filled d.1.value)) r registers _ _ (λ l. tt) (λ l. tt))
    p.agrees.value q.agrees.value
call-value collect b p q = p.agrees.value ∙ sym q.agrees.value

-- a question's value, the number of node too: no word changes
pub ask-value : (q : Question) (b : Book) (h : ℕ → Option ℕ) {y z : Reply} → Tells b q h y → Tells b q h z → y.value ≡ z.value
ask-value (node r) b h {y} {z} p q = go (ltb r registers) (b.reg r) p.agrees q.agrees
  where
    go : (t : Bool) (o : Option (List Bool)) → Agrees (cond t (asked o node_of) (refused 3)) y
        → Agrees (cond t (asked o node_of) (refused 3)) z → y.value ≡ z.value
    go true (some A) a b = some_inj (sym (p.node_says a.number) ∙ q.node_says b.number)
    go true none a b = a.value ∙ sym b.value
    go false o a b = a.value ∙ sym b.value
ask-value (member r s) b h p q =
    one_value (answer b (member r s)).value (told (ltb r registers && ltb s (2 ^ b.n)) (b.reg r) (λ A. one_of (mem A s)))
    p.agrees.value q.agrees.value
ask-value (count r) b h p q =
    one_value (answer b (count r)).value (told (ltb r registers) (b.reg r) (weight true)) p.agrees.value q.agrees.value

-- ---- rows

-- "unneeded rows (none is left used by an answered collect)"
pub collect-used : (b : Book) {t u v : Table} {y z : Reply} → Serves b collect t u y → Serves b collect t v z → (i : ℕ)
    → u.rows.used i ≡ v.rows.used i
collect-used b {t} {u} {v} p q i = same (u.rows.used i) (v.rows.used i) (uses p q) (uses q p)
  where
    uses : {u v : Table} {y z : Reply} → Serves b collect t u y → Serves b collect t v z → u.rows.used i ≡ true → v.rows.used i ≡ true
    uses {u} p q e =
        let old = roots-within t (some u.valid) u.reg u.rel (λ a e. sym (p.valid refl) ∙ some_inj e)
        (λ r a l h. sym (p.numbers r l) ∙ h) (λ r a l h. sym (p.rels r l refl) ∙ h) in
        q.kept.used i (keeps_reach_back p.kept (reach-within (λ a j _. old a) (p.swept i e)))

    same : (x y : Bool) → (x ≡ true → y ≡ true) → (y ≡ true → x ≡ true) → x ≡ y
    same true y f g = sym (f refl)
    same false true f g = g refl
    same false false f g = refl
