-- Laws of what specs/OneAnswer.antt defines. Assumes nothing.
use mathlib.Core.Path.{◌≡◌, refl, sym, ap, ap₂, ◌∙◌, subst, fun_ext}
use mathlib.Core.Logic.{◌↔◌, ◌⊎◌, inl, inr, ⊎_elim}
use mathlib.Core.HLevel.{Discrete}
use mathlib.Core.Bool.{false, ◌&&◌, ◌||◌, Bool-discrete}
use mathlib.Core.List.{List, List-discrete}
use mathlib.Core.Option.{discrete as Option-discrete}
use Prim.Native.Nat.{ℕ, zero, suc, ◌≤◌, ◌<◌}
use native.Mathlib.Omega.{arith}
use native.Mathlib.Decide.{ℕ_discrete}
use lib.Dec.{T, eqb}
use lib.ListN.{length, get_or}
use Rattle.accounts.specs.declared.Account.{Account}
use Rattle.accounts.specs.Terms.{terms_of}
use Rattle.layout.specs.Refusals.{keeps_all}
use Rattle.layout.specs.Places.{HEADER, ROWS, SPARE}
use Rattle.layout.specs.View.{header_of, cell_of}
use Rattle.diagram.specs.Reach.{Reach}
use Rattle.rows.specs.Sound.{table_of}
use Rattle.book.specs.Book.{Book, fresh, fresh_number, Call, set, clear, collect, Question, Done, registers, does}
use Rattle.book.specs.Stored.{Whole}
use Rattle.book.proofs.Stored.{whole_fresh, whole-does, range_cases}
use Rattle.book.specs.Table.{Reply, Refusal, kept_roots, Serves}
use Rattle.book.specs.Leaves.{plain}
use Rattle.book.proofs.Leaves.{shows-fresh}
use Rattle.book.specs.BookOf.{book_of}
use Rattle.book.proofs.BookOf.{whole-book_of, only-book}
use Rattle.book.specs.Tallies.{charged, freshened}
use Rattle.book.specs.OneReply.{settled_in}
use Rattle.book.proofs.OneReply.{same_place, call-value, ask-value, collect-used}
use Rattle.contract.specs.Seen.{seen, SoundWords}
use Rattle.contract.proofs.Seen.{sound-table, any-words}
use Rattle.contract.specs.Kept.{changes, free_word, target}
use Rattle.contract.specs.Posts.{FreshPost, CallPost, FreshAllPost, SetAllPost, AskPost}
use Rattle.contract.specs.OneAnswer.{SameRow, OneAnswer}

-- ---- fresh, and a question

pub same-reply : {y z : Reply} → y.number ≡ z.number → y.rounds ≡ z.rounds → y.peak ≡ z.peak → y.value ≡ z.value → y ≡ z
same-reply a b c d = λ i. record { number = a i; rounds = b i; peak = c i; value = d i }

pub same-refusal : {k : ℕ} {y z : Reply} → Refusal k y → Refusal k z → y ≡ z
same-refusal {k} {y} {z} f g = same-reply {y = y} {z = z} (f.0 ∙ sym g.0) (f.1 ∙ sym g.1) (f.2 ∙ sym g.2) (f.3 ∙ sym g.3)

-- fresh, where so many accounts are lent: one reply, one book, and a refusal keeps all words
pub fresh-one : (n N count : ℕ) {old v w : List ℕ} {y z : Reply} → FreshPost n N count old v y → FreshPost n N count old w z
    → (y ≡ z) × (book_of (seen v) ≡ book_of (seen w)) × (1 ≤ y.number → v ≡ w)
fresh-one n N count {old} {v} {w} {y} {z} p q = go (fresh_number n N (length old) count) refl
  where
    go : (k : ℕ) → fresh_number n N (length old) count ≡ k → (y ≡ z) × (book_of (seen v) ≡ book_of (seen w)) × (1 ≤ y.number → v ≡ w)
    go zero e =
        let (f, a, i) = p.answers e in
        let (g, b, j) = q.answers e in
        let first = only-book (fresh n N) (seen v) (whole_fresh n N) (shows-fresh n N (seen v) i) in
        let second = only-book (fresh n N) (seen w) (whole_fresh n N) (shows-fresh n N (seen w) j) in
        (same-refusal f g, sym first ∙ second, λ l. absurd (omega (arith, f.0)))
    go (suc k) e =
        let (f, i) = p.refuses k e in
        let (g, j) = q.refuses k e in
        (same-refusal f g, ap (λ (x : List ℕ). book_of (seen x)) (i ∙ sym j), λ l. i ∙ sym j)

-- a question: one reply, node numbers too, for no word changes
pub ask-one : (q : Question) {ws : List ℕ} {y z : Reply} → AskPost q ws y → AskPost q ws z → y ≡ z
ask-one q {ws} {y} {z} a b = same-reply {y = y} {z = z}
    (agree (λ x. x.number) (λ s. (a.told s).agrees.number ∙ sym (b.told s).agrees.number))
    (agree (λ x. x.rounds) (λ s. (a.told s).agrees.rounds ∙ sym (b.told s).agrees.rounds))
    (agree (λ x. x.peak) (λ s. (a.told s).agrees.peak ∙ sym (b.told s).agrees.peak))
    (agree (λ x. x.value) (λ s. ask-value q (book_of (seen ws)) (seen ws).reg (a.told s) (b.told s)))
  where
    agree : (f : Reply → ℕ) → (SoundWords ws → f y ≡ f z) → f y ≡ f z
    agree f g = any-words ws (ℕ_discrete (f y) (f z)) g (λ n. ap f (same-refusal (a.unsound n) (b.unsound n)))

-- ---- a call

-- clear is answered or refused with 3
clear-few : (b : Book) (r : ℕ) → ((does b (clear r)).1.number ≡ 0) ⊎ ((does b (clear r)).1.number ≡ 3)
clear-few b r = range_cases (λ (d : Done). (d.1.number ≡ 0) ⊎ (d.1.number ≡ 3)) r registers _ _ (λ l. inl refl) (λ l. inr refl)

module _ (c : Call) {old v w : List ℕ} {y z : Reply} (p : CallPost c old v y) (q : CallPost c old w z) where
  abbrev b : Book
  b = book_of (seen old)

  -- on words that are not sound all are kept
  one_kept : (SoundWords old → ⊥) → v ≡ w
  one_kept n = (p.performs.unsound n).1 ∙ sym (q.performs.unsound n).1

  -- and the number is 2; so what can be told apart agrees, if it does on sound words
  agree : {X : Type 0} → Discrete X → (f : Reply → List ℕ → X) → (SoundWords old → f y v ≡ f z w) → f y v ≡ f z w
  agree d f g =
      any-words old (d (f y v) (f z w)) g (λ n. ap₂ f (same-refusal (p.performs.unsound n).0 (q.performs.unsound n).0) (one_kept n))

  -- on sound words
  module _ (s : SoundWords old) where
    first : Serves b c (seen old) (seen v) y
    first = (p.performs.served s).1

    second : Serves b c (seen old) (seen w) z
    second = (q.performs.served s).1

    whole : Whole (does b c).0
    whole = whole-does b c (whole-book_of (seen old) (sound-table (table_of old) s))

    one_number : y.number ≡ z.number
    one_number = first.agrees.number ∙ sym second.agrees.number

    one-book : book_of (seen v) ≡ book_of (seen w)
    one-book = sym (only-book (does b c).0 (seen v) whole first.shows) ∙ only-book (does b c).0 (seen w) whole second.shows

    one_place : (r k : ℕ) → r < registers → k < registers → ((seen v).reg r ≡ (seen v).reg k) ↔ ((seen w).reg r ≡ (seen w).reg k)
    one_place r k l m =
        let i = same_place (does b c).0 (seen v) whole first.shows r k l m in
        let j = same_place (does b c).0 (seen w) whole second.shows r k l m in
        ((λ e. j.1 (i.0 e)), λ e. i.1 (j.0 e))

    one-header : (h : ℕ) → h < HEADER → changes c y h ≡ false → header_of v h ≡ header_of w h
    one-header h l e =
        (p.kept s).header h l e ∙ sym ((q.kept s).header h l (ap (λ (k : ℕ). free_word h || (eqb k 0 && target c h)) (sym one_number) ∙ e))

    same-roots : kept_roots c y (seen old) ≡ kept_roots c z (seen old)
    same-roots = ap (λ (k : ℕ). kept_roots c (plain k) (seen old)) one_number

    one-row : (i : ℕ) → Reach (seen old).rows (kept_roots c y (seen old)) i → SameRow (seen v).rows (seen w).rows i
    one-row i h =
        let k = subst (λ (l : List ℕ). Reach (seen old).rows l i) same-roots h in
        let a = first.kept in
        let b = second.kept in
        record {
          used = a.used i h ∙ sym (b.used i k);
          level = a.level i h ∙ sym (b.level i k);
          low = a.low i h ∙ sym (b.low i k);
          high = a.high i h ∙ sym (b.high i k);
        }

    one-all : T (keeps_all y.number) → v ≡ w
    one-all l = (p.kept s).all l ∙ sym ((q.kept s).all (subst (λ (k : ℕ). T (keeps_all k)) one_number l))

  one-used : SoundWords old → c ≡ collect → (i : ℕ) → (seen v).rows.used i ≡ (seen w).rows.used i
  one-used s e =
      collect-used b (subst (λ (x : Call). Serves b x (seen old) (seen v) y) e (first s))
      (subst (λ (x : Call). Serves b x (seen old) (seen w) z) e (second s))

  one-clear : SoundWords old → (r : ℕ) → c ≡ clear r → v ≡ w
  one-clear s r e =
      let i = ((subst (λ (x : Call). CallPost x old v y) e p).kept s).exact in
      let j = ((subst (λ (x : Call). CallPost x old w z) e q).kept s).exact in
      let few = subst (λ (x : Call). ((does b x).1.number ≡ 0) ⊎ ((does b x).1.number ≡ 3)) (sym e) (clear-few b r) in
      let told = (first s).agrees.number in
      ⊎_elim
      (λ o. i (told ∙ o) ∙ sym (j (sym (one_number s) ∙ told ∙ o)))
      (λ o. one-all s (subst (λ (k : ℕ). T (keeps_all k)) (sym (told ∙ o)) tt))
      few

  -- two replies and two ends that a call's contract allows on the same words agree in all that document 01 does not free
  pub call-one : OneAnswer c old v w y z
  call-one = record {
    number = agree ℕ_discrete (λ x u. x.number) one_number;
    rounds = agree ℕ_discrete (λ x u. x.rounds) (λ s. (first s).agrees.rounds ∙ sym (second s).agrees.rounds);
    peak = agree ℕ_discrete (λ x u. x.peak) (λ s. (first s).agrees.peak ∙ sym (second s).agrees.peak);
    value = agree ℕ_discrete (λ x u. settled_in c x.value) (λ s. call-value c b (first s) (second s));
    book = λ i. record {
      n = agree ℕ_discrete (λ x u. (seen u).n) (λ s. ap (λ (x : Book). x.n) (one-book s)) i;
      N = agree ℕ_discrete (λ x u. (seen u).N) (λ s. ap (λ (x : Book). x.N) (one-book s)) i;
      valid = agree (List-discrete Bool-discrete) (λ x u. (book_of (seen u)).valid) (λ s. ap (λ (x : Book). x.valid) (one-book s)) i;
      rel = fun_ext
          (λ t. agree (Option-discrete (List-discrete (List-discrete Bool-discrete))) (λ x u. (book_of (seen u)).rel t)
          (λ s. ap (λ (x : Book). x.rel t) (one-book s))) i;
      reg = fun_ext
          (λ r. agree (Option-discrete (List-discrete Bool-discrete)) (λ x u. (book_of (seen u)).reg r)
          (λ s. ap (λ (x : Book). x.reg r) (one-book s))) i;
    };
    numbers = λ r k l m.
        let tell : (u : List ℕ) → Dec ((seen u).reg r ≡ (seen u).reg k) = λ u. Option-discrete ℕ_discrete ((seen u).reg r) ((seen u).reg k) in (
          (λ e. any-words old (tell w) (λ s. (one_place s r k l m).0 e)
              (λ n. subst (λ (u : List ℕ). (seen u).reg r ≡ (seen u).reg k) (one_kept n) e)),
          λ e. any-words old (tell v) (λ s. (one_place s r k l m).1 e)
              (λ n. subst (λ (u : List ℕ). (seen u).reg r ≡ (seen u).reg k) (sym (one_kept n)) e),
        );
    size = agree ℕ_discrete (λ x u. length u) (λ s. (p.kept s).size ∙ sym (q.kept s).size);
    header = λ h l e. agree ℕ_discrete (λ x u. header_of u h) (λ s. one-header s h l e);
    rows = λ i h. record {
      used = agree Bool-discrete (λ x u. (seen u).rows.used i) (λ s. (one-row s i h).used);
      level = agree ℕ_discrete (λ x u. (seen u).rows.level i) (λ s. (one-row s i h).level);
      low = agree ℕ_discrete (λ x u. (seen u).rows.low i) (λ s. (one-row s i h).low);
      high = agree ℕ_discrete (λ x u. (seen u).rows.high i) (λ s. (one-row s i h).high);
    };
    swept = λ e i. agree Bool-discrete (λ x u. (seen u).rows.used i) (λ s. one-used s e i);
    spare = λ i l. agree ℕ_discrete (λ x u. cell_of (header_of old ROWS) u i SPARE) (λ s. (p.kept s).spare i l ∙ sym ((q.kept s).spare i l));
    beyond = λ k l. agree ℕ_discrete (λ x u. get_or u k 0) (λ s. (p.kept s).beyond k l ∙ sym ((q.kept s).beyond k l));
    all = λ l. agree (List-discrete ℕ_discrete) (λ x u. u) (λ s. one-all s l);
    cleared = λ r e. agree (List-discrete ℕ_discrete) (λ x u. u) (λ s. one-clear s r e);
  }

-- ---- with the accounts that are lent

-- fresh leaves one list of accounts
pub fresh-accounts : (n N : ℕ) {old v w : List ℕ} {l a b : List Account} {y z : Reply} → FreshAllPost n N old v l a y
    → FreshAllPost n N old w l b z → a ≡ b
fresh-accounts n N {l = l} p q = p.list ∙ ap (freshened l) (fresh-one n N (length l) p.table q.table).0 ∙ sym q.list

-- and so does set
pub set-accounts : (place r R : ℕ) (bs : List ℕ) {old v w : List ℕ} {l a b : List Account} {y z : Reply}
    → SetAllPost place r R bs old v l a y → SetAllPost place r R bs old w l b z → a ≡ b
set-accounts place r R bs {l = l} {y = y} {z = z} p q =
    let c = set (terms_of l place) r R bs in
    let o = call-one c p.table q.table in
    p.list ∙ ap₂ (λ (k j : ℕ). charged l c (made k j)) o.number o.rounds ∙ sym q.list
  where
    made : ℕ → ℕ → Reply
    made k j = record { number = k; rounds = j; peak = 0; value = 0 }
