-- Laws of what specs/Demand.antt defines. Assumes nothing.
use mathlib.Core.Path.{◌≡◌, refl, sym, ap, ◌∙◌, subst}
use mathlib.Core.Logic.{◌↔◌, ◌⊎◌, inl, inr}
use mathlib.Core.Bool.{Bool}
use mathlib.Core.List.{List}
use mathlib.Core.Option.{Option, none, some}
use Prim.Native.Nat.{ℕ, zero, suc, ◌*◌, ◌<◌}
use native.Mathlib.Omega.{arith}
use Rattle.diagram.specs.Level.{Fn}
use Rattle.diagram.specs.Rows.{Rows, den}
use Rattle.diagram.specs.Post.{Denotes}
use Rattle.diagram.proofs.Canon.{canonical}
use Rattle.book.specs.Bridge.{fn_of}
use Rattle.book.proofs.Bridge.{fn_of_inj}
use Rattle.book.specs.Book.{Book, fresh, fresh_number, Call, Question, node, member, count, Answer, registers, refused, node_of, asked}
use Rattle.book.specs.Book.{does, play, answer}
use Rattle.book.specs.Stored.{Whole}
use Rattle.book.proofs.Stored.{whole_fresh, whole-does, none-some, range_cases}
use Rattle.book.specs.Last.{Untouched, LastSet}
use Rattle.book.proofs.Last.{last_set}
use Rattle.book.specs.Eight.{EightAt}
use Rattle.book.proofs.Eight.{eight_exact}
use Rattle.book.specs.Table.{Table, Reply, Place, Shows, Agrees, noted, Serves, NodeSays, Tells}
use Rattle.book.proofs.Leaves.{reg_filled, rel_filled, shows-fresh}
use Rattle.book.specs.BookOf.{book_of}
use Rattle.book.proofs.BookOf.{only-book, shows-book_of}
use Rattle.book.specs.Contract.{Starts, Quiet, Implements}
use Rattle.book.specs.Demand.{Event, calls, book_after, Trace, stop, go, pause, Session, last_number, AllAgree, AllEight, Demand}

-- ---- two registers of a table that shows a whole book

place-denotes : {X : Type 0} (m : ℕ) (rows : Rows) (f : X → Fn) (o : Option X) (n : Option ℕ) (x : X) (a : ℕ) → Place m rows f o n
    → o ≡ some x → n ≡ some a → Denotes m rows a (f x)
place-denotes {X} m rows f o n x a p i j =
    subst (λ (k : Option ℕ). Place m rows f (some x) k) j (subst (λ (q : Option X). Place m rows f q n) i p)

-- one number exactly where the book's sets are one
pub same_number : (b : Book) (t : Table) → Whole b → Shows b t → (r q : ℕ) → r < registers → q < registers → (A B : List Bool) (x y : ℕ)
    → b.reg r ≡ some A → b.reg q ≡ some B → t.reg r ≡ some x → t.reg q ≡ some y → (x ≡ y) ↔ (A ≡ B)
same_number b t w s r q lr lq A B x y i j k l = (forth, back)
  where
    m : ℕ
    m = 2 * b.n

    dx : Denotes m t.rows x (fn_of b.n A)
    dx = place-denotes m t.rows (fn_of b.n) (b.reg r) (t.reg r) A x (s.reg r lr) i k

    dy : Denotes m t.rows y (fn_of b.n B)
    dy = place-denotes m t.rows (fn_of b.n) (b.reg q) (t.reg q) B y (s.reg q lq) j l

    forth : x ≡ y → A ≡ B
    forth e =
        fn_of_inj b.n A B (w.reg r A i).0 (w.reg q B j).0 (λ v. sym (dx.same v) ∙ ap (λ (z : ℕ). den m t.rows z v) e ∙ dy.same v)

    back : A ≡ B → x ≡ y
    back e = canonical s.wf x y dx.arrow dy.arrow (λ v. dx.same v ∙ ap (λ (C : List Bool). fn_of b.n C v) e ∙ sym (dy.same v))

-- ---- the whole list

-- an answered node's register is in range
node_in : (b : Book) (q : ℕ) → (answer b (node q)).number ≡ 0 → q < registers
node_in b q =
    range_cases (λ (a : Answer). a.number ≡ 0 → q < registers) q registers (asked (b.reg q) node_of) (refused 3) (λ l z. l)
    (λ l z. absurd (omega arith))

-- from the number in a register to the one last returned
renamed : (b : Book) (g h : ℕ → Option ℕ) → ((r : ℕ) → r < registers → g r ≡ h r) → (q : Question) (y : Reply) → Tells b q g y
    → Tells b q h y
renamed b g h e q y t = record { agrees = t.agrees; node_says = says q t.agrees t.node_says }
  where
    says : (q : Question) → Agrees (answer b q) y → NodeSays g q y → NodeSays h q y
    says (node r) a s = λ z. sym (e r (node_in b r (sym a.number ∙ z))) ∙ s z
    says (member r u) a s = tt
    says (count r) a s = tt

-- what holds after a list of calls from a book: the table shows the book's end, the replies agree with its answers, and each register has
-- its last number, g r before the list
record After (b : Book) (g : ℕ → Option ℕ) (after : Table) (l : List Event) : Type 0 where
  whole : Whole (play b (calls l)).0
  shows : Shows (play b (calls l)).0 after
  agree : AllAgree (play b (calls l)).1 l
  numbers : (r : ℕ) → r < registers → after.reg r ≡ last_number (g r) l r
  eights : AllEight b l

module _ {W : Type 0} {words : W → ℕ} {sound : W → Type 0} {view : W → Table} {makes : W → ℕ → ℕ → ℕ → W → Reply → Type 0}
    {contract : W → Call → W → Reply → Type 0} {rests : W → W → Type 0} {asks : W → Question → W → Reply → Type 0}
    (I : Implements W words sound view makes contract rests asks) where
  -- a call on words that stand for a whole book serves that book
  serves : (b : Book) {w v : W} {c : Call} {y : Reply} → Whole b → sound w → Shows b (view w) → contract w c v y
      → sound v × Serves b c (view w) (view v) y
  serves b {w} {v} {c} {y} h ok s p =
      let d = (I.performs w v c y p).served ok in
      (d.0, subst (λ (x : Book). Serves x c (view w) (view v) y) (sym (only-book b (view w) h s)) d.1)

  -- words left by a call that stores nothing show the same book
  still-shows : (b : Book) {w v : W} → Whole b → sound w → Shows b (view w) → Quiet sound view w v → Shows b (view v)
  still-shows b {w} {v} h ok s k = subst (λ (x : Book). Shows x (view v)) (k.book ok ∙ sym (only-book b (view w) h s))
      (shows-book_of (view v) (I.good v (k.good ok)))

  -- soundness and the book are carried along together
  follows : (b : Book) (g : ℕ → Option ℕ) {w w' : W} {l : List Event} → Whole b → sound w → Shows b (view w)
      → ((r : ℕ) → r < registers → (view w).reg r ≡ g r) → Trace W contract rests w l w'
      → sound w' × After b g (view w') l
  follows b g h ok s n stop = (ok, record { whole = h; shows = s; agree = tt; numbers = n; eights = tt })
  follows b g h ok s n (go {c = c} {y = y} p t) =
      let (fine, d) = serves b h ok s p in
      let (end, a) = follows (does b c).0 (λ r. noted (g r) c y r) (whole-does b c h) fine d.shows
      (λ r i. d.numbers r i ∙ ap (λ (x : Option ℕ). noted x c y r) (n r i)) t in (
        end,
        record {
          whole = a.whole;
          shows = a.shows;
          agree = (d.agrees, a.agree);
          numbers = a.numbers;
          eights = (subst (λ (k : ℕ). EightAt b c k) (sym d.agrees.number) (eight_exact b c), a.eights);
        },
      )
  follows b g h ok s n (pause {w = w} {v = v} q t) =
      let k = I.quiet w v q in follows b g h (k.good ok) (still-shows b h ok s k) (λ r i. k.numbers ok r i ∙ n r i) t

  -- what an answered fresh leaves
  started : (n N k j : ℕ) {w w' : W} (y : Reply) → Starts sound view n N k j w w' y → y.number ≡ 0 → sound w' × Shows (fresh n N) (view w')
  started n N k j {w} {w'} y s z = pick (fresh_number n N k j) refl
    where
      pick : (i : ℕ) → fresh_number n N k j ≡ i → sound w' × Shows (fresh n N) (view w')
      pick zero e = let d = s.answers e in (d.1, shows-fresh n N (view w') d.2)
      pick (suc i) e = absurd (omega (arith, (s.refuses i e).0.0))

  -- THE THIRD DEMAND: after any list of calls from an answered fresh the whole claim holds
  pub third_demand : (n N : ℕ) {w' : W} {l : List Event} → Session W makes contract rests n N l w' → Demand sound view asks n N l w'
  third_demand n N {w'} {l} x = record {
    good = end.0;
    reg_filled = reg_filled b (view w') a.shows;
    rel_filled = rel_filled b (view w') a.shows;
    holds = sym (only-book b (view w') a.whole a.shows);
    shows = a.shows;
    last = λ r A h. made (last_set (calls l) (fresh n N) r A h);
    numbers =
        λ r q i j A B y z u v p o. same_number b (view w') a.whole a.shows r q i j A B y z u v (a.numbers r i ∙ p)
        (a.numbers q j ∙ o);
    current = a.numbers;
    agree = a.agree;
    eights = a.eights;
    questions =
        λ v q y p. let d = I.answers w' v q y p in
        (d.same, renamed b (view w').reg (last_number none l) a.numbers q y (asked_of q y (d.told end.0)));
  }
    where
      b : Book
      b = book_after n N l

      s : sound x.made × Shows (fresh n N) (view x.made)
      s = started n N (words x.lent) x.count x.reply (I.starts x.lent x.made n N x.count x.reply x.start)
          x.answered

      -- every register is empty at the start
      empty : (o : Option ℕ) (m : ℕ) (rows : Rows) (f : List Bool → Fn) → Place m rows f none o → o ≡ none
      empty none m rows f p = refl
      empty (some y) m rows f p = absurd p

      end : sound w' × After (fresh n N) (λ r. none) (view w') l
      end = follows (fresh n N) (λ r. none) (whole_fresh n N) s.0 s.1
          (λ r i. empty ((view x.made).reg r) (2 * n) (view x.made).rows (fn_of n) (s.1.reg r i)) x.rest

      a : After (fresh n N) (λ r. none) (view w') l
      a = end.1

      asked_of : (q : Question) (y : Reply) → Tells (book_of (view w')) q (view w').reg y → Tells b q (view w').reg y
      asked_of q y t = subst (λ (c : Book). Tells c q (view w').reg y) (sym (only-book b (view w') a.whole a.shows)) t

      made : {r : ℕ} {A : List Bool} → (Untouched r (fresh n N) (calls l) × ((fresh n N).reg r ≡ some A)) ⊎ LastSet (fresh n N) (calls l) r A
          → LastSet (fresh n N) (calls l) r A
      made (inl w) = absurd (none-some w.1)
      made (inr w) = w
