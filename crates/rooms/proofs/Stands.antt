-- Laws of what specs/Stands.antt defines. Assumes nothing.
use mathlib.Core.Path.{◌≡◌, refl, sym, ap, ◌∙◌, subst}
use mathlib.Core.Bool.{Bool, true, false, cond}
use mathlib.Core.List.{List}
use mathlib.Core.Option.{Option, none, some}
use Prim.Native.Nat.{ℕ, ◌≤◌}
use native.Mathlib.Nat.{lt_of_not-le}
use native.Mathlib.Omega.{arith}
use lib.Dec.{eqb, ltb}
use lib.ListN.{length}
use borrow.Author.Tests.{eqb-true, eqb-false}
use Rattle.mucalculus.specs.Order.{weight}
use Rattle.layout.specs.View.{View}
use Rattle.rows.specs.Says.{Says, holds, fails}
use Rattle.book.specs.Book.{Book, fresh, fresh_fits, Call, relation, set, valid, clear, collect, count, registers, refused, asked, Done}
use Rattle.book.specs.Book.{does, answer}
use Rattle.book.specs.Program.{Line, fields, Command, start, call, states, words_lent, states_in, value_of, op_of, shown, obey}
use Rattle.book.specs.Table.{Agrees, SettledTo}
use Rattle.book.proofs.Leaves.{shows-fresh}
use Rattle.book.specs.Leaves.{valued}
use Rattle.book.specs.BookOf.{book_of}
use Rattle.book.proofs.BookOf.{only-book, whole-book_of}
use Rattle.book.proofs.Stored.{whole_fresh, whole-does, relation_cases, valid_cases, range_cases}
use Rattle.book.proofs.Truthful.{set_leaves}
use Rattle.rows.specs.Sound.{table_of}
use Rattle.contract.specs.Seen.{seen, SoundWords}
use Rattle.contract.proofs.Seen.{sound-table}
use Rattle.contract.specs.Posts.{CallPost}
use Rattle.contract.proofs.Answered.{count-means}
use Rattle.commands.specs.declared.Outcome.{Outcome}
use Rattle.commands.specs.Obey.{node_reply, reply_of, Beside, Posted, Obeys}
use Rattle.rooms.specs.Stands.{Stands, outcome_line}

-- no words of that length are left out: `sound` tells which of the two they are
pub stands-told : (ws : List ℕ) (r : Bool) → length ws ≡ words_lent → Says (SoundWords ws) r → (o : Option Book) × Stands o ws
stands-told ws true z (holds s) = (some (book_of (seen ws)), (z, s, refl))
stands-told ws false z (fails n) = (none, (z, n))

-- and they stand for one book, or for none
pub stands_one : (ws : List ℕ) (o q : Option Book) → Stands o ws → Stands q ws → o ≡ q
stands_one ws none none s u = refl
stands_one ws none (some b) s u = absurd (s.1 u.1)
stands_one ws (some b) none s u = absurd (u.1 s.1)
stands_one ws (some b) (some c) s u = ap some (s.2 ∙ sym u.2)

-- what the book does is what was done: its line is the outcome's, and the words left stand for its next book
pub record Obeyed (d : Option Book × Line) (new : List ℕ) (x : Outcome) : Type 0 where
  pub line : d.1 ≡ outcome_line x
  pub stands : Stands d.0 new

-- ---- fresh

module _ (o : Option Book) (n N : ℕ) (old new : List ℕ) (x : Outcome) (z : length old ≡ words_lent) (s : Stands o old) (e : x.operation ≡ 1)
    (p : Posted (start n N) old new x) where
  lent : fresh_fits n N (length old) ≡ fresh_fits n N words_lent
  lent = ap (fresh_fits n N) z

  start-obeyed : Obeyed (obey o (start n N)) new x
  start-obeyed = go (fresh_fits n N words_lent) refl
    where
      go : (t : Bool) → fresh_fits n N words_lent ≡ t → Obeyed (cond t (some (fresh n N), fields 1 0 0 0) (o, fields 1 1 0 0)) new x
      go true i =
          let (y, w, m) = p.0.answers (ap (λ (t : Bool). cond t 0 1) (lent ∙ i)) in
          let (a, b, d, c) = y in
          record {
            line = cc;
            stands = (
              ap (λ (v : View). v.size) (p.1 a) ∙ z,
              w,
              only-book (fresh n N) (seen new) (whole_fresh n N) (shows-fresh n N (seen new) m),
            );
          }
      go false i =
          let (y, w) = p.0.refuses 0 (ap (λ (t : Bool). cond t 0 1) (lent ∙ i)) in
          let (a, b, d, c) = y in
          record { line = cc; stands = subst (Stands o) (sym w) s }

-- ---- a call on unsound words

-- the outcome of a refusal: "A refused record has 0 in the last two fields"
refused-value : (c : Call) (new : List ℕ) (x : Outcome) → Beside c new x → 1 ≤ x.number → (reply_of c x).value ≡ 0 → x.value ≡ 0
refused-value (relation t bs) new x b l v = v
refused-value (set acc r R bs) new x b l v = b.1 l
refused-value (valid bs) new x b l v = v
refused-value (clear r) new x b l v = v
refused-value collect new x b l v = v

-- number and rounds of a call's reply
reply-number : (c : Call) (x : Outcome) → (reply_of c x).number ≡ x.number
reply-number (relation t bs) x = refl
reply-number (set acc r R bs) x = refl
reply-number (valid bs) x = refl
reply-number (clear r) x = refl
reply-number collect x = refl

reply-rounds : (c : Call) (x : Outcome) → (reply_of c x).rounds ≡ x.rounds
reply-rounds (relation t bs) x = refl
reply-rounds (set acc r R bs) x = refl
reply-rounds (valid bs) x = refl
reply-rounds (clear r) x = refl
reply-rounds collect x = refl

none-obeyed : (c : Call) (old new : List ℕ) (x : Outcome) → Stands none old → x.operation ≡ op_of c → Posted (call c) old new x
    → Obeyed (obey none (call c)) new x
none-obeyed c old new x s e p =
    let (y, w) = p.0.performs.unsound s.1 in
    let (a, b, d, v) = y in
    let i = reply-number c x in
    let j = reply-rounds c x in
    let u = refused-value c new x p.1 (omega (arith, a, i)) v in
    record { line = cc; stands = subst (Stands none) (sym w) s }

-- ---- a call on a sound table

-- the value shown: of a refused call 0, of an answered one what it shows
value-shown : (k v w : ℕ) → (k ≡ 0 → v ≡ w) → (1 ≤ k → w ≡ 0) → cond (eqb k 0) v 0 ≡ w
value-shown k v w a r = go (eqb k 0) refl
  where
    go : (t : Bool) → eqb k 0 ≡ t → cond t v 0 ≡ w
    go true e = a (eqb-true k 0 e)
    go false e = sym (r (lt_of_not-le (λ l. eqb-false k 0 e (omega arith))))

-- relation, valid and clear always settle their value at 0
relation-value : (b : Book) (t : ℕ) (bs : List ℕ) → (does b (relation t bs)).1.value ≡ some 0
relation-value b t bs = relation_cases (λ (d : Done). d.1.value ≡ some 0) b t bs (λ k i j. refl) (λ l p q. refl)

valid-value : (b : Book) (bs : List ℕ) → (does b (valid bs)).1.value ≡ some 0
valid-value b bs = valid_cases (λ (d : Done). d.1.value ≡ some 0) b bs (λ k i j. refl) (λ t p. refl)

clear-value : (b : Book) (r : ℕ) → (does b (clear r)).1.value ≡ some 0
clear-value b r = range_cases (λ (d : Done). d.1.value ≡ some 0) r registers _ _ (λ l. refl) (λ l. refl)

settled : (o : Option ℕ) (k x : ℕ) → o ≡ some k → SettledTo o x → x ≡ k
settled o k x e h = subst (λ (u : Option ℕ). SettledTo u x → x ≡ k) (sym e) (λ i. i) h

call-value : (c : Call) (old new : List ℕ) (x : Outcome) → CallPost c old new (reply_of c x) → Beside c new x
    → Agrees (does (book_of (seen old)) c).1 (reply_of c x)
    → cond (eqb (does (book_of (seen old)) c).1.number 0) (shown c (does (book_of (seen old)) c)) 0 ≡ x.value
call-value (relation t bs) old new x p b g =
    let e = settled _ 0 x.value (relation-value (book_of (seen old)) t bs) g.value in
    value-shown (does (book_of (seen old)) (relation t bs)).1.number 0 x.value (λ k. sym e) (λ k. e)
call-value (set acc r R bs) old new x p b g =
    value-shown (does (book_of (seen old)) (set acc r R bs)).1.number (states_in ((does (book_of (seen old)) (set acc r R bs)).0.reg r))
    x.value
    (λ e.
    let z : x.number ≡ 0 = g.number ∙ e in
    ap states_in (set_leaves (book_of (seen old)) acc r R bs (node_reply x) g z)
    ∙ sym (count-means old new acc r R bs (node_reply x) p z (valued x.value) (b.0 z)))
    (λ l. b.1 (omega (arith, g.number)))
call-value (valid bs) old new x p b g =
    let e = settled _ 0 x.value (valid-value (book_of (seen old)) bs) g.value in
    value-shown (does (book_of (seen old)) (valid bs)).1.number 0 x.value (λ k. sym e) (λ k. e)
call-value (clear r) old new x p b g =
    let e = settled _ 0 x.value (clear-value (book_of (seen old)) r) g.value in
    value-shown (does (book_of (seen old)) (clear r)).1.number 0 x.value (λ k. sym e) (λ k. e)
call-value collect old new x p b g = sym g.value

some-obeyed : (c : Call) (old new : List ℕ) (x : Outcome) → length old ≡ words_lent → SoundWords old → x.operation ≡ op_of c
    → Posted (call c) old new x
    → Obeyed (obey (some (book_of (seen old))) (call c)) new x
some-obeyed c old new x z s e p =
    let (w, g) = p.0.performs.served s in
    let k = call-value c old new x p.0 p.1 g.agrees in
    let m = g.agrees.number in
    let q = g.agrees.rounds in
    let i = reply-number c x in
    let j = reply-rounds c x in
    record {
      line = cc;
      stands = (
        (p.0.kept s).size ∙ z,
        w,
        only-book (does (book_of (seen old)) c).0 (seen new)
            (whole-does (book_of (seen old)) c (whole-book_of (seen old) (sound-table (table_of old) s))) g.shows,
      );
    }

-- ---- a count

-- its answer has no rounds and always settles its value
count-rounds : (b : Book) (r : ℕ) → (answer b (count r)).rounds ≡ 0
count-rounds b r = go (ltb r registers) (b.reg r)
  where
    go : (t : Bool) (o : Option (List Bool)) → (cond t (asked o (λ A. some (weight true A))) (refused 3)).rounds ≡ 0
    go true none = refl
    go true (some A) = refl
    go false o = refl

count-value : (b : Book) (r x : ℕ) → SettledTo (answer b (count r)).value x → value_of (answer b (count r)).value ≡ x
count-value b r x = go (ltb r registers) (b.reg r)
  where
    go : (t : Bool) (o : Option (List Bool)) → SettledTo (cond t (asked o (λ A. some (weight true A))) (refused 3)).value x
        → value_of (cond t (asked o (λ A. some (weight true A))) (refused 3)).value ≡ x
    go true none h = sym h
    go true (some A) h = sym h
    go false o h = sym h

none-counted : (r : ℕ) (old new : List ℕ) (x : Outcome) → Stands none old → x.operation ≡ 5 → Posted (states r) old new x
    → Obeyed (obey none (states r)) new x
none-counted r old new x s e p =
    let (a, b, d, v) = p.1.unsound s.1 in
    record { line = cc; stands = subst (Stands none) (sym p.0) s }

some-counted : (r : ℕ) (old new : List ℕ) (x : Outcome) → length old ≡ words_lent → SoundWords old → x.operation ≡ 5
    → Posted (states r) old new x
    → Obeyed (obey (some (book_of (seen old))) (states r)) new x
some-counted r old new x z s e p =
    let g = (p.1.told s).agrees in
    let a = g.number in
    let b = g.rounds ∙ count-rounds (book_of (seen old)) r in
    let v = count-value (book_of (seen old)) r x.value g.value in
    record { line = cc; stands = subst (Stands (some (book_of (seen old)))) (sym p.0) (z, s, refl) }

-- ---- a command

stands-length : (o : Option Book) (ws : List ℕ) → Stands o ws → length ws ≡ words_lent
stands-length none ws s = s.0
stands-length (some b) ws s = s.0

pub obeyed : (o : Option Book) (c : Command) (old new : List ℕ) (x : Outcome) → Stands o old → Obeys c old new x → Obeyed (obey o c) new x
obeyed o (start n N) old new x s h = start-obeyed o n N old new x (stands-length o old s) s h.operation h.posted
obeyed none (call c) old new x s h = none-obeyed c old new x s h.operation h.posted
obeyed none (states r) old new x s h = none-counted r old new x s h.operation h.posted
obeyed (some b) (call c) old new x s h =
    subst (λ (v : Book). Obeyed (obey (some v) (call c)) new x) (sym s.2)
    (some-obeyed c old new x s.0 s.1 h.operation h.posted)
obeyed (some b) (states r) old new x s h =
    subst (λ (v : Book). Obeyed (obey (some v) (states r)) new x) (sym s.2)
    (some-counted r old new x s.0 s.1 h.operation h.posted)
