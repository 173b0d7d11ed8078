-- A QUESTION FOR MANY STATES IN A LIST: no word changes, so it may stand anywhere in the lists of the third demand and of "Bigger tables,
-- same verdicts", and it is answered or refused alike in the larger table, the same bytes. Assumes nothing.
use mathlib.Core.Path.{◌≡◌, refl, sym, ap, ◌∙◌, subst}
use mathlib.Core.Bool.{Bool, cond}
use mathlib.Core.List.{List, ◌++◌, List-discrete}
use mathlib.Core.Option.{Option, none, some}
use Prim.Native.Nat.{ℕ, suc, ◌*◌, ◌≤◌}
use native.Mathlib.Omega.{arith}
use native.Mathlib.Decide.{ℕ_discrete}
use lib.ListN.{length, take, drop, take-append-drop}
use borrow.Author.Tests.{lt-ltb}
use Rattle.diagram.specs.Rows.{den}
use Rattle.book.specs.Bridge.{set_of}
use Rattle.book.specs.Book.{Book, registers}
use Rattle.book.specs.BookOf.{book_of, stands_for}
use Rattle.book.specs.Table.{Reply, Refusal}
use Rattle.book.proofs.Stored.{none-some}
use Rattle.book.specs.Demand.{Event, calls}
use Rattle.book.specs.Raised.{with_row_count, AllZero, Looser, Cut}
use Rattle.contract.specs.Seen.{seen, SoundWords}
use Rattle.contract.specs.Closed.{rests}
use Rattle.contract.proofs.Closed.{same-rests}
use Rattle.contract.specs.Shared.{Lent, Step, Rest, SharedSession}
use Rattle.contract.specs.Bigger.{AllAgain, SharedUpgrade}
use Rattle.contract.proofs.Bigger.{shared-each, each-sound}
use Rattle.batch_calls.specs.Posts.{Fit, InRange, Answered, BatchPost}

-- the set that a register stands for
stands : (r : ℕ) (words : List ℕ) {states : List ℕ} (o : Option ℕ) → InRange (seen words).n r states → (seen words).reg r ≡ o
    → (book_of (seen words)).reg r ≡ stands_for (set_of (seen words).n) (den (2 * (seen words).n) (seen words).rows) o
stands r words o g e =
    ap (λ (t : Bool). cond t (stands_for (set_of (seen words).n) (den (2 * (seen words).n) (seen words).rows) ((seen words).reg r)) none)
    (lt-ltb r registers g.register)
    ∙ ap (stands_for (set_of (seen words).n) (den (2 * (seen words).n) (seen words).rows)) e

-- the same number and the same answers
record Same (a b : List ℕ) (y z : Reply) : Type 0 where
  number : z.number ≡ y.number
  answers : b ≡ a

module _ {r : ℕ} (M : ℕ) (words words' : List ℕ) (s : SoundWords words) (s' : SoundWords words')
    (book : book_of (seen words') ≡ with_row_count (book_of (seen words)) M)
    {states order v w answers a b : List ℕ} {y z : Reply}
    (p : BatchPost r words states order v answers a y) (q : BatchPost r words' states order w answers b z) where
  same_bits : (seen words').n ≡ (seen words).n
  same_bits = ap (λ (d : Book). d.n) book

  same_set : (book_of (seen words')).reg r ≡ (book_of (seen words)).reg r
  same_set = ap (λ (d : Book). d.reg r) book

  refused-same : {k : ℕ} → Refusal (suc k) y → Refusal (suc k) z → Same a b y z
  refused-same {k} f g =
      let i = p.kept (λ e. let c = f.0 in omega arith) in
      let j = q.kept (λ e. let c = g.0 in omega arith) in
      record { number = g.0 ∙ sym f.0; answers = j.1 ∙ sym i.1 }

  answered-same : {c d : ℕ} {A : List Bool} → Answered c A words states order v answers a y
      → Answered d A words' states order w answers b z → Same a b y z
  answered-same i j = record {
    number = ap (λ (x : Reply). x.number) j.reply ∙ sym (ap (λ (x : Reply). x.number) i.reply);
    answers =
        sym (take-append-drop (length states) b)
        ∙ ap (λ (u : List ℕ). u ++ drop (length states) b) (j.told ∙ sym i.told)
        ∙ ap (λ (u : List ℕ). take (length states) a ++ u) (j.rest ∙ sym i.rest)
        ∙ take-append-drop (length states) a;
  }

  in-range-same : Fit states order answers → InRange (seen words).n r states → Same a b y z
  in-range-same f g = at ((seen words).reg r) ((seen words').reg r) refl refl
    where
      g' : InRange (seen words').n r states
      g' = subst (λ (n : ℕ). InRange n r states) (sym same_bits) g

      at : (o o' : Option ℕ) → (seen words).reg r ≡ o → (seen words').reg r ≡ o' → Same a b y z
      at none none e e' = refused-same (p.empty f s g e) (q.empty f s' g' e')
      at none (some d) e e' = absurd (none-some (sym (stands r words none g e) ∙ sym same_set ∙ stands r words' (some d) g' e'))
      at (some c) none e e' = absurd (none-some (sym (stands r words' none g' e') ∙ same_set ∙ stands r words (some c) g e))
      at (some c) (some d) e e' =
          let h = stands r words (some c) g e in
          answered-same (p.answered f s g c e _ h) (q.answered f s' g' d e' _ (same_set ∙ h))

  -- the checks in order, none of them decided
  not-two : (Same a b y z → ⊥) → ⊥
  not-two n =
      let range : Fit states order answers → InRange (seen words).n r states → ⊥ = λ f g. n (in-range-same f g) in
      let range' : Fit states order answers → InRange (seen words').n r states → ⊥ = λ f g.
      range f (subst (λ (k : ℕ). InRange k r states) same_bits g) in
      let fit : Fit states order answers → ⊥ = λ f. n (refused-same (p.range f s (range f)) (q.range f s' (range' f))) in
      n (refused-same (p.sizes fit) (q.sizes fit))

  agree : {X : Type 0} → Dec X → (Same a b y z → X) → X
  agree (yes e) f = e
  agree (no n) f = absurd (not-two (λ o. n (f o)))

  -- on two sound tables whose books differ in their rows alone
  pub batch_again : (z.number ≡ y.number) × (b ≡ a)
  batch_again =
      (agree (ℕ_discrete z.number y.number) (λ o. o.number), agree (List-discrete ℕ_discrete b a) (λ o. o.answers))

-- THE CALL STORES NOTHING: it gets the words to read
pub batch_rests : {r : ℕ} {words states order order' answers answers' : List ℕ} {y : Reply}
    → BatchPost r words states order order' answers answers' y → rests words words
batch_rests p = same-rests refl

-- ANSWERED ALIKE, at the same place of a list and of the same list with every limit raised or equal
pub members_again : (n N M : ℕ) → N ≤ M → M ≤ 60_000
    → (l k l' k' : List Event) {end end' : Lent} (x : SharedSession n N (l ++ k) end) (u : SharedUpgrade n M (l' ++ k') end')
    → Looser x.lent.accounts u.lent.accounts → AllAgain (calls l) (calls l') → AllZero l
    → (c : Cut Lent Step Rest x.made l k end) (c' : Cut Lent Step Rest u.made l' k' end')
    → (r : ℕ) {states order v w answers a b : List ℕ} {y z : Reply} → BatchPost r c.mid.words states order v answers a y
    → BatchPost r c'.mid.words states order w answers b z → (z.number ≡ y.number) × (b ≡ a)
members_again n N M more most l k l' k' x u loose again zeros c c' r p q =
    let (s, s') = each-sound n N M more most l k l' k' x u loose again zeros c c' in
    batch_again M c.mid.words c'.mid.words s s' (shared-each n N M more most l k l' k' x u loose again zeros c c').table.sets p q
