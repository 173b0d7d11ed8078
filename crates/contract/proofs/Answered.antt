-- DEMAND 2 over the lent words, by the predicates that stand in the functions' `ensures`: after an answered set, on whatever words, member
-- and count answer by the meaning of its formula. Assumes nothing.
use mathlib.Core.Path.{◌≡◌, refl, sym, ap, ◌∙◌, subst}
use mathlib.Core.Logic.{◌↔◌}
use mathlib.Core.Bool.{Bool, true, false, cond, ◌&&◌}
use mathlib.Core.List.{List}
use mathlib.Core.Option.{Option, some}
use Prim.Native.Nat.{ℕ, ◌^◌, ◌<◌}
use native.Mathlib.Decide.{ℕ_discrete}
use native.Mathlib.Omega.{arith}
use lib.Dec.{T, ltb, lt→ltb}
use Rattle.accounts.specs.declared.Terms.{Terms}
use Rattle.mucalculus.specs.Sets.{mem}
use Rattle.mucalculus.proofs.Sets.{true_of, and_in}
use Rattle.mucalculus.specs.Order.{weight}
use Rattle.mucalculus.specs.Form.{no_env}
use Rattle.mucalculus.specs.Means.{means}
use Rattle.tokens.specs.declared.Kind.TheVariants.{Set}
use Rattle.book.specs.Book.{Book, Question, set, member, count, registers, refused, model_of, formula_in, asked, one_of, does, answer}
use Rattle.rows.specs.Sound.{table_of}
use Rattle.book.specs.Table.{Reply, Agrees, Serves}
use Rattle.book.specs.BookOf.{book_of}
use Rattle.book.proofs.BookOf.{whole-book_of, only-book}
use Rattle.book.proofs.Stored.{Sets, whole-does, set-means}
use Rattle.book.proofs.Truthful.{set_leaves, set-member, set-count}
use Rattle.contract.specs.Seen.{seen, SoundWords}
use Rattle.contract.proofs.Seen.{sound-table, any-words}
use Rattle.contract.specs.Posts.{CallPost, AskPost}

tested : (t : Bool) → Dec (T t)
tested true = yes tt
tested false = no (λ x. x)

module _ (old mid : List ℕ) (acc : Terms) (r R : ℕ) (bs : List ℕ) (y : Reply) (p : CallPost (set acc r R bs) old mid y)
    (z : y.number ≡ 0) where
  abbrev b : Book
  b = book_of (seen old)

  abbrev after : Book
  after = (does b (set acc r R bs)).0

  -- the states in which the formula holds, over the book before the call
  abbrev M : List Bool
  M = means (model_of b) no_env (formula_in b Set bs)

  -- words that are not sound get 2, so what can be decided holds if it holds of sound words
  answered-words : {P : Type 0} → Dec P → (SoundWords old → P) → P
  answered-words d f = any-words old d f (λ n. absurd (omega (arith, z, (p.performs.unsound n).0.0)))

  module _ (s : SoundWords old) where
    served : SoundWords mid × Serves b (set acc r R bs) (seen old) (seen mid) y
    served = p.performs.served s

    -- the book that the words stand for is the book after the call
    after-words : after ≡ book_of (seen mid)
    after-words =
        only-book after (seen mid) (whole-does b (set acc r R bs) (whole-book_of (seen old) (sound-table (table_of old) s)))
        served.1.shows

    agrees : (q : Question) (x : Reply) → AskPost q mid x → Agrees (answer after q) x
    agrees q x h = subst (λ (v : Book). Agrees (answer v q) x) (sym after-words) (h.told served.0).agrees

    held : after.reg r ≡ some M
    held = set_leaves b acc r R bs y served.1.agrees z

    means-set : Sets b acc r R bs (does b (set acc r R bs))
    means-set = set-means b acc r R bs (sym served.1.agrees.number ∙ z)

    range : T (ltb r registers)
    range = lt→ltb r registers means-set.range

    bits : after.n ≡ b.n
    bits = ap (λ (x : Book). x.n) means-set.stored.book

    -- no state of the table is refused
    asks : (t : Bool) (o : Option (List Bool)) (g : List Bool → Option ℕ) → T t → o ≡ some M → (cond t (asked o g) (refused 3)).number ≡ 0
    asks t o g u e = rw (true_of t u, e) refl

  -- after an answered set, member of any state of the table is answered
  pub member-answered : (a : ℕ) (x : Reply) → a < 2 ^ b.n → AskPost (member r a) mid x → x.number ≡ 0
  member-answered a x l q = answered-words (ℕ_discrete x.number 0) (λ s.
      (agrees s (member r a) x q).number ∙ asks s (ltb r registers && ltb a (2 ^ after.n)) (after.reg r) (λ A. some (one_of (mem A a)))
      (and_in (ltb r registers) _ (range s) (lt→ltb a (2 ^ after.n) (subst (λ (k : ℕ). a < 2 ^ k) (sym (bits s)) l))) (held s))

  -- and count is
  pub count-answered : (x : Reply) → AskPost (count r) mid x → x.number ≡ 0
  count-answered x q = answered-words (ℕ_discrete x.number 0) (λ s.
      (agrees s (count r) x q).number ∙ asks s (ltb r registers) (after.reg r) (λ A. some (weight true A)) (range s) (held s))

  -- "A state is in the set of an answered formula exactly when the mu-calculus says so"
  pub member-means : (a : ℕ) (x : Reply) → AskPost (member r a) mid x → x.number ≡ 0 → (x.value ≡ 1) ↔ T (mem M a)
  member-means a x q i =
      ((λ h. answered-words (tested (mem M a)) (λ s. (says s).0 h)), λ h. answered-words (ℕ_discrete x.value 1) (λ s. (says s).1 h))
    where
      says : SoundWords old → (x.value ≡ 1) ↔ T (mem M a)
      says s = set-member b acc r R bs y (served s).1.agrees z a x (agrees s (member r a) x q) i

  -- count gives how many states there are in the set of an answered formula
  pub count-means : (x : Reply) → AskPost (count r) mid x → x.value ≡ weight true M
  count-means x q = answered-words (ℕ_discrete x.value (weight true M)) (λ s.
      set-count b acc r R bs y (served s).1.agrees z x (agrees s (count r) x q) (count-answered x q))
