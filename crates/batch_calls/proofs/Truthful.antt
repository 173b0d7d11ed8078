-- DEMAND 2 for many states: after an answered set, on whatever words, an answered question tells the states in which the set's formula
-- holds. Assumes nothing.
use mathlib.Core.Path.{◌≡◌, refl, sym, ap, ◌∙◌}
use mathlib.Core.Bool.{Bool}
use mathlib.Core.List.{List, List-discrete}
use mathlib.Core.Option.{Option, none, some}
use Prim.Native.Nat.{ℕ}
use native.Mathlib.Decide.{ℕ_discrete}
use native.Mathlib.Omega.{arith}
use lib.ListN.{length, take}
use Rattle.accounts.specs.declared.Terms.{Terms}
use Rattle.mucalculus.specs.Form.{no_env}
use Rattle.mucalculus.specs.Means.{means}
use Rattle.tokens.specs.declared.Kind.TheVariants.{Set}
use Rattle.book.specs.Book.{Book, set, model_of, formula_in, does}
use Rattle.book.specs.Table.{Reply}
use Rattle.book.specs.BookOf.{book_of}
use Rattle.book.proofs.BookOf.{whole-book_of, only-book}
use Rattle.book.proofs.Stored.{whole-does}
use Rattle.book.proofs.Truthful.{set_leaves}
use Rattle.rows.specs.Sound.{table_of}
use Rattle.contract.specs.Seen.{seen, SoundWords}
use Rattle.contract.proofs.Seen.{sound-table, any-words}
use Rattle.contract.specs.Posts.{CallPost}
use Rattle.batch_calls.specs.Posts.{Fit, InRange, answers_of, BatchPost}

module _ (old mid : List ℕ) (acc : Terms) (r R : ℕ) (bs : List ℕ) (x : Reply) (p : CallPost (set acc r R bs) old mid x) (z : x.number ≡ 0)
    {states order order' answers answers' : List ℕ} {y : Reply} (q : BatchPost r mid states order order' answers answers' y)
    (i : y.number ≡ 0) where
  abbrev b : Book
  b = book_of (seen old)

  -- the states in which the formula holds, over the book before the set
  abbrev M : List Bool
  M = means (model_of b) no_env (formula_in b Set bs)

  -- the register then holds them
  held : SoundWords old → (book_of (seen mid)).reg r ≡ some M
  held s =
      let served = (p.performs.served s).1 in
      let same = only-book (does b (set acc r R bs)).0 (seen mid)
      (whole-does b (set acc r R bs) (whole-book_of (seen old) (sound-table (table_of old) s)))
      served.shows in
      ap (λ (c : Book). c.reg r) (sym same) ∙ set_leaves b acc r R bs x served.agrees z

  -- no check refuses the question, for it is answered
  not-refused : SoundWords old → (take (length states) answers' ≡ answers_of M states → ⊥) → ⊥
  not-refused s n =
      let m = (p.performs.served s).0 in
      let range : Fit states order answers → InRange (seen mid).n r states → ⊥ = λ f g. at f m g ((seen mid).reg r) refl in
      let fit : Fit states order answers → ⊥ = λ f. let e = (q.range f m (range f)).0 in omega arith in
      let e = (q.sizes fit).0 in
      omega arith
    where
      at : Fit states order answers → SoundWords mid → InRange (seen mid).n r states → (o : Option ℕ) → (seen mid).reg r ≡ o → ⊥
      at f m g none e = let k = (q.empty f m g e).0 in omega arith
      at f m g (some a) e = n (q.answered f m g a e M (held s)).told

  stable : {P : Type 0} → Dec P → ((P → ⊥) → ⊥) → P
  stable (yes e) f = e
  stable (no n) f = absurd (f n)

  -- "A state is in the set of an answered formula exactly when the mu-calculus says so"
  pub members_mean : take (length states) answers' ≡ answers_of M states
  members_mean =
      let same = List-discrete ℕ_discrete (take (length states) answers') (answers_of M states) in
      any-words old same (λ s. stable same (not-refused s)) (λ n. absurd (omega (arith, z, (p.performs.unsound n).0.0)))
