-- Laws of what specs/Vacant.antt defines. Assumes nothing.
use mathlib.Core.Path.{◌≡◌, refl, sym, ap, ◌∙◌, subst}
use mathlib.Core.Bool.{Bool, false, not, true≢false}
use mathlib.Core.Logic.{by_cases}
use mathlib.Core.List.{List}
use mathlib.Core.Option.{Option, none, some}
use Prim.Native.Nat.{ℕ, zero, suc, ◌+◌, ◌-◌, ◌<◌}
use native.Mathlib.Omega.{arith}
use native.Mathlib.Decide.{ℕ_discrete, dec_lt}
use lib.Dec.{T}
use Rattle.mucalculus.proofs.Sets.{and_in, and_out, false_of}
use Rattle.mucalculus.specs.Form.{filled}
use Rattle.tokens.specs.declared.Kind.TheVariants.{Valid}
use Rattle.layout.specs.Places.{FIRST_REGISTER, FIRST_RELATION}
use Rattle.layout.specs.View.{header_of}
use Rattle.layout.specs.Refusals.{refusal_number}
use Rattle.layout.specs.declared.Refusal.{Refusal}
use Rattle.book.specs.Book.{Book, valid, registers, relations, vacant, unfilled, checks}
use Rattle.book.specs.Table.{Shows}
use Rattle.book.specs.BookOf.{book_of}
use Rattle.book.proofs.Stored.{vacant-none}
use Rattle.book.specs.Leaves.{plain}
use Rattle.book.proofs.Leaves.{reg_filled, rel_filled}
use Rattle.book.proofs.Effects.{valid-refused, valid_occupied}
use Rattle.contract.specs.Seen.{arrow_in, seen, SoundWords}
use Rattle.contract.proofs.Seen.{sound-shows-book}
use Rattle.contract.specs.Posts.{CallPost}
use Rattle.contract.proofs.Checked.{call-refused}
use Rattle.formula_calls.proofs.Refused.{refused-by}
use Rattle.formula_calls.specs.Vacant.{VacantTo, Vacant}

pub vacant-start : (ws : List ℕ) → VacantTo ws FIRST_REGISTER
vacant-start ws k lo hi = absurd (omega arith)

pub vacant-more : (ws : List ℕ) {k x : ℕ} → VacantTo ws k → x ≡ header_of ws k → x ≡ 0 → VacantTo ws (k + 1)
vacant-more ws {k} v e z j lo hi = by_cases (ℕ_discrete j k) (λ q. ap (header_of ws) q ∙ sym e ∙ z) (λ n. v j lo (omega arith))

-- ---- places and words

empty_word : (w : ℕ) → filled (arrow_in w) ≡ false → w ≡ 0
empty_word zero e = refl
empty_word (suc a) e = absurd (true≢false e)

vacant-all : {X : Type 0} (k : ℕ) (h : ℕ → Option X) → ((i : ℕ) → i < k → filled (h i) ≡ false) → T (vacant k h)
vacant-all zero h f = tt
vacant-all (suc k) h f =
    and_in (not (filled (h 0))) (vacant k (λ i. h (suc i)))
    (subst (λ (b : Bool). T (not b)) (sym (f 0 (omega arith))) tt)
    (vacant-all k (λ i. h (suc i)) (λ i l. f (suc i) (omega arith)))

vacant-at : {X : Type 0} (k : ℕ) (h : ℕ → Option X) → T (vacant k h) → (i : ℕ) → i < k → filled (h i) ≡ false
vacant-at {X} k h t i l = go (h i) refl
  where
    go : (o : Option X) → h i ≡ o → filled o ≡ false
    go none e = refl
    go (some x) e = absurd (vacant-none k h t i x l e)

module _ (ws : List ℕ) (s : SoundWords ws) where
  abbrev b : Book
  b = book_of (seen ws)

  shows : Shows b (seen ws)
  shows = sound-shows-book ws s

  -- nothing is filled in the words exactly where nothing is in the book
  pub vacant-book : Vacant ws → T (unfilled b)
  vacant-book v =
      and_in (vacant registers b.reg) (vacant relations b.rel)
      (vacant-all registers b.reg (λ r l.
      reg_filled b (seen ws) shows r l ∙ ap (λ (w : ℕ). filled (arrow_in w)) (v (FIRST_REGISTER + r) (omega arith) (omega arith))))
      (vacant-all relations b.rel (λ q l.
      rel_filled b (seen ws) shows q l ∙ ap (λ (w : ℕ). filled (arrow_in w)) (v (FIRST_RELATION + q) (omega arith) (omega arith))))

  pub book-vacant : T (unfilled b) → Vacant ws
  book-vacant t k lo hi = by_cases (dec_lt k FIRST_RELATION)
      (λ l. at FIRST_REGISTER (k - FIRST_REGISTER) (omega arith)
      (sym (reg_filled b (seen ws) shows (k - FIRST_REGISTER) (omega arith))
      ∙ vacant-at registers b.reg u.0 (k - FIRST_REGISTER) (omega arith)))
      (λ n. at FIRST_RELATION (k - FIRST_RELATION) (omega arith)
      (sym (rel_filled b (seen ws) shows (k - FIRST_RELATION) (omega arith))
      ∙ vacant-at relations b.rel u.1 (k - FIRST_RELATION) (omega arith)))
    where
      u : T (vacant registers b.reg) × T (vacant relations b.rel)
      u = and_out (vacant registers b.reg) (vacant relations b.rel) t

      at : (start i : ℕ) → start + i ≡ k → filled (arrow_in (header_of ws (start + i))) ≡ false → header_of ws k ≡ 0
      at start i e f = ap (header_of ws) (sym e) ∙ empty_word (header_of ws (start + i)) f

  -- 13: "valid while a register or relation is filled"
  pub valid-filled : (bs : List ℕ) → (Vacant ws → ⊥) → CallPost (valid bs) ws ws (plain 13)
  valid-filled bs n = call-refused ws s 12 (valid bs) (valid_occupied b bs (false_of (unfilled b) (λ t. n (book-vacant t))))

  pub valid-checked : (bs : List ℕ) (x : Refusal) → Vacant ws → checks b Valid bs ≡ refusal_number x
      → CallPost (valid bs) ws ws (plain (refusal_number x))
  valid-checked bs x v z = refused-by ws s (valid bs) x (λ k e. valid-refused b bs k (vacant-book v) (z ∙ e))
