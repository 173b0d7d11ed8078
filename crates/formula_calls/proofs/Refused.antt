-- SET and RELATION refused by a check before their steps: 3 out of range, 14, 4 to 7 and 12 by the reader's number. Assumes nothing.
use mathlib.Core.Path.{◌≡◌, refl, sym, ap, ap₂, ◌∙◌, subst, fun_ext}
use mathlib.Core.Bool.{Bool, true, false, not, cond, ◌&&◌, true≢false}
use mathlib.Core.List.{List}
use Prim.Native.Nat.{ℕ, zero, suc, ◌+◌, ◌≤◌, ◌<◌}
use native.Mathlib.Omega.{arith}
use lib.Dec.{T, ltb, eqb-suc-zero}
use Rattle.std.specs.Prelude.{Result}
use Rattle.accounts.specs.declared.Terms.{Terms}
use Rattle.accounts.specs.Terms.{named}
use Rattle.mucalculus.specs.Form.{filled}
use Rattle.tokens.specs.declared.Kind.{Kind}
use Rattle.tokens.specs.declared.Kind.TheVariants.{Relation, Set}
use Rattle.layout.specs.Places.{BITS, REGISTERS, RELATIONS, FIRST_REGISTER, FIRST_RELATION}
use Rattle.layout.specs.View.{header_of}
use Rattle.layout.specs.Roots.{filled_word, filled_root, filled_register, filled_relation}
use Rattle.layout.specs.Refusals.{refusal_number}
use Rattle.layout.proofs.Refusals.{refusal-some}
use Rattle.layout.specs.declared.Refusal.{Refusal}
use Rattle.formula.specs.Checks.{first_refusal, number_of}
use Rattle.book.specs.Book.{Book, Call, relation, set, checks, refuse, does}
use Rattle.book.specs.BookOf.{book_of}
use Rattle.book.specs.Leaves.{plain}
use Rattle.book.proofs.Leaves.{checks-same}
use Rattle.book.proofs.Effects.{set-refused, set_unlisted, set_out_of_range, relation-refused, relation_out_of_range}
use Rattle.contract.specs.Seen.{arrow_in, seen, SoundWords}
use Rattle.contract.proofs.Seen.{sound-shows-book}
use Rattle.contract.specs.Posts.{CallPost}
use Rattle.contract.proofs.Checked.{call-refused}

-- what a test `!f(..)` says of the Boolean that f tells
pub test_fails : {r t : Bool} → not r ≡ true → r ≡ t → t ≡ false
test_fails {r = true} e i = absurd (true≢false (sym e))
test_fails {r = false} e i = sym i

pub test_holds : {r t : Bool} → not r ≡ false → r ≡ t → t ≡ true
test_holds {r = true} e i = sym i
test_holds {r = false} e i = absurd (true≢false e)

pub test_named : {r t : Bool} → not r ≡ false → r ≡ t → T t
test_named e i = subst T (sym (test_holds e i)) tt

-- a root's word is filled where it is seen to be
root-seen : (ws : List ℕ) (start total k : ℕ) → (ltb k total && filled (arrow_in (header_of ws (start + k)))) ≡ filled_root ws start total k
unfolding filled_root
root-seen ws start total k = go (ltb k total) (header_of ws (start + k))
  where
    go : (u : Bool) (w : ℕ) → (u && filled (arrow_in w)) ≡ cond u (filled_word w) false
    go true zero = refl
    go true (suc a) = rw (eqb-suc-zero a)
    go false w = refl

module _ (ws : List ℕ) (s : SoundWords ws) where
  abbrev b : Book
  b = book_of (seen ws)

  -- the reader's number over the words is the book's
  pub checks-read : (k : Kind) (bs : List ℕ) {n x : ℕ} → n ≡ header_of ws BITS
      → x ≡ first_refusal k n (filled_register ws) (filled_relation ws) bs → checks b k bs ≡ x
  checks-read k bs {n} {x} i e =
      checks-same b (seen ws) (sound-shows-book ws s) k bs
      ∙ ap₂ (λ (p q : ℕ → Bool). first_refusal k (header_of ws BITS) p q bs) (fun_ext (root-seen ws FIRST_REGISTER REGISTERS))
      (fun_ext (root-seen ws FIRST_RELATION RELATIONS))
      ∙ ap (λ (j : ℕ). first_refusal k j (filled_register ws) (filled_relation ws) bs) (sym i)
      ∙ sym e

  -- and what the reader says is its number
  pub checks-told : (k : Kind) (bs : List ℕ) {n : ℕ} {v w : Result (Unit {0}) Refusal} → n ≡ header_of ws BITS
      → number_of v ≡ first_refusal k n (filled_register ws) (filled_relation ws) bs → v ≡ w → checks b k bs ≡ number_of w
  checks-told k bs i e h = checks-read k bs i e ∙ ap number_of h

  -- a call that the book refuses with the refusal's number
  pub refused-by : (c : Call) (x : Refusal) → ((k : ℕ) → refusal_number x ≡ suc k → does b c ≡ refuse b (suc k))
      → CallPost c ws ws (plain (refusal_number x))
  refused-by c x h = go (refusal_number x) refl
    where
      go : (k : ℕ) → refusal_number x ≡ k → CallPost c ws ws (plain k)
      go zero e = let l = refusal-some x in absurd (omega arith)
      go (suc k) e = call-refused ws s k c (h k e)

  module _ (acc : Terms) (r R : ℕ) (bs : List ℕ) where
    pub set-range : REGISTERS ≤ r → CallPost (set acc r R bs) ws ws (plain 3)
    set-range l = call-refused ws s 2 (set acc r R bs) (set_out_of_range b acc r R bs l)

    pub set_unnamed_lem : r < REGISTERS → named acc ≡ false → CallPost (set acc r R bs) ws ws (plain 14)
    set_unnamed_lem l e = call-refused ws s 13 (set acc r R bs) (set_unlisted b acc r R bs l e)

    pub set-checked : (x : Refusal) → r < REGISTERS → T (named acc) → checks b Set bs ≡ refusal_number x
        → CallPost (set acc r R bs) ws ws (plain (refusal_number x))
    set-checked x l t z = refused-by (set acc r R bs) x (λ k e. set-refused b acc r R bs k l t (z ∙ e))

  pub relation-range : (t : ℕ) (bs : List ℕ) → RELATIONS ≤ t → CallPost (relation t bs) ws ws (plain 3)
  relation-range t bs l = call-refused ws s 2 (relation t bs) (relation_out_of_range b t bs l)

  pub relation-checked : (t : ℕ) (bs : List ℕ) (x : Refusal) → t < RELATIONS → checks b Relation bs ≡ refusal_number x
      → CallPost (relation t bs) ws ws (plain (refusal_number x))
  relation-checked t bs x l z = refused-by (relation t bs) x (λ k e. relation-refused b t bs k l (z ∙ e))
