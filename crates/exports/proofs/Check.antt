-- Laws of what specs/Check.antt defines. Assumes nothing.
use mathlib.Core.Path.{◌≡◌, refl, ap, sym, ◌∙◌}
use mathlib.Core.Logic.{◌≢◌}
use mathlib.Core.List.{List}
use Prim.Native.Nat.{ℕ, zero, suc}
use native.Mathlib.Decide.{ℕ_discrete}
use Rattle.tokens.specs.declared.Kind.{Kind}
use Rattle.tokens.specs.declared.Kind.TheVariants.{Relation}
use Rattle.book.specs.Book.{checks}
use Rattle.book.specs.BookOf.{book_of}
use Rattle.contract.specs.Seen.{seen, SoundWords}
use Rattle.contract.proofs.Seen.{any-words}
use Rattle.exports.specs.Check.{kind_of, CheckPost}

pub kind-other : (t : ℕ) → t ≢ 0 → Relation ≡ kind_of t
kind-other zero n = absurd (n refl)
kind-other (suc t) n = refl

pub check_unsound : (k : Kind) (ws bs : List ℕ) {x : ℕ} → (SoundWords ws → ⊥) → x ≡ 2 → CheckPost k ws bs x
check_unsound k ws bs n e = record { unsound = λ _. e; checked = λ s. absurd (n s) }

pub check_done : (ws bs : List ℕ) {k j : Kind} {x : ℕ} → SoundWords ws → k ≡ j → checks (book_of (seen ws)) k bs ≡ x → CheckPost j ws bs x
check_done ws bs s i e = record { unsound = λ n. absurd (n s); checked = λ _. sym e ∙ ap (λ (k : Kind). checks (book_of (seen ws)) k bs) i }

-- one number
pub check_one : (k : Kind) (ws bs : List ℕ) {x y : ℕ} → CheckPost k ws bs x → CheckPost k ws bs y → x ≡ y
check_one k ws bs {x} {y} p q =
    any-words ws (ℕ_discrete x y) (λ s. p.checked s ∙ sym (q.checked s)) (λ n. p.unsound n ∙ sym (q.unsound n))
