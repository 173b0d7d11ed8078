-- Wrong answers that no single edited line makes, ruled out by the contracts alone. Assumes nothing.
use mathlib.Core.Path.{◌≡◌, refl, ap}
use mathlib.Core.Bool.{true}
use mathlib.Core.List.{List}
use Prim.Native.Nat.{ℕ, zero, suc, ◌*◌, ◌≤◌}
use native.Mathlib.Omega.{arith}
use lib.ListN.{length, get_or}
use Rattle.std.specs.Prelude.{Ok}
use Rattle.diagram.specs.Need.{need}
use Rattle.diagram.specs.Reach.{Reach}
use Rattle.layout.specs.Places.{BITS, words_for}
use Rattle.layout.specs.View.{View, header_of}
use Rattle.layout.proofs.Same.{same-beyond}
use Rattle.book.specs.Book.{Call, collect, Question, live_of, fresh_number}
use Rattle.book.specs.Table.{Reply, roots_of}
use Rattle.book.specs.BookOf.{book_of}
use Rattle.book.specs.Leaves.{plain}
use Rattle.contract.specs.Seen.{seen, SoundWords}
use Rattle.contract.specs.Posts.{FreshPost, CallPost, AskPost}
use Rattle.calls.specs.Fresh.{FreshWords}

-- 3 BEFORE 2: on words that are no sound table every call and question gives 2, whatever its numbers are
pub call-two-first : (c : Call) (old new : List ℕ) (y : Reply) → (SoundWords old → ⊥) → CallPost c old new y → (y.number ≡ 2) × (new ≡ old)
call-two-first c old new y n p = ((p.performs.unsound n).0.0, (p.performs.unsound n).1)

pub ask-two-first : (q : Question) (ws : List ℕ) (y : Reply) → (SoundWords ws → ⊥) → AskPost q ws y → y.number ≡ 2
ask-two-first q ws y n p = (p.unsound n).0

-- USED ROWS COUNTED BEFORE THEY ARE FREED: the value is the need, and each row that is left is reached
pub collect-needed : (old new : List ℕ) (y : Reply) → SoundWords old → CallPost collect old new y
    → y.value ≡ need (2 * header_of old BITS) (live_of (book_of (seen old)))
collect-needed old new y s p = (p.performs.served s).1.agrees.value

pub collect-swept : (old new : List ℕ) (y : Reply) → SoundWords old → CallPost collect old new y → (i : ℕ) → (seen new).rows.used i ≡ true
    → Reach (seen new).rows (roots_of (seen new)) i
collect-swept old new y s p = (p.performs.served s).1.swept

-- FRESH ANSWERS SIZES THAT DO NOT FIT
pub fresh-answered : (n N count : ℕ) (old new : List ℕ) → FreshPost n N count old new (plain 0) → fresh_number n N (length old) count ≡ 0
fresh-answered n N count old new p = go (fresh_number n N (length old) count) refl
  where
    go : (k : ℕ) → fresh_number n N (length old) count ≡ k → k ≡ 0
    go zero e = refl
    go (suc k) e = let z : ◌≡◌ {A = ℕ} 0 (suc k) = (p.refuses k e).0.0 in absurd (omega arith)

-- FRESH WRITES WORD 256 + 12 × N, or any later one
pub fresh-beyond : (n N : ℕ) (old new : List ℕ) → FreshWords n N old new (Ok tt) → (k : ℕ) → words_for N ≤ k
    → get_or new k 0 ≡ get_or old k 0
fresh-beyond n N old new w = same-beyond N new old (ap (λ (v : View). v.beyond) w)
