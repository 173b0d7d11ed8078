-- Refusals by the checks before a call's steps meet its contract: 2 on words that are no sound table, 3 to 7 and 12 to 14 on a sound one;
-- all words are kept. Assumes nothing.
use mathlib.Core.Path.{◌≡◌, refl}
use mathlib.Core.List.{List}
use Prim.Native.Nat.{ℕ, suc}
use native.Mathlib.Omega.{arith}
use Rattle.book.specs.Book.{Call, relation, set, valid, clear, collect, Question, refused, refuse, does, answer}
use Rattle.book.specs.BookOf.{book_of}
use Rattle.book.specs.Leaves.{plain}
use Rattle.book.proofs.Calls.{refusal_serves}
use Rattle.book.proofs.Questions.{refusal-tells}
use Rattle.contract.specs.Seen.{seen, SoundWords}
use Rattle.contract.proofs.Seen.{sound-shows-book}
use Rattle.contract.specs.Kept.{Exact, Kept}
use Rattle.contract.specs.Posts.{CallPost, AskPost}

module _ (ws : List ℕ) (n : SoundWords ws → ⊥) where
  -- CHECK 2: "table unsound"
  pub call-unsound : (c : Call) → CallPost c ws ws (plain 2)
  call-unsound c = record {
    performs = record { unsound = λ _. ((refl, refl, refl, refl), refl); served = λ s. absurd (n s) };
    kept = λ s. absurd (n s);
  }

  pub ask-unsound : (q : Question) → AskPost q ws (plain 2)
  ask-unsound q = record { same = refl; unsound = λ _. (refl, refl, refl, refl); told = λ s. absurd (n s) }

-- a refusal that keeps all words
pub kept-refused : (c : Call) (k : ℕ) (ws : List ℕ) → Kept c (plain (suc k)) ws ws
kept-refused c k ws =
    record { all = λ _. refl; size = refl; header = λ h l e. refl; spare = λ i l. refl; beyond = λ p l. refl; exact = exact c }
  where
    exact : (c : Call) → Exact c (plain (suc k)) ws ws
    exact (relation t bs) = tt
    exact (set acc r R bs) = tt
    exact (valid bs) = tt
    exact (clear r) = λ z. absurd (omega arith)
    exact collect = tt

module _ (ws : List ℕ) (s : SoundWords ws) (k : ℕ) where
  -- CHECKS 3 TO 7, 12, 13 AND 14: the book refuses with the number
  pub call-refused : (c : Call) → does (book_of (seen ws)) c ≡ refuse (book_of (seen ws)) (suc k) → CallPost c ws ws (plain (suc k))
  call-refused c e = record {
    performs =
        record {
          unsound = λ n. absurd (n s);
          served = λ _. (s, refusal_serves (book_of (seen ws)) (seen ws) c k (sound-shows-book ws s) e);
        };
    kept = λ _. kept-refused c k ws;
  }

  pub ask-refused : (q : Question) → answer (book_of (seen ws)) q ≡ refused (suc k) → AskPost q ws (plain (suc k))
  ask-refused q e = record { same = refl; unsound = λ n. absurd (n s); told = λ _. refusal-tells (book_of (seen ws)) q (seen ws).reg k e }
