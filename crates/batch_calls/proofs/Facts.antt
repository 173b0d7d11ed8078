-- What follows from the contract: each answer is that of the single question, and the row reads are never above the sum over single
-- questions. Assumes nothing.
use mathlib.Core.Path.{◌≡◌, refl, ap, sym, ◌∙◌}
use mathlib.Core.Bool.{Bool}
use mathlib.Core.List.{List}
use mathlib.Core.Option.{some}
use Prim.Native.Nat.{ℕ, ◌*◌, ◌≤◌, ◌<◌}
use native.Mathlib.Omega.{arith}
use lib.ListN.{length, get_or}
use lib.Seq.{get_or-take}
use Rattle.mucalculus.specs.Sets.{mem}
use Rattle.book.specs.Table.{Reply}
use Rattle.book.specs.Book.{member, one_of}
use Rattle.book.specs.BookOf.{book_of}
use Rattle.book.specs.Leaves.{valued}
use Rattle.book.proofs.Questions as book
use Rattle.contract.specs.Seen.{seen, SoundWords}
use Rattle.contract.proofs.Seen.{sound-shows-book}
use Rattle.contract.specs.Posts.{AskPost}
use Rattle.batch.specs.Visits.{singly}
use Rattle.batch.proofs.Counted.{reads_few}
use Rattle.batch_calls.specs.Posts.{InRange, Answered}
use Rattle.batch_calls.proofs.MembersLaws.{set_walk, map_at}

module _ {a : ℕ} {A : List Bool} {words states order order' answers answers' : List ℕ} {y : Reply}
    (d : Answered a A words states order order' answers answers' y) where
  -- "THAT FIGURE IS NEVER ABOVE THE SUM OVER SINGLE QUESTIONS"
  pub answered-few : y.value ≤ singly (2 * (seen words).n) (seen words).rows a states
  answered-few =
      let e = ap (λ (z : Reply). z.value) d.reply in
      let f = reads_few (2 * (seen words).n) (seen words).rows a states in
      omega arith

  -- answer i is 1 where the set has state i, and 0 where it has not
  pub answer-is : (i : ℕ) → i < length states → get_or answers' i 0 ≡ one_of (mem A (get_or states i 0))
  answer-is i l =
      sym (get_or-take (length states) answers' i 0 l)
      ∙ ap (λ (u : List ℕ). get_or u i 0) d.told
      ∙ map_at (λ s. one_of (mem A s)) states i l

  -- so it is what `member` answers for state i
  pub as_member : {r : ℕ} → SoundWords words → InRange (seen words).n r states → (seen words).reg r ≡ some a
      → (book_of (seen words)).reg r ≡ some A
      → (i : ℕ) → i < length states → AskPost (member r (get_or states i 0)) words (valued (get_or answers' i 0))
  as_member {r} s g ea e i l =
      let u : ℕ = get_or states i 0 in
      let w = answer-is i l ∙ ap one_of (sym (set_walk words s g.register ea A e u (g.below i l))) in
      rw w (record {
        same = refl;
        unsound = λ n. absurd (n s);
        told = λ _. book.member-tells (book_of (seen words)) (seen words) r a (sound-shows-book words s) g.register ea u (g.below i l);
      })
