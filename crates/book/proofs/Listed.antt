-- A list of calls and questions written down with the answers that are due, as an outside reading of document 01 gives it; and the law that
-- turns one computed test into the claim that the book gives just these. Assumes nothing.
use mathlib.Core.Path.{◌≡◌, refl, sym, ap, ap₂, ◌∙◌, subst}
use mathlib.Core.Bool.{Bool, true, false, ◌&&◌}
use mathlib.Core.List.{List, [], ◌∷◌}
use mathlib.Core.Option.{Option, none, some}
use Prim.Native.Nat.{ℕ, suc, ◌/◌, ◌%◌}
use lib.Dec.{T, eqb, eqb→eq}
use lib.ListN.{length}
use Rattle.mucalculus.proofs.Sets.{and_out, same-eq}
use Rattle.mucalculus.specs.Sets.{same}
use Rattle.mucalculus.specs.Form.{Pairs}
use Rattle.book.specs.Book.{Book, Call, Question, Answer, Done, does, answer}
use Rattle.book.proofs.ByRun.{does_by_run, does-by-run}

-- a formula's bytes in their frame: two length bytes, the version
abbrev pub framed : ℕ → List ℕ → List ℕ
framed version bs = let L = suc (length bs) in L / 256 ∷ L % 256 ∷ version ∷ bs

-- version 1
abbrev pub frame : List ℕ → List ℕ
frame bs = framed 1 bs

-- version 2
abbrev pub frame2 : List ℕ → List ℕ
frame2 bs = framed 2 bs

-- a line: a call and its answer, a question and its answer, what a register or a relation holds, or V
pub data Line : Type 0 where
  did : Call → Answer → Line
  told : Question → Answer → Line
  holds : ℕ → Option (List Bool) → Line
  relates : ℕ → Option Pairs → Line
  existing : List Bool → Line

-- a set call that was answered after some rounds, with its peak, and the node number where it is settled
abbrev pub made : ℕ → ℕ → Option ℕ → Answer
made q p a = record { number = 0; rounds = q; peak = p; value = a }

-- a relation call that was answered, with its peak
abbrev pub related : ℕ → Answer
related p = record { number = 0; rounds = 0; peak = p; value = some 0 }

-- the book gives every line, one after the other
abbrev pub Gives : Book → List Line → Type 0
Gives b [] = Unit {0}
Gives b (did c a ∷ l) = ((does b c).1 ≡ a) × Gives (does b c).0 l
Gives b (told q a ∷ l) = (answer b q ≡ a) × Gives b l
Gives b (holds r A ∷ l) = (b.reg r ≡ A) × Gives b l
Gives b (relates t Q ∷ l) = (b.rel t ≡ Q) × Gives b l
Gives b (existing E ∷ l) = (b.valid ≡ E) × Gives b l

-- ---- the test

same_rows : Pairs → Pairs → Bool
same_rows [] [] = true
same_rows [] (b ∷ B) = false
same_rows (a ∷ A) [] = false
same_rows (a ∷ A) (b ∷ B) = same a b && same_rows A B

-- two contents, by a test of what is inside
same_content : {X : Type 0} → (X → X → Bool) → Option X → Option X → Bool
same_content q none none = true
same_content q none (some y) = false
same_content q (some x) none = false
same_content q (some x) (some y) = q x y

same_answer : Answer → Answer → Bool
same_answer a b =
    eqb a.number b.number && (eqb a.rounds b.rounds && (eqb a.peak b.peak && same_content eqb a.value b.value))

-- the computing book gives every line
pub gives : Book → List Line → Bool
gives b [] = true
gives b (did c a ∷ l) = let d = does_by_run b c in let more = gives d.0 l in same_answer d.1 a && more
gives b (told q a ∷ l) = let more = gives b l in same_answer (answer b q) a && more
gives b (holds r A ∷ l) = let more = gives b l in same_content same (b.reg r) A && more
gives b (relates t Q ∷ l) = let more = gives b l in same_content same_rows (b.rel t) Q && more
gives b (existing E ∷ l) = let more = gives b l in same b.valid E && more

-- what a test computes through
unfoldable pub testing : Unit {0}
unfolding gives same_answer same_content same_rows
testing = tt

-- ---- from the test to the claim

same-rows : (A B : Pairs) → T (same_rows A B) → A ≡ B
unfolding same_rows
same-rows [] [] t = refl
same-rows [] (b ∷ B) t = absurd t
same-rows (a ∷ A) [] t = absurd t
same-rows (a ∷ A) (b ∷ B) t =
    let w = and_out (same a b) (same_rows A B) t in
    ap₂ (λ (x : List Bool) (l : Pairs). x ∷ l) (same-eq a b w.0) (same-rows A B w.1)

same_content_lem : {X : Type 0} (q : X → X → Bool) → ((x y : X) → T (q x y) → x ≡ y) → (x y : Option X) → T (same_content q x y) → x ≡ y
unfolding same_content
same_content_lem q h none none t = refl
same_content_lem q h none (some y) t = absurd t
same_content_lem q h (some x) none t = absurd t
same_content_lem q h (some x) (some y) t = ap some (h x y t)

same_answer_lem : (a b : Answer) → T (same_answer a b) → a ≡ b
unfolding same_answer
same_answer_lem a b t =
    let u = and_out (eqb a.number b.number)
    (eqb a.rounds b.rounds && (eqb a.peak b.peak && same_content eqb a.value b.value)) t in
    let z = and_out (eqb a.rounds b.rounds) (eqb a.peak b.peak && same_content eqb a.value b.value) u.1 in
    let w = and_out (eqb a.peak b.peak) (same_content eqb a.value b.value) z.1 in
    λ i. record {
      number = eqb→eq a.number b.number u.0 i;
      rounds = eqb→eq a.rounds b.rounds z.0 i;
      peak = eqb→eq a.peak b.peak w.0 i;
      value = same_content_lem eqb eqb→eq a.value b.value w.1 i;
    }

-- where the test holds, the book, which stores the meaning, gives every line
pub given : (b : Book) (l : List Line) → T (gives b l) → Gives b l
unfolding gives
given b [] t = tt
given b (did c a ∷ l) t =
    let w = and_out (same_answer (does_by_run b c).1 a) (gives (does_by_run b c).0 l) t in
    let e = does-by-run b c in (
      ap (λ (d : Done). d.1) (sym e) ∙ same_answer_lem (does_by_run b c).1 a w.0,
      subst (λ (d : Done). Gives d.0 l) e (given (does_by_run b c).0 l w.1),
    )
given b (told q a ∷ l) t =
    let w = and_out (same_answer (answer b q) a) (gives b l) t in (same_answer_lem (answer b q) a w.0, given b l w.1)
given b (holds r A ∷ l) t =
    let w = and_out (same_content same (b.reg r) A) (gives b l) t in (same_content_lem same same-eq (b.reg r) A w.0, given b l w.1)
given b (relates x Q ∷ l) t =
    let w = and_out (same_content same_rows (b.rel x) Q) (gives b l) t in
    (same_content_lem same_rows same-rows (b.rel x) Q w.0, given b l w.1)
given b (existing E ∷ l) t = let w = and_out (same b.valid E) (gives b l) t in (same-eq b.valid E w.0, given b l w.1)
