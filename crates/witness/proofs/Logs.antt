-- TWO LOGS ON CONCRETE WORDS, after the list of QuietList: what the contract gives there, in both tables, and impostors beside the true
-- answers. Of three moments one log has bit 0 on at the first, the other at the last; relation 0 leads from each state to each.
-- Assumes nothing.
use mathlib.Core.Path.{◌≡◌, ap}
use mathlib.Core.List.{List, [], ◌∷◌}
use Prim.Native.Nat.{ℕ}
use native.Mathlib.Omega.{arith}
use lib.ListN.{get_or}
use Rattle.mucalculus.specs.Form.{inside}
use Rattle.book.specs.BookOf.{book_of}
use Rattle.book.specs.Table.{Reply, Refusal}
use Rattle.book.specs.Leaves.{plain}
use Rattle.book.proofs.Compute.{computing}
use Rattle.contract.specs.Seen.{seen}
use Rattle.logs.specs.Runs.{moment_at}
use Rattle.logs.specs.Meaning.{LogMeant}
use Rattle.log_calls.specs.Post.{LogPost}
use Rattle.log_calls.proofs.OneLogged.{logged_plainly}
use Rattle.log_calls.proofs.Rests.{log_listed, log_again}
use Rattle.witness.proofs.Begun.{session}
use Rattle.witness.proofs.QuietList.{started, closing, after_run, single, one_log, two_log, contrary, places, small, large}
use Rattle.witness.proofs.QuietCalls.{to-after, after-sound, logs-told}
use Rattle.witness.proofs.Quiet.{first, second, loose, again_started, zero-started, next, next'}

-- the claim that the call ends in these words, this list and this answer
abbrev pub Claims : List ℕ → List ℕ → Reply → Type 0
Claims new left y = LogPost 0 one_log two_log (after_run 2 280) new places left y

-- where the logs differ at the first moment, and the list has no place
abbrev pub Differs : List ℕ → List ℕ → Reply → Type 0
Differs new left y = LogPost 0 one_log contrary (after_run 2 280) new [] left y

-- where the list has one place
abbrev pub Short : List ℕ → List ℕ → Reply → Type 0
Short new left y = LogPost 0 one_log two_log (after_run 2 280) new single left y

-- ---- the true answers

-- states 1, 0 and 1, and the last place is not written
pub three : Claims (after_run 2 280) (1 ∷ 0 ∷ 1 ∷ 7 ∷ []) (plain 0)
three = logs-told small

-- WHATEVER THE CONTRACT ALLOWS THERE
pub three_is : {new left : List ℕ} {y : Reply} → Claims new left y → (y ≡ plain 0) × (left ≡ 1 ∷ 0 ∷ 1 ∷ 7 ∷ [])
unfolding computing
three_is p = log_listed 1 2 (session 1 2 280 small.sizes (to-after small)) 0 one_log two_log p

-- 10 where no state fits, and nothing is written
pub none_is : {new left : List ℕ} {y : Reply} → Differs new left y → (y ≡ plain 10) × (left ≡ [])
unfolding computing
none_is p = log_listed 1 2 (session 1 2 280 small.sizes (to-after small)) 0 one_log contrary p

-- 11 where the list has too few places, and nothing is written
pub short-is : {new left : List ℕ} {y : Reply} → Short new left y → (y ≡ plain 11) × (left ≡ single)
unfolding computing
short-is p = log_listed 1 2 (session 1 2 280 small.sizes (to-after small)) 0 one_log two_log p

-- 7 over relation 1, which is empty
pub empty-is : {new left : List ℕ} {y : Reply} → LogPost 1 one_log two_log (after_run 2 280) new places left y
    → (y ≡ plain 7) × (left ≡ places)
unfolding computing
empty-is p = log_listed 1 2 (session 1 2 280 small.sizes (to-after small)) 1 one_log two_log p

-- 1 on any words where one log is longer, whatever relation is named, and nothing is written
pub unequal_is : {ws new lent left : List ℕ} {y : Reply} → LogPost 8 one_log (1 ∷ 1 ∷ []) ws new lent left y
    → Refusal 1 y × (new ≡ ws) × (left ≡ lent)
unequal_is p = p.sizes (λ f. f)

-- the same in plain words: the run that is written fits both logs and is the least, 10 says that there is none
pub three_means : LogMeant (book_of (seen (after_run 2 280))).n (inside ((book_of (seen (after_run 2 280))).rel 0))
    (book_of (seen (after_run 2 280))).valid (moment_at one_log two_log) 3 places (record { reply = plain 0; list = 1 ∷ 0 ∷ 1 ∷ 7 ∷ [] })
three_means = logged_plainly 0 three (after-sound small)

-- THE SAME in the larger table
pub three_again : {new left : List ℕ} {y : Reply} → LogPost 0 one_log two_log (after_run 3 300) new places left y
    → (y ≡ plain 0) × (left ≡ 1 ∷ 0 ∷ 1 ∷ 7 ∷ [])
unfolding first second
three_again p = log_again 1 2 3 (omega arith) (omega arith) (started 2 1 1) (closing 2 1 1) (started 5 7 3) (closing 5 7 3) first second
    loose (again_started [] [] tt) (zero-started [] tt) next next' 0 one_log two_log three p (λ e. absurd (omega arith))

-- where it is met
pub three_large : LogPost 0 one_log two_log (after_run 3 300) (after_run 3 300) places (1 ∷ 0 ∷ 1 ∷ 7 ∷ []) (plain 0)
three_large = logs-told large

-- ---- impostors

-- two lists that are one have the same states
place : (i : ℕ) {l m : List ℕ} → l ≡ m → get_or l i 0 ≡ get_or m i 0
place i e = ap (λ (l : List ℕ). get_or l i 0) e

-- a run that fits and is not the least: the middle state may be 0
pub not_least : {new : List ℕ} → Claims new (1 ∷ 1 ∷ 1 ∷ 7 ∷ []) (plain 0) → ⊥
not_least p = let e : ◌≡◌ {A = ℕ} 1 0 = place 1 (three_is p).1 in absurd (omega arith)

-- a run that does not fit the one log
pub not-fitting : {new : List ℕ} → Claims new (0 ∷ 0 ∷ 1 ∷ 7 ∷ []) (plain 0) → ⊥
not-fitting p = let e : ◌≡◌ {A = ℕ} 0 1 = place 0 (three_is p).1 in absurd (omega arith)

-- or not the other
pub other_log : {new : List ℕ} → Claims new (1 ∷ 0 ∷ 0 ∷ 7 ∷ []) (plain 0) → ⊥
other_log p = let e : ◌≡◌ {A = ℕ} 0 1 = place 2 (three_is p).1 in absurd (omega arith)

-- a place past the run is written
pub past_the_run : {new : List ℕ} → Claims new (1 ∷ 0 ∷ 1 ∷ 8 ∷ []) (plain 0) → ⊥
past_the_run p = let e : ◌≡◌ {A = ℕ} 8 7 = place 3 (three_is p).1 in absurd (omega arith)

-- 10 where there is a run
pub none-there : {new left : List ℕ} → Claims new left (plain 10) → ⊥
none-there p = let e : ◌≡◌ {A = ℕ} 10 0 = ap (λ (y : Reply). y.number) (three_is p).0 in absurd (omega arith)

-- 11 in the place of 10: a list may be too short for no run
pub short-first : {new left : List ℕ} → Differs new left (plain 11) → ⊥
short-first p = let e : ◌≡◌ {A = ℕ} 11 10 = ap (λ (y : Reply). y.number) (none_is p).0 in absurd (omega arith)

-- 11, and the first state is written all the same
pub half-written : {new : List ℕ} → Short new (1 ∷ []) (plain 11) → ⊥
half-written p = let e : ◌≡◌ {A = ℕ} 1 7 = place 0 (short-is p).1 in absurd (omega arith)
