-- GUEST AGAINST MACHINE ON CONCRETE WORDS, after the list of QuietList: what both contracts give there, in both tables, and impostors
-- beside the true answers. The goal is state 1, in register 3; relation 0, which leads from each state to each, is the guest's and the
-- machine's. So state 1 enters in round 1 and state 0 in round 2, and round 3 gives the same set again. Assumes nothing.
use mathlib.Core.Path.{◌≡◌, sym, ap, ◌∙◌, subst}
use mathlib.Core.Bool.{Bool, true, false}
use mathlib.Core.List.{List, [], ◌∷◌}
use mathlib.Core.Option.{Option, none, some}
use Prim.Native.Nat.{ℕ, ◌*◌}
use native.Mathlib.Omega.{arith}
use lib.Dec.{T}
use Rattle.accounts.specs.Count.{nothing}
use Rattle.accounts.specs.Terms.{alone, rows_under, rounds_under}
use Rattle.mucalculus.specs.Sets.{bit_lists}
use Rattle.mucalculus.specs.Form.{no_env}
use Rattle.tokens.specs.declared.Kind.TheVariants.{Set}
use Rattle.diagram.specs.Post.{Denotes}
use Rattle.rows.specs.Used.{rows_of}
use Rattle.rows.specs.Sound.{table_of}
use Rattle.book.specs.Bridge.{fn_of}
use Rattle.book.specs.Over.{states}
use Rattle.book.specs.Book.{Book, model_of, live_of, checks, formula_in, does}
use Rattle.book.specs.BookOf.{book_of}
use Rattle.book.specs.Table.{Reply}
use Rattle.book.specs.Run.{run}
use Rattle.book.specs.Follow.{ends}
use Rattle.book.specs.Leaves.{plain, valued}
use Rattle.book.specs.Demand.{book_after}
use Rattle.book.proofs.Compute.{computing}
use Rattle.book.proofs.Follow.{denotes-all}
use Rattle.book.proofs.Formulas.{set_reply}
use Rattle.contract.specs.Seen.{seen}
use Rattle.contract.specs.Posts.{CallPost}
use Rattle.games.specs.Call.{game_bytes, game_call, reacts}
use Rattle.game_calls.specs.Post.{ReactPost}
use Rattle.game_calls.specs.Meaning.{ForceMeant, ReactMeant}
use Rattle.game_calls.proofs.Checks.{react-stays}
use Rattle.game_calls.proofs.Meaning.{force_means, react-means}
use Rattle.game_calls.proofs.Rests.{react-listed, react_again}
use Rattle.witness.proofs.Words.{stored_in}
use Rattle.witness.proofs.Told.{value-done}
use Rattle.witness.proofs.Begun.{session, holds}
use Rattle.witness.proofs.Larger.{under}
use Rattle.witness.proofs.QuietList.{started, closing, after_run, small, large}
use Rattle.witness.proofs.QuietCalls.{to-after, to-next, after-sound, no_answer}
use Rattle.witness.proofs.Quiet.{first, second, loose, again_started, zero-started, next, next'}

-- the claim that under R rounds this is told of the press t in state s
abbrev pub Claims : ℕ → ℕ → ℕ → List ℕ → Reply → Type 0
Claims R s t new y = ReactPost alone R 3 0 0 s t (after_run 2 280) new y

-- the book of the words
the_book : book_of (seen (after_run 2 280)) ≡ book_after 1 2 (started 2 1 1)
the_book = holds 1 2 280 small.sizes (to-after small)

-- ---- the first call

-- WHATEVER THE CONTRACT ALLOWS THERE: it is answered, and register 2 then holds both states
pub forced-is : {new : List ℕ} {y : Reply} → CallPost (game_call alone 2 3 3 0 0) (after_run 2 280) new y
    → (y.number ≡ 0) × ((book_of (seen new)).reg 2 ≡ some (true ∷ true ∷ []))
unfolding computing bit_lists
forced-is p = (
  (p.performs.served (after-sound small)).1.agrees.number ∙ ap (λ (b : Book). (does b (game_call alone 2 3 3 0 0)).1.number) the_book,
  ap (λ (b : Book). b.reg 2) (holds 1 2 280 small.sizes (to-next small p)),
)

-- what is met: node number 1, three rounds, a peak of two rows; register 2 alone changes
pub forced-met : CallPost (game_call alone 2 3 3 0 0) (after_run 2 280) (stored_in (after_run 2 280) 2 1)
    (set_reply (ends 1 (record { rounds = 3; peak = 2 })))
unfolding computing bit_lists
forced-met =
    value-done (after_run 2 280) (after-sound small) alone 2 3 (game_bytes 3 0 0) (omega arith) tt
    (ap (λ (b : Book). checks b Set (game_bytes 3 0 0)) the_book) 1 (true ∷ true ∷ []) (record { rounds = 3; peak = 2 })
    (ap (λ (b : Book). run (states (model_of b) no_env) (rows_under b.N alone) (rounds_under 3 alone) (live_of b)
    (formula_in b Set (game_bytes 3 0 0)) nothing) the_book)
    (subst (λ (b : Book). Denotes (2 * b.n) (rows_of (table_of (after_run 2 280))) 1 (fn_of b.n (true ∷ true ∷ []))) (sym the_book)
    (denotes-all 1 2 (rows_of (table_of (after_run 2 280)))))

-- so they are those from which the machine can force the goal
pub forced-means : {new : List ℕ} {y : Reply} → CallPost (game_call alone 2 3 3 0 0) (after_run 2 280) new y
    → ForceMeant 2 3 0 0 (after_run 2 280) new
forced-means p = force_means alone 2 3 3 0 0 p (after-sound small) (forced-is p).0

-- ---- the second call: the true answers

-- in state 0, to the press 1: the machine goes to 1, and no word changes
pub answered : Claims 3 0 1 (after_run 2 280) (valued 1)
unfolding computing bit_lists
answered = react-stays alone 3 3 0 0 0 1 (after_run 2 280) (after-sound small) (ap (λ (b : Book). reacts b 3 0 0 alone 3 0 1) the_book)

-- WHATEVER THE CONTRACT ALLOWS THERE
pub react-is : {new : List ℕ} {y : Reply} → Claims 3 0 1 new y → y ≡ valued 1
unfolding computing bit_lists
react-is p = react-listed 1 2 (session 1 2 280 small.sizes (to-after small)) alone 3 3 0 0 0 1 p

-- 9 where R does not cover the round that gives the same set again
pub spent-is : {new : List ℕ} {y : Reply} → Claims 2 0 1 new y → y ≡ plain 9
unfolding computing bit_lists
spent-is p = react-listed 1 2 (session 1 2 280 small.sizes (to-after small)) alone 2 3 0 0 0 1 p

-- 15 in the goal
pub goal-is : {new : List ℕ} {y : Reply} → Claims 3 1 0 new y → y ≡ plain 15
unfolding computing bit_lists
goal-is p = react-listed 1 2 (session 1 2 280 small.sizes (to-after small)) alone 3 3 0 0 1 0 p

-- what the answer means
pub answer-means : ReactMeant 3 0 0 0 1 (after_run 2 280) 0 1
answer-means = react-means alone 3 3 0 0 0 1 answered (after-sound small)

-- THE SAME in the larger table with raised limits: no answer where the goal, in register 1, has no state; the first round gives the same
-- set again. The smaller list's account has one round, and an answer takes three
pub none_again : {new : List ℕ} {y : Reply} → ReactPost (under 5 7) 3 1 0 0 0 1 (after_run 3 300) new y → y ≡ plain 15
unfolding first second
none_again p = react_again 1 2 3 (omega arith) (omega arith) (started 2 1 1) (closing 2 1 1) (started 5 7 3) (closing 5 7 3) first second
    loose (again_started [] [] tt) (zero-started [] tt) next next' 0 1 3 1 0 0 0 1 (omega arith) (no_answer small) p
    (λ e. absurd (omega arith)) (λ e. absurd (omega arith))

-- where it is met
pub none_large : ReactPost (under 5 7) 3 1 0 0 0 1 (after_run 3 300) (after_run 3 300) (plain 15)
none_large = no_answer large

-- ---- impostors

-- the goal alone is stored
pub goal-alone : {new : List ℕ} {y : Reply} → CallPost (game_call alone 2 3 3 0 0) (after_run 2 280) new y
    → (book_of (seen new)).reg 2 ≡ some (false ∷ true ∷ []) → ⊥
goal-alone p e = subst T (ap first-state (sym (forced-is p).1 ∙ e)) tt
  where
    first-state : Option (List Bool) → Bool
    first-state (some (a ∷ l)) = a
    first-state (some []) = false
    first-state none = false

-- an answer that enters in the state's own round
pub own-round : {new : List ℕ} → Claims 3 0 1 new (valued 0) → ⊥
own-round p = let e : ◌≡◌ {A = ℕ} 0 1 = ap (λ (y : Reply). y.value) (react-is p) in absurd (omega arith)

-- 15 where there is an answer
pub none-there : {new : List ℕ} → Claims 3 0 1 new (plain 15) → ⊥
none-there p = let e : ◌≡◌ {A = ℕ} 15 0 = ap (λ (y : Reply). y.number) (react-is p) in absurd (omega arith)

-- 15 before all rounds are made
pub too_soon : {new : List ℕ} → Claims 2 1 0 new (plain 15) → ⊥
unfolding computing bit_lists
too_soon p =
    let s = react-listed 1 2 (session 1 2 280 small.sizes (to-after small)) alone 2 3 0 0 1 0 p in
    let e : ◌≡◌ {A = ℕ} 15 9 = ap (λ (y : Reply). y.number) s in absurd (omega arith)
