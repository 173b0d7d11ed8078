-- LISTS WITH CALLS THAT STORE NOTHING ARE INHABITED: the third demand and "Bigger tables, same verdicts" of the list of QuietList, and what
-- its shortest run and its question for many states are told there, in both tables. Assumes nothing.
use mathlib.Core.Path.{◌≡◌, refl, ap, ◌∙◌}
use mathlib.Core.Bool.{true, false}
use mathlib.Core.List.{List, [], ◌∷◌, ◌++◌}
use mathlib.Core.Option.{none, some}
use Prim.Native.Nat.{ℕ, ◌+◌}
use native.Mathlib.Omega.{arith}
use lib.ListN.{get_or}
use Rattle.layout.specs.Places.{MEMO_VALUE, cells_at}
use Rattle.rows.specs.Index.{hash, bucket}
use Rattle.book.specs.Book.{Book, set}
use Rattle.book.specs.BookOf.{book_of}
use Rattle.book.specs.Table.{Reply}
use Rattle.book.specs.Leaves.{plain, valued}
use Rattle.book.specs.Demand.{Event, calls, Session, Demand}
use Rattle.book.specs.Raised.{SameCall, same_relation, same_set, same-valid, same-clear, with_row_count, AllZero, Looser, Cut}
use Rattle.book.proofs.Compute.{computing}
use Rattle.contract.specs.Seen.{seen, SoundWords}
use Rattle.contract.specs.Closed.{makes, performs, rests, asks}
use Rattle.contract.proofs.Closed.{words-demand}
use Rattle.contract.specs.Shared.{Lent, Step, Rest, SharedSession}
use Rattle.contract.proofs.Shared.{shared-demand}
use Rattle.contract.specs.Bigger.{AllAgain, SharedUpgrade, SharedVerdicts}
use Rattle.contract.proofs.Bigger.{shared_bigger}
use Rattle.batch_calls.specs.Posts.{BatchPost}
use Rattle.batch_calls.proofs.Again.{members_again}
use Rattle.path_calls.specs.Post.{PathPost}
use Rattle.path_calls.proofs.Rests.{path_listed, path_again}
use Rattle.witness.proofs.Words.{zeros, fresh_of, stored_in, length-zeros}
use Rattle.witness.proofs.Made.{every, self, fresh-done}
use Rattle.witness.proofs.Begun.{session}
use Rattle.witness.proofs.Row.{row_put_in, joined_in, bit_in}
use Rattle.witness.proofs.Told.{remembered_in}
use Rattle.witness.proofs.Larger.{lender, under, bit, both, with_accounts, looser-one}
use Rattle.witness.proofs.QuietList.{not_bit, started, closing, answers, events, midway, after_run, end, blank, asked, order, order'}
use Rattle.witness.proofs.QuietList.{bytes, bytes', small, large}
use Rattle.witness.proofs.QuietCalls.{run-told, members-asked, to-mid, from-mid, to-after, from-after, played, replayed}

-- ---- the third demand, with the refused calls as events

-- the list under the calls' contracts
pub listed : Session (List ℕ) makes performs rests 1 2 (events 2 1 1) (end 2 280)
listed = session 1 2 280 small.sizes (played small)

-- and what the closed list theorem says of it
pub shown : Demand SoundWords seen asks 1 2 (events 2 1 1) (end 2 280)
shown = words-demand 1 2 listed

-- so register 1 is empty, and 2, 3 and 4 hold all states, state 1 and state 0
pub left : ((book_of (seen (end 2 280))).reg 1 ≡ none) × ((book_of (seen (end 2 280))).reg 2 ≡ some (true ∷ true ∷ []))
    × ((book_of (seen (end 2 280))).reg 3 ≡ some (false ∷ true ∷ [])) × ((book_of (seen (end 2 280))).reg 4 ≡ some (true ∷ false ∷ []))
unfolding computing
left =
    let e = shown.holds in
    (ap (λ (b : Book). b.reg 1) e, ap (λ (b : Book). b.reg 2) e, ap (λ (b : Book). b.reg 3) e, ap (λ (b : Book). b.reg 4) e)

-- the search in it: a run is written to the lent list
pub run_small : PathPost 4 3 0 (midway 2 280) (after_run 2 280) blank (0 ∷ 1 ∷ 7 ∷ []) (valued 2)
run_small = run-told small

-- and a word changes: row 0 remembers 5
pub remembers : (get_or (midway 2 280) (cells_at 0 + MEMO_VALUE) 0 ≡ 0) × (get_or (after_run 2 280) (cells_at 0 + MEMO_VALUE) 0 ≡ 5)
unfolding zeros fresh_of stored_in bit_in row_put_in joined_in remembered_in bucket hash
remembers = (refl, refl)

-- the question in it: three states are told
pub members-small : BatchPost 3 (after_run 2 280) asked order order' bytes bytes' (valued 1)
members-small = members-asked small

-- THE SHORTEST RUN: whatever the contract allows at its place, two states are told, 0 and 1, and written to the list
pub run_is : {v list : List ℕ} {y : Reply} → PathPost 4 3 0 (midway 2 280) v blank list y → (y ≡ valued 2) × (list ≡ 0 ∷ 1 ∷ 7 ∷ [])
unfolding computing
run_is p = path_listed 1 2 (session 1 2 280 small.sizes (to-mid small)) 4 3 0 p

-- and 10 from register 1, which has no state
pub none_is : {v list : List ℕ} {y : Reply} → PathPost 1 3 0 (after_run 2 280) v blank list y → (y ≡ plain 10) × (list ≡ blank)
unfolding computing
none_is p = path_listed 1 2 (session 1 2 280 small.sizes (to-after small)) 1 3 0 p

-- and 7 from register 5, which is empty
pub empty-is : {v list : List ℕ} {y : Reply} → PathPost 5 3 0 (after_run 2 280) v blank list y → (y ≡ plain 7) × (list ≡ blank)
unfolding computing
empty-is p = path_listed 1 2 (session 1 2 280 small.sizes (to-after small)) 5 3 0 p

-- ---- the list under an account, and the same list on a larger table with every limit raised

-- what the list leaves of two rows
abbrev pub smaller : Lent
smaller = both (end 2 280) (lender 2 1 3)

-- and of three
abbrev pub larger : Lent
larger = both (end 3 300) (lender 5 7 3)

-- refused calls charge no account
pub refused_too : SharedSession 1 2 (events 2 1 1) smaller
refused_too = record {
  lent = both (zeros 280) (lender 2 1 8);
  made = both (fresh_of 1 2 280) (lender 2 1 0);
  reply = plain 0;
  start = record { table = fresh-done 1 2 280 small.sizes; list = refl };
  answered = refl;
  rest = with_accounts (lender 2 1 0) (played small)
      (tt, (tt, (refl, (refl, (refl, (refl, (refl, (tt, (refl, (tt, tt))))))))));
}

-- the list, answered throughout: the refused calls stand in it as calls that store nothing
unfoldable pub first : SharedSession 1 2 (answers 2 1 1) smaller
first = record {
  lent = both (zeros 280) (lender 2 1 8);
  made = both (fresh_of 1 2 280) (lender 2 1 0);
  reply = plain 0;
  start = record { table = fresh-done 1 2 280 small.sizes; list = refl };
  answered = refl;
  rest = with_accounts (lender 2 1 0) (replayed small) (tt, (tt, (refl, (refl, (refl, (refl, (refl, (tt, tt))))))));
}

-- the list again
unfoldable pub second : SharedUpgrade 1 3 (answers 5 7 3) larger
second = record {
  lent = both (zeros 300) (lender 5 7 9);
  enough = let e = length-zeros 300 in omega arith;
  made = both (fresh_of 1 3 300) (lender 5 7 0);
  reply = plain 0;
  start = record { table = fresh-done 1 3 300 large.sizes; list = refl };
  rest = with_accounts (lender 5 7 0) (replayed large) (tt, (tt, (refl, (refl, (refl, (refl, (refl, (tt, tt))))))));
}

-- its account's limits are raised
pub loose : Looser (lender 2 1 8) (lender 5 7 9)
loose = looser-one 2 1 8 5 7 9 (omega arith) (omega arith)

-- the same set, with raised limits
pub set_again : (r : ℕ) (bs : List ℕ)
    → SameCall (λ acc acc'. acc'.place ≡ acc.place) (set (under 2 1) r 1 bs) (set (under 5 7) r 3 bs)
set_again r bs = same_set (under 2 1) (under 5 7) r 1 3 bs refl (omega arith)

-- the same calls, up to those that store nothing
pub again_started : (l l' : List Event) → AllAgain (calls l) (calls l')
    → AllAgain (calls (started 2 1 1 ++ l)) (calls (started 5 7 3 ++ l'))
again_started l l' rest = (
  same-valid every,
  (same_relation 0 every, (set_again 0 (self false), (set_again 1 (self true), (set_again 3 bit, (set_again 4 not_bit, rest))))),
)

-- and after them
pub again_closing : AllAgain (calls (closing 2 1 1)) (calls (closing 5 7 3))
again_closing = (set_again 2 (self false), (same-clear 1, tt))

-- all of them answered
pub zero-started : (l : List Event) → AllZero l → AllZero (started 2 1 1 ++ l)
zero-started l rest = (refl, (refl, (refl, (refl, (refl, (refl, rest))))))

-- BIGGER TABLES, SAME VERDICTS
pub same : SharedVerdicts 1 2 3 1 (plain 0) (answers 2 1 1) (answers 5 7 3) smaller larger
unfolding first second
same = shared_bigger 1 2 3 (omega arith) (omega arith) first second loose
    (again_started (closing 2 1 1) (closing 5 7 3) again_closing) (zero-started (closing 2 1 1) (refl, (refl, tt)))

-- so register 4 of the larger table holds state 0, as that of the smaller one does
pub same_set-left : (book_of (seen larger.words)).reg 4 ≡ some (true ∷ false ∷ [])
unfolding computing
same_set-left = ap (λ (b : Book). b.reg 4) (same.table.sets ∙ ap (λ (b : Book). with_row_count b 3) (shared-demand 1 2 first).holds)

-- ---- where the two lists stood

-- before the search for a run, in the smaller table
abbrev place : Cut Lent Step Rest (both (fresh_of 1 2 280) (lender 2 1 0)) (started 2 1 1) (closing 2 1 1) smaller
place = record {
  mid = both (midway 2 280) (lender 2 1 2);
  first = with_accounts (lender 2 1 0) (to-mid small) (tt, (tt, (refl, (refl, (refl, (refl, tt))))));
  rest = with_accounts (lender 2 1 2) (from-mid small) (refl, (tt, tt));
}

-- and in the larger one
abbrev place' : Cut Lent Step Rest (both (fresh_of 1 3 300) (lender 5 7 0)) (started 5 7 3) (closing 5 7 3) larger
place' = record {
  mid = both (midway 3 300) (lender 5 7 2);
  first = with_accounts (lender 5 7 0) (to-mid large) (tt, (tt, (refl, (refl, (refl, (refl, tt))))));
  rest = with_accounts (lender 5 7 2) (from-mid large) (refl, (tt, tt));
}

-- before the question for many states, in the smaller table
abbrev pub next : Cut Lent Step Rest (both (fresh_of 1 2 280) (lender 2 1 0)) (started 2 1 1) (closing 2 1 1) smaller
next = record {
  mid = both (after_run 2 280) (lender 2 1 2);
  first = with_accounts (lender 2 1 0) (to-after small) (tt, (tt, (refl, (refl, (refl, (refl, tt))))));
  rest = with_accounts (lender 2 1 2) (from-after small) (refl, (tt, tt));
}

-- and in the larger one
abbrev pub next' : Cut Lent Step Rest (both (fresh_of 1 3 300) (lender 5 7 0)) (started 5 7 3) (closing 5 7 3) larger
next' = record {
  mid = both (after_run 3 300) (lender 5 7 2);
  first = with_accounts (lender 5 7 0) (to-after large) (tt, (tt, (refl, (refl, (refl, (refl, tt))))));
  rest = with_accounts (lender 5 7 2) (from-after large) (refl, (tt, tt));
}

-- THE SAME RUN: whatever the contract allows at that place of the larger table, it is the run that the smaller one told
pub run_again : {v list : List ℕ} {y : Reply} → PathPost 4 3 0 (midway 3 300) v blank list y → (y ≡ valued 2) × (list ≡ 0 ∷ 1 ∷ 7 ∷ [])
unfolding first second
run_again p = path_again 1 2 3 (omega arith) (omega arith) (started 2 1 1) (closing 2 1 1) (started 5 7 3) (closing 5 7 3) first second
    loose (again_started [] [] tt) (zero-started [] tt) place place' 4 3 0
    (run-told small) p (λ e. absurd (omega arith))

-- THE SAME ANSWERS for the states 1, 0 and 1
pub members-same : {v w : List ℕ} {y : Reply} → BatchPost 3 (after_run 3 300) asked order v bytes w y → (y.number ≡ 0) × (w ≡ bytes')
unfolding first second
members-same p = members_again 1 2 3 (omega arith) (omega arith) (started 2 1 1) (closing 2 1 1) (started 5 7 3) (closing 5 7 3) first
    second loose (again_started [] [] tt) (zero-started [] tt) next next' 3
    (members-asked small) p

-- the search is answered there
pub run_large : PathPost 4 3 0 (midway 3 300) (after_run 3 300) blank (0 ∷ 1 ∷ 7 ∷ []) (valued 2)
run_large = run-told large

-- and the question
pub members_large : BatchPost 3 (after_run 3 300) asked order order' bytes bytes' (valued 1)
members_large = members-asked large
