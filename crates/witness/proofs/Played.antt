-- THE CLOSED LIST THEOREM IS INHABITED: a list of calls over the program's words, each under the predicate of its function's `ensures`, and
-- the third demand of it. Assumes nothing.
use mathlib.Core.Path.{◌≡◌, refl, sym, ap, subst}
use mathlib.Core.Bool.{true, false}
use mathlib.Core.List.{List, [], ◌∷◌}
use mathlib.Core.Option.{none, some}
use Prim.Native.Nat.{ℕ, ◌+◌, ◌≤◌}
use native.Mathlib.Omega.{arith}
use lib.Dec.{T}
use lib.ListN.{get_or, set as write}
use Rattle.accounts.specs.declared.Account.{Account}
use Rattle.accounts.specs.Listed.{none as no_account}
use Rattle.accounts.specs.Terms.{alone}
use Rattle.accounts.specs.Count.{nothing}
use Rattle.mucalculus.specs.Form.{bot}
use Rattle.layout.specs.Places.{ROWS, VALID, ALL_STATES, FIRST_REGISTER, FIRST_RELATION}
use Rattle.layout.specs.View.{header_of}
use Rattle.rows.specs.Used.{Sizes}
use Rattle.book.specs.Book.{Book, relation, set, valid, clear, collect, unfilled, live_of}
use Rattle.book.specs.Run.{relation_fits, relation_count}
use Rattle.book.specs.BookOf.{book_of}
use Rattle.book.proofs.Compute.{computing}
use Rattle.book.specs.Table.{Reply}
use Rattle.book.specs.Leaves.{plain, valued}
use Rattle.book.specs.Demand.{Event, stop, go, Session, Demand}
use Rattle.book.specs.Tallies.{freshened, accounts_after}
use Rattle.book.proofs.Tallies.{tally_since_fresh}
use Rattle.contract.specs.Seen.{seen, SoundWords}
use Rattle.contract.specs.Posts.{CallPost}
use Rattle.contract.specs.Closed.{makes, performs, rests, asks}
use Rattle.contract.proofs.Closed.{words-demand}
use Rattle.witness.proofs.Words.{fresh_of, stored_in}
use Rattle.witness.proofs.Made.{Roomy, alone_roomy, every, no_pairs, self, odd, every-done, no_pairs_done, self-done, self-refused}
use Rattle.witness.proofs.Made.{odd-done, collected_done, unused, empty-done}
use Rattle.witness.proofs.Begun.{session, holds, Stands, fresh-stands, all_one, roomy, valid-stands, relation-stands, stored-stands}

-- ---- the list: n = 1, N = 100, every kind of call, and refusals 6 and 9

-- an answered set: its node number, one round, and no step
abbrev node : ℕ → Reply
node a = record { number = 0; rounds = 1; peak = 0; value = a }

abbrev pub events : List Event
events =
    (valid every, plain 0)
    ∷ (relation 0 no_pairs, plain 0)
    ∷ (set alone 0 100 (self false), node 1)
    ∷ (set alone 1 100 (self true), node 0)
    ∷ (set alone 1 100 odd, plain 6)
    ∷ (set alone 1 0 (self false), plain 9)
    ∷ (collect, valued 0)
    ∷ (clear 0, plain 0) ∷ []

-- ---- the words: those of `roomrules`, and what fresh, valid, relation 0, set 0, set 1 and clear 0 leave of them

abbrev made : List ℕ
made = fresh_of 1 100 16_384

abbrev fixed : List ℕ
fixed = write made VALID ALL_STATES

abbrev loaded : List ℕ
loaded = write fixed (FIRST_RELATION + 0) 1

abbrev once : List ℕ
once = stored_in loaded 0 1

abbrev twice : List ℕ
twice = stored_in once 1 0

abbrev pub end : List ℕ
end = write twice (FIRST_REGISTER + 0) 0

-- ---- the calls

sizes : Sizes 1 100 16_384
sizes = record { n_pos = omega arith; n_max = omega arith; N_pos = omega arith; N-max = omega arith; room = omega arith }

made-stands : Stands 100 made
made-stands = fresh-stands 1 100 16_384 sizes

valid-fixed : CallPost (valid every) made fixed (plain 0)
valid-fixed = every-done made made-stands.sound (subst (λ (b : Book). T (unfilled b)) (sym (holds 1 100 16_384 sizes stop)) tt)

fixed-stands : Stands 100 fixed
fixed-stands = valid-stands made-stands valid-fixed

-- the three steps within V need no row
relation_loaded : CallPost (relation 0 no_pairs) fixed loaded (plain 0)
unfolding computing
relation_loaded =
    let e = sym (holds 1 100 16_384 sizes (go valid-fixed stop)) in
    no_pairs_done fixed fixed-stands.sound 0 (omega arith) nothing
    (subst (λ (b : Book). relation_fits b.n b.N (live_of b) b.valid bot ≡ true) e refl)
    (subst (λ (b : Book). nothing ≡ relation_count b.n (live_of b) b.valid bot nothing) e refl)

loaded_stands : Stands 100 loaded
loaded_stands = relation-stands fixed-stands 0 1 (omega arith) relation_loaded

-- the account is no limit
free : {ws : List ℕ} → Stands 100 ws → (R : ℕ) → R ≤ 100 → Roomy (header_of ws ROWS) R alone
free s R l = roomy s R alone (alone_roomy 100 R (omega arith) (omega arith))

set_first : CallPost (set alone 0 100 (self false)) loaded once (node 1)
set_first =
    self-done loaded loaded_stands.sound 0 (omega arith) false 100 alone (free loaded_stands 100 (omega arith)) 1 (all_one loaded_stands)
    (omega arith)

once-stands : Stands 100 once
once-stands = stored-stands loaded_stands 0 100 1 (omega arith) set_first

set-second : CallPost (set alone 1 100 (self true)) once twice (node 0)
set-second =
    self-done once once-stands.sound 1 (omega arith) true 100 alone (free once-stands 100 (omega arith)) 1 (all_one once-stands)
    (omega arith)

twice_stands : Stands 100 twice
twice_stands = stored-stands once-stands 1 100 0 (omega arith) set-second

-- the list under the calls' contracts
pub played : Session (List ℕ) makes performs rests 1 100 events end
played =
    let s = twice_stands.sound in
    session 1 100 16_384 sizes (
    go valid-fixed (go relation_loaded (go set_first (go set-second
    (go (odd-done twice s 1 (omega arith) 100 alone tt)
    (go (self-refused twice s 1 (omega arith) false 0 alone (free twice_stands 0 (omega arith)) 1 (all_one twice_stands) refl)
    (go (collected_done twice s (λ i u. absurd (unused twice twice_stands.used i u)) 0 twice_stands.used)
    (go (empty-done twice s 0 (omega arith)) stop)))))))
    )

-- and what the closed list theorem says of it
pub shown : Demand SoundWords seen asks 1 100 events end
shown = words-demand 1 100 played

-- so the words hold what the book does: register 0 is empty, and register 1 has no state
pub left : ((book_of (seen end)).reg 0 ≡ none) × ((book_of (seen end)).reg 1 ≡ some (false ∷ false ∷ []))
unfolding computing
left = let e = shown.holds in (ap (λ (b : Book). b.reg 0) e, ap (λ (b : Book). b.reg 1) e)

-- and an account lent throughout, the first of one, has two rounds in its tally
pub account-left : (a : Account)
    → get_or (accounts_after (freshened (a ∷ []) (plain 0)) events) 0 no_account ≡ record { rows = a.rows; rounds = a.rounds; tally = 2 }
account-left a = tally_since_fresh (a ∷ []) (plain 0) events 0 refl (omega arith)
