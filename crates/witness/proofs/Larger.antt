-- "BIGGER TABLES, SAME VERDICTS" IS INHABITED: a list over a table of one row under one account, and the same list over a table of two rows
-- with every limit raised, each call under the predicate of its function's `ensures`; and what the theorem says of them. Assumes nothing.
use mathlib.Core.Path.{◌≡◌, refl, sym, ap, ◌∙◌, subst}
use mathlib.Core.Bool.{true, false}
use mathlib.Core.List.{List, [], ◌∷◌, ◌++◌}
use mathlib.Core.Option.{none, some}
use Prim.Native.Nat.{ℕ, zero, suc, ◌+◌, ◌*◌, ◌≤◌, ◌<◌}
use native.Mathlib.Omega.{arith}
use lib.Dec.{T}
use lib.ListN.{get_or, set as write}
use Rattle.accounts.specs.declared.Account.{Account}
use Rattle.accounts.specs.declared.Terms.{Terms}
use Rattle.accounts.specs.Listed.{none as no_account}
use Rattle.accounts.specs.Count.{nothing}
use Rattle.mucalculus.specs.Form.{bot, now}
use Rattle.tokens.specs.declared.Kind.TheVariants.{Set}
use Rattle.layout.specs.Places.{BITS, ROWS, VALID, ALL_STATES, FIRST_REGISTER, FIRST_RELATION}
use Rattle.layout.specs.View.{header_of}
use Rattle.diagram.specs.Need.{step_need}
use Rattle.diagram.specs.Steps.{bit_f}
use Rattle.rows.specs.Used.{Sizes}
use Rattle.rows.specs.Index.{bucket}
use Rattle.book.specs.Book.{Book, Call, relation, set, valid, clear, collect, registers, unfilled, live_of, checks, formula_in}
use Rattle.book.specs.Run.{relation_fits, relation_count}
use Rattle.book.specs.BookOf.{book_of}
use Rattle.book.proofs.Compute.{computing}
use Rattle.book.proofs.Listed.{frame}
use Rattle.book.specs.Table.{Reply}
use Rattle.book.specs.Leaves.{plain, valued}
use Rattle.book.specs.Demand.{Event, book_after, calls, last_number, Trace, stop, go, pause}
use Rattle.book.specs.Tallies.{charged, accounts_after, Fed}
use Rattle.book.specs.Raised.{SameCall, same_relation, same_set, same-valid, same-clear, same-collect, with_row_count, AllZero, Looser, Cut}
use Rattle.contract.specs.Seen.{seen, SoundWords}
use Rattle.contract.specs.Posts.{CallPost}
use Rattle.contract.specs.Closed.{performs, rests}
use Rattle.contract.specs.Shared.{Lent, Step, Rest, SharedSession}
use Rattle.contract.proofs.Shared.{AllFed, shared-demand}
use Rattle.contract.specs.Bigger.{AllAgain, SharedUpgrade, SharedVerdicts}
use Rattle.contract.proofs.Bigger.{shared_bigger, shared-each}
use Rattle.witness.proofs.Words.{zeros, fresh_of, stored_in, length-zeros}
use Rattle.witness.proofs.Made.{Roomy, every, no_pairs, self, fresh-done, every-done, no_pairs_done, self-done, collected_done, unused}
use Rattle.witness.proofs.Made.{empty-done}
use Rattle.witness.proofs.Row.{bit_in, bit-done}
use Rattle.witness.proofs.Begun.{holds, Stands, fresh-stands, all_one, roomy, valid-stands, relation-stands, stored-stands}

-- ---- the list, n = 1: under the one account, with limits a and c, and R rounds

abbrev pub lender : ℕ → ℕ → ℕ → List Account
lender a c t = record { rows = a; rounds = c; tally = t } ∷ []

abbrev pub under : ℕ → ℕ → Terms
under a c = record { count = 1; place = 0; rows = a; rounds = c }

-- 10: bit 0
abbrev pub bit : List ℕ
bit = frame (0x10 ∷ [])

-- an answered set: one round and no step; or no round, and the table's row
abbrev pub node : ℕ → Reply
node a = record { number = 0; rounds = 1; peak = 0; value = a }

abbrev pub row : Reply
row = record { number = 0; rounds = 0; peak = 1; value = 3 }

-- up to the set that makes a row
abbrev before : ℕ → ℕ → ℕ → List Event
before a c R =
    (valid every, plain 0)
    ∷ (relation 0 no_pairs, plain 0)
    ∷ (set (under a c) 0 R (self false), node 1)
    ∷ (set (under a c) 1 R (self true), node 0)
    ∷ (collect, valued 0)
    ∷ (set (under a c) 2 R (self false), node 1) ∷ []

-- that set, with its reply, and a register emptied
abbrev bit_set : ℕ → ℕ → ℕ → Reply → Event
bit_set a c R y = (set (under a c) 3 R bit, y)

abbrev emptied : Event
emptied = (clear 1, plain 0)

abbrev pub sofar : ℕ → ℕ → ℕ → Reply → List Event
sofar a c R y = before a c R ++ (bit_set a c R y ∷ [])

abbrev pub told : ℕ → ℕ → ℕ → Reply → List Event
told a c R y = before a c R ++ (bit_set a c R y ∷ emptied ∷ [])

-- registers 0 and 2 have one number, 3 has another, and 1 is empty
abbrev pub events : ℕ → ℕ → ℕ → List Event
events a c R = told a c R row

-- ---- over a table of N rows in k words

-- what the words are after each call
abbrev pub made : ℕ → ℕ → List ℕ
made N k = fresh_of 1 N k

abbrev pub fixed : ℕ → ℕ → List ℕ
fixed N k = write (made N k) VALID ALL_STATES

abbrev loaded : ℕ → ℕ → List ℕ
loaded N k = write (fixed N k) (FIRST_RELATION + 0) 1

abbrev once : ℕ → ℕ → List ℕ
once N k = stored_in (loaded N k) 0 1

abbrev twice : ℕ → ℕ → List ℕ
twice N k = stored_in (once N k) 1 0

abbrev thrice : ℕ → ℕ → List ℕ
thrice N k = stored_in (twice N k) 2 1

abbrev rowed : ℕ → ℕ → List ℕ
rowed N k = bit_in N (thrice N k) (bucket N 0 1 0) 3 0

abbrev pub end : ℕ → ℕ → List ℕ
end N k = write (rowed N k) (FIRST_REGISTER + 1) 0

-- what the relation of no pairs asks of the book: its three steps within V fit, and need no row
record Fits (b : Book) : Type 0 where
  fits : relation_fits b.n b.N (live_of b) b.valid bot ≡ true
  needs : nothing ≡ relation_count b.n (live_of b) b.valid bot nothing

-- and the set of bit 0
pub record Ready (b : Book) : Type 0 where
  pub bits : b.n ≡ 1
  pub passes : checks b Set bit ≡ 0
  pub is : now 0 ≡ formula_in b Set bit
  pub needs : 1 ≡ step_need (2 * b.n) (live_of b) (bit_f 0)
  pub again : 1 ≡ step_need (2 * b.n) (bit_f 0 ∷ live_of b) (bit_f 0)

module _ (N k a c R : ℕ) (z : Sizes 1 N k) (rows : N ≤ a) (rounds : R ≤ c) (some-round : 0 < R)
    (fits : Fits (book_after 1 N ((valid every, plain 0) ∷ [])))
    (ready : Ready (book_after 1 N (before a c R))) where
  free : {ws : List ℕ} → Stands N ws → Roomy (header_of ws ROWS) R (under a c)
  free s = roomy s R (under a c) (record { place = tt; rows = rows; rounds = rounds })

  made-stands : Stands N (made N k)
  made-stands = fresh-stands 1 N k z

  valid-fixed : CallPost (valid every) (made N k) (fixed N k) (plain 0)
  valid-fixed = every-done (made N k) made-stands.sound (subst (λ (b : Book). T (unfilled b)) (sym (holds 1 N k z stop)) tt)

  fixed-stands : Stands N (fixed N k)
  fixed-stands = valid-stands made-stands valid-fixed

  relation_loaded : CallPost (relation 0 no_pairs) (fixed N k) (loaded N k) (plain 0)
  relation_loaded =
      let f : Fits (book_of (seen (fixed N k))) = subst Fits (sym (holds 1 N k z (go valid-fixed stop))) fits in
      no_pairs_done (fixed N k) fixed-stands.sound 0 (omega arith) nothing f.fits f.needs

  loaded_stands : Stands N (loaded N k)
  loaded_stands = relation-stands fixed-stands 0 1 (omega arith) relation_loaded

  set_first : CallPost (set (under a c) 0 R (self false)) (loaded N k) (once N k) (node 1)
  set_first =
      self-done (loaded N k) loaded_stands.sound 0 (omega arith) false R (under a c) (free loaded_stands) 1 (all_one loaded_stands)
      some-round

  once-stands : Stands N (once N k)
  once-stands = stored-stands loaded_stands 0 R 1 (omega arith) set_first

  set-second : CallPost (set (under a c) 1 R (self true)) (once N k) (twice N k) (node 0)
  set-second =
      self-done (once N k) once-stands.sound 1 (omega arith) true R (under a c) (free once-stands) 1 (all_one once-stands) some-round

  twice_stands : Stands N (twice N k)
  twice_stands = stored-stands once-stands 1 R 0 (omega arith) set-second

  none-freed : CallPost collect (twice N k) (twice N k) (valued 0)
  none-freed =
      collected_done (twice N k) twice_stands.sound (λ i u. absurd (unused (twice N k) twice_stands.used i u)) 0 twice_stands.used

  set_third : CallPost (set (under a c) 2 R (self false)) (twice N k) (thrice N k) (node 1)
  set_third =
      self-done (twice N k) twice_stands.sound 2 (omega arith) false R (under a c) (free twice_stands) 1 (all_one twice_stands)
      some-round

  thrice_stands : Stands N (thrice N k)
  thrice_stands = stored-stands twice_stands 2 R 1 (omega arith) set_third

  to_thrice : Trace (List ℕ) performs rests (made N k) (before a c R) (thrice N k)
  to_thrice = go valid-fixed (go relation_loaded (go set_first (go set-second (go none-freed (go set_third stop)))))

  row_made : CallPost (set (under a c) 3 R bit) (thrice N k) (rowed N k) row
  row_made =
      let s = thrice_stands in
      let r : Ready (book_of (seen (thrice N k))) = subst Ready (sym (holds 1 N k z to_thrice)) ready in
      let e : header_of (thrice N k) BITS ≡ 1 = r.bits in
      subst (λ (m : ℕ). CallPost (set (under a c) 3 R bit) (thrice N k) (bit_in m (thrice N k) (bucket N 0 1 0) 3 0) row) s.rows
      (bit-done (thrice N k) s.sound s.used s.valid 0 (omega arith) (under a c) 3 R (bucket N 0 1 0) 1 1 bit (omega arith) (free s)
      (ap (λ (m : ℕ). bucket m 0 1 0) (sym s.rows)) r.passes r.is r.needs r.again)

  rowed_sound : SoundWords (rowed N k)
  rowed_sound = (row_made.performs.served thrice_stands.sound).0

  listed : Trace (List ℕ) performs rests (made N k) (events a c R) (end N k)
  listed = go valid-fixed (go relation_loaded (go set_first (go set-second (go none-freed (go set_third (go row_made
      (go (empty-done (rowed N k) rowed_sound 1 (omega arith)) stop)))))))

-- ---- with the account

abbrev pub both : List ℕ → List Account → Lent
both ws l = record { words = ws; accounts = l }

-- a call on the words, fed so, is one on both
with_account : (ws vs : List ℕ) (l : List Account) (c : Call) (y : Reply) → CallPost c ws vs y → Fed l c
    → Step (both ws l) c (both vs (charged l c y)) y
with_account ws vs l c y p f = (f, p, refl)

pub with_accounts : {ws vs : List ℕ} {es : List Event} (l : List Account) → Trace (List ℕ) performs rests ws es vs → AllFed l es
    → Trace Lent Step Rest (both ws l) es (both vs (accounts_after l es))
with_accounts l stop f = stop
with_accounts l (go {w = ws} {v = ms} {c = c} {y = y} p t) f =
    go {v = both ms (charged l c y)} (with_account ws ms l c y p f.0) (with_accounts (charged l c y) t f.1)
with_accounts l (pause {v = ms} q t) f = pause {v = both ms l} (q, refl) (with_accounts l t f)

-- ---- one row, one round at most, and the account's limits 1 and 1; then two rows, three rounds, and limits 5 and 7

abbrev pub small : Lent
small = both (end 1 268) (lender 1 1 3)

abbrev pub large : Lent
large = both (end 2 300) (lender 5 7 3)

sizes-small : Sizes 1 1 268
sizes-small = record { n_pos = omega arith; n_max = omega arith; N_pos = omega arith; N-max = omega arith; room = omega arith }

sizes_large : Sizes 1 2 300
sizes_large = record { n_pos = omega arith; n_max = omega arith; N_pos = omega arith; N-max = omega arith; room = omega arith }

fits-small : Fits (book_after 1 1 ((valid every, plain 0) ∷ []))
unfolding computing
fits-small = record { fits = refl; needs = refl }

fits_large : Fits (book_after 1 2 ((valid every, plain 0) ∷ []))
unfolding computing
fits_large = record { fits = refl; needs = refl }

ready-small : Ready (book_after 1 1 (before 1 1 1))
unfolding computing
ready-small = record { bits = refl; passes = refl; is = refl; needs = refl; again = refl }

ready_large : Ready (book_after 1 2 (before 5 7 3))
unfolding computing
ready_large = record { bits = refl; passes = refl; is = refl; needs = refl; again = refl }

-- the list, answered throughout
pub first : SharedSession 1 1 (events 1 1 1) small
first = record {
  lent = both (zeros 268) (lender 1 1 8);
  made = both (fresh_of 1 1 268) (lender 1 1 0);
  reply = plain 0;
  start = record { table = fresh-done 1 1 268 sizes-small; list = refl };
  answered = refl;
  rest = with_accounts (lender 1 1 0) (listed 1 268 1 1 1 sizes-small (omega arith) (omega arith) (omega arith) fits-small ready-small)
      (tt, (tt, (refl, (refl, (tt, (refl, (refl, (tt, tt))))))));
}

-- the list again
pub second : SharedUpgrade 1 2 (events 5 7 3) large
second = record {
  lent = both (zeros 300) (lender 5 7 9);
  enough = let e = length-zeros 300 in omega arith;
  made = both (fresh_of 1 2 300) (lender 5 7 0);
  reply = plain 0;
  start = record { table = fresh-done 1 2 300 sizes_large; list = refl };
  rest = with_accounts (lender 5 7 0) (listed 2 300 5 7 3 sizes_large (omega arith) (omega arith) (omega arith) fits_large ready_large)
      (tt, (tt, (refl, (refl, (tt, (refl, (refl, (tt, tt))))))));
}

-- a list of one account, with its limits raised or equal
pub looser-one : (a c t a' c' t' : ℕ) → a ≤ a' → c ≤ c' → Looser (lender a c t) (lender a' c' t')
looser-one a c t a' c' t' l m = record { length = refl; rows = rows; rounds = rounds }
  where
    rows : (p : ℕ) → (get_or (lender a c t) p no_account).rows ≤ (get_or (lender a' c' t') p no_account).rows
    rows zero = l
    rows (suc p) = omega arith

    rounds : (p : ℕ) → (get_or (lender a c t) p no_account).rounds ≤ (get_or (lender a' c' t') p no_account).rounds
    rounds zero = m
    rounds (suc p) = omega arith

raised : (t t' : ℕ) → Looser (lender 1 1 t) (lender 5 7 t')
raised t t' = looser-one 1 1 t 5 7 t' (omega arith) (omega arith)

-- the first calls are the same, and answered
again : (l l' : List Event) → AllAgain (calls l) (calls l') → AllAgain (calls (before 1 1 1 ++ l)) (calls (before 5 7 3 ++ l'))
again l l' rest =
    let first = same_set (under 1 1) (under 5 7) 0 1 3 (self false) refl (omega arith) in
    let second = same_set (under 1 1) (under 5 7) 1 1 3 (self true) refl (omega arith) in
    let third = same_set (under 1 1) (under 5 7) 2 1 3 (self false) refl (omega arith) in
    (same-valid every, (same_relation 0 no_pairs, (first, (second, (same-collect, (third, rest))))))

answered : (l : List Event) → AllZero l → AllZero (before 1 1 1 ++ l)
answered l rest = (refl, (refl, (refl, (refl, (refl, (refl, rest))))))

again_bit : SameCall (λ acc acc'. acc'.place ≡ acc.place) (set (under 1 1) 3 1 bit) (set (under 5 7) 3 3 bit)
again_bit = same_set (under 1 1) (under 5 7) 3 1 3 bit refl (omega arith)

-- and what the theorem says of them
pub shown : SharedVerdicts 1 1 2 1 (plain 0) (events 1 1 1) (events 5 7 3) small large
unfolding first second
shown = shared_bigger 1 1 2 (omega arith) (omega arith) first second (raised 8 9)
    (again (bit_set 1 1 1 row ∷ emptied ∷ []) (bit_set 5 7 3 row ∷ emptied ∷ []) (again_bit, (same-clear 1, tt)))
    (answered (bit_set 1 1 1 row ∷ emptied ∷ []) (refl, (refl, tt)))

-- so register 3 of the larger table holds the states with bit 0, as that of the smaller one does
pub left : (book_of (seen large.words)).reg 3 ≡ some (false ∷ true ∷ [])
unfolding computing
left = ap (λ (b : Book). b.reg 3) (shown.table.sets ∙ ap (λ (b : Book). with_row_count b 2) (shared-demand 1 1 first).holds)

-- and before the last call, wherever the two lists stood then
pub each : (c : Cut Lent Step Rest first.made (sofar 1 1 1 row) (emptied ∷ []) small)
    (c' : Cut Lent Step Rest second.made (sofar 5 7 3 row) (emptied ∷ []) large)
    → SharedVerdicts 1 1 2 1 (plain 0) (sofar 1 1 1 row) (sofar 5 7 3 row) c.mid c'.mid
unfolding first second
each c c' =
    shared-each 1 1 2 (omega arith) (omega arith) (sofar 1 1 1 row) (emptied ∷ []) (sofar 5 7 3 row) (emptied ∷ []) first second
    (raised 8 9)
    (again (bit_set 1 1 1 row ∷ []) (bit_set 5 7 3 row ∷ []) (again_bit, tt)) (answered (bit_set 1 1 1 row ∷ []) (refl, tt)) c c'

-- ---- impostors: a larger table that replies y to the set of bit 0

module _ (y : Reply) (end' : Lent) (u : SharedUpgrade 1 2 (told 5 7 3 y) end') (loose : Looser (lender 1 1 8) u.lent.accounts) where
  same : SharedVerdicts 1 1 2 1 u.reply (events 1 1 1) (told 5 7 3 y) small end'
  unfolding first
  same = shared_bigger 1 1 2 (omega arith) (omega arith) first u loose
      (again (bit_set 1 1 1 row ∷ emptied ∷ []) (bit_set 5 7 3 y ∷ emptied ∷ []) (again_bit, (same-clear 1, tt)))
      (answered (bit_set 1 1 1 row ∷ emptied ∷ []) (refl, (refl, tt)))

  -- one that is full, or counts another round or row
  pub same-reply : (y.number ≡ 0) × (y.rounds ≡ 0) × (y.peak ≡ 1)
  same-reply = let d = same.table.replies.1.1.1.1.1.1.0 in (d.number, d.rounds, d.peak)

  -- the number that a register of the smaller table has
  number_of : (r x : ℕ) → r < registers → last_number none (events 1 1 1) r ≡ some x → (seen small.words).reg r ≡ some x
  number_of r x l e = (shared-demand 1 1 first).current r l ∙ e

  -- one that gives registers 0 and 2, which have one set, two numbers
  pub one_number : (a b : ℕ) → (seen end'.words).reg 0 ≡ some a → (seen end'.words).reg 2 ≡ some b → a ≡ b
  one_number a b p q =
      (same.table.numbers 0 2 (omega arith) (omega arith) 1 1 a b (number_of 0 1 (omega arith) refl) (number_of 2 1 (omega arith) refl) p
      q).0 refl

  -- or registers 0 and 3, which have two, one number
  pub two-numbers : (a b : ℕ) → (seen end'.words).reg 0 ≡ some a → (seen end'.words).reg 3 ≡ some b → a ≡ b → ⊥
  two-numbers a b p q e =
      let z : ◌≡◌ {A = ℕ} 1 3 = (same.table.numbers 0 3 (omega arith) (omega arith) 1 3 a b (number_of 0 1 (omega arith) refl)
      (number_of 3 3 (omega arith) refl) p q).1 e in
      omega arith

-- ---- the true one: with the smaller table's reply the same list is met, so that the lie alone is refuted

pub met : SharedUpgrade 1 2 (told 5 7 3 row) large
met = second

-- its calls were answered throughout, too
pub met_session : SharedSession 1 2 (told 5 7 3 row) large
unfolding second
met_session = record {
  lent = second.lent;
  made = second.made;
  reply = second.reply;
  start = second.start;
  answered = refl;
  rest = second.rest;
}

-- registers 0 and 2, which have one set, have one number there, and 3 has another
pub met-numbers : ((seen large.words).reg 0 ≡ some 1) × ((seen large.words).reg 2 ≡ some 1) × ((seen large.words).reg 3 ≡ some 3)
met-numbers = let d = shared-demand 1 2 met_session in (d.current 0 (omega arith), d.current 2 (omega arith), d.current 3 (omega arith))

-- and what is said of any larger table holds of it
pub met-reply : (row.number ≡ 0) × (row.rounds ≡ 0) × (row.peak ≡ 1)
unfolding second met
met-reply = same-reply row large met (raised 8 9)
