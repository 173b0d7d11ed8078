-- The calls of QuietList over a table of N rows, those that store nothing too: each meets its contract, and together they are a list.
-- Assumes nothing.
use mathlib.Core.Path.{◌≡◌, refl, sym, ap, ◌∙◌, subst}
use mathlib.Core.Bool.{true, false}
use mathlib.Core.List.{List, [], ◌∷◌, ◌++◌}
use mathlib.Core.Option.{some}
use Prim.Native.Nat.{ℕ, zero, suc, ◌+◌, ◌*◌, ◌^◌, ◌≤◌, ◌<◌}
use native.Mathlib.Omega.{arith}
use lib.Dec.{T}
use lib.ListN.{length, get_or, drop}
use Rattle.accounts.specs.Count.{nothing}
use Rattle.mucalculus.specs.Form.{Form}
use Rattle.mucalculus.specs.Means.{compl}
use Rattle.layout.specs.Places.{BITS, ROWS, VALID, ALL_STATES, FIRST_REGISTER, MEMO_VALUE, words_for}
use Rattle.layout.specs.Refusals.{keeps_all}
use Rattle.layout.specs.View.{View, view, header_of, put_cell}
use Rattle.diagram.specs.Post.{Denotes}
use Rattle.rows.specs.Used.{Sizes, rows_of}
use Rattle.rows.specs.Sound.{table_of}
use Rattle.rows.specs.Index.{bucket}
use Rattle.book.specs.Bridge.{fn_of}
use Rattle.book.specs.Book.{Book, Call, relation, set, valid, clear, member, unfilled}
use Rattle.book.specs.BookOf.{book_of}
use Rattle.book.specs.Table.{Reply}
use Rattle.book.specs.Leaves.{plain, valued}
use Rattle.book.specs.Formulas.{relation_f}
use Rattle.book.specs.Demand.{Event, Trace, stop, go, pause}
use Rattle.book.proofs.Compute.{computing}
use Rattle.contract.specs.Seen.{seen, SoundWords}
use Rattle.contract.specs.Posts.{CallPost}
use Rattle.contract.proofs.Checked.{call-refused}
use Rattle.contract.specs.Closed.{performs, rests, asks}
use Rattle.contract.proofs.Closed.{words-demand, same-rests, refused-rests}
use Rattle.formula_steps.specs.Evaluated.{register_stored}
use Rattle.batch.specs.Visits.{visits, visits_all, distinct, row_reads}
use Rattle.batch_calls.specs.Posts.{Fit, InRange, Rearranged, Answered, BatchPost}
use Rattle.batch_calls.proofs.Facts.{as_member}
use Rattle.batch_calls.proofs.Again.{batch_rests}
use Rattle.paths.specs.Call.{refuse as refuse_run}
use Rattle.path_calls.specs.Post.{PathPost}
use Rattle.path_calls.proofs.Rests.{path_rests}
use Rattle.coins.specs.Post.{FareReply, fare_refused, paid, FareBy, FarePost}
use Rattle.coin_calls.proofs.Rests.{fare_rests}
use Rattle.game_calls.specs.Post.{ReactPost}
use Rattle.game_calls.proofs.Checks.{react-stays}
use Rattle.game_calls.proofs.Rests.{react-rests}
use Rattle.logs.specs.Call.{logs_fit}
use Rattle.log_calls.specs.Post.{LogPost}
use Rattle.log_calls.proofs.Checks.{log_stays}
use Rattle.log_calls.proofs.Rests.{log_rests}
use Rattle.witness.proofs.Words.{stored_in, put_header_lem, put_cell_lem}
use Rattle.witness.proofs.Made.{Roomy, every, self, every-done, self-done, empty-done}
use Rattle.witness.proofs.Row.{bit_in, bit_stored, view-bit, bit-done}
use Rattle.witness.proofs.Begun.{session, sound, holds, Stands, fresh-stands, all_one, valid-stands, relation-stands}
use Rattle.witness.proofs.Begun.{stored-stands}
use Rattle.witness.proofs.Told.{value-done, pairs-done, all_pairs, other-arrow, path_told, path_remembers, members-told}
use Rattle.witness.proofs.Told.{remembered_in}
use Rattle.witness.proofs.Larger.{under, bit, node, row, made, fixed, Ready}
use Rattle.witness.proofs.Pressed.{press, priced, Fares, fare_by, short-by, none-by}
use Rattle.witness.proofs.QuietList.{not_bit, broken, turned, opening, with_bit, started, refusals, closing, answers, events}
use Rattle.witness.proofs.QuietList.{related, filled, vacant, rowed, midway, after_run, later, end, blank, two_states, asked, order}
use Rattle.witness.proofs.QuietList.{order', bytes, bytes', spare, spare', single, labels, labels', one_log, two_log, contrary}
use Rattle.witness.proofs.QuietList.{places, three_states, Relates, Turns, Tells, Setting}

-- ---- the question for many states

-- place j of the order after it has the place whose place has j
turned-back : (j : ℕ) → j < 3 → get_or order' (get_or order' j 0) 0 ≡ j
turned-back zero l = refl
turned-back (suc zero) l = refl
turned-back (suc (suc zero)) l = refl
turned-back (suc (suc (suc j))) l = absurd (omega arith)

-- so each of the places 0, 1 and 2 stands there once
rearranged : Rearranged 3 order order'
rearranged = record {
  size = refl;
  each = λ i l. record {
    at = get_or order' i 0;
    below = places i l;
    is = turned-back i l;
    only = λ j h e. sym (turned-back j h) ∙ ap (λ (p : ℕ). get_or order' p 0) e;
  };
  places = places;
  rest = refl;
}
  where
    places : (j : ℕ) → j < 3 → get_or order' j 0 < 3
    places zero l = omega arith
    places (suc zero) l = omega arith
    places (suc (suc zero)) l = omega arith
    places (suc (suc (suc j))) l = absurd (omega arith)

-- each state asked is one of the two
in-range : (n : ℕ) → n ≡ 1 → InRange n 3 asked
in-range n e = rw e (record { register = omega arith; below = below })
  where
    below : (i : ℕ) → i < 3 → get_or asked i 0 < 2
    below zero l = omega arith
    below (suc zero) l = omega arith
    below (suc (suc zero)) l = omega arith
    below (suc (suc (suc i))) l = absurd (omega arith)

-- and the lists are long enough
fit : Fit asked order bytes
fit = record { few = omega arith; order-room = omega arith; answer-room = omega arith }

-- the logs have three entries each
logs_fit_lem : T (logs_fit 6 6)
logs_fit_lem = tt

-- ---- the calls

module _ {N k a c R : ℕ} (x : Setting N k a c R) where
  -- the sizes
  abbrev z : Sizes 1 N k
  z = x.sizes

  -- the account is no limit
  free : {m : ℕ} → m ≡ N → Roomy m R (under a c)
  free e = let l = x.rows in record { place = tt; rows = omega arith; rounds = x.rounds }

  -- fresh
  made-stands : Stands N (made N k)
  made-stands = fresh-stands 1 N k z

  -- valid
  valid-fixed : CallPost (valid every) (made N k) (fixed N k) (plain 0)
  valid-fixed = every-done (made N k) made-stands.sound (subst (λ (b : Book). T (unfilled b)) (sym (holds 1 N k z stop)) tt)

  -- no row is used yet
  fixed-stands : Stands N (fixed N k)
  fixed-stands = valid-stands made-stands valid-fixed

  -- the book then
  abbrev b : Book
  b = book_of (seen (fixed N k))

  -- relation 0
  relation_done : CallPost (relation 0 every) (fixed N k) (related N k) (plain 0)
  relation_done =
      let s = fixed-stands.sound in
      let r : Relates b = subst Relates (sym (holds 1 N k z (go valid-fixed stop))) x.relates in
      pairs-done (fixed N k) s 0 every (omega arith) r.passes 1 nothing r.fits r.needs
      (subst (λ (f : Form). Denotes (2 * b.n) (rows_of (table_of (fixed N k))) 1 (relation_f b.n b.valid f)) r.is
      (all_pairs (fixed N k) s (all_one fixed-stands)))

  -- no row is used yet
  related-stands : Stands N (related N k)
  related-stands = relation-stands fixed-stands 0 2 (omega arith) relation_done

  -- set 0
  set-filled : CallPost (set (under a c) 0 R (self false)) (related N k) (filled N k) (node 1)
  set-filled =
      let s = related-stands in
      self-done (related N k) s.sound 0 (omega arith) false R (under a c) (free s.rows) 1 (all_one s) x.some-round

  -- no row is used yet
  filled-stands : Stands N (filled N k)
  filled-stands = stored-stands related-stands 0 R 1 (omega arith) set-filled

  -- set 1
  set-vacant : CallPost (set (under a c) 1 R (self true)) (filled N k) (vacant N k) (node 0)
  set-vacant =
      let s = filled-stands in
      self-done (filled N k) s.sound 1 (omega arith) true R (under a c) (free s.rows) 1 (all_one s) x.some-round

  -- no row is used yet
  vacant-stands : Stands N (vacant N k)
  vacant-stands = stored-stands filled-stands 1 R 0 (omega arith) set-vacant

  -- the list so far
  to-vacant : Trace (List ℕ) performs rests (made N k) (opening a c R) (vacant N k)
  to-vacant = go valid-fixed (go relation_done (go set-filled (go set-vacant stop)))

  -- set 3, which makes row 0
  set-bit : CallPost (set (under a c) 3 R bit) (vacant N k) (rowed N k) row
  set-bit =
      let s = vacant-stands in
      let r : Ready (book_of (seen (vacant N k))) = subst Ready (sym (holds 1 N k z to-vacant)) x.ready in
      let e : header_of (vacant N k) BITS ≡ 1 = r.bits in
      subst (λ (m : ℕ). CallPost (set (under a c) 3 R bit) (vacant N k) (bit_in m (vacant N k) (bucket N 0 1 0) 3 0) row) s.rows
      (bit-done (vacant N k) s.sound s.used s.valid 0 (omega arith) (under a c) 3 R (bucket N 0 1 0) 1 1 bit (omega arith)
      (free s.rows) (ap (λ (m : ℕ). bucket m 0 1 0) (sym s.rows)) r.passes r.is r.needs r.again)

  -- the list so far
  to_rowed : Trace (List ℕ) performs rests (made N k) (with_bit a c R) (rowed N k)
  to_rowed = go valid-fixed (go relation_done (go set-filled (go set-vacant (go set-bit stop))))

  -- set 4, the same row by its other arrow
  set-turned : CallPost (set (under a c) 4 R not_bit) (rowed N k) (midway N k) turned
  unfolding computing
  set-turned =
      let s = sound 1 N k z to_rowed in
      let t : Turns (under a c) R (book_of (seen (rowed N k))) = subst (Turns (under a c) R) (sym (holds 1 N k z to_rowed)) x.turns in
      let e = (words-demand 1 N (session 1 N k z to_rowed)).current 3 (omega arith) in
      value-done (rowed N k) s (under a c) 4 R not_bit (omega arith) tt t.passes 2 (true ∷ false ∷ [])
      (record { rounds = 0; peak = 1 }) t.is
      (subst (λ (m : ℕ). Denotes (2 * header_of (rowed N k) BITS) (rows_of (table_of (rowed N k))) 2
      (fn_of (header_of (rowed N k) BITS) (compl (2 ^ m) (false ∷ true ∷ [])))) t.bits
      (other-arrow (rowed N k) s 3 3 (false ∷ true ∷ []) (omega arith) e t.held))

  -- the list so far
  pub to-mid : Trace (List ℕ) performs rests (made N k) (started a c R) (midway N k)
  to-mid = go valid-fixed (go relation_done (go set-filled (go set-vacant (go set-bit (go set-turned stop)))))

  -- what the book tells after the list so far, whatever stands in it that stores nothing
  tells_at : {ws : List ℕ} → Trace (List ℕ) performs rests (made N k) (started a c R) ws → Tells N (under a c) R (book_of (seen ws))
  tells_at t = subst (Tells N (under a c) R) (sym (holds 1 N k z t)) x.tells

  -- ANSWERED: the run of two states is written to the list, and a result is remembered in row 0
  pub run-told : PathPost 4 3 0 (midway N k) (after_run N k) blank two_states.list two_states.reply
  run-told =
      let l = z.N_pos in
      let e = (tells_at to-mid).rows in
      path_remembers (midway N k) (sound 1 N k z to-mid) 0 5 (omega arith) 4 3 0 blank two_states (tells_at to-mid).found (λ h. h)

  -- the list so far
  pub to-after : Trace (List ℕ) performs rests (made N k) (started a c R) (after_run N k)
  to-after =
      go valid-fixed (go relation_done (go set-filled (go set-vacant (go set-bit (go set-turned (pause (path_rests run-told) stop))))))

  -- the words are sound
  pub after-sound : SoundWords (after_run N k)
  after-sound = sound 1 N k z to-after

  -- and stand for the same book
  told : Tells N (under a c) R (book_of (seen (after_run N k)))
  told = tells_at to-after

  -- the list so far, and any call more
  pub to-next : {e : Call} {y : Reply} {ws : List ℕ} → CallPost e (after_run N k) ws y
      → Trace (List ℕ) performs rests (made N k) (started a c R ++ ((e, y) ∷ [])) ws
  to-next p =
      go valid-fixed (go relation_done (go set-filled (go set-vacant (go set-bit (go set-turned
      (pause (path_rests run-told) (go p stop)))))))

  -- how the words look: row 0, and registers 3 and 4 that lead to it
  after-seen : view N (after_run N k) ≡ put_cell (register_stored (bit_stored (view N (vacant N k)) 3 0) 4 2) 0 MEMO_VALUE 5
  unfolding remembered_in stored_in
  after-seen =
      let s = vacant-stands in
      let e : words_for (header_of (vacant N k) ROWS) ≤ length (vacant N k) = s.sound.good.sizes.room in
      let i = s.rows in
      let v = view-bit N (bucket N 0 1 0) 3 0 (vacant N k) (omega arith) s.used z.N_pos refl (omega arith) in
      (put_cell_lem (put_header_lem v (FIRST_REGISTER + 4) 3 (omega arith)) 0 MEMO_VALUE 5 z.N_pos (omega arith)).is

  -- V is every state
  after-valid : (seen (after_run N k)).valid ≡ 1
  after-valid =
      let e : header_of (after_run N k) VALID ≡ ALL_STATES = ap (λ (v : View). v.header VALID) after-seen ∙ vacant-stands.valid in
      omega arith

  -- the three states read one row together
  reads : row_reads (2 * (seen (after_run N k)).n) (seen (after_run N k)).rows 3 asked ≡ 1
  unfolding row_reads visits_all visits distinct
  reads =
      ap (λ (n : ℕ). row_reads (2 * n) (seen (after_run N k)).rows 3 asked) told.bits
      ∙ ap (λ (m : ℕ). row_reads 2 (rows_of (view m (after_run N k))) 3 asked) told.rows
      ∙ ap (λ (v : View). row_reads 2 (rows_of v) 3 asked) after-seen

  -- ANSWERED, and no word changes: the three states are told
  three_told : Answered 3 (false ∷ true ∷ []) (after_run N k) asked order order' bytes bytes' (valued 1)
  three_told = record { reply = ap valued (sym reads); told = refl; rest = refl; rearranged = rearranged }

  -- register 3 has its number
  number_three : (seen (after_run N k)).reg 3 ≡ some 3
  number_three = (words-demand 1 N (session 1 N k z to-after)).current 3 (omega arith)

  -- the question's contract
  pub members-asked : BatchPost 3 (after_run N k) asked order order' bytes bytes' (valued 1)
  members-asked = members-told (after_run N k) after-sound fit (in-range _ told.bits) number_three told.held three_told

  -- the first of them asked alone
  pub member-asked : asks (after_run N k) (member 3 1) (after_run N k) (valued 1)
  member-asked = (refl, as_member three_told after-sound (in-range _ told.bits) number_three told.held 0 (omega arith))

  -- REFUSED, and no word changes: no run from no state
  pub no-run : PathPost 1 3 0 (after_run N k) (after_run N k) blank blank (plain 10)
  no-run = path_told (after_run N k) after-sound 1 3 0 blank (refuse_run 10 blank) told.none_left

  -- an empty register
  pub no_register : PathPost 5 3 0 (after_run N k) (after_run N k) blank blank (plain 7)
  no_register = path_told (after_run N k) after-sound 5 3 0 blank (refuse_run 7 blank) told.unfilled-first

  -- the book has a cheapest run
  pub pressed : Fares (book_of (seen (after_run N k)))
  pressed = subst Fares (sym (holds 1 N k z to-after)) x.fares

  -- what the book tells of one is the contract; the work words end as they like
  fare_asked : {r q p : ℕ} {lent left names labels : List ℕ} {y : FareReply}
      → FareBy (book_of (seen (after_run N k))) r q (priced p) spare lent left names labels y
      → ((y.number ≡ 0 → ⊥) → (left ≡ lent) × (labels ≡ names)) → (T (keeps_all y.number) → ⊥)
      → FarePost r q (after_run N k) (priced p) spare spare' lent left names labels y
  fare_asked f kept late = record {
    prices_fit = λ n. absurd (n refl);
    unsound = λ _ n. absurd (n after-sound);
    by-book = λ _ _. f;
    kept = kept;
    size = refl;
    work_kept = λ h. absurd (late h);
    work_past = λ _.
        ap (λ (n : ℕ). drop (2 ^ n) spare') pressed.bits ∙ sym (ap (λ (n : ℕ). drop (2 ^ n) spare) pressed.bits);
  }

  -- ANSWERED, and no word changes: a cheapest run of one press, for p credits
  pub fare_paid : (p : ℕ) → FarePost 4 3 (after_run N k) (priced p) spare spare' blank two_states.list labels labels'
      (paid (priced p) (press ∷ []))
  fare_paid p = fare_asked
      (fare_by (book_of (seen (after_run N k))) pressed p (omega arith) (record { for_states = omega arith; for_steps = omega arith }))
      (λ n. absurd (n refl)) (λ h. h)

  -- REFUSED: no run from no state
  pub fare_none : (p : ℕ) → FarePost 1 3 (after_run N k) (priced p) spare spare' blank blank labels labels (fare_refused 10)
  fare_none p = fare_asked (none-by (book_of (seen (after_run N k))) pressed p (omega arith)) (λ _. (refl, refl)) (λ h. h)

  -- and a place too few
  pub fare_short : (p : ℕ) → FarePost 4 3 (after_run N k) (priced p) spare spare' single single labels labels (fare_refused 11)
  fare_short p = fare_asked
      (short-by (book_of (seen (after_run N k))) pressed p (omega arith) (λ fits. let h = fits.for_states in absurd (omega arith)))
      (λ _. (refl, refl)) (λ h. h)

  -- REFUSED: no game for an empty register
  pub no-goal : ReactPost (under a c) R 5 0 0 0 1 (after_run N k) (after_run N k) (plain 7)
  no-goal = react-stays (under a c) R 5 0 0 0 1 (after_run N k) after-sound told.no-goal

  -- and no answer where the goal has no state
  pub no_answer : ReactPost (under a c) R 1 0 0 0 1 (after_run N k) (after_run N k) (plain 15)
  no_answer = react-stays (under a c) R 1 0 0 0 1 (after_run N k) after-sound told.no_answer

  -- ANSWERED, and no word changes: a run that fits two logs
  pub logs-told : LogPost 0 one_log two_log (after_run N k) (after_run N k) places three_states.list three_states.reply
  logs-told = log_stays 0 one_log two_log (after_run N k) places logs_fit_lem after-sound told.fitting

  -- REFUSED: two logs that differ
  pub logs-differ : LogPost 0 one_log contrary (after_run N k) (after_run N k) [] [] (plain 10)
  logs-differ = log_stays 0 one_log contrary (after_run N k) [] logs_fit_lem after-sound told.differing

  -- bytes that are no formula
  pub not-read : CallPost (set (under a c) 5 R broken) (after_run N k) (after_run N k) (plain 4)
  not-read = call-refused (after_run N k) after-sound 3 (set (under a c) 5 R broken) told.unread

  -- a register number out of range
  pub not_there : CallPost (clear 32) (after_run N k) (after_run N k) (plain 3)
  not_there = call-refused (after_run N k) after-sound 2 (clear 32) refl

  -- ---- and further

  -- set 2
  set-later : CallPost (set (under a c) 2 R (self false)) (after_run N k) (later N k) (node 1)
  set-later = self-done (after_run N k) after-sound 2 (omega arith) false R (under a c) (free told.rows) 1 after-valid x.some-round

  -- the words are sound
  later-sound : SoundWords (later N k)
  later-sound = (set-later.performs.served after-sound).0

  -- clear 1
  cleared : CallPost (clear 1) (later N k) (end N k) (plain 0)
  cleared = empty-done (later N k) later-sound 1 (omega arith)

  -- both
  further : Trace (List ℕ) performs rests (after_run N k) (closing a c R) (end N k)
  further = go set-later (go cleared stop)

  -- ---- the lists

  -- the questions, the refused searches, the cheapest run, the refused games and the logs before other calls
  quiet : {l : List Event} {ws : List ℕ} → Trace (List ℕ) performs rests (after_run N k) l ws
      → Trace (List ℕ) performs rests (after_run N k) l ws
  quiet t =
      pause (batch_rests members-asked)
      (pause (same-rests member-asked.0)
      (pause (path_rests no-run)
      (pause (path_rests no_register)
      (pause (fare_rests (fare_paid 11))
      (pause (fare_rests (fare_none 11))
      (pause (react-rests no-goal)
      (pause (react-rests no_answer) (pause (log_rests logs-told) (pause (log_rests logs-differ) t)))))))))

  -- from the search for a run on, with the refused calls as events
  from_refusals : Trace (List ℕ) performs rests (midway N k) (refusals a c R ++ closing a c R) (end N k)
  from_refusals = pause (path_rests run-told) (quiet (go not-read (go not_there further)))

  -- and without them: a refused call that keeps all words stores nothing
  pub from-after : Trace (List ℕ) performs rests (after_run N k) (closing a c R) (end N k)
  from-after =
      quiet (pause (refused-rests not-read (λ e. absurd (omega arith)))
      (pause (refused-rests not_there (λ e. absurd (omega arith))) further))

  -- and from the search on
  pub from-mid : Trace (List ℕ) performs rests (midway N k) (closing a c R) (end N k)
  from-mid = pause (path_rests run-told) from-after

  -- the whole list
  pub played : Trace (List ℕ) performs rests (made N k) (events a c R) (end N k)
  played = go valid-fixed (go relation_done (go set-filled (go set-vacant (go set-bit (go set-turned from_refusals)))))

  -- and without the refused calls
  pub replayed : Trace (List ℕ) performs rests (made N k) (answers a c R) (end N k)
  replayed = go valid-fixed (go relation_done (go set-filled (go set-vacant (go set-bit (go set-turned from-mid)))))
