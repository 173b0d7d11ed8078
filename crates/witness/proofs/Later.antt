-- A SECOND FRESH on the words and the accounts that the lists of Quiet left, and a list after it with a refused search among its calls: the
-- third demand and "Bigger tables, same verdicts" hold of it again. Assumes nothing.
use mathlib.Core.Path.{◌≡◌, refl, ap, ◌∙◌}
use mathlib.Core.Bool.{false}
use mathlib.Core.List.{List, [], ◌∷◌}
use Prim.Native.Nat.{ℕ, ◌+◌, ◌≤◌, ◌<◌}
use native.Mathlib.Omega.{arith}
use lib.ListN.{length, set as write}
use Rattle.layout.specs.Places.{ROWS, FIRST_REGISTER, FIRST_RELATION, words_for}
use Rattle.layout.specs.View.{View, header_of}
use Rattle.rows.specs.Used.{Sizes}
use Rattle.book.specs.Book.{Book, set, clear}
use Rattle.book.specs.Leaves.{plain}
use Rattle.book.specs.Demand.{Event, Trace, stop, go, pause, Demand}
use Rattle.book.specs.Raised.{same-clear}
use Rattle.book.proofs.Compute.{computing}
use Rattle.contract.specs.Seen.{seen, SoundWords}
use Rattle.contract.specs.Posts.{CallPost}
use Rattle.contract.specs.Closed.{performs, rests, asks}
use Rattle.contract.proofs.Closed.{words-demand}
use Rattle.contract.specs.Shared.{SharedSession}
use Rattle.contract.proofs.Shared.{shared-demand}
use Rattle.contract.specs.Bigger.{SharedUpgrade, SharedVerdicts}
use Rattle.contract.proofs.Bigger.{shared-later}
use Rattle.path_calls.specs.Post.{PathPost}
use Rattle.path_calls.proofs.Checks.{path_third}
use Rattle.path_calls.proofs.Rests.{path_rests}
use Rattle.witness.proofs.Words.{stored_in, view-stored}
use Rattle.witness.proofs.Made.{self, self-done, empty-done}
use Rattle.witness.proofs.Begun.{all_one}
use Rattle.witness.proofs.Anew.{fresh_in, fresh_anew, session_anew, anew_zero, anew_stands}
use Rattle.witness.proofs.Larger.{lender, under, node, both, with_accounts}
use Rattle.witness.proofs.QuietList.{closing, end, blank}
use Rattle.witness.proofs.Quiet.{smaller, larger, first, second, loose, set_again, again_started, again_closing, zero-started}

-- ---- the list, n = 2

-- a set, a search that is refused, for relation 0 is empty again, and a clear
abbrev pub anew : ℕ → ℕ → ℕ → List Event
anew a c R = (set (under a c) 0 R (self false), node 1) ∷ (clear 0, plain 0) ∷ []

-- the words after the set, from the words ws and with P rows
abbrev held_anew : ℕ → List ℕ → List ℕ
held_anew P ws = stored_in (fresh_in 2 P ws) 0 1

-- and after the clear
abbrev pub end_anew : ℕ → List ℕ → List ℕ
end_anew P ws = write (held_anew P ws) (FIRST_REGISTER + 0) 0

module _ (P a c R : ℕ) (ws : List ℕ) (z : Sizes 2 P (length ws)) (rows : P ≤ a) (rounds : R ≤ c) (some-round : 0 < R) where
  -- the set
  set_anew : CallPost (set (under a c) 0 R (self false)) (fresh_in 2 P ws) (held_anew P ws) (node 1)
  set_anew =
      let s = anew_stands 2 P ws z in
      self-done (fresh_in 2 P ws) s.sound 0 (omega arith) false R (under a c)
      (let e = s.rows in record { place = tt; rows = omega arith; rounds = rounds }) 1 (all_one s) some-round

  -- the words are sound
  held-sound : SoundWords (held_anew P ws)
  held-sound = (set_anew.performs.served (anew_stands 2 P ws z).sound).0

  -- relation 0 is empty again
  no-relation : header_of (held_anew P ws) (FIRST_RELATION + 0) ≡ 0
  no-relation =
      let s = anew_stands 2 P ws z in
      ap (λ (v : View). v.header (FIRST_RELATION + 0))
      (view-stored (header_of (fresh_in 2 P ws) ROWS) 0 1 (fresh_in 2 P ws) s.sound.good.sizes.room (omega arith))
      ∙ anew_zero 2 P ws z (FIRST_RELATION + 0) (omega arith) (omega arith) (omega arith) (omega arith) (omega arith)

  -- so the search is refused with 7
  pub refused_anew : PathPost 0 0 0 (held_anew P ws) (held_anew P ws) blank blank (plain 7)
  refused_anew = path_third 0 0 0 (held_anew P ws) blank held-sound (omega arith, omega arith, omega arith) refl no-relation

  -- the list
  pub played_anew : Trace (List ℕ) performs rests (fresh_in 2 P ws) (anew a c R) (end_anew P ws)
  played_anew = go set_anew (pause (path_rests refused_anew) (go (empty-done (held_anew P ws) held-sound 0 (omega arith)) stop))

-- ---- on the words and the accounts that the list of Quiet left

-- the words have room for one row
room_small : Sizes 2 1 (length (end 2 280))
unfolding computing
room_small =
    let d = shared-demand 1 2 first in
    let r : words_for (header_of (end 2 280) ROWS) ≤ length (end 2 280) = d.good.good.sizes.room in
    let e : header_of (end 2 280) ROWS ≡ 2 = ap (λ (b : Book). b.N) d.holds in
    record { n_pos = omega arith; n_max = omega arith; N_pos = omega arith; N-max = omega arith; room = omega arith }

-- and those of the larger table for two
room_large : Sizes 2 2 (length (end 3 300))
unfolding computing second
room_large =
    let d = shared-demand 1 3 (record {
      lent = second.lent;
      made = second.made;
      reply = second.reply;
      start = second.start;
      answered = refl;
      rest = second.rest;
    }) in
    let r : words_for (header_of (end 3 300) ROWS) ≤ length (end 3 300) = d.good.good.sizes.room in
    let e : header_of (end 3 300) ROWS ≡ 3 = ap (λ (b : Book). b.N) d.holds in
    record { n_pos = omega arith; n_max = omega arith; N_pos = omega arith; N-max = omega arith; room = omega arith }

-- the list after the second fresh, on the smaller table
trace_small : Trace (List ℕ) performs rests (fresh_in 2 1 (end 2 280)) (anew 2 1 1) (end_anew 1 (end 2 280))
trace_small = played_anew 1 2 1 1 (end 2 280) room_small (omega arith) (omega arith) (omega arith)

-- and on the larger one
trace_large : Trace (List ℕ) performs rests (fresh_in 2 2 (end 3 300)) (anew 5 7 3) (end_anew 2 (end 3 300))
trace_large = played_anew 2 5 7 3 (end 3 300) room_large (omega arith) (omega arith) (omega arith)

-- the third demand again
pub shown_anew : Demand SoundWords seen asks 2 1 (anew 2 1 1) (end_anew 1 (end 2 280))
shown_anew = words-demand 2 1 (session_anew 2 1 (end 2 280) room_small trace_small)

-- the accounts are lent as the first lists left them, with three rounds each
pub third : SharedSession 2 1 (anew 2 1 1) (both (end_anew 1 (end 2 280)) (lender 2 1 1))
third = record {
  lent = smaller;
  made = both (fresh_in 2 1 (end 2 280)) (lender 2 1 0);
  reply = plain 0;
  start = record { table = fresh_anew 2 1 (end 2 280) room_small; list = refl };
  answered = refl;
  rest = with_accounts (lender 2 1 0) trace_small (refl, (tt, tt));
}

-- the same on the larger table
pub fourth : SharedUpgrade 2 2 (anew 5 7 3) (both (end_anew 2 (end 3 300)) (lender 5 7 1))
fourth = record {
  lent = larger;
  enough = room_large.room;
  made = both (fresh_in 2 2 (end 3 300)) (lender 5 7 0);
  reply = plain 0;
  start = record { table = fresh_anew 2 2 (end 3 300) room_large; list = refl };
  rest = with_accounts (lender 5 7 0) trace_large (refl, (tt, tt));
}

-- BIGGER TABLES, SAME VERDICTS after the second fresh
pub later : SharedVerdicts 2 1 2 1 (plain 0) (anew 2 1 1) (anew 5 7 3) (both (end_anew 1 (end 2 280)) (lender 2 1 1))
    (both (end_anew 2 (end 3 300)) (lender 5 7 1))
unfolding first second third fourth
later = shared-later 1 2 3 (omega arith) (omega arith) first second loose
    (again_started (closing 2 1 1) (closing 5 7 3) again_closing) (zero-started (closing 2 1 1) (refl, (refl, tt)))
    2 1 2 (omega arith) (omega arith) third fourth refl refl
    (set_again 0 (self false), (same-clear 0, tt)) (refl, (refl, tt))
