-- A LIST THAT MAKES ROWS AND MEETS 8, under the predicates of the functions' `ensures` as in Played: two bits and one row.
-- A set makes the row, a second one is refused with 8, collect keeps the row until its register is cleared, and then the second set is
-- answered. Assumes nothing.
use mathlib.Core.Path.{◌≡◌, refl, sym, ap, ◌∙◌, subst}
use mathlib.Core.Bool.{true, false}
use mathlib.Core.Logic.{by_cases}
use mathlib.Core.List.{List, [], ◌∷◌}
use mathlib.Core.Option.{none, some}
use Prim.Native.Nat.{ℕ, suc, ◌+◌, ◌*◌, ◌<◌, ◌≤◌}
use native.Mathlib.Omega.{arith}
use native.Mathlib.Decide.{ℕ_discrete}
use lib.ListN.{length, set as write}
use borrow.Author.Tests.{eq-eqb, ne_eqb}
use Rattle.accounts.specs.Terms.{alone}
use Rattle.mucalculus.specs.Form.{now}
use Rattle.tokens.specs.declared.Kind.TheVariants.{Set}
use Rattle.layout.specs.Places.{REGISTERS, BITS, ROWS, USED, CURSOR, VALID, ALL_STATES, FIRST_REGISTER, ROOTS_END, words_for}
use Rattle.layout.specs.View.{View, view, header_of}
use Rattle.layout.proofs.View.{view-header}
use Rattle.diagram.specs.Need.{step_need}
use Rattle.diagram.specs.Rows.{target}
use Rattle.diagram.specs.Reach.{Reach, root}
use Rattle.diagram.specs.Steps.{bit_f}
use Rattle.rows.specs.Used.{Sizes, used, rows_of}
use Rattle.rows.proofs.Used.{used_in}
use Rattle.rows.proofs.Index.{bucket-lt}
use Rattle.rows.specs.Sound.{table_of}
use Rattle.rows.specs.Filled.{filled}
use Rattle.rows.proofs.Filled.{filled-mem}
use Rattle.book.specs.Book.{Book, Call, set, clear, collect, live_of, checks, formula_in, does, refuse}
use Rattle.book.specs.BookOf.{book_of}
use Rattle.book.proofs.Compute.{computing}
use Rattle.book.proofs.Listed.{frame}
use Rattle.book.specs.Table.{Reply}
use Rattle.book.specs.Leaves.{plain, valued}
use Rattle.book.specs.Demand.{Event, book_after, Trace, stop, go, Session, Demand}
use Rattle.contract.specs.Seen.{seen, SoundWords}
use Rattle.contract.specs.Posts.{CallPost}
use Rattle.contract.proofs.Checked.{call-refused}
use Rattle.contract.specs.Closed.{makes, performs, rests, asks}
use Rattle.contract.proofs.Closed.{words-demand}
use Rattle.witness.proofs.Words.{Viewed, fresh_of, fresh-zero, fresh-valid}
use Rattle.witness.proofs.Made.{alone_roomy, collected_done, empty-done}
use Rattle.witness.proofs.Begun.{session, sound as sound-after, holds as Holds-after}
use Rattle.witness.proofs.Row.{bit_in, freed_in, bit_stored, view-bit, view-freed, bit-done, freed-done}

-- ---- the list: n = 2, N = 1

-- 10 and 11: bits 0 and 1
abbrev bit : ℕ → List ℕ
bit p = frame ((0x10 + p) ∷ [])

abbrev first : Call
first = set alone 0 100 (bit 0)

abbrev second : Call
second = set alone 1 100 (bit 1)

-- a set that is answered with the table's row, without rounds and with the peak 1
abbrev node : Reply
node = record { number = 0; rounds = 0; peak = 1; value = 3 }

abbrev pub events : List Event
events =
    (first, node)
    ∷ (second, plain 8)
    ∷ (collect, valued 1)
    ∷ (clear 0, plain 0)
    ∷ (collect, valued 0)
    ∷ (second, node) ∷ []

-- ---- the words: the fewest for one row, and what fresh, set 0, clear 0, the second collect and the last set leave of them

abbrev made : List ℕ
made = fresh_of 2 1 268

abbrev once : List ℕ
once = bit_in 1 made 0 0 0

abbrev cleared : List ℕ
cleared = write once (FIRST_REGISTER + 0) 0

abbrev freed : List ℕ
freed = freed_in 1 cleared

abbrev pub end : List ℕ
end = bit_in 1 freed 0 1 1

-- ---- a list from fresh on

sizes : Sizes 2 1 268
sizes = record { n_pos = omega arith; n_max = omega arith; N_pos = omega arith; N-max = omega arith; room = omega arith }

module _ {l : List Event} {ws : List ℕ} (t : Trace (List ℕ) performs rests made l ws) where
  abbrev sound : SoundWords ws
  sound = sound-after 2 1 268 sizes t

  abbrev holds : book_of (seen ws) ≡ book_after 2 1 l
  holds = Holds-after 2 1 268 sizes t

  -- n and N are as fresh got them
  module _ (n : (book_after 2 1 l).n ≡ 2) (N : (book_after 2 1 l).N ≡ 1) where
    two : header_of ws BITS ≡ 2
    two = ap (λ (b : Book). b.n) holds ∙ n

    one : header_of ws ROWS ≡ 1
    one = ap (λ (b : Book). b.N) holds ∙ N

    room : words_for 1 ≤ length ws
    room = subst (λ (k : ℕ). words_for k ≤ length ws) one sound.good.sizes.room

    -- a set that makes the row, in the one bucket that there is
    module _ (none : header_of ws USED ≡ 0) (every : header_of ws VALID ≡ ALL_STATES) (r p : ℕ) (i : r < REGISTERS) where
      bit-seen : Viewed 1 (bit_in 1 ws 0 r p) (bit_stored (view 1 ws) r p)
      bit-seen = view-bit 1 0 r p ws room none (omega arith) (let h = bucket-lt 1 (2 * p) 1 0 (omega arith) in omega arith) i

      bit-set : p < 2 → checks (book_after 2 1 l) Set (bit p) ≡ 0 → now p ≡ formula_in (book_after 2 1 l) Set (bit p)
          → 1 ≡ step_need (2 * (book_after 2 1 l).n) (live_of (book_after 2 1 l)) (bit_f (2 * p))
          → 1 ≡ step_need (2 * (book_after 2 1 l).n) (bit_f (2 * p) ∷ live_of (book_after 2 1 l)) (bit_f (2 * p))
          → CallPost (set alone r 100 (bit p)) ws (bit_in 1 ws 0 r p) node
      bit-set j passes is needs again =
          let e = two in
          let o = one in
          let h = bucket-lt (header_of ws ROWS) (2 * p) 1 0 (omega arith) in
          subst (λ (k : ℕ). CallPost (set alone r 100 (bit p)) ws (bit_in k ws 0 r p) node) one
          (bit-done ws sound none every p (omega arith) alone r 100 0 1 1 (bit p) i
          (alone_roomy (header_of ws ROWS) 100 (omega arith) (omega arith)) (omega arith)
          (subst (λ (b : Book). checks b Set (bit p) ≡ 0) (sym holds) passes)
          (subst (λ (b : Book). now p ≡ formula_in b Set (bit p)) (sym holds) is)
          (subst (λ (b : Book). 1 ≡ step_need (2 * b.n) (live_of b) (bit_f (2 * p))) (sym holds) needs)
          (subst (λ (b : Book). 1 ≡ step_need (2 * b.n) (bit_f (2 * p) ∷ live_of b) (bit_f (2 * p))) (sym holds) again))

-- ---- up to the 8

none_made : header_of made USED ≡ 0
none_made = fresh-zero 2 1 268 USED (omega arith) (omega arith) (omega arith) (omega arith) (omega arith) (omega arith)

every_made : header_of made VALID ≡ ALL_STATES
every_made = fresh-valid 2 1 268 (omega arith)

set_first : CallPost first made once node
unfolding computing
set_first = bit-set stop refl refl none_made every_made 0 0 (omega arith) (omega arith) refl refl refl refl

to-once : Trace (List ℕ) performs rests made ((first, node) ∷ []) once
to-once = go set_first stop

-- a second set needs a second row
set-refused : CallPost second once once (plain 8)
unfolding computing
set-refused = call-refused once (sound to-once) 7 second (subst (λ (b : Book). does b second ≡ refuse b 8) (sym (holds to-once)) refl)

-- ---- the collections

-- the header after the first set
header-once : (h : ℕ) → header_of once h ≡ (bit_stored (view 1 made) 0 0).header h
unfolding computing
header-once h = ap (λ (v : View). v.header h) (bit-seen stop refl refl none_made every_made 0 0 (omega arith)).is

-- the table's one row is the one that register 0 leads to; V has none
collect-first : CallPost collect once once (valued 1)
unfolding computing
collect-first = collected_done once (sound to-once) needed 1 (header-once USED ∙ ap (λ (k : ℕ). k + 1) none_made)
  where
    needed : (i : ℕ) → used (table_of once) i ≡ true → Reach (rows_of (table_of once)) (filled (table_of once)) i
    needed i u =
        let o = one to-once refl refl in
        let l = (used_in _ _ _ _ i u).row in
        let e : target 3 ≡ suc i = omega arith in
        root (filled-mem (table_of once) 3
        (record { at = FIRST_REGISTER; from = omega arith; below = omega arith; holds = header-once FIRST_REGISTER })) e

clear_first : CallPost (clear 0) once cleared (plain 0)
clear_first = empty-done once (sound to-once) 0 (omega arith)

to-cleared : Trace (List ℕ) performs rests made ((first, node) ∷ (clear 0, plain 0) ∷ []) cleared
to-cleared = go set_first (go clear_first stop)

-- every register and relation is empty
bare : (h : ℕ) → FIRST_REGISTER ≤ h → h < ROOTS_END → header_of cleared h ≡ 0
unfolding computing
bare h a l =
    ap (λ (v : View). v.header h) (view-header 1 once (room to-once refl refl) FIRST_REGISTER 0 (omega arith))
    ∙ by_cases (ℕ_discrete h FIRST_REGISTER) (λ e. rw (eq-eqb h FIRST_REGISTER e))
    (λ n. rw (ne_eqb h FIRST_REGISTER n)
    (header-once h ∙ rw (ne_eqb h FIRST_REGISTER n, ne_eqb h USED (omega arith), ne_eqb h CURSOR (omega arith))
    (fresh-zero 2 1 268 h (omega arith) (omega arith) (omega arith) (omega arith) (omega arith) (omega arith))))

-- V is every state, as fresh left it
every-cleared : header_of cleared VALID ≡ ALL_STATES
unfolding computing
every-cleared =
    ap (λ (v : View). v.header VALID) (view-header 1 once (room to-once refl refl) FIRST_REGISTER 0 (omega arith)) ∙ header-once VALID
    ∙ every_made

collect-second : CallPost collect cleared freed (valued 0)
unfolding computing
collect-second =
    subst (λ (k : ℕ). CallPost collect cleared (freed_in k cleared) (valued 0)) (one to-cleared refl refl)
    (freed-done cleared (sound to-cleared) every-cleared bare)

none-freed : header_of freed USED ≡ 0
unfolding computing
none-freed = ap (λ (v : View). v.header USED) (view-freed 1 cleared (room to-cleared refl refl) (omega arith)).is

every-freed : header_of freed VALID ≡ ALL_STATES
unfolding computing
every-freed = ap (λ (v : View). v.header VALID) (view-freed 1 cleared (room to-cleared refl refl) (omega arith)).is ∙ every-cleared

-- ---- the row is free again

to-freed : Trace (List ℕ) performs rests made ((first, node) ∷ (clear 0, plain 0) ∷ (collect, valued 0) ∷ []) freed
to-freed = go set_first (go clear_first (go collect-second stop))

set-second : CallPost second freed end node
unfolding computing
set-second = bit-set to-freed refl refl none-freed every-freed 1 1 (omega arith) (omega arith) refl refl refl refl

-- ---- the whole list under the calls' contracts, and what the closed list theorem says of it

pub played : Session (List ℕ) makes performs rests 2 1 events end
played = session 2 1 268 sizes (go set_first (go set-refused (go collect-first (go clear_first (go collect-second (go set-second stop))))))

pub shown : Demand SoundWords seen asks 2 1 events end
shown = words-demand 2 1 played

-- register 0 is empty, and register 1 holds the states with bit 1
pub left : ((book_of (seen end)).reg 0 ≡ none) × ((book_of (seen end)).reg 1 ≡ some (false ∷ false ∷ true ∷ true ∷ []))
unfolding computing
left = let e = shown.holds in (ap (λ (b : Book). b.reg 0) e, ap (λ (b : Book). b.reg 1) e)
