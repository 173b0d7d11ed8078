-- A LIST WITH CALLS THAT STORE NOTHING: its events, the words after each of them, the lists that are lent, and what is computed of the book
-- that it leads to. Assumes nothing.
use mathlib.Core.Path.{◌≡◌, refl}
use mathlib.Core.Bool.{true, false}
use mathlib.Core.List.{List, [], ◌∷◌, ◌++◌}
use mathlib.Core.Option.{some}
use Prim.Native.Nat.{ℕ, ◌+◌, ◌≤◌, ◌<◌}
use native.Mathlib.Omega.{arith}
use lib.ListN.{set as write}
use Rattle.accounts.specs.declared.Terms.{Terms}
use Rattle.accounts.specs.Terms.{rows_under, rounds_under}
use Rattle.accounts.specs.Count.{nothing}
use Rattle.mucalculus.specs.Sets.{bit_lists}
use Rattle.mucalculus.specs.Form.{top, no_env}
use Rattle.tokens.specs.declared.Kind.TheVariants.{Relation, Set}
use Rattle.layout.specs.Places.{FIRST_REGISTER, FIRST_RELATION}
use Rattle.rows.specs.Used.{Sizes}
use Rattle.rows.specs.Index.{bucket}
use Rattle.book.specs.Over.{states}
use Rattle.book.specs.Book.{Book, relation, set, valid, clear, model_of, live_of, checks, formula_in, does, refuse}
use Rattle.book.specs.Run.{value, run, relation_fits, relation_count}
use Rattle.book.specs.Table.{Reply}
use Rattle.book.specs.Leaves.{plain, valued}
use Rattle.book.specs.Demand.{Event, book_after}
use Rattle.book.proofs.Compute.{computing}
use Rattle.book.proofs.Listed.{frame}
use Rattle.paths.specs.Call.{Ended, refuse as refuse_run, shortest}
use Rattle.games.specs.Call.{reacts}
use Rattle.logs.specs.Call.{logged}
use Rattle.witness.proofs.Words.{stored_in}
use Rattle.witness.proofs.Made.{every, self}
use Rattle.witness.proofs.Row.{bit_in}
use Rattle.witness.proofs.Told.{remembered_in}
use Rattle.witness.proofs.Larger.{under, bit, node, row, fixed, Ready}
use Rattle.witness.proofs.Pressed.{Fares}

-- ---- the list, n = 1: under the one account, with limits a and c, and R rounds

-- 02 10: NOT bit 0
abbrev pub not_bit : List ℕ
not_bit = frame (0x02 ∷ 0x10 ∷ [])

-- 02: NOT of nothing, which is no formula
abbrev pub broken : List ℕ
broken = frame (0x02 ∷ [])

-- the row that the set of bit 0 made, by its other arrow
abbrev pub turned : Reply
turned = record { number = 0; rounds = 0; peak = 1; value = 2 }

-- all pairs, then all states in register 0, none in 1
abbrev pub opening : ℕ → ℕ → ℕ → List Event
opening a c R =
    (valid every, plain 0)
    ∷ (relation 0 every, plain 0)
    ∷ (set (under a c) 0 R (self false), node 1)
    ∷ (set (under a c) 1 R (self true), node 0) ∷ []

-- then state 1 in register 3
abbrev pub with_bit : ℕ → ℕ → ℕ → List Event
with_bit a c R = opening a c R ++ ((set (under a c) 3 R bit, row) ∷ [])

-- and state 0 in register 4: here stand the calls that store nothing
abbrev pub started : ℕ → ℕ → ℕ → List Event
started a c R = opening a c R ++ ((set (under a c) 3 R bit, row) ∷ (set (under a c) 4 R not_bit, turned) ∷ [])

-- refused: bytes that are no formula, and a register number out of range
abbrev pub refusals : ℕ → ℕ → ℕ → List Event
refusals a c R = (set (under a c) 5 R broken, plain 4) ∷ (clear 32, plain 3) ∷ []

-- then all states in register 2, and register 1 is emptied
abbrev pub closing : ℕ → ℕ → ℕ → List Event
closing a c R = (set (under a c) 2 R (self false), node 1) ∷ (clear 1, plain 0) ∷ []

-- what was answered
abbrev pub answers : ℕ → ℕ → ℕ → List Event
answers a c R = started a c R ++ closing a c R

-- and with the refusals
abbrev pub events : ℕ → ℕ → ℕ → List Event
events a c R = started a c R ++ (refusals a c R ++ closing a c R)

-- ---- over a table of N rows in k words

-- the words after relation 0
abbrev pub related : ℕ → ℕ → List ℕ
related N k = write (fixed N k) (FIRST_RELATION + 0) 2

-- after set 0
abbrev pub filled : ℕ → ℕ → List ℕ
filled N k = stored_in (related N k) 0 1

-- after set 1
abbrev pub vacant : ℕ → ℕ → List ℕ
vacant N k = stored_in (filled N k) 1 0

-- after set 3, which makes row 0
abbrev pub rowed : ℕ → ℕ → List ℕ
rowed N k = bit_in N (vacant N k) (bucket N 0 1 0) 3 0

-- after set 4, which leads to row 0 too
abbrev pub midway : ℕ → ℕ → List ℕ
midway N k = stored_in (rowed N k) 4 2

-- after the search for a run, which remembers a result in row 0
abbrev pub after_run : ℕ → ℕ → List ℕ
after_run N k = remembered_in (midway N k) 0 5

-- after set 2
abbrev pub later : ℕ → ℕ → List ℕ
later N k = stored_in (after_run N k) 2 1

-- after clear 1
abbrev pub end : ℕ → ℕ → List ℕ
end N k = write (later N k) (FIRST_REGISTER + 1) 0

-- ---- the calls that store nothing: the lists that are lent, and what they tell

-- the list for a run
abbrev pub blank : List ℕ
blank = 7 ∷ 7 ∷ 7 ∷ []

-- from register 4 into 3 over relation 0: states 0 and 1 are written, and the last place is not
abbrev pub two_states : Ended
two_states = record { reply = valued 2; list = 0 ∷ 1 ∷ 7 ∷ [] }

-- the states that are asked of register 3
abbrev pub asked : List ℕ
asked = 1 ∷ 0 ∷ 1 ∷ []

-- the order before
abbrev pub order : List ℕ
order = 9 ∷ 9 ∷ 9 ∷ 9 ∷ []

-- and after: the place of state 0 first
abbrev pub order' : List ℕ
order' = 1 ∷ 0 ∷ 2 ∷ 9 ∷ []

-- the answers before
abbrev pub bytes : List ℕ
bytes = 5 ∷ 5 ∷ 5 ∷ 5 ∷ []

-- and after
abbrev pub bytes' : List ℕ
bytes' = 1 ∷ 0 ∷ 1 ∷ 5 ∷ []

-- the work words for a cheapest run, one more than there are states, before
abbrev pub spare : List ℕ
spare = 5 ∷ 6 ∷ 8 ∷ []

-- and after: the contents of the first two are free
abbrev pub spare' : List ℕ
spare' = 4 ∷ 4 ∷ 8 ∷ []

-- a list with a place for one state
abbrev pub single : List ℕ
single = 7 ∷ []

-- the list for its relations, before
abbrev pub labels : List ℕ
labels = 9 ∷ 9 ∷ []

-- and after: relation 0 is written, and the last place is not
abbrev pub labels' : List ℕ
labels' = 0 ∷ 9 ∷ []

-- two logs of three moments, a mask and a value for each: one unit saw bit 0 on at the first moment
abbrev pub one_log : List ℕ
one_log = 1 ∷ 1 ∷ 0 ∷ 0 ∷ 0 ∷ 0 ∷ []

-- the other at the last
abbrev pub two_log : List ℕ
two_log = 0 ∷ 0 ∷ 0 ∷ 0 ∷ 1 ∷ 1 ∷ []

-- and one that it was off at the first
abbrev pub contrary : List ℕ
contrary = 1 ∷ 0 ∷ 0 ∷ 0 ∷ 0 ∷ 0 ∷ []

-- the list for a run that fits two of them
abbrev pub places : List ℕ
places = 7 ∷ 7 ∷ 7 ∷ 7 ∷ []

-- states 1, 0 and 1 are written, 0 being the least that is possible there, and the last place is not
abbrev pub three_states : Ended
three_states = record { reply = plain 0; list = 1 ∷ 0 ∷ 1 ∷ 7 ∷ [] }

-- ---- what is computed of the book

-- the relation of all pairs: its three steps within V fit, and need no row
pub record Relates (b : Book) : Type 0 where
  pub passes : checks b Relation every ≡ 0
  pub is : top ≡ formula_in b Relation every
  pub fits : relation_fits b.n b.N (live_of b) b.valid (formula_in b Relation every) ≡ true
  pub needs : nothing ≡ relation_count b.n (live_of b) b.valid (formula_in b Relation every) nothing

-- the set of NOT bit 0 takes four steps, and needs one row
pub record Turns (acc : Terms) (R : ℕ) (b : Book) : Type 0 where
  pub bits : b.n ≡ 1
  pub held : b.reg 3 ≡ some (false ∷ true ∷ [])
  pub passes : checks b Set not_bit ≡ 0
  pub is : run (states (model_of b) no_env) (rows_under b.N acc) (rounds_under R acc) (live_of b) (formula_in b Set not_bit) nothing
      ≡ value (true ∷ false ∷ []) (record { rounds = 0; peak = 1 })

-- the calls that store nothing: a run of two states, none from register 1, which has no state, and 7 from register 5, which is empty; a
-- set that is refused; answers to the press 1 in state 0, of games whose goals are those registers; a run of three states that fits two
-- logs, and 10 where they differ, with no place in the list
pub record Tells (N : ℕ) (acc : Terms) (R : ℕ) (b : Book) : Type 0 where
  pub bits : b.n ≡ 1
  pub rows : b.N ≡ N
  pub held : b.reg 3 ≡ some (false ∷ true ∷ [])
  pub found : shortest b 4 3 0 blank ≡ two_states
  pub none_left : shortest b 1 3 0 blank ≡ refuse_run 10 blank
  pub unfilled-first : shortest b 5 3 0 blank ≡ refuse_run 7 blank
  pub unread : does b (set acc 5 R broken) ≡ refuse b 4
  pub no-goal : reacts b 5 0 0 acc R 0 1 ≡ plain 7
  pub no_answer : reacts b 1 0 0 acc R 0 1 ≡ plain 15
  pub fitting : logged b 0 one_log two_log places ≡ three_states
  pub differing : logged b 0 one_log contrary [] ≡ refuse_run 10 []

-- the table's sizes, limits that are no limits here, and all that is computed
pub record Setting (N k a c R : ℕ) : Type 0 where
  pub sizes : Sizes 1 N k
  pub rows : N ≤ a
  pub rounds : R ≤ c
  pub some-round : 0 < R
  pub relates : Relates (book_after 1 N ((valid every, plain 0) ∷ []))
  pub ready : Ready (book_after 1 N (opening a c R))
  pub turns : Turns (under a c) R (book_after 1 N (with_bit a c R))
  pub tells : Tells N (under a c) R (book_after 1 N (started a c R))
  pub fares : Fares (book_after 1 N (started a c R))

-- two rows, one round at most, and the account's limits 2 and 1
pub small : Setting 2 280 2 1 1
unfolding computing bit_lists
small = record {
  sizes = record { n_pos = omega arith; n_max = omega arith; N_pos = omega arith; N-max = omega arith; room = omega arith };
  rows = omega arith;
  rounds = omega arith;
  some-round = omega arith;
  relates = record { passes = refl; is = refl; fits = refl; needs = refl };
  ready = record { bits = refl; passes = refl; is = refl; needs = refl; again = refl };
  turns = record { bits = refl; held = refl; passes = refl; is = refl };
  tells = record {
    bits = refl;
    rows = refl;
    held = refl;
    found = refl;
    none_left = refl;
    unfilled-first = refl;
    unread = refl;
    no-goal = refl;
    no_answer = refl;
    fitting = refl;
    differing = refl;
  };
  fares = record { bits = refl; from = refl; into = refl; without = refl; leads = tt; empty = refl };
}

-- three rows, three rounds at most, and the account's limits 5 and 7
pub large : Setting 3 300 5 7 3
unfolding computing bit_lists
large = record {
  sizes = record { n_pos = omega arith; n_max = omega arith; N_pos = omega arith; N-max = omega arith; room = omega arith };
  rows = omega arith;
  rounds = omega arith;
  some-round = omega arith;
  relates = record { passes = refl; is = refl; fits = refl; needs = refl };
  ready = record { bits = refl; passes = refl; is = refl; needs = refl; again = refl };
  turns = record { bits = refl; held = refl; passes = refl; is = refl };
  tells = record {
    bits = refl;
    rows = refl;
    held = refl;
    found = refl;
    none_left = refl;
    unfilled-first = refl;
    unread = refl;
    no-goal = refl;
    no_answer = refl;
    fitting = refl;
    differing = refl;
  };
  fares = record { bits = refl; from = refl; into = refl; without = refl; leads = tt; empty = refl };
}
