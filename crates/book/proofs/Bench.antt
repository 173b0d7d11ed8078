-- "Rooms on the test bench", from bytes, in one table that one theorem covers: the starred cases are the first thirteen; then those without
-- a star, and cases of document 02's requests. Assumes nothing.
use mathlib.Core.Bool.{Bool, true, false}
use mathlib.Core.List.{List, [], ◌∷◌, Memᴰ}
use mathlib.Core.Option.{none, some}
use Prim.Native.Nat.{ℕ}
use lib.Dec.{T}
use Rattle.mucalculus.specs.Sets.{all}
use Rattle.mucalculus.proofs.Sets.{all_out}
use Rattle.accounts.specs.declared.Terms.{Terms}
use Rattle.accounts.specs.Terms.{alone}
use Rattle.book.specs.Book.{fresh, relation, set, valid, clear, collect, member, count, refused, answered}
use Rattle.book.proofs.Compute.{computing}
use Rattle.book.proofs.Listed.{frame, frame2, Line, did, told, holds, made, related, Gives, gives, testing, given}

-- a case: n and N of fresh, and the lines that are due
pub record Case : Type 0 where
  pub n : ℕ
  pub N : ℕ
  pub lines : List Line

-- the relation of the program's example: the next bit is not the current one
abbrev flip : List ℕ
flip = 0x04 ∷ 0x03 ∷ 0x20 ∷ 0x02 ∷ 0x10 ∷ 0x03 ∷ 0x02 ∷ 0x20 ∷ 0x10 ∷ []

-- every state that presses can lead to bit 0: mu P (bit 0 or diamond P)
abbrev reach : List ℕ
reach = 0x70 ∷ 0x04 ∷ 0x10 ∷ 0x68 ∷ 0x30 ∷ []

-- no state and both states, n = 1
abbrev nobody : List Bool
nobody = false ∷ false ∷ []

abbrev everybody : List Bool
everybody = true ∷ true ∷ []

-- an answered relation 0, with its peak
abbrev loaded : List ℕ → ℕ → Line
loaded rel p = did (relation 0 (frame rel)) (related p)

-- an empty table with n = 1, N = 100, R = 100: a set of register 0 that is answered with the set A, or refused
abbrev answers : List ℕ → ℕ → ℕ → List Bool → Case
answers f q a A = record { n = 1; N = 100; lines = did (set alone 0 100 (frame f)) (made q 0 (some a)) ∷ holds 0 (some A) ∷ [] }

abbrev refuses : List ℕ → ℕ → Case
refuses f k = record { n = 1; N = 100; lines = did (set alone 0 100 (frame f)) (refused k) ∷ holds 0 none ∷ [] }

-- an account of a list, by how many are lent, its place and its limits
abbrev under : ℕ → ℕ → ℕ → ℕ → Terms
under k place rows rounds = record { count = k; place = place; rows = rows; rounds = rounds }

abbrev pub cases : List Case
cases =
    record {
      n = 1;
      N = 100;
      lines = loaded flip 4 ∷ did (set alone 0 100 (frame reach)) (made 3 4 (some 1)) ∷ holds 0 (some everybody) ∷ [];
    }
    ∷ record { n = 1; N = 100; lines = loaded flip 4 ∷ did (set alone 0 2 (frame reach)) (refused 9) ∷ holds 0 none ∷ [] }
    ∷ answers (0x70 ∷ 0x30 ∷ []) 1 0 nobody
    ∷ answers (0x80 ∷ 0x30 ∷ []) 1 1 everybody
    ∷ refuses (0x70 ∷ 0x02 ∷ 0x30 ∷ []) 6
    ∷ answers (0x70 ∷ 0x02 ∷ 0x02 ∷ 0x30 ∷ []) 1 0 nobody
    ∷ refuses (0x30 ∷ []) 5
    ∷ refuses (0x70 ∷ 0x70 ∷ 0x30 ∷ []) 5
    ∷ refuses (0x60 ∷ 0x01 ∷ []) 7
    ∷ record {
      n = 1;
      N = 100;
      lines =
          loaded (0x00 ∷ []) 0 ∷ did (set alone 0 100 (frame (0x60 ∷ 0x00 ∷ []))) (made 0 0 (some 1)) ∷ told (count 0) (answered (some 2))
          ∷ [];
    }
    ∷ record {
      n = 1;
      N = 100;
      lines =
          loaded (0x00 ∷ []) 0 ∷ did (set alone 0 100 (frame (0x68 ∷ 0x01 ∷ []))) (made 0 0 (some 0)) ∷ told (count 0) (answered (some 0))
          ∷ [];
    }
    ∷ record {
      n = 2;
      N = 3;
      lines =
          did (set alone 0 100 (frame (0x03 ∷ 0x10 ∷ 0x11 ∷ []))) (made 0 3 none) ∷ holds 0 (some (false ∷ false ∷ false ∷ true ∷ [])) ∷ [];
    }
    ∷ record { n = 2; N = 2; lines = did (set alone 0 100 (frame (0x03 ∷ 0x10 ∷ 0x11 ∷ []))) (refused 8) ∷ holds 0 none ∷ [] }
    ∷ record {
      n = 1;
      N = 1;
      lines = did (set alone 0 100 (frame (0x02 ∷ 0x10 ∷ []))) (made 0 1 none) ∷ holds 0 (some (true ∷ false ∷ [])) ∷ [];
    }
    ∷ record {
      n = 2;
      N = 2;
      lines =
          did (set alone 0 100 (frame (0x10 ∷ []))) (made 0 1 none)
          ∷ did (set alone 1 100 (frame (0x11 ∷ []))) (made 0 2 none)
          ∷ did (clear 0) (answered (some 0))
          ∷ did (set alone 0 100 (frame (0x02 ∷ 0x11 ∷ []))) (made 0 1 none)
          ∷ holds 0 (some (true ∷ true ∷ false ∷ false ∷ [])) ∷ [];
    }
    ∷ record {
      n = 1;
      N = 100;
      lines =
          loaded flip 4
          ∷ did (set alone 0 3 (frame reach)) (made 3 4 (some 1))
          ∷ told (count 0) (answered (some 2))
          ∷ told (member 0 1) (answered (some 1))
          ∷ did collect (answered (some 2)) ∷ [];
    }
    -- binders that bind nothing: 12, after 5 and before 6 and 7
    ∷ refuses (0x70 ∷ 0x01 ∷ []) 12
    ∷ refuses (0x03 ∷ 0x70 ∷ 0x01 ∷ 0x31 ∷ []) 5
    ∷ refuses (0x03 ∷ 0x70 ∷ 0x02 ∷ 0x30 ∷ 0x71 ∷ 0x40 ∷ []) 12
    -- an account's smaller limits: 2 rows and 2 rounds are too few where 3 are enough
    ∷ record {
      n = 2;
      N = 100;
      lines =
          did (set (under 1 0 2 100) 0 100 (frame (0x03 ∷ 0x10 ∷ 0x11 ∷ []))) (refused 8)
          ∷ did (set (under 2 1 3 100) 0 100 (frame (0x03 ∷ 0x10 ∷ 0x11 ∷ []))) (made 0 3 none) ∷ [];
    }
    ∷ record {
      n = 1;
      N = 100;
      lines =
          loaded flip 4 ∷ did (set (under 1 0 100 2) 0 100 (frame reach)) (refused 9)
          ∷ did (set (under 8 7 100 3) 0 100 (frame reach)) (made 3 4 (some 1)) ∷ [];
    }
    -- 14: no account, more than 8, no such place; after 3 and before 4
    ∷ record {
      n = 1;
      N = 100;
      lines =
          did (set (under 0 0 0 0) 0 100 (frame (0x01 ∷ []))) (refused 14)
          ∷ did (set (under 9 0 100 100) 0 100 (frame (0x01 ∷ []))) (refused 14)
          ∷ did (set (under 8 8 0 0) 0 100 (frame (0x01 ∷ []))) (refused 14) ∷ [];
    }
    ∷ record {
      n = 1;
      N = 100;
      lines =
          did (set (under 9 0 100 100) 32 100 (frame (0x01 ∷ []))) (refused 3) ∷ did (set (under 9 0 100 100) 0 100 []) (refused 14)
          ∷ did (set (under 8 0 100 100) 0 100 []) (refused 4) ∷ [];
    }
    ∷ []

-- a set of register 0 by a formula of version 2, on a table of n = 1 with relation 0 loaded with peak l: its rounds, peak, node and set, or
-- its refusal
abbrev until : List ℕ → ℕ → ℕ → List ℕ → ℕ → ℕ → ℕ → List Bool → Case
until rel l R f q p a A =
    record { n = 1; N = 100; lines = loaded rel l ∷ did (set alone 0 R (frame2 f)) (made q p (some a)) ∷ holds 0 (some A) ∷ [] }

abbrev no_until : List ℕ → ℕ → ℕ → List ℕ → ℕ → Case
no_until rel l R f k = record { n = 1; N = 100; lines = loaded rel l ∷ did (set alone 0 R (frame2 f)) (refused k) ∷ holds 0 none ∷ [] }

-- "Until". Where each state leads to the other: true until bit 0, on some and on every run, is every state, by the written formula's 3
-- rounds, of which R = 2 is too few. Over the empty relation false is never reached. Version 1 has no such word, a relation call has no
-- version 2, and check 7 names the relation
abbrev pub untils : List Case
untils =
    until flip 4 100 (0x90 ∷ 0x01 ∷ 0x10 ∷ []) 3 4 1 everybody
    ∷ until flip 4 100 (0x98 ∷ 0x01 ∷ 0x10 ∷ []) 3 4 1 everybody
    ∷ no_until flip 4 2 (0x98 ∷ 0x01 ∷ 0x10 ∷ []) 9
    ∷ until (0x00 ∷ []) 0 100 (0x98 ∷ 0x01 ∷ 0x00 ∷ []) 1 0 0 nobody
    ∷ record {
      n = 1;
      N = 100;
      lines =
          did (set alone 0 100 (frame (0x90 ∷ 0x01 ∷ 0x10 ∷ []))) (refused 4)
          ∷ did (relation 0 (frame2 (0x01 ∷ []))) (refused 4)
          ∷ did (set alone 0 100 (frame2 (0x91 ∷ 0x01 ∷ 0x10 ∷ []))) (refused 7)
          ∷ did (set alone 0 100 (frame2 (0x01 ∷ []))) (made 0 0 (some 1)) ∷ [];
    }
    ∷ []

-- a nu as f has its round in each of until's two rounds: 4 rounds
abbrev pub nested : Case
nested = record {
  n = 1;
  N = 100;
  lines =
      did (relation 3 (frame (0x00 ∷ []))) (answered (some 0))
      ∷ did (set alone 0 4 (frame2 (0x93 ∷ 0x80 ∷ 0x30 ∷ 0x10 ∷ []))) (made 4 2 none)
      ∷ holds 0 (some (false ∷ true ∷ [])) ∷ [];
}

-- n = 2, each state leads to state 3: bit 1 until state 3
abbrev pub wider : Case
wider = record {
  n = 2;
  N = 100;
  lines =
      loaded (0x03 ∷ 0x20 ∷ 0x21 ∷ []) 3
      ∷ did (set alone 0 100 (frame2 (0x90 ∷ 0x11 ∷ 0x03 ∷ 0x10 ∷ 0x11 ∷ []))) (made 3 5 none)
      ∷ holds 0 (some (false ∷ false ∷ true ∷ true ∷ [])) ∷ [];
}

-- V: n = 2, of which state 3 does not exist
abbrev pub valids : List Case
valids =
    record {
      n = 2;
      N = 100;
      lines =
          did (valid (frame (0x02 ∷ 0x03 ∷ 0x10 ∷ 0x11 ∷ []))) (answered (some 0))
          ∷ did collect (answered (some 2))
          ∷ did (set alone 0 100 (frame (0x01 ∷ []))) (made 0 0 none)
          ∷ told (count 0) (answered (some 3))
          ∷ did (set alone 1 100 (frame (0x02 ∷ 0x10 ∷ []))) (made 0 4 none)
          ∷ holds 1 (some (true ∷ false ∷ true ∷ false ∷ []))
          ∷ did (set alone 2 100 (frame (0x10 ∷ []))) (made 0 4 none)
          ∷ holds 2 (some (false ∷ true ∷ false ∷ false ∷ []))
          ∷ did (valid (frame (0x01 ∷ []))) (refused 13)
          ∷ [];
    }
    -- full by the row rule of a relation, and 13 before 4
    ∷ record {
      n = 2;
      N = 2;
      lines =
          did (valid (frame (0x02 ∷ 0x03 ∷ 0x10 ∷ 0x11 ∷ []))) (refused 8) ∷ did (set alone 0 100 (frame (0x01 ∷ []))) (made 0 0 (some 1))
          ∷ did (valid []) (refused 13) ∷ did (clear 0) (answered (some 0)) ∷ did (valid []) (refused 4) ∷ [];
    }
    ∷ record { n = 2; N = 3; lines = did (valid (frame (0x02 ∷ 0x03 ∷ 0x10 ∷ 0x11 ∷ []))) (answered (some 0)) ∷ [] }
    -- no state exists: nu P P is empty, and true is node 0
    ∷ record {
      n = 1;
      N = 100;
      lines =
          did (valid (frame (0x00 ∷ []))) (answered (some 0)) ∷ did (set alone 0 100 (frame (0x80 ∷ 0x30 ∷ []))) (made 1 0 (some 0))
          ∷ did (set alone 1 100 (frame (0x01 ∷ []))) (made 0 0 (some 0)) ∷ did collect (answered (some 0)) ∷ [];
    }
    ∷ []

-- V and a relation, which leads to each existing state with bit 0: state 1 alone
abbrev over : Line → Case
over l =
    record {
      n = 2;
      N = 100;
      lines = did (valid (frame (0x02 ∷ 0x03 ∷ 0x10 ∷ 0x11 ∷ []))) (answered (some 0)) ∷ loaded (0x20 ∷ []) 11 ∷ l ∷ [];
    }

abbrev pub boxed : Case
boxed = over (did (set alone 0 100 (frame (0x60 ∷ 0x10 ∷ []))) (made 0 9 none))

abbrev pub runs : Case
runs = over (did (set alone 0 100 (frame (0x80 ∷ 0x68 ∷ 0x30 ∷ []))) (made 1 10 none))

-- a case comes out as it should
right : Case → Bool
right c = gives (fresh c.n c.N) c.lines

all_right : T (all right cases)
unfolding right testing computing
all_right = tt

untils_right : T (all right untils)
unfolding right testing computing
untils_right = tt

nested_right : T (right nested)
unfolding right testing computing
nested_right = tt

wider_right : T (right wider)
unfolding right testing computing
wider_right = tt

valids_right : T (all right valids)
unfolding right testing computing
valids_right = tt

boxed-right : T (right boxed)
unfolding right testing computing
boxed-right = tt

runs-right : T (right runs)
unfolding right testing computing
runs-right = tt

pub boxed_bench : Gives (fresh 2 100) boxed.lines
unfolding right
boxed_bench = given (fresh 2 100) boxed.lines boxed-right

pub runs_bench : Gives (fresh 2 100) runs.lines
unfolding right
runs_bench = given (fresh 2 100) runs.lines runs-right

-- V, the same
pub valid_bench : (c : Case) → Memᴰ c valids → Gives (fresh c.n c.N) c.lines
unfolding right
valid_bench c i = given (fresh c.n c.N) c.lines (all_out right i valids_right)

-- until, the same
pub nested_bench : Gives (fresh nested.n nested.N) nested.lines
unfolding right
nested_bench = given (fresh nested.n nested.N) nested.lines nested_right

pub wider_bench : Gives (fresh wider.n wider.N) wider.lines
unfolding right
wider_bench = given (fresh wider.n wider.N) wider.lines wider_right

pub until_bench : (c : Case) → Memᴰ c untils → Gives (fresh c.n c.N) c.lines
unfolding right
until_bench c i = given (fresh c.n c.N) c.lines (all_out right i untils_right)

-- THE STARRED CASES: every line of every case is the book's
pub bench : (c : Case) → Memᴰ c cases → Gives (fresh c.n c.N) c.lines
unfolding right
bench c i = given (fresh c.n c.N) c.lines (all_out right i all_right)
