-- Lists of calls and questions with their answers, from a separate reading of documents 01 and 02 (tests/reference, `cargo run --bin lists
-- 274 6 6`, written by `as-antt`): one theorem each. This is how an outside list is held against the book: write its lines, and prove the
-- test by `tt`. Assumes nothing.
use mathlib.Core.Bool.{true, false}
use mathlib.Core.List.{List, [], ◌∷◌}
use mathlib.Core.Option.{none, some}
use Prim.Native.Nat.{ℕ}
use Rattle.accounts.specs.declared.Terms.{Terms}
use Rattle.accounts.specs.Terms.{alone}
use Rattle.book.specs.Book.{fresh, relation, set, clear, collect, node, member, count, refused, answered}
use Rattle.book.proofs.Compute.{computing}
use Rattle.book.proofs.Listed.{Line, did, told, holds, relates, made, related, Gives, testing, given}

-- how many accounts are lent, which is named, and its limits
abbrev under : ℕ → ℕ → ℕ → ℕ → Terms
under c p N R = record { count = c; place = p; rows = N; rounds = R }

abbrev top : ℕ
top = 4_294_967_295

abbrev list1 : List Line
list1 =
    told (count 1) (refused 7)
    ∷ did (set (under 7 6 top top) 0 0 (0x00 ∷ 0x06 ∷ 0x01 ∷ 0x70 ∷ 0x04 ∷ 0x30 ∷ 0x02 ∷ 0x01 ∷ [])) (refused 9)
    ∷ did (clear 2) (answered (some 0))
    ∷ did (set (under 7 2 top top) 0 6 (0x00 ∷ 0x0B ∷ 0x01 ∷ 0x80 ∷ 0x03 ∷ 0x81 ∷ 0x03 ∷ 0x02 ∷ 0x10 ∷ 0x04 ∷ 0x31 ∷ 0x01 ∷ 0x30 ∷ []))
    (made 6 1 none)
    ∷ did (set (under 7 1 0 1) 31 3 (0x00 ∷ 0x09 ∷ 0x01 ∷ 0x80 ∷ 0x03 ∷ 0x71 ∷ 0x04 ∷ 0x02 ∷ 0x01 ∷ 0x31 ∷ 0x30 ∷ [])) (refused 9)
    ∷ did (clear 0) (answered (some 0))
    ∷ did (set (under 7 0 top top) 2 4294967295 (0x00 ∷ 0x03 ∷ 0x01 ∷ 0x70 ∷ 0x30 ∷ [])) (made 1 0 (some 0))
    ∷ did (clear 1) (answered (some 0))
    ∷ did collect (answered (some 0))
    ∷ told (count 2) (answered (some 0))
    ∷ holds 2 (some (false ∷ false ∷ [])) ∷ []

pub given1 : Gives (fresh 1 1) list1
unfolding testing computing
given1 = given (fresh 1 1) list1 tt

abbrev list2 : List Line
list2 =
    did (relation 8 (0x00 ∷ 0x05 ∷ 0x01 ∷ 0x02 ∷ 0x02 ∷ 0x02 ∷ 0x10 ∷ [])) (refused 3)
    ∷ did (set (under 5 1 0 4) 1 4 (0x00 ∷ 0x0A ∷ 0x01 ∷ 0x70 ∷ 0x02 ∷ 0x71 ∷ 0x04 ∷ 0x03 ∷ 0x02 ∷ 0x30 ∷ 0x00 ∷ 0x31 ∷ []))
    (made 4 0 (some 1))
    ∷ did (relation 1 (0x00 ∷ 0x08 ∷ 0x01 ∷ 0x04 ∷ 0x00 ∷ 0x03 ∷ 0x02 ∷ 0x20 ∷ 0x02 ∷ 0x10 ∷ [])) (related 3)
    ∷ did (set (under 5 2 top top) 0 100 (0x00 ∷ 0x0A ∷ 0x01 ∷ 0x71 ∷ 0x04 ∷ 0x68 ∷ 0x03 ∷ 0x02 ∷ 0x01 ∷ 0x69 ∷ 0x20 ∷ 0x31 ∷ []))
    (refused 4)
    ∷ did (set (under 5 4 2 top) 2 0 (0x00 ∷ 0x02 ∷ 0x01 ∷ 0x10 ∷ [])) (refused 8)
    ∷ told (member 1 0) (answered (some 1))
    ∷ did (set (under 5 2 top top) 1 100
    (0x00 ∷ 0x0F ∷ 0x01 ∷ 0x81 ∷ 0x03 ∷ 0x02 ∷ 0x61 ∷ 0x04 ∷ 0x10 ∷ 0x61 ∷ 0x62 ∷ 0x70 ∷ 0x04 ∷ 0x30 ∷ 0x60 ∷ 0x30 ∷ 0x31 ∷ []))
    (refused 7)
    ∷ did collect (answered (some 2))
    ∷ did (set (under 5 1 0 4) 2 2 (0x00 ∷ 0x06 ∷ 0x01 ∷ 0x70 ∷ 0x03 ∷ 0x41 ∷ 0x61 ∷ 0x30 ∷ [])) (refused 8)
    ∷ did (set (under 5 2 top top) 2 100 (0x00 ∷ 0x06 ∷ 0x01 ∷ 0x80 ∷ 0x03 ∷ 0x10 ∷ 0x61 ∷ 0x30 ∷ [])) (made 2 3 none)
    ∷ did (set (under 5 4 2 top) 0 1 (0x00 ∷ 0x05 ∷ 0x01 ∷ 0x70 ∷ 0x04 ∷ 0x00 ∷ 0x30 ∷ [])) (refused 8)
    ∷ holds 1 (some (true ∷ true ∷ []))
    ∷ holds 2 (some (false ∷ true ∷ []))
    ∷ relates 1 (some ((true ∷ false ∷ []) ∷ (false ∷ false ∷ []) ∷ [])) ∷ []

pub given2 : Gives (fresh 1 3) list2
unfolding testing computing
given2 = given (fresh 1 3) list2 tt

abbrev list3 : List Line
list3 =
    did (relation 0 (0x00 ∷ 0x07 ∷ 0x01 ∷ 0x04 ∷ 0x10 ∷ 0x04 ∷ 0x02 ∷ 0x10 ∷ 0x20 ∷ [])) (related 3)
    ∷ did (relation 0 (0x00 ∷ 0x07 ∷ 0x01 ∷ 0x04 ∷ 0x02 ∷ 0x10 ∷ 0x02 ∷ 0x02 ∷ 0x10 ∷ [])) (related 1)
    ∷ told (member 1 0) (refused 7)
    ∷ did (set alone 2 1 (0x00 ∷ 0x06 ∷ 0x01 ∷ 0x70 ∷ 0x03 ∷ 0x10 ∷ 0x68 ∷ 0x30 ∷ [])) (made 1 1 (some 0))
    ∷ told (member 0 0) (refused 7)
    ∷ did (clear 2) (answered (some 0))
    ∷ did (set alone 0 100 (0x00 ∷ 0x05 ∷ 0x01 ∷ 0x70 ∷ 0x04 ∷ 0x30 ∷ 0x30 ∷ [])) (made 1 0 (some 0))
    ∷ told (member 0 3) (refused 3)
    ∷ told (member 32 0) (refused 3)
    ∷ did (set alone 2 0 (0x00 ∷ 0x03 ∷ 0x01 ∷ 0x80 ∷ 0x30 ∷ [])) (refused 9)
    ∷ holds 0 (some (false ∷ false ∷ []))
    ∷ relates 0 (some ((true ∷ true ∷ []) ∷ (true ∷ true ∷ []) ∷ [])) ∷ []

pub given3 : Gives (fresh 1 3) list3
unfolding testing computing
given3 = given (fresh 1 3) list3 tt

abbrev list4 : List Line
list4 =
    did (relation 0 (0x00 ∷ 0x04 ∷ 0x01 ∷ 0x02 ∷ 0x02 ∷ 0x20 ∷ [])) (related 1)
    ∷ did (set (under 1 0 1 top) 1 100 (0x00 ∷ 0x03 ∷ 0x01 ∷ 0x80 ∷ 0x30 ∷ [])) (made 1 0 (some 1))
    ∷ told (member 2 2) (refused 3)
    ∷ told (node 1) (answered (some 1))
    ∷ did (clear 0) (answered (some 0))
    ∷ told (member 1 1) (answered (some 1))
    ∷ did (set (under 1 0 1 top) 1 0 (0x00 ∷ 0x06 ∷ 0x01 ∷ 0x70 ∷ 0x03 ∷ 0x30 ∷ 0x68 ∷ 0x30 ∷ [])) (refused 9)
    ∷ did (relation 0 (0x00 ∷ 0x08 ∷ 0x01 ∷ 0x02 ∷ 0x03 ∷ 0x02 ∷ 0x02 ∷ 0x02 ∷ 0x10 ∷ 0x20 ∷ [])) (refused 8)
    ∷ told (node 1) (answered (some 1))
    ∷ holds 1 (some (true ∷ true ∷ []))
    ∷ relates 0 (some ((false ∷ true ∷ []) ∷ (false ∷ true ∷ []) ∷ [])) ∷ []

pub given4 : Gives (fresh 1 2) list4
unfolding testing computing
given4 = given (fresh 1 2) list4 tt

abbrev list5 : List Line
list5 =
    did (relation 0 (0x00 ∷ 0x08 ∷ 0x01 ∷ 0x03 ∷ 0x20 ∷ 0x02 ∷ 0x03 ∷ 0x10 ∷ 0x02 ∷ 0x10 ∷ [])) (related 2)
    ∷ did collect (answered (some 1))
    ∷ did (set (under 6 2 top top) 0 100 (0x00 ∷ 0x05 ∷ 0x01 ∷ 0x70 ∷ 0x04 ∷ 0x01 ∷ 0x30 ∷ [])) (made 2 1 (some 1))
    ∷ did (clear 2) (answered (some 0))
    ∷ did (relation 1 (0x00 ∷ 0x07 ∷ 0x01 ∷ 0x04 ∷ 0x02 ∷ 0x20 ∷ 0x03 ∷ 0x20 ∷ 0x20 ∷ [])) (related 1)
    ∷ told (count 0) (answered (some 2))
    ∷ did (relation 9 (0x00 ∷ 0x02 ∷ 0x01 ∷ 0x20 ∷ [])) (refused 3)
    ∷ told (node 0) (answered (some 1))
    ∷ holds 0 (some (true ∷ true ∷ []))
    ∷ relates 0 (some ((false ∷ true ∷ []) ∷ (false ∷ true ∷ []) ∷ []))
    ∷ relates 1 (some ((true ∷ true ∷ []) ∷ (true ∷ true ∷ []) ∷ [])) ∷ []

pub given5 : Gives (fresh 1 2) list5
unfolding testing computing
given5 = given (fresh 1 2) list5 tt

abbrev list6 : List Line
list6 =
    did (relation 2 (0x00 ∷ 0x07 ∷ 0x01 ∷ 0x03 ∷ 0x02 ∷ 0x10 ∷ 0x04 ∷ 0x10 ∷ 0x20 ∷ 0x00 ∷ [])) (refused 4)
    ∷ did (set (under 5 3 top 1) 0 100 (0x00 ∷ 0x04 ∷ 0x01 ∷ 0x70 ∷ 0x60 ∷ 0x30 ∷ [])) (refused 7)
    ∷ did (set (under 5 2 1 top) 0 0 (0x00 ∷ 0x05 ∷ 0x01 ∷ 0x04 ∷ 0x00 ∷ 0x02 ∷ 0x10 ∷ [])) (made 0 1 none)
    ∷ did (set (under 5 3 top 1) 1 100 (0x00 ∷ 0x06 ∷ 0x01 ∷ 0x81 ∷ 0x03 ∷ 0x81 ∷ 0x30 ∷ 0x31 ∷ [])) (refused 5)
    ∷ did (set (under 5 2 1 top) 1 4294967295 (0x00 ∷ 0x03 ∷ 0x01 ∷ 0x80 ∷ 0x30 ∷ [])) (made 1 0 (some 1))
    ∷ did (relation 8 (0x00 ∷ 0x07 ∷ 0x01 ∷ 0x03 ∷ 0x02 ∷ 0x02 ∷ 0x10 ∷ 0x02 ∷ 0x00 ∷ [])) (refused 3)
    ∷ did (set (under 5 5 0 0) 2 100 (0x00 ∷ 0x03 ∷ 0x01 ∷ 0x02 ∷ 0x40 ∷ [])) (refused 14)
    ∷ told (count 1) (answered (some 2))
    ∷ did (set (under 5 1 0 top) 1 100 (0x00 ∷ 0x0A ∷ 0x01 ∷ 0x80 ∷ 0x04 ∷ 0x04 ∷ 0x30 ∷ 0x30 ∷ 0x03 ∷ 0x30 ∷ 0x02 ∷ 0x40 ∷ [])) (refused 8)
    ∷ did (relation 0 (0x00 ∷ 0x05 ∷ 0x01 ∷ 0x02 ∷ 0x02 ∷ 0x02 ∷ 0x20 ∷ [])) (refused 8)
    ∷ did (set (under 5 3 top 1) 0 0 (0x00 ∷ 0x03 ∷ 0x01 ∷ 0x02 ∷ 0x00 ∷ [])) (made 0 1 (some 1))
    ∷ did (relation 1 (0x00 ∷ 0x02 ∷ 0x01 ∷ 0x20 ∷ [])) (related 1)
    ∷ holds 0 (some (true ∷ true ∷ []))
    ∷ holds 1 (some (true ∷ true ∷ []))
    ∷ relates 1 (some ((false ∷ true ∷ []) ∷ (false ∷ true ∷ []) ∷ [])) ∷ []

pub given6 : Gives (fresh 1 1) list6
unfolding testing computing
given6 = given (fresh 1 1) list6 tt

abbrev list7 : List Line
list7 =
    did (relation 9 (0x00 ∷ 0x04 ∷ 0x01 ∷ 0x02 ∷ 0x02 ∷ 0x10 ∷ [])) (refused 3)
    ∷ did (clear 2) (answered (some 0))
    ∷ told (member 2 2) (refused 7)
    ∷ did (set (under 3 1 top top) 0 4294967295 (0x00 ∷ 0x05 ∷ 0x01 ∷ 0x80 ∷ 0x03 ∷ 0x11 ∷ 0x30 ∷ [])) (made 2 1 none)
    ∷ did (set (under 3 0 top 2) 1 0 (0x00 ∷ 0x03 ∷ 0x01 ∷ 0x02 ∷ 0x01 ∷ [])) (made 0 1 (some 0))
    ∷ did (relation 1 (0x00 ∷ 0x04 ∷ 0x01 ∷ 0x03 ∷ 0x11 ∷ 0x10 ∷ [])) (related 3)
    ∷ did (set (under 3 2 1 top) 1 100 (0x00 ∷ 0x02 ∷ 0x01 ∷ 0x10 ∷ [])) (refused 8)
    ∷ did (set (under 3 1 top top) 1 100 (0x00 ∷ 0x07 ∷ 0x01 ∷ 0x80 ∷ 0x02 ∷ 0x04 ∷ 0x01 ∷ 0x02 ∷ 0x30 ∷ [])) (made 2 2 (some 0))
    ∷ did (set (under 3 1 top top) 31 2 (0x00 ∷ 0x06 ∷ 0x01 ∷ 0x80 ∷ 0x03 ∷ 0x11 ∷ 0x69 ∷ 0x30 ∷ [])) (made 2 8 none)
    ∷ did (set (under 3 2 1 top) 2 0 (0x00 ∷ 0x03 ∷ 0x01 ∷ 0x02 ∷ 0x01 ∷ [])) (refused 8)
    ∷ did (set (under 3 2 1 top) 2 1 (0x00 ∷ 0x07 ∷ 0x01 ∷ 0x61 ∷ 0x81 ∷ 0x03 ∷ 0x02 ∷ 0x01 ∷ 0x31 ∷ [])) (refused 8)
    ∷ told (member 0 2) (answered (some 1))
    ∷ holds 0 (some (false ∷ false ∷ true ∷ true ∷ []))
    ∷ holds 1 (some (false ∷ false ∷ false ∷ false ∷ []))
    ∷ holds 31 (some (false ∷ false ∷ false ∷ true ∷ []))
    ∷ relates 1
    (some ((false ∷ false ∷ false ∷ false ∷ []) ∷ (false ∷ false ∷ false ∷ false ∷ []) ∷ (false ∷ false ∷ false ∷ false ∷ [])
    ∷ (true ∷ true ∷ true ∷ true ∷ []) ∷ [])) ∷ []

pub given7 : Gives (fresh 2 8) list7
unfolding testing computing
given7 = given (fresh 2 8) list7 tt

abbrev list8 : List Line
list8 =
    did (relation 7 (0x00 ∷ 0x06 ∷ 0x01 ∷ 0x04 ∷ 0x01 ∷ 0x03 ∷ 0x21 ∷ 0x00 ∷ [])) (related 1)
    ∷ did (set (under 3 2 1 0) 2 100 (0x00 ∷ 0x02 ∷ 0x01 ∷ 0x01 ∷ [])) (made 0 0 (some 1))
    ∷ told (member 0 3) (refused 7)
    ∷ did collect (answered (some 0))
    ∷ told (node 2) (answered (some 1))
    ∷ told (node 2) (answered (some 1))
    ∷ did (clear 2) (answered (some 0))
    ∷ did (set (under 3 2 1 0) 0 0 (0x00 ∷ 0x07 ∷ 0x01 ∷ 0x80 ∷ 0x04 ∷ 0x02 ∷ 0x67 ∷ 0x11 ∷ 0x30 ∷ [])) (refused 9)
    ∷ did (set (under 3 0 top top) 2 0 (0x00 ∷ 0x04 ∷ 0x01 ∷ 0x04 ∷ 0x11 ∷ 0x11 ∷ [])) (made 0 1 none)
    ∷ told (node 2) (answered none)
    ∷ holds 2 (some (false ∷ false ∷ true ∷ true ∷ []))
    ∷ relates 7
    (some ((true ∷ true ∷ true ∷ true ∷ []) ∷ (true ∷ true ∷ true ∷ true ∷ []) ∷ (true ∷ true ∷ true ∷ true ∷ [])
    ∷ (true ∷ true ∷ true ∷ true ∷ []) ∷ [])) ∷ []

pub given8 : Gives (fresh 2 1) list8
unfolding testing computing
given8 = given (fresh 2 1) list8 tt

abbrev list9 : List Line
list9 =
    did (set (under 6 5 top top) 0 100 (0x00 ∷ 0x06 ∷ 0x01 ∷ 0x80 ∷ 0x02 ∷ 0x04 ∷ 0x01 ∷ 0x30 ∷ [])) (refused 6)
    ∷ did (set (under 6 2 top 2) 33 100 (0x00 ∷ 0x02 ∷ 0x01 ∷ 0x10 ∷ [])) (refused 3)
    ∷ did (set (under 6 1 0 top) 2 2 (0x00 ∷ 0x07 ∷ 0x01 ∷ 0x02 ∷ 0x70 ∷ 0x04 ∷ 0x02 ∷ 0x00 ∷ 0x30 ∷ [])) (made 2 0 (some 0))
    ∷ did (set (under 6 5 top top) 1 1 (0x00 ∷ 0x06 ∷ 0x01 ∷ 0x80 ∷ 0x03 ∷ 0x02 ∷ 0x00 ∷ 0x30 ∷ [])) (made 1 0 (some 1))
    ∷ did (relation 0 (0x00 ∷ 0x02 ∷ 0x01 ∷ 0x21 ∷ [])) (related 1)
    ∷ did (clear 0) (answered (some 0))
    ∷ told (count 2) (answered (some 0))
    ∷ did (set (under 6 2 top 2) 2 100 (0x00 ∷ 0x04 ∷ 0x01 ∷ 0x71 ∷ 0x61 ∷ 0x00 ∷ [])) (refused 12)
    ∷ told (count 1) (answered (some 4))
    ∷ did (set (under 6 4 top top) 2 1 (0x00 ∷ 0x05 ∷ 0x01 ∷ 0x70 ∷ 0x04 ∷ 0x11 ∷ 0x30 ∷ [])) (refused 8)
    ∷ did (set (under 6 5 top top) 1 0 (0x00 ∷ 0x03 ∷ 0x01 ∷ 0x68 ∷ 0x41 ∷ [])) (made 0 1 (some 1))
    ∷ holds 1 (some (true ∷ true ∷ true ∷ true ∷ []))
    ∷ holds 2 (some (false ∷ false ∷ false ∷ false ∷ []))
    ∷ relates 0
    (some ((false ∷ false ∷ true ∷ true ∷ []) ∷ (false ∷ false ∷ true ∷ true ∷ []) ∷ (false ∷ false ∷ true ∷ true ∷ [])
    ∷ (false ∷ false ∷ true ∷ true ∷ []) ∷ [])) ∷ []

pub given9 : Gives (fresh 2 1) list9
unfolding testing computing
given9 = given (fresh 2 1) list9 tt

abbrev list10 : List Line
list10 =
    did (set alone 2 0 (0x00 ∷ 0x02 ∷ 0x01 ∷ 0x00 ∷ [])) (made 0 0 (some 0))
    ∷ told (count 2) (answered (some 0))
    ∷ did (set alone 0 100 (0x00 ∷ 0x07 ∷ 0x01 ∷ 0x70 ∷ 0x04 ∷ 0x04 ∷ 0x30 ∷ 0x30 ∷ 0x10 ∷ [])) (made 2 1 none)
    ∷ did (set alone 2 0 (0x00 ∷ 0x02 ∷ 0x01 ∷ 0x42 ∷ [])) (made 0 0 (some 0))
    ∷ told (member 2 0) (answered (some 0))
    ∷ did (relation 1 (0x00 ∷ 0x04 ∷ 0x01 ∷ 0x03 ∷ 0x21 ∷ 0x21 ∷ [])) (related 2)
    ∷ did (set alone 1 0 (0x00 ∷ 0x02 ∷ 0x01 ∷ 0x01 ∷ [])) (made 0 0 (some 1))
    ∷ did (set alone 2 1 (0x00 ∷ 0x0A ∷ 0x01 ∷ 0x02 ∷ 0x03 ∷ 0x80 ∷ 0x04 ∷ 0x01 ∷ 0x61 ∷ 0x30 ∷ 0x69 ∷ 0x40 ∷ [])) (refused 8)
    ∷ told (node 1) (answered (some 1))
    ∷ did (set alone 2 100 (0x00 ∷ 0x06 ∷ 0x01 ∷ 0x80 ∷ 0x04 ∷ 0x11 ∷ 0x61 ∷ 0x30 ∷ [])) (made 1 3 (some 1))
    ∷ holds 0 (some (false ∷ true ∷ false ∷ true ∷ []))
    ∷ holds 1 (some (true ∷ true ∷ true ∷ true ∷ []))
    ∷ holds 2 (some (true ∷ true ∷ true ∷ true ∷ []))
    ∷ relates 1
    (some ((false ∷ false ∷ true ∷ true ∷ []) ∷ (false ∷ false ∷ true ∷ true ∷ []) ∷ (false ∷ false ∷ true ∷ true ∷ [])
    ∷ (false ∷ false ∷ true ∷ true ∷ []) ∷ [])) ∷ []

pub given10 : Gives (fresh 2 3) list10
unfolding testing computing
given10 = given (fresh 2 3) list10 tt

abbrev list11 : List Line
list11 =
    did (relation 2 (0x00 ∷ 0x07 ∷ 0x01 ∷ 0x04 ∷ 0x00 ∷ 0x02 ∷ 0x04 ∷ 0x01 ∷ 0x20 ∷ [])) (related 1)
    ∷ did (set (under 2 0 0 0) 2 100 (0x00 ∷ 0x08 ∷ 0x01 ∷ 0x03 ∷ 0x62 ∷ 0x70 ∷ 0x03 ∷ 0x31 ∷ 0x6A ∷ 0x30 ∷ [])) (refused 4)
    ∷ told (count 2) (refused 7)
    ∷ did (set (under 2 0 0 0) 2 1 (0x00 ∷ 0x03 ∷ 0x01 ∷ 0x70 ∷ 0x30 ∷ [])) (refused 9)
    ∷ told (count 2) (refused 7)
    ∷ did (set (under 2 1 top 1) 1 1 (0x00 ∷ 0x06 ∷ 0x01 ∷ 0x80 ∷ 0x03 ∷ 0x30 ∷ 0x6A ∷ 0x30 ∷ [])) (refused 9)
    ∷ did (relation 1 (0x00 ∷ 0x07 ∷ 0x01 ∷ 0x02 ∷ 0x03 ∷ 0x01 ∷ 0x03 ∷ 0x12 ∷ 0x11 ∷ [])) (refused 4)
    ∷ told (count 2) (refused 7)
    ∷ did (relation 2 (0x00 ∷ 0x05 ∷ 0x01 ∷ 0x04 ∷ 0x20 ∷ 0x02 ∷ 0x20 ∷ [])) (related 1)
    ∷ told (count 0) (refused 7)
    ∷ relates 2
    (some ((true ∷ true ∷ true ∷ true ∷ []) ∷ (true ∷ true ∷ true ∷ true ∷ []) ∷ (true ∷ true ∷ true ∷ true ∷ [])
    ∷ (true ∷ true ∷ true ∷ true ∷ []) ∷ [])) ∷ []

pub given11 : Gives (fresh 2 1) list11
unfolding testing computing
given11 = given (fresh 2 1) list11 tt

abbrev list12 : List Line
list12 =
    did collect (answered (some 0))
    ∷ did (set (under 4 4 0 0) 0 100 (0x00 ∷ 0x06 ∷ 0x01 ∷ 0x70 ∷ 0x04 ∷ 0x02 ∷ 0x00 ∷ 0x30 ∷ [])) (refused 14)
    ∷ did (set (under 4 2 top top) 2 100 (0x00 ∷ 0x08 ∷ 0x01 ∷ 0x04 ∷ 0x10 ∷ 0x70 ∷ 0x04 ∷ 0x02 ∷ 0x01 ∷ 0x30 ∷ [])) (made 1 1 none)
    ∷ did (set (under 4 1 top top) 1 1 (0x00 ∷ 0x09 ∷ 0x01 ∷ 0x02 ∷ 0x03 ∷ 0x80 ∷ 0x03 ∷ 0x42 ∷ 0x30 ∷ 0x02 ∷ 0x00 ∷ [])) (refused 9)
    ∷ told (node 2) (answered none)
    ∷ did (set (under 4 3 top top) 2 100 (0x00 ∷ 0x07 ∷ 0x01 ∷ 0x70 ∷ 0x02 ∷ 0x61 ∷ 0x69 ∷ 0x02 ∷ 0x30 ∷ [])) (refused 7)
    ∷ did (clear 1) (answered (some 0))
    ∷ did (set (under 4 3 top top) 0 100 (0x00 ∷ 0x07 ∷ 0x01 ∷ 0x03 ∷ 0x03 ∷ 0x10 ∷ 0x62 ∷ 0x80 ∷ 0x10 ∷ [])) (refused 4)
    ∷ told (member 2 0) (answered (some 0))
    ∷ did (relation 2 (0x00 ∷ 0x08 ∷ 0x01 ∷ 0x04 ∷ 0x20 ∷ 0x04 ∷ 0x21 ∷ 0x03 ∷ 0x20 ∷ 0x10 ∷ [])) (refused 8)
    ∷ did (clear 2) (answered (some 0))
    ∷ did (set (under 4 4 0 0) 0 100 (0x00 ∷ 0x02 ∷ 0x01 ∷ 0x10 ∷ [])) (refused 14) ∷ []

pub given12 : Gives (fresh 2 5) list12
unfolding testing computing
given12 = given (fresh 2 5) list12 tt
