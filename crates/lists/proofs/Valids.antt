-- Lists of calls and questions over V with their answers, from a separate evaluator over truth tables that was written from documents 01
-- and 02 alone: one theorem each. Assumes nothing.
use mathlib.Core.Bool.{true, false}
use mathlib.Core.List.{List, [], ◌∷◌}
use mathlib.Core.Option.{none, some}
use Prim.Native.Nat.{ℕ}
use Rattle.accounts.specs.declared.Terms.{Terms}
use Rattle.accounts.specs.Terms.{alone}
use Rattle.book.specs.Book.{fresh, relation, set, valid, clear, collect, member, count, refused, answered}
use Rattle.book.proofs.Compute.{computing}
use Rattle.book.proofs.Listed.{Line, did, told, holds, relates, existing, made, related, Gives, testing, given}

-- how many accounts are lent, which is named, and its limits
abbrev under : ℕ → ℕ → ℕ → ℕ → Terms
under c p N R = record { count = c; place = p; rows = N; rounds = R }

abbrev top : ℕ
top = 4_294_967_295

abbrev list1 : List Line
list1 =
    did (valid (0x00 ∷ 0x02 ∷ 0x01 ∷ 0x01 ∷ [])) (answered (some 0))
    ∷ existing (true ∷ true ∷ [])
    ∷ did (valid (0x00 ∷ 0x04 ∷ 0x01 ∷ 0x02 ∷ 0x02 ∷ 0x10 ∷ [])) (answered (some 0))
    ∷ existing (false ∷ true ∷ [])
    ∷ did (relation 0 (0x00 ∷ 0x02 ∷ 0x01 ∷ 0x01 ∷ [])) (related 3)
    ∷ relates 0 (some ((false ∷ false ∷ []) ∷ (false ∷ true ∷ []) ∷ []))
    ∷ told (member 2 0) (refused 7)
    ∷ did (set alone 0 1 (0x00 ∷ 0x04 ∷ 0x02 ∷ 0x68 ∷ 0x68 ∷ 0x01 ∷ [])) (made 0 3 none)
    ∷ holds 0 (some (false ∷ true ∷ []))
    ∷ did (set (under 4 0 top top) 0 1 (0x00 ∷ 0x04 ∷ 0x01 ∷ 0x02 ∷ 0x02 ∷ 0x10 ∷ [])) (made 0 3 none)
    ∷ holds 0 (some (false ∷ true ∷ []))
    ∷ did (relation 0 (0x00 ∷ 0x05 ∷ 0x01 ∷ 0x02 ∷ 0x04 ∷ 0x10 ∷ 0x01 ∷ [])) (related 3)
    ∷ relates 0 (some ((false ∷ false ∷ []) ∷ (false ∷ false ∷ []) ∷ []))
    ∷ did (relation 0 (0x00 ∷ 0x03 ∷ 0x01 ∷ 0x02 ∷ 0x00 ∷ [])) (related 3)
    ∷ relates 0 (some ((false ∷ false ∷ []) ∷ (false ∷ true ∷ []) ∷ []))
    ∷ did (set (under 3 0 top top) 2 5 (0x00 ∷ 0x03 ∷ 0x02 ∷ 0x60 ∷ 0x40 ∷ [])) (made 0 3 none)
    ∷ holds 2 (some (false ∷ true ∷ [])) ∷ []

pub given1 : Gives (fresh 1 6) list1
unfolding testing computing
given1 = given (fresh 1 6) list1 tt

abbrev list2 : List Line
list2 =
    did (valid (0x00 ∷ 0x04 ∷ 0x01 ∷ 0x02 ∷ 0x02 ∷ 0x00 ∷ [])) (answered (some 0))
    ∷ existing (false ∷ false ∷ [])
    ∷ did (relation 1 (0x00 ∷ 0x02 ∷ 0x01 ∷ 0x10 ∷ [])) (related 1)
    ∷ relates 1 (some ((false ∷ false ∷ []) ∷ (false ∷ false ∷ []) ∷ []))
    ∷ did (set (under 6 0 top top) 0 100 (0x00 ∷ 0x07 ∷ 0x01 ∷ 0x61 ∷ 0x61 ∷ 0x80 ∷ 0x04 ∷ 0x30 ∷ 0x41 ∷ [])) (refused 7)
    ∷ told (member 2 1) (refused 7)
    ∷ told (count 1) (refused 7)
    ∷ did (set (under 5 0 top top) 2 1 (0x00 ∷ 0x05 ∷ 0x02 ∷ 0x70 ∷ 0x03 ∷ 0x30 ∷ 0x30 ∷ [])) (made 1 0 (some 0))
    ∷ holds 2 (some (false ∷ false ∷ []))
    ∷ did (relation 1 (0x00 ∷ 0x05 ∷ 0x01 ∷ 0x02 ∷ 0x03 ∷ 0x10 ∷ 0x20 ∷ [])) (related 3)
    ∷ relates 1 (some ((false ∷ false ∷ []) ∷ (false ∷ false ∷ []) ∷ []))
    ∷ did (set (under 5 0 3 5) 0 3 (0x00 ∷ 0x03 ∷ 0x02 ∷ 0x02 ∷ 0x10 ∷ [])) (made 0 1 (some 0))
    ∷ holds 0 (some (false ∷ false ∷ []))
    ∷ did (set (under 4 0 3 5) 1 9 (0x00 ∷ 0x08 ∷ 0x01 ∷ 0x69 ∷ 0x04 ∷ 0x04 ∷ 0x10 ∷ 0x10 ∷ 0x69 ∷ 0x00 ∷ [])) (made 0 1 (some 0))
    ∷ holds 1 (some (false ∷ false ∷ [])) ∷ []

pub given2 : Gives (fresh 1 4) list2
unfolding testing computing
given2 = given (fresh 1 4) list2 tt

abbrev list3 : List Line
list3 =
    did (valid (0x00 ∷ 0x04 ∷ 0x01 ∷ 0x03 ∷ 0x10 ∷ 0x00 ∷ [])) (answered (some 0))
    ∷ existing (false ∷ false ∷ [])
    ∷ did (clear 1) (answered (some 0))
    ∷ did (set (under 4 0 top top) 1 100 (0x00 ∷ 0x04 ∷ 0x02 ∷ 0x68 ∷ 0x02 ∷ 0x00 ∷ [])) (refused 7)
    ∷ did (relation 0 (0x00 ∷ 0x05 ∷ 0x01 ∷ 0x02 ∷ 0x04 ∷ 0x10 ∷ 0x20 ∷ [])) (related 3)
    ∷ relates 0 (some ((false ∷ false ∷ []) ∷ (false ∷ false ∷ []) ∷ []))
    ∷ did (set alone 1 0 (0x00 ∷ 0x06 ∷ 0x02 ∷ 0x68 ∷ 0x02 ∷ 0x04 ∷ 0x00 ∷ 0x01 ∷ [])) (made 0 0 (some 0))
    ∷ holds 1 (some (false ∷ false ∷ []))
    ∷ told (member 1 0) (answered (some 0))
    ∷ told (count 2) (refused 7)
    ∷ did (set (under 6 0 2 0) 2 1 (0x00 ∷ 0x03 ∷ 0x02 ∷ 0x60 ∷ 0x01 ∷ [])) (made 0 0 (some 0))
    ∷ holds 2 (some (false ∷ false ∷ []))
    ∷ did (set (under 5 0 top top) 2 3 (0x00 ∷ 0x0A ∷ 0x01 ∷ 0x04 ∷ 0x02 ∷ 0x70 ∷ 0x04 ∷ 0x30 ∷ 0x30 ∷ 0x68 ∷ 0x02 ∷ 0x00 ∷ []))
    (made 1 0 (some 0))
    ∷ holds 2 (some (false ∷ false ∷ [])) ∷ []

pub given3 : Gives (fresh 1 9) list3
unfolding testing computing
given3 = given (fresh 1 9) list3 tt

abbrev list4 : List Line
list4 =
    did (valid (0x00 ∷ 0x05 ∷ 0x01 ∷ 0x02 ∷ 0x03 ∷ 0x10 ∷ 0x10 ∷ [])) (answered (some 0))
    ∷ existing (true ∷ false ∷ [])
    ∷ did (clear 1) (answered (some 0))
    ∷ did (set (under 2 0 top top) 0 2 (0x00 ∷ 0x02 ∷ 0x01 ∷ 0x10 ∷ [])) (made 0 1 (some 0))
    ∷ holds 0 (some (false ∷ false ∷ []))
    ∷ did (relation 1 (0x00 ∷ 0x05 ∷ 0x01 ∷ 0x02 ∷ 0x04 ∷ 0x00 ∷ 0x20 ∷ [])) (related 3)
    ∷ relates 1 (some ((true ∷ false ∷ []) ∷ (false ∷ false ∷ []) ∷ []))
    ∷ did (set (under 2 0 top top) 2 5 (0x00 ∷ 0x06 ∷ 0x01 ∷ 0x03 ∷ 0x69 ∷ 0x69 ∷ 0x40 ∷ 0x10 ∷ [])) (made 0 3 (some 0))
    ∷ holds 2 (some (false ∷ false ∷ []))
    ∷ did (set (under 1 0 5 2) 1 3 (0x00 ∷ 0x0B ∷ 0x01 ∷ 0x03 ∷ 0x04 ∷ 0x10 ∷ 0x61 ∷ 0x10 ∷ 0x03 ∷ 0x61 ∷ 0x00 ∷ 0x69 ∷ 0x10 ∷ []))
    (made 0 3 (some 0))
    ∷ holds 1 (some (false ∷ false ∷ []))
    ∷ did (relation 0 (0x00 ∷ 0x02 ∷ 0x01 ∷ 0x20 ∷ [])) (related 4)
    ∷ relates 0 (some ((false ∷ false ∷ []) ∷ (false ∷ false ∷ []) ∷ []))
    ∷ did (set (under 5 0 top top) 0 5 (0x00 ∷ 0x06 ∷ 0x01 ∷ 0x02 ∷ 0x03 ∷ 0x10 ∷ 0x02 ∷ 0x10 ∷ [])) (made 0 3 none)
    ∷ holds 0 (some (true ∷ false ∷ []))
    ∷ did (set alone 1 0 (0x00 ∷ 0x0A ∷ 0x01 ∷ 0x04 ∷ 0x10 ∷ 0x03 ∷ 0x80 ∷ 0x04 ∷ 0x30 ∷ 0x30 ∷ 0x02 ∷ 0x00 ∷ [])) (refused 9) ∷ []

pub given4 : Gives (fresh 1 14) list4
unfolding testing computing
given4 = given (fresh 1 14) list4 tt

abbrev list5 : List Line
list5 =
    did (valid (0x00 ∷ 0x02 ∷ 0x01 ∷ 0x10 ∷ [])) (answered (some 0))
    ∷ existing (false ∷ true ∷ [])
    ∷ did (valid (0x00 ∷ 0x05 ∷ 0x01 ∷ 0x03 ∷ 0x02 ∷ 0x10 ∷ 0x00 ∷ [])) (answered (some 0))
    ∷ existing (false ∷ false ∷ [])
    ∷ told (member 2 1) (refused 7)
    ∷ did (relation 1 (0x00 ∷ 0x02 ∷ 0x01 ∷ 0x00 ∷ [])) (related 0)
    ∷ relates 1 (some ((false ∷ false ∷ []) ∷ (false ∷ false ∷ []) ∷ []))
    ∷ did (relation 1 (0x00 ∷ 0x06 ∷ 0x01 ∷ 0x03 ∷ 0x00 ∷ 0x03 ∷ 0x20 ∷ 0x01 ∷ [])) (related 1)
    ∷ relates 1 (some ((false ∷ false ∷ []) ∷ (false ∷ false ∷ []) ∷ []))
    ∷ did (set (under 7 0 top top) 0 1 (0x00 ∷ 0x03 ∷ 0x01 ∷ 0x02 ∷ 0x42 ∷ [])) (refused 7)
    ∷ did (set (under 5 0 top top) 1 1 (0x00 ∷ 0x05 ∷ 0x01 ∷ 0x80 ∷ 0x04 ∷ 0x30 ∷ 0x30 ∷ [])) (made 1 0 (some 0))
    ∷ holds 1 (some (false ∷ false ∷ []))
    ∷ did (relation 0 (0x00 ∷ 0x02 ∷ 0x01 ∷ 0x10 ∷ [])) (related 1)
    ∷ relates 0 (some ((false ∷ false ∷ []) ∷ (false ∷ false ∷ []) ∷ []))
    ∷ did (set (under 5 0 top top) 0 5 (0x00 ∷ 0x07 ∷ 0x01 ∷ 0x68 ∷ 0x69 ∷ 0x80 ∷ 0x03 ∷ 0x30 ∷ 0x30 ∷ [])) (made 1 0 (some 0))
    ∷ holds 0 (some (false ∷ false ∷ [])) ∷ []

pub given5 : Gives (fresh 1 4) list5
unfolding testing computing
given5 = given (fresh 1 4) list5 tt

abbrev list6 : List Line
list6 =
    did (valid (0x00 ∷ 0x03 ∷ 0x01 ∷ 0x02 ∷ 0x10 ∷ [])) (answered (some 0))
    ∷ existing (true ∷ false ∷ [])
    ∷ did (relation 1 (0x00 ∷ 0x03 ∷ 0x01 ∷ 0x02 ∷ 0x01 ∷ [])) (related 2)
    ∷ relates 1 (some ((false ∷ false ∷ []) ∷ (false ∷ false ∷ []) ∷ []))
    ∷ did (set alone 2 3 (0x00 ∷ 0x03 ∷ 0x02 ∷ 0x70 ∷ 0x01 ∷ [])) (refused 12)
    ∷ did (relation 0 (0x00 ∷ 0x02 ∷ 0x01 ∷ 0x20 ∷ [])) (related 3)
    ∷ relates 0 (some ((false ∷ false ∷ []) ∷ (false ∷ false ∷ []) ∷ []))
    ∷ told (member 0 0) (refused 7)
    ∷ did (set (under 6 0 top top) 0 1 (0x00 ∷ 0x07 ∷ 0x01 ∷ 0x69 ∷ 0x04 ∷ 0x03 ∷ 0x10 ∷ 0x10 ∷ 0x01 ∷ [])) (made 0 2 (some 0))
    ∷ holds 0 (some (false ∷ false ∷ []))
    ∷ did (relation 0 (0x00 ∷ 0x03 ∷ 0x01 ∷ 0x02 ∷ 0x10 ∷ [])) (related 3)
    ∷ relates 0 (some ((true ∷ false ∷ []) ∷ (false ∷ false ∷ []) ∷ []))
    ∷ did (clear 1) (answered (some 0))
    ∷ did (set (under 4 0 top top) 1 5 (0x00 ∷ 0x04 ∷ 0x01 ∷ 0x69 ∷ 0x80 ∷ 0x30 ∷ [])) (made 1 3 (some 0))
    ∷ holds 1 (some (false ∷ false ∷ [])) ∷ []

pub given6 : Gives (fresh 1 3) list6
unfolding testing computing
given6 = given (fresh 1 3) list6 tt

abbrev list7 : List Line
list7 =
    did (valid (0x00 ∷ 0x04 ∷ 0x01 ∷ 0x02 ∷ 0x02 ∷ 0x10 ∷ [])) (answered (some 0))
    ∷ existing (false ∷ true ∷ [])
    ∷ did (relation 0 (0x00 ∷ 0x03 ∷ 0x01 ∷ 0x02 ∷ 0x10 ∷ [])) (related 2)
    ∷ relates 0 (some ((false ∷ false ∷ []) ∷ (false ∷ false ∷ []) ∷ []))
    ∷ did (valid (0x00 ∷ 0x03 ∷ 0x02 ∷ 0x02 ∷ 0x00 ∷ [])) (refused 13)
    ∷ existing (false ∷ true ∷ [])
    ∷ told (count 1) (refused 7)
    ∷ did (relation 0 (0x00 ∷ 0x07 ∷ 0x01 ∷ 0x03 ∷ 0x03 ∷ 0x20 ∷ 0x20 ∷ 0x02 ∷ 0x10 ∷ [])) (related 3)
    ∷ relates 0 (some ((false ∷ false ∷ []) ∷ (false ∷ false ∷ []) ∷ []))
    ∷ did (set (under 7 0 top top) 0 3 (0x00 ∷ 0x03 ∷ 0x02 ∷ 0x02 ∷ 0x00 ∷ [])) (made 0 1 none)
    ∷ holds 0 (some (false ∷ true ∷ []))
    ∷ told (member 0 1) (answered (some 1))
    ∷ did (set (under 3 0 top top) 1 3 (0x00 ∷ 0x07 ∷ 0x01 ∷ 0x02 ∷ 0x04 ∷ 0x68 ∷ 0x00 ∷ 0x68 ∷ 0x40 ∷ [])) (made 0 2 none)
    ∷ holds 1 (some (false ∷ true ∷ []))
    ∷ did (set (under 5 0 top top) 2 5 (0x00 ∷ 0x07 ∷ 0x01 ∷ 0x68 ∷ 0x03 ∷ 0x10 ∷ 0x04 ∷ 0x01 ∷ 0x41 ∷ [])) (made 0 2 (some 0))
    ∷ holds 2 (some (false ∷ false ∷ [])) ∷ []

pub given7 : Gives (fresh 1 3) list7
unfolding testing computing
given7 = given (fresh 1 3) list7 tt

abbrev list8 : List Line
list8 =
    did (valid (0x00 ∷ 0x05 ∷ 0x01 ∷ 0x02 ∷ 0x03 ∷ 0x10 ∷ 0x10 ∷ [])) (answered (some 0))
    ∷ existing (true ∷ false ∷ [])
    ∷ did (valid (0x00 ∷ 0x04 ∷ 0x01 ∷ 0x02 ∷ 0x02 ∷ 0x10 ∷ [])) (answered (some 0))
    ∷ existing (false ∷ true ∷ [])
    ∷ did (set (under 4 0 top top) 0 1 (0x00 ∷ 0x07 ∷ 0x01 ∷ 0x68 ∷ 0x80 ∷ 0x03 ∷ 0x30 ∷ 0x61 ∷ 0x10 ∷ [])) (refused 7)
    ∷ did (relation 0 (0x00 ∷ 0x02 ∷ 0x01 ∷ 0x10 ∷ [])) (related 3)
    ∷ relates 0 (some ((false ∷ false ∷ []) ∷ (false ∷ true ∷ []) ∷ []))
    ∷ did (set (under 8 0 top top) 1 5 (0x00 ∷ 0x04 ∷ 0x02 ∷ 0x02 ∷ 0x68 ∷ 0x10 ∷ [])) (made 0 3 (some 0))
    ∷ holds 1 (some (false ∷ false ∷ []))
    ∷ did (set (under 8 0 top top) 2 100 (0x00 ∷ 0x07 ∷ 0x01 ∷ 0x68 ∷ 0x02 ∷ 0x80 ∷ 0x04 ∷ 0x30 ∷ 0x41 ∷ [])) (made 1 3 (some 0))
    ∷ holds 2 (some (false ∷ false ∷ []))
    ∷ did (valid (0x00 ∷ 0x05 ∷ 0x01 ∷ 0x04 ∷ 0x01 ∷ 0x02 ∷ 0x10 ∷ [])) (refused 13)
    ∷ existing (false ∷ true ∷ [])
    ∷ did (relation 1 (0x00 ∷ 0x02 ∷ 0x01 ∷ 0x10 ∷ [])) (related 3)
    ∷ relates 1 (some ((false ∷ false ∷ []) ∷ (false ∷ true ∷ []) ∷ []))
    ∷ did (relation 0 (0x00 ∷ 0x02 ∷ 0x01 ∷ 0x10 ∷ [])) (related 3)
    ∷ relates 0 (some ((false ∷ false ∷ []) ∷ (false ∷ true ∷ []) ∷ [])) ∷ []

pub given8 : Gives (fresh 1 4) list8
unfolding testing computing
given8 = given (fresh 1 4) list8 tt

abbrev list9 : List Line
list9 =
    did (valid (0x00 ∷ 0x04 ∷ 0x01 ∷ 0x02 ∷ 0x02 ∷ 0x10 ∷ [])) (answered (some 0))
    ∷ existing (false ∷ true ∷ [])
    ∷ did (valid (0x00 ∷ 0x05 ∷ 0x01 ∷ 0x02 ∷ 0x03 ∷ 0x01 ∷ 0x10 ∷ [])) (answered (some 0))
    ∷ existing (true ∷ false ∷ [])
    ∷ told (member 1 2) (refused 3)
    ∷ did (relation 1 (0x00 ∷ 0x06 ∷ 0x01 ∷ 0x03 ∷ 0x02 ∷ 0x00 ∷ 0x02 ∷ 0x00 ∷ [])) (related 3)
    ∷ relates 1 (some ((true ∷ false ∷ []) ∷ (false ∷ false ∷ []) ∷ []))
    ∷ did (set (under 3 0 top top) 2 100 (0x00 ∷ 0x05 ∷ 0x02 ∷ 0x69 ∷ 0x02 ∷ 0x69 ∷ 0x10 ∷ [])) (made 0 3 none)
    ∷ holds 2 (some (true ∷ false ∷ []))
    ∷ did (set (under 1 0 3 5) 0 5 (0x00 ∷ 0x04 ∷ 0x02 ∷ 0x91 ∷ 0x10 ∷ 0x01 ∷ [])) (made 2 3 none)
    ∷ holds 0 (some (true ∷ false ∷ []))
    ∷ did (set (under 5 0 top top) 0 9
    (0x00 ∷ 0x0C ∷ 0x01 ∷ 0x04 ∷ 0x80 ∷ 0x04 ∷ 0x30 ∷ 0x81 ∷ 0x04 ∷ 0x31 ∷ 0x00 ∷ 0x69 ∷ 0x69 ∷ 0x10 ∷ [])) (made 2 3 none)
    ∷ holds 0 (some (true ∷ false ∷ []))
    ∷ did (valid (0x00 ∷ 0x04 ∷ 0x01 ∷ 0x02 ∷ 0x02 ∷ 0x10 ∷ [])) (refused 13)
    ∷ existing (true ∷ false ∷ [])
    ∷ did (relation 0 (0x00 ∷ 0x02 ∷ 0x01 ∷ 0x01 ∷ [])) (related 3)
    ∷ relates 0 (some ((true ∷ false ∷ []) ∷ (false ∷ false ∷ []) ∷ [])) ∷ []

pub given9 : Gives (fresh 1 6) list9
unfolding testing computing
given9 = given (fresh 1 6) list9 tt

abbrev list10 : List Line
list10 =
    did (valid (0x00 ∷ 0x02 ∷ 0x01 ∷ 0x10 ∷ [])) (answered (some 0))
    ∷ existing (false ∷ true ∷ [])
    ∷ did (set (under 6 0 top top) 2 100 (0x00 ∷ 0x02 ∷ 0x01 ∷ 0x00 ∷ [])) (made 0 0 (some 0))
    ∷ holds 2 (some (false ∷ false ∷ []))
    ∷ did (set (under 3 0 top top) 2 100 (0x00 ∷ 0x06 ∷ 0x01 ∷ 0x02 ∷ 0x02 ∷ 0x04 ∷ 0x42 ∷ 0x00 ∷ [])) (made 0 1 (some 0))
    ∷ holds 2 (some (false ∷ false ∷ []))
    ∷ did (set (under 6 0 top top) 0 2 (0x00 ∷ 0x04 ∷ 0x01 ∷ 0x69 ∷ 0x02 ∷ 0x10 ∷ [])) (refused 7)
    ∷ did (relation 0 (0x00 ∷ 0x08 ∷ 0x01 ∷ 0x04 ∷ 0x03 ∷ 0x20 ∷ 0x01 ∷ 0x03 ∷ 0x20 ∷ 0x10 ∷ [])) (related 3)
    ∷ relates 0 (some ((false ∷ false ∷ []) ∷ (false ∷ true ∷ []) ∷ []))
    ∷ did (valid (0x00 ∷ 0x06 ∷ 0x01 ∷ 0x03 ∷ 0x02 ∷ 0x01 ∷ 0x02 ∷ 0x10 ∷ [])) (refused 13)
    ∷ existing (false ∷ true ∷ [])
    ∷ did (set alone 0 2 (0x00 ∷ 0x06 ∷ 0x01 ∷ 0x68 ∷ 0x04 ∷ 0x68 ∷ 0x10 ∷ 0x10 ∷ [])) (made 0 3 none)
    ∷ holds 0 (some (false ∷ true ∷ []))
    ∷ did (set (under 4 0 top top) 2 1 (0x00 ∷ 0x05 ∷ 0x01 ∷ 0x02 ∷ 0x68 ∷ 0x60 ∷ 0x01 ∷ [])) (made 0 3 (some 0))
    ∷ holds 2 (some (false ∷ false ∷ []))
    ∷ did (valid (0x00 ∷ 0x05 ∷ 0x01 ∷ 0x03 ∷ 0x02 ∷ 0x10 ∷ 0x10 ∷ [])) (refused 13)
    ∷ existing (false ∷ true ∷ []) ∷ []

pub given10 : Gives (fresh 1 3) list10
unfolding testing computing
given10 = given (fresh 1 3) list10 tt

abbrev list11 : List Line
list11 =
    did (valid (0x00 ∷ 0x05 ∷ 0x01 ∷ 0x02 ∷ 0x04 ∷ 0x10 ∷ 0x01 ∷ [])) (answered (some 0))
    ∷ existing (false ∷ false ∷ false ∷ false ∷ [])
    ∷ did (relation 1 (0x00 ∷ 0x02 ∷ 0x01 ∷ 0x11 ∷ [])) (related 1)
    ∷ relates 1
    (some ((false ∷ false ∷ false ∷ false ∷ []) ∷ (false ∷ false ∷ false ∷ false ∷ []) ∷ (false ∷ false ∷ false ∷ false ∷ [])
    ∷ (false ∷ false ∷ false ∷ false ∷ []) ∷ []))
    ∷ did (set (under 3 0 2 4) 1 100 (0x00 ∷ 0x07 ∷ 0x01 ∷ 0x70 ∷ 0x03 ∷ 0x30 ∷ 0x03 ∷ 0x30 ∷ 0x30 ∷ [])) (made 1 0 (some 0))
    ∷ holds 1 (some (false ∷ false ∷ false ∷ false ∷ []))
    ∷ did (set alone 0 9 (0x00 ∷ 0x05 ∷ 0x01 ∷ 0x69 ∷ 0x03 ∷ 0x01 ∷ 0x00 ∷ [])) (made 0 0 (some 0))
    ∷ holds 0 (some (false ∷ false ∷ false ∷ false ∷ []))
    ∷ did (clear 2) (answered (some 0))
    ∷ did (relation 0 (0x00 ∷ 0x02 ∷ 0x01 ∷ 0x20 ∷ [])) (related 1)
    ∷ relates 0
    (some ((false ∷ false ∷ false ∷ false ∷ []) ∷ (false ∷ false ∷ false ∷ false ∷ []) ∷ (false ∷ false ∷ false ∷ false ∷ [])
    ∷ (false ∷ false ∷ false ∷ false ∷ []) ∷ [])) ∷ []

pub given11 : Gives (fresh 2 9) list11
unfolding testing computing
given11 = given (fresh 2 9) list11 tt

abbrev list12 : List Line
list12 =
    did (valid (0x00 ∷ 0x04 ∷ 0x01 ∷ 0x04 ∷ 0x10 ∷ 0x11 ∷ [])) (answered (some 0))
    ∷ existing (false ∷ true ∷ true ∷ true ∷ [])
    ∷ did (set (under 6 0 top top) 2 9 (0x00 ∷ 0x05 ∷ 0x01 ∷ 0x70 ∷ 0x03 ∷ 0x30 ∷ 0x11 ∷ [])) (made 1 2 (some 0))
    ∷ holds 2 (some (false ∷ false ∷ false ∷ false ∷ []))
    ∷ did (relation 0 (0x00 ∷ 0x03 ∷ 0x01 ∷ 0x02 ∷ 0x20 ∷ [])) (related 11)
    ∷ relates 0
    (some ((false ∷ false ∷ false ∷ false ∷ []) ∷ (false ∷ false ∷ true ∷ false ∷ []) ∷ (false ∷ false ∷ true ∷ false ∷ [])
    ∷ (false ∷ false ∷ true ∷ false ∷ []) ∷ []))
    ∷ told (count 0) (refused 7)
    ∷ told (member 2 2) (answered (some 0))
    ∷ did (set (under 6 0 top top) 2 2 (0x00 ∷ 0x05 ∷ 0x02 ∷ 0x70 ∷ 0x03 ∷ 0x30 ∷ 0x11 ∷ [])) (made 1 7 (some 0))
    ∷ holds 2 (some (false ∷ false ∷ false ∷ false ∷ [])) ∷ []

pub given12 : Gives (fresh 2 14) list12
unfolding testing computing
given12 = given (fresh 2 14) list12 tt

abbrev list13 : List Line
list13 =
    did (valid (0x00 ∷ 0x04 ∷ 0x01 ∷ 0x02 ∷ 0x02 ∷ 0x11 ∷ [])) (answered (some 0))
    ∷ existing (false ∷ false ∷ true ∷ true ∷ [])
    ∷ did collect (answered (some 1))
    ∷ did (set (under 4 0 top top) 1 3 (0x00 ∷ 0x06 ∷ 0x01 ∷ 0x02 ∷ 0x70 ∷ 0x03 ∷ 0x30 ∷ 0x30 ∷ [])) (made 1 1 none)
    ∷ holds 1 (some (false ∷ false ∷ true ∷ true ∷ []))
    ∷ did (set alone 2 1 (0x00 ∷ 0x06 ∷ 0x02 ∷ 0x70 ∷ 0x03 ∷ 0x30 ∷ 0x02 ∷ 0x00 ∷ [])) (made 1 1 (some 0))
    ∷ holds 2 (some (false ∷ false ∷ false ∷ false ∷ []))
    ∷ did collect (answered (some 1))
    ∷ did (relation 1 (0x00 ∷ 0x03 ∷ 0x01 ∷ 0x02 ∷ 0x20 ∷ [])) (related 5)
    ∷ relates 1
    (some ((false ∷ false ∷ false ∷ false ∷ []) ∷ (false ∷ false ∷ false ∷ false ∷ []) ∷ (false ∷ false ∷ true ∷ false ∷ [])
    ∷ (false ∷ false ∷ true ∷ false ∷ []) ∷ [])) ∷ []

pub given13 : Gives (fresh 2 100) list13
unfolding testing computing
given13 = given (fresh 2 100) list13 tt

abbrev list14 : List Line
list14 =
    did (valid (0x00 ∷ 0x06 ∷ 0x01 ∷ 0x03 ∷ 0x02 ∷ 0x10 ∷ 0x02 ∷ 0x01 ∷ [])) (answered (some 0))
    ∷ existing (false ∷ false ∷ false ∷ false ∷ [])
    ∷ did (relation 1 (0x00 ∷ 0x05 ∷ 0x01 ∷ 0x02 ∷ 0x04 ∷ 0x00 ∷ 0x11 ∷ [])) (related 1)
    ∷ relates 1
    (some ((false ∷ false ∷ false ∷ false ∷ []) ∷ (false ∷ false ∷ false ∷ false ∷ []) ∷ (false ∷ false ∷ false ∷ false ∷ [])
    ∷ (false ∷ false ∷ false ∷ false ∷ []) ∷ []))
    ∷ did (set alone 1 5 (0x00 ∷ 0x04 ∷ 0x02 ∷ 0x61 ∷ 0x61 ∷ 0x11 ∷ [])) (made 0 1 (some 0))
    ∷ holds 1 (some (false ∷ false ∷ false ∷ false ∷ []))
    ∷ did (set alone 0 3 (0x00 ∷ 0x03 ∷ 0x01 ∷ 0x61 ∷ 0x00 ∷ [])) (made 0 0 (some 0))
    ∷ holds 0 (some (false ∷ false ∷ false ∷ false ∷ []))
    ∷ did (relation 0 (0x00 ∷ 0x02 ∷ 0x01 ∷ 0x21 ∷ [])) (related 1)
    ∷ relates 0
    (some ((false ∷ false ∷ false ∷ false ∷ []) ∷ (false ∷ false ∷ false ∷ false ∷ []) ∷ (false ∷ false ∷ false ∷ false ∷ [])
    ∷ (false ∷ false ∷ false ∷ false ∷ []) ∷ []))
    ∷ did collect (answered (some 0)) ∷ []

pub given14 : Gives (fresh 2 4) list14
unfolding testing computing
given14 = given (fresh 2 4) list14 tt
