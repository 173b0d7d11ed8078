-- An account as an element of a slice: what each walk over a lent list of accounts cites. Assumes nothing; the laws take `Given`.
--     R                the row of the struct.        V, tells     an account's machine values, and that its relation tells them
--     product          the place of element i, in bytes, fits a word
use Prim.Native.Nat.{ℕ, ◌<◌, ◌*◌, ◌^◌}
use native.Mathlib.Omega.{arith}
use mathlib.Core.List.{List}
use mir.Val.{Val}
use denote.RattleType.{RattleType}
use denote.Laws.{Is, Tells}
use denote.Slice.{Room}
use denote.Struct.Laws as LL
use Rattle.accounts.specs.declared.Account.{Account}
use Rattle.accounts.specs.contracts.Account as T
use Rattle.accounts.proofs.Account.TheLaws as T'

abbrev pub R : RattleType
R = T.the_row

-- an account's machine values
abbrev pub V' : Account → List Val
V' = LL.vals T.the_type T'.the_laws

pub tells : Tells R (Is R) V'
tells = LL.tells T.the_type T'.the_laws

bytes_fit : {i n : ℕ} → n * 12 < 2 ^ 63 → i < n → i * 12 < 2 ^ 64
bytes_fit room within = omega arith

pub product : {n i : ℕ} → Room R n → i < n → i * 12 < 2 ^ 64
product room within = bytes_fit room.1 within
