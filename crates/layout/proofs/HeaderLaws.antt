-- Laws of what specs/Header.antt defines. Assumes nothing.
use mathlib.Core.Path.{◌≡◌, ◌∙◌}
use mathlib.Core.Logic.{◌≢◌}
use mathlib.Core.List.{List}
use Prim.Native.Nat.{ℕ, ◌<◌}
use native.Mathlib.Omega.{arith}
use lib.ListN.{length, get_or, replicate, set, length-set, length-replicate, get_or-replicate}
use lib.Seq.{get_or-set_same, get_or-set_other}
use Rattle.layout.specs.Places.{HEADER, BITS, ROWS, LAYOUT, CURRENT, VALID, ALL_STATES}
use Rattle.layout.specs.Header.{header_words}

-- its words one by one
module _ (n N : ℕ) where
  abbrev one : List ℕ
  one = set (replicate HEADER 0) BITS n

  abbrev two : List ℕ
  two = set one ROWS N

  abbrev three : List ℕ
  three = set two LAYOUT CURRENT

  zeros : length (replicate {A = ℕ} HEADER 0) ≡ HEADER
  zeros = length-replicate {A = ℕ} HEADER 0

  room : length one ≡ HEADER
  room = length-set (replicate HEADER 0) BITS n ∙ zeros

  room-two : length two ≡ HEADER
  room-two = length-set one ROWS N ∙ room

  room_three : length three ≡ HEADER
  room_three = length-set two LAYOUT CURRENT ∙ room-two

  -- the words but V's
  before : (h : ℕ) → h ≢ VALID → get_or (header_words n N) h 0 ≡ get_or three h 0
  unfolding header_words
  before h c = get_or-set_other three VALID h ALL_STATES 0 c

  pub header-bits : get_or (header_words n N) BITS 0 ≡ n
  header-bits =
      before BITS (omega arith) ∙ get_or-set_other two LAYOUT BITS CURRENT 0 (omega arith) ∙ get_or-set_other one ROWS BITS N 0 (omega arith)
      ∙ get_or-set_same (replicate HEADER 0) BITS n 0 (let l = zeros in omega arith)

  pub header-rows : get_or (header_words n N) ROWS 0 ≡ N
  header-rows =
      before ROWS (omega arith) ∙ get_or-set_other two LAYOUT ROWS CURRENT 0 (omega arith)
      ∙ get_or-set_same one ROWS N 0 (let l = room in omega arith)

  pub header_layout : get_or (header_words n N) LAYOUT 0 ≡ CURRENT
  header_layout = before LAYOUT (omega arith) ∙ get_or-set_same two LAYOUT CURRENT 0 (let l = room-two in omega arith)

  pub header-valid : get_or (header_words n N) VALID 0 ≡ ALL_STATES
  unfolding header_words
  header-valid = get_or-set_same three VALID ALL_STATES 0 (let l = room_three in omega arith)

  pub header-zero : (h : ℕ) → h < HEADER → h ≢ BITS → h ≢ ROWS → h ≢ LAYOUT → h ≢ VALID → get_or (header_words n N) h 0 ≡ 0
  header-zero h l a b c d =
      before h d ∙ get_or-set_other two LAYOUT h CURRENT 0 c ∙ get_or-set_other one ROWS h N 0 b
      ∙ get_or-set_other (replicate HEADER 0) BITS h n 0 a
      ∙ get_or-replicate {A = ℕ} HEADER h 0 0 l
