-- A table of decision-diagram rows, seen apart from its words: arrows (edges) that may carry a NOT, well-formed tables, and what an arrow
-- denotes. Assumes nothing.
use Rattle.std.specs.Prelude.{◌≡◌, ◌≢◌, Bool, true, false, cond, ℕ, zero, suc, ◌+◌, ◌-◌, ◌*◌, ◌/◌, ◌%◌, ◌<◌, eqb}
use Rattle.diagram.specs.Level.{Fn, turn}

-- "A used row has a level, a low arrow (level's bit 0) and a high arrow (bit 1)."
pub record Rows : Type 0 where
  pub used : ℕ → Bool
  pub level : ℕ → ℕ
  pub low : ℕ → ℕ
  pub high : ℕ → ℕ

-- "An arrow may now carry a NOT": arrow a does where it is odd. What it leads to is a / 2: 0 for the one constant that is left, nothing,
-- and i + 1 for row i. So 0 is nothing and 1 everything, as NOT of nothing.
abbrev pub marked : ℕ → Bool
marked a = eqb (a % 2) 1

-- what arrow a leads to, its NOT left out: 0 for the constant, i + 1 for row i
abbrev pub target : ℕ → ℕ
target a = a / 2

-- Arrow a leads to row i, with or without a NOT.
abbrev pub Leads : ℕ → ℕ → Type 0
Leads a i = target a ≡ suc i

-- The arrow to row i without a NOT.
abbrev pub row : ℕ → ℕ
row i = 2 * suc i

-- NOT of an arrow: the other one to the same place. `carry b` is NOT where b.
abbrev pub flip : ℕ → ℕ
flip a = (a + 1) - 2 * (a % 2)

abbrev pub carry : Bool → ℕ → ℕ
carry false a = a
carry true a = flip a

-- "An arrow is 0 (nothing), 1 (everything) or a used row", with or without a NOT.
abbrev pub ArrowTo : Rows → ℕ → Type 0
ArrowTo rows zero = Unit {0}
ArrowTo rows (suc i) = rows.used i ≡ true

-- a is an arrow of the table: the constant or a used row, with or without a NOT
abbrev pub Arrow : Rows → ℕ → Type 0
Arrow rows a = ArrowTo rows (target a)

-- The level at which an arrow leads, m for the constant.
abbrev pub level_to : ℕ → Rows → ℕ → ℕ
level_to m rows zero = m
level_to m rows (suc i) = rows.level i

-- the level at which arrow a leads, m for the constant
abbrev pub level_of : ℕ → Rows → ℕ → ℕ
level_of m rows a = level_to m rows (target a)

-- A row's arrow for a bit of its level.
abbrev pub child : Rows → ℕ → Bool → ℕ
child rows i false = rows.low i
child rows i true = rows.high i

-- The arrow that is followed for a bit from an arrow a, which leads to row i: the row's, with the NOT of a.
abbrev pub follow : Rows → ℕ → ℕ → Bool → ℕ
follow rows a i b = carry (marked a) (child rows i b)

-- What stands at the end of an arrow, its NOT left out: the walk along the bits of v, at most `fuel` rows long, with the NOTs met.
unfoldable pub den_to : ℕ → Rows → ℕ → Fn
den_to zero rows k v = false
den_to (suc fuel) rows zero v = false
den_to (suc fuel) rows (suc i) v =
    cond (v (rows.level i)) (turn (marked (rows.high i)) (den_to fuel rows (target (rows.high i)) v))
    (turn (marked (rows.low i)) (den_to fuel rows (target (rows.low i)) v))

-- What an arrow denotes.
unfoldable pub den : ℕ → Rows → ℕ → Fn
den fuel rows a v = turn (marked a) (den_to fuel rows (target a) v)

-- What a well-formed table asks of a used row: "row levels are under 2n, and each arrow to a row leads to a greater level; low and high
-- differ", and "the high arrow of a row never does" carry a NOT. The levels are m, of any number; the constant counts as at level m.
pub record RowOk (m : ℕ) (rows : Rows) (i : ℕ) : Type 0 where
  pub shallow : rows.level i < m
  pub low-arrow : Arrow rows (rows.low i)
  pub high-arrow : Arrow rows (rows.high i)
  pub low_deeper : rows.level i < level_of m rows (rows.low i)
  pub high_deeper : rows.level i < level_of m rows (rows.high i)
  pub reduced : rows.low i ≢ rows.high i
  pub plain : marked (rows.high i) ≡ false

-- A well-formed table of N rows over m levels: each used row is as above, "and no two used rows agree in all three".
pub record WellFormed (m N : ℕ) (rows : Rows) : Type 0 where
  pub bounded : (i : ℕ) → rows.used i ≡ true → i < N
  pub ok : (i : ℕ) → rows.used i ≡ true → RowOk m rows i
  pub shared : (i j : ℕ) → rows.used i ≡ true → rows.used j ≡ true
      → rows.level i ≡ rows.level j → rows.low i ≡ rows.low j → rows.high i ≡ rows.high j → i ≡ j

-- Every used row of the old table stands unchanged in the new one.
pub record Extends (old new : Rows) : Type 0 where
  pub used : (i : ℕ) → old.used i ≡ true → new.used i ≡ true
  pub level : (i : ℕ) → old.used i ≡ true → new.level i ≡ old.level i
  pub low : (i : ℕ) → old.used i ≡ true → new.low i ≡ old.low i
  pub high : (i : ℕ) → old.used i ≡ true → new.high i ≡ old.high i

-- The two tables have the same used rows.
pub record Same (old new : Rows) : Type 0 where
  pub forth : Extends old new
  pub back : Extends new old

-- The new table has the old one's used rows and one more, row i, with level l, low arrow a and high arrow b.
pub record Adds (old new : Rows) (i l a b : ℕ) : Type 0 where
  pub kept : Extends old new
  pub only : (j : ℕ) → new.used j ≡ true → j ≢ i → old.used j ≡ true
  pub unused : old.used i ≡ false
  pub used : new.used i ≡ true
  pub level : new.level i ≡ l
  pub low : new.low i ≡ a
  pub high : new.high i ≡ b
