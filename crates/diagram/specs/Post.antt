-- What every operation on the table promises. Assumes nothing.
use Rattle.std.specs.Prelude.{◌≡◌, ◌≢◌, true, false, ℕ, ◌≤◌, ◌<◌}
use Rattle.diagram.specs.Level.{Val, Fn, PartOf, Varies}
use Rattle.diagram.specs.Rows.{Rows, marked, row, flip, Arrow, den, WellFormed, Extends, Same, Adds}
use Rattle.diagram.specs.Used.{used_count}

-- What an operation answers: the arrow of its result, or that the rows ran out.
pub data Result : Type 0 where
  at : ℕ → Result
  full : Result

-- The arrow a denotes F.
pub record Denotes (m : ℕ) (rows : Rows) (a : ℕ) (F : Fn) : Type 0 where
  pub arrow : Arrow rows a
  pub same : (v : Val) → den m rows a v ≡ F v

-- The rows have run out, the cause of refusal 8, "step needs more than N rows": at least `limit` of the N rows are used, and some
-- non-constant part of F, which its result needs a row for, is denoted by no arrow. `limit` is N (module Whole) or less.
pub record Full (m N limit : ℕ) (rows : Rows) (F : Fn) : Type 0 where
  pub run_out : limit ≤ used_count rows N
  pub lost : Fn
  pub part : PartOf F lost
  pub varies : Varies lost
  pub absent : (a : ℕ) → Arrow rows a → ((v : Val) → den m rows a v ≡ lost v) → ⊥

-- What the answer means, in the table that is left.
abbrev pub Answers : ℕ → ℕ → ℕ → Rows → Result → Fn → Type 0
Answers m N limit rows (at a) F = Denotes m rows a F
Answers m N limit rows full F = Full m N limit rows F

-- The table stays well formed, used rows stay as they were, every row that became used denotes a cofactor of F or of its complement (no
-- constant: `row-varies`), and the answer is an arrow that denotes F, or truly full.
pub record OpPost (m N limit : ℕ) (before after : Rows) (answer : Result) (F : Fn) : Type 0 where
  pub wf : WellFormed m N after
  pub kept : Extends before after
  pub fresh : (i : ℕ) → after.used i ≡ true → before.used i ≡ false → PartOf F (den m after (row i))
  pub result : Answers m N limit after answer F

-- What the making of a row of level l with arrows a and b does, b without a NOT: it takes a where the two are the same, finds the row, adds
-- it, or finds at least `limit` rows used.
pub data Plain (m N limit : ℕ) (before after : Rows) (l a b : ℕ) : Result → Type 0 where
  equal_arrows : a ≡ b → Same before after → Plain m N limit before after l a b (at a)
  found_row : (i : ℕ) → before.used i ≡ true → before.level i ≡ l → before.low i ≡ a → before.high i ≡ b → Same before after
      → Plain m N limit before after l a b (at (row i))
  added-row : (i : ℕ) → i < N → a ≢ b → Adds before after i l a b
      → ((j : ℕ) → before.used j ≡ true → before.level j ≡ l → before.low j ≡ a → before.high j ≡ b → ⊥)
      → Plain m N limit before after l a b (at (row i))
  no_row : a ≢ b → limit ≤ used_count before N
      → ((j : ℕ) → before.used j ≡ true → before.level j ≡ l → before.low j ≡ a → before.high j ≡ b → ⊥)
      → Same before after → Plain m N limit before after l a b full

-- NOT of an answer.
abbrev pub flipped : Result → Result
flipped (at a) = at (flip a)
flipped full = full

-- With any arrows: where the high one carries a NOT, the row of the complement is made, and the answer is NOT of its.
pub data Making (m N limit : ℕ) (before after : Rows) (l a b : ℕ) (answer : Result) : Type 0 where
  as_is : marked b ≡ false → Plain m N limit before after l a b answer → Making m N limit before after l a b answer
  turned : {part : Result} → marked b ≡ true → Plain m N limit before after l (flip a) (flip b) part → flipped part ≡ answer
      → Making m N limit before after l a b answer
