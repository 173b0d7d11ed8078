-- The search over the words of a table: what it answers is the outcome of the book that the table stands for. Assumes nothing.
use Rattle.std.specs.Prelude.{◌≡◌, List, ℕ, suc, ◌+◌, ◌≤◌, ◌<◌, length, Result}
use Rattle.mucalculus.specs.Form.{inside}
use Rattle.layout.specs.declared.Refusal.{Refusal}
use Rattle.layout.specs.Places.{BITS, FIRST_REGISTER, FIRST_RELATION}
use Rattle.layout.specs.View.{View}
use Rattle.diagram.specs.Keep.{Keeps}
use Rattle.rows.specs.Used.{rows_of}
use Rattle.rows.specs.Sound.{Sound}
use Rattle.rows.specs.Filled.{filled}
use Rattle.operations.specs.Work.{OpFrame}
use Rattle.book.specs.Book.{Book, registers, relations, live_of}
use Rattle.book.specs.BookOf.{book_of}
use Rattle.contract.specs.Seen.{seen_in}
use Rattle.paths.specs.Runs.{outcome}
use Rattle.routes.specs.Find.{Told}

-- the book that a table stands for
abbrev pub book_in : View → Book
book_in W = book_of (seen_in W)

-- registers ra and rb and relation rt hold these arrows
pub record Named (W : View) (ra rb rt a b t : ℕ) : Type 0 where
  pub a_in : ra < registers
  pub a_is : W.header (FIRST_REGISTER + ra) ≡ suc a
  pub b_in : rb < registers
  pub b_is : W.header (FIRST_REGISTER + rb) ≡ suc b
  pub t_in : rt < relations
  pub t_is : W.header (FIRST_RELATION + rt) ≡ suc t

-- a sound table of these sizes
pub record Opens (n N limit : ℕ) (W : View) : Type 0 where
  pub sound : Sound W
  pub bits : n ≡ W.header BITS
  pub rows : N ≡ W.rows
  pub limit-le : limit ≤ N

pub record SearchPre (n N limit : ℕ) (W : View) (t a b : ℕ) : Type 0 where
  pub opens : Opens n N limit W
  pub ra : ℕ
  pub rb : ℕ
  pub rt : ℕ
  pub named : Named W ra rb rt a b t

-- a sound table, nothing touched but unneeded rows, the index and remembered results, and the book's outcome
pub record Searched (n limit : ℕ) (W X : View) (ra rb rt : ℕ) (old new : List ℕ) (r : Result ℕ Refusal) : Type 0 where
  pub sound : Sound X
  pub frame : OpFrame W X
  pub kept : Keeps (rows_of W) (rows_of X) (filled W)
  pub told : Told
      (outcome n limit (live_of (book_in W)) (inside ((book_in W).rel rt)) (inside ((book_in W).reg ra)) (inside ((book_in W).reg rb)) (length old))
      r old new

abbrev pub SearchPost : ℕ → ℕ → View → View → ℕ → ℕ → ℕ → List ℕ → List ℕ → Result ℕ Refusal → Type 0
SearchPost n limit W X t a b old new r = (ra rb rt : ℕ) → Named W ra rb rt a b t → Searched n limit W X ra rb rt old new r
