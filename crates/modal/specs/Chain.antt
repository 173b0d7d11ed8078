-- A chain of steps over the words: what it starts from and what it leaves. Assumes nothing.
use Rattle.std.specs.Prelude.{Bool, List, ℕ, ◌*◌, Result}
use Rattle.accounts.specs.declared.Count.{Count}
use Rattle.layout.specs.View.{View}
use Rattle.diagram.specs.Level.{Fn}
use Rattle.diagram.specs.Count.{Within}
use Rattle.rows.specs.Used.{rows_of}
use Rattle.rows.specs.Sound.{Sound}
use Rattle.table.specs.Make.{result}
use Rattle.memory.specs.Memo.{Remembers}
use Rattle.operations.specs.Work.{OpFrame, Ready}
use Rattle.table.specs.declared.Full.{Full}
use Rattle.counting.specs.Taken.{made_in, count_in}
use Rattle.counting.specs.declared.Taken.{Taken}
use Rattle.book.specs.Pairs.{PairEvals}

-- ---- roots

-- two lists with the same members
pub record Alike {A : Type 0} (xs ys : List A) : Type 0 where
  pub to : Within xs ys
  pub from : Within ys xs

-- ---- the table between steps

-- what a step asks of the words
pub record Base (n N limit : ℕ) (W : View) : Type 0 where
  pub ready : Ready (2 * n) N limit W
  pub sound : Sound W

-- what steps leave of the words: a sound table that remembers right results, and nothing else touched
pub record Moved (n : ℕ) (W X : View) : Type 0 where
  pub sound : Sound X
  pub memory : Remembers (2 * n) X
  pub frame : OpFrame W X

-- ---- a chain

-- a chain of steps for F whose needs fit, or do not, c being counted in the book after it: what it leaves of the words, and its answer
pub record Ran (n N : ℕ) (W X : View) (roots : List ℕ) (fits : Bool) (F : Fn) (c : Count) (o : Result Taken Full) : Type 0 where
  pub moved : Moved n W X
  pub evals : PairEvals n N (rows_of W) (rows_of X) roots fits F c (result (made_in o)) (count_in o)
