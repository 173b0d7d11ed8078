-- AND and OR: what is known at once, and what is remembered of a pair. Assumes nothing.
use Rattle.std.specs.Prelude.{◌≡◌, true, cond, ℕ, ◌<◌, eqb, Option, Some, None, Result}
use Rattle.diagram.specs.Rows.{flip}
use Rattle.layout.specs.View.{View}
use Rattle.layout.specs.Arrows.{is_row}
use Rattle.table.specs.declared.Full.{Full}
use Rattle.memory.specs.Memo.{Held}
use Rattle.memory.specs.Store.{RememberPost}
use Rattle.operations.specs.Carried.{CarriedMade, carried_found}

-- AND of a lesser and a greater arrow, where they are the same or each other's NOT, or the lesser is a constant
unfoldable pub short_of : ℕ → ℕ → Option ℕ
short_of lo hi =
    cond (eqb lo hi) (Some lo)
    (cond (eqb hi (flip lo)) (Some 0) (cond (is_row lo) None (cond (eqb lo 0) (Some lo) (Some hi))))

-- otherwise they differ, and both lead to rows
pub record BothRows (lo hi : ℕ) : Type 0 where
  pub left : is_row lo ≡ true
  pub right : is_row hi ≡ true
  pub less : lo < hi

-- what is known of AND: at once, or remembered
pub data KnownAt (W : View) (lo hi v : ℕ) : Type 0 where
  at_once : short_of lo hi ≡ Some v → KnownAt W lo hi v
  recalled : short_of lo hi ≡ None → Held W lo hi v → KnownAt W lo hi v

abbrev pub KnownPost : View → ℕ → ℕ → Option ℕ → Type 0
KnownPost W lo hi (Some v) = KnownAt W lo hi v
KnownPost W lo hi None = short_of lo hi ≡ None

-- what is known of OR: NOT of what is known of AND of the two with the other mark
pub record OrKnown (W : View) (lo hi : ℕ) (r : Option ℕ) : Type 0 where
  pub found : Option ℕ
  pub known : KnownPost W (flip lo) (flip hi) found
  pub turned : r ≡ carried_found true found

-- OR is remembered so too
pub record OrRemembered (W X : View) (lo hi : ℕ) (c : Result ℕ Full) : Type 0 where
  pub answer : Result ℕ Full
  pub turned : CarriedMade true c answer
  pub post : RememberPost W X (flip lo) (flip hi) answer
