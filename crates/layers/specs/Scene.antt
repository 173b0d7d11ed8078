-- What the arrows of a relation and a set stand for, and where the making of layers stands. Assumes nothing.
use Rattle.std.specs.Prelude.{Bool, ℕ, ◌*◌, ◌^◌}
use mathlib.Core.List.{List, Memᴰ as Mem}
use Rattle.mucalculus.specs.Form.{Pairs}
use Rattle.layout.specs.View.{View}
use Rattle.diagram.specs.Level.{Fn}
use Rattle.diagram.specs.Post.{Denotes}
use Rattle.diagram.specs.Keep.{Keeps}
use Rattle.rows.specs.Used.{rows_of}
use Rattle.rows.specs.Filled.{filled}
use Rattle.book.specs.Bridge.{fn_of, fn_of_pairs, Sized}
use Rattle.book.specs.Held.{Held}
use Rattle.modal.specs.Chain.{Base, Moved}
use Rattle.paths.specs.Runs.{layer, made_needs}

-- the functions that registers and relations hold, the pairs of relation t and the states of set b
pub record Scene (n : ℕ) (W : View) (t b : ℕ) : Type 0 where
  pub fs : List Fn
  pub R : Pairs
  pub B : List Bool
  pub held : Held (2 * n) (rows_of W) (filled W) fs
  pub relation : Denotes (2 * n) (rows_of W) t (fn_of_pairs n R)
  pub goal : Denotes (2 * n) (rows_of W) b (fn_of n B)
  pub sized : Sized n B

-- layer i, and the needs of making it
abbrev pub layer_of : {n : ℕ} {W : View} {t b : ℕ} → Scene n W t b → ℕ → List Bool
layer_of {n} S i = layer (2 ^ n) S.R S.B i

abbrev pub needs_of : {n : ℕ} {W : View} {t b : ℕ} → Scene n W t b → ℕ → List ℕ
needs_of {n} S i = made_needs n S.fs S.R S.B i

-- what the making of layers asks of the words: both arrows are live
pub record Start (n N limit : ℕ) (W : View) (t b : ℕ) : Type 0 where
  pub base : Base n N limit W
  pub t_live : Mem t (filled W)
  pub b_live : Mem b (filled W)

-- the words after some steps; x is the arrow of layer i
pub record Layered (n : ℕ) (W X : View) (t b : ℕ) (S : Scene n W t b) (i x : ℕ) : Type 0 where
  pub moved : Moved n W X
  pub kept : Keeps (rows_of W) (rows_of X) (filled W)
  pub layer-is : Denotes (2 * n) (rows_of X) x (fn_of n (layer_of S i))
