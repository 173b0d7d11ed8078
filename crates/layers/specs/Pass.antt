-- The first pass: layer after layer, up to the first that shares a state with A, or no longer grows. Assumes nothing.
use Rattle.std.specs.Prelude.{◌≡◌, Bool, true, false, ℕ, ◌*◌, ◌^◌, Option, Some, None, Result, Ok, Err}
use mathlib.Core.List.{List, Memᴰ as Mem}
use Rattle.layout.specs.View.{View}
use Rattle.diagram.specs.Post.{Denotes}
use Rattle.diagram.specs.Keep.{Keeps}
use Rattle.rows.specs.Used.{rows_of}
use Rattle.rows.specs.Filled.{filled}
use Rattle.table.specs.declared.Full.{Full}
use Rattle.book.specs.Bridge.{fn_of}
use Rattle.book.specs.Run.{fit}
use Rattle.modal.specs.Chain.{Moved}
use Rattle.paths.specs.Runs.{common, meets, last_layer}
use Rattle.layers.specs.Scene.{Scene, Start, layer_of, needs_of}
use Rattle.layers.specs.declared.Meeting.{Meeting}

-- the arrow of A is live too
pub record PassPre (n N limit : ℕ) (W : View) (t a b : ℕ) : Type 0 where
  pub start : Start n N limit W t b
  pub a_live : Mem a (filled W)
  pub scene : Scene n W t b
  pub A : List Bool
  pub from : Denotes (2 * n) (rows_of W) a (fn_of n A)

-- where it ends
abbrev pub last_of : {n : ℕ} {W : View} {t b : ℕ} → Scene n W t b → List Bool → ℕ
last_of {n} S A = last_layer (2 ^ n) S.R A S.B

-- what was done to the words: registers, relations and all rows that they need are kept
pub record Steps (n : ℕ) (W X : View) : Type 0 where
  pub moved : Moved n W X
  pub kept : Keeps (rows_of W) (rows_of X) (filled W)

-- what it ends with: the last layer's number and the least state that it shares with A; or no state; or a step that is full
abbrev pub Ends : {n : ℕ} {W : View} {t b : ℕ} → ℕ → Scene n W t b → List Bool → Result (Option Meeting) Full → Type 0
Ends {n} limit S A (Ok (Some m)) =
    (m.layer ≡ last_of S A) × (meets (2 ^ n) A (layer_of S (last_of S A)) ≡ true) × (fit limit (needs_of S (last_of S A)) ≡ true)
    × (m.state ≡ common (2 ^ n) A (layer_of S (last_of S A)))
Ends {n} limit S A (Ok None) = (meets (2 ^ n) A (layer_of S (last_of S A)) ≡ false) × (fit limit (needs_of S (last_of S A)) ≡ true)
Ends limit S A (Err x) = fit limit (needs_of S (last_of S A)) ≡ false

pub record Passed (n limit : ℕ) (W X : View) (t b : ℕ) (S : Scene n W t b) (A : List Bool)
    (r : Result (Option Meeting) Full) : Type 0 where
  pub steps : Steps n W X
  pub ends : Ends limit S A r

abbrev pub PassPost : ℕ → ℕ → View → View → ℕ → ℕ → ℕ → Result (Option Meeting) Full → Type 0
PassPost n limit W X t a b r = (S : Scene n W t b) (A : List Bool) → Denotes (2 * n) (rows_of W) a (fn_of n A)
    → Passed n limit W X t b S A r
