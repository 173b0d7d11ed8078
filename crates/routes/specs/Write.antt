-- The run is written from its second state on: for each place the layer is made again, and the least next state in it is taken.
-- Assumes nothing.
use Rattle.std.specs.Prelude.{◌≡◌, true, List, [], ◌∷◌, ℕ, suc, ◌^◌, ◌≤◌, ◌<◌, T, length, set}
use Rattle.layout.specs.View.{View}
use Rattle.book.specs.Run.{fit}
use Rattle.paths.specs.Runs.{runs_into, first_of, onward}
use Rattle.seek.specs.Walk.{HoldsPre}
use Rattle.seek.specs.Search.{next_in}
use Rattle.layers.specs.Scene.{Scene, Start, needs_of}
use Rattle.layers.specs.Pass.{Steps}

-- ---- lists

-- m with the states of l from a place on
abbrev pub put_all : ℕ → List ℕ → List ℕ → List ℕ
put_all i [] m = m
put_all i (s ∷ l) m = put_all (suc i) l (set m i s)

-- ---- one state

-- what it asks: arrows that can be walked, a next state of s in the set of arrow x, and the place in the list
pub record PlacePre (n : ℕ) (W : View) (t s x at : ℕ) (list : List ℕ) : Type 0 where
  pub walks : HoldsPre W t × HoldsPre W x × (n ≤ 16)
  pub there : first_of (2 ^ n) (next_in W t s x) < 2 ^ n
  pub room : at < length list

-- the least of them is answered, and written there
pub record PlacePost (n : ℕ) (W : View) (t s x at : ℕ) (old new : List ℕ) (u : ℕ) : Type 0 where
  pub is : u ≡ first_of (2 ^ n) (next_in W t s x)
  pub list : new ≡ set old at u

-- ---- writing

-- state s at layer d has a run into the set, whose needs fit
abbrev pub Onward : {n : ℕ} {W : View} {t b : ℕ} → ℕ → Scene n W t b → ℕ → ℕ → Type 0
Onward {n} limit S d s = (fit limit (needs_of S d) ≡ true) × T (runs_into (2 ^ n) S.R S.B s (onward (2 ^ n) S.R S.B d s))

pub record WritePre (n N limit : ℕ) (W : View) (t b d s : ℕ) (list : List ℕ) : Type 0 where
  pub start : Start n N limit W t b
  pub scene : Scene n W t b
  pub ready : Onward limit scene d s
  pub room : d < length list

-- the states after s are written from place 1 on
pub record Wrote (n limit : ℕ) (W X : View) (t b : ℕ) (S : Scene n W t b) (d s : ℕ) (old new : List ℕ) : Type 0 where
  pub steps : Steps n W X
  pub list : new ≡ put_all 1 (onward (2 ^ n) S.R S.B d s) old

abbrev pub WritePost : ℕ → ℕ → View → View → ℕ → ℕ → ℕ → ℕ → List ℕ → List ℕ → Type 0
WritePost n limit W X t b d s old new = (S : Scene n W t b) → Onward limit S d s → Wrote n limit W X t b S d s old new
