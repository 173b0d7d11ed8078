-- The run is written from its second state on: for each place its set is made again, and the least next state in it is taken.
-- Assumes nothing.
use Rattle.std.specs.Prelude.{◌≡◌, true, List, ℕ, ◌^◌, ◌<◌, T, length}
use Rattle.mucalculus.specs.Sets.{mem}
use Rattle.layout.specs.View.{View}
use Rattle.book.specs.Run.{fit}
use Rattle.layers.specs.Scene.{Scene, Start}
use Rattle.layers.specs.Pass.{Steps}
use Rattle.routes.specs.Write.{put_all}
use Rattle.logs.specs.Runs.{moment_at, sets_of, least_rest}
use Rattle.logs.specs.Call.{last_moment}
use Rattle.moments.specs.Sets.{Logs, set_of, needs_of}

-- state s is in set i, with j moments after it, and the needs of making the set fit
abbrev pub Onward : {n : ℕ} {W : View} {t v : ℕ} → ℕ → Scene n W t v → List ℕ → List ℕ → ℕ → ℕ → ℕ → Type 0
Onward limit S one two j i s = (fit limit (needs_of S one two j i) ≡ true) × T (mem (set_of S one two j i) s)

-- the states after s
abbrev pub rest_of : {n : ℕ} {W : View} {t v : ℕ} → Scene n W t v → List ℕ → List ℕ → ℕ → ℕ → ℕ → List ℕ
rest_of {n} S one two j i s = least_rest (2 ^ n) S.R (sets_of n S.B (moment_at one two)) j i s

pub record WritePre (n N limit : ℕ) (W : View) (t v : ℕ) (one two : List ℕ) (first : ℕ) (list : List ℕ) : Type 0 where
  pub start : Start n N limit W t v
  pub scene : Scene n W t v
  pub logs : Logs one two
  pub ready : Onward limit scene one two (last_moment one) 0 first
  pub room : last_moment one < length list

-- the states after the first one are written from place 1 on
pub record Wrote (n : ℕ) (W X : View) (t v : ℕ) (S : Scene n W t v) (one two : List ℕ) (first : ℕ) (old new : List ℕ) : Type 0 where
  pub steps : Steps n W X
  pub list : new ≡ put_all 1 (rest_of S one two (last_moment one) 0 first) old

abbrev pub WritePost : ℕ → ℕ → View → View → ℕ → ℕ → List ℕ → List ℕ → ℕ → List ℕ → List ℕ → Type 0
WritePost n limit W X t v one two first old new =
    (S : Scene n W t v) → Onward limit S one two (last_moment one) 0 first → Wrote n W X t v S one two first old new
