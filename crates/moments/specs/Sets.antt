-- Where the making of sets stands, and what it ends with. What the arrows stand for is request 3's scene, with V in the place of its set:
-- the functions that are held, the pairs of relation t and the states of V. Assumes nothing.
use Rattle.std.specs.Prelude.{◌≡◌, Bool, true, false, List, [], ℕ, suc, ◌-◌, ◌*◌, ◌^◌, ◌≤◌, ◌<◌, length, Result, Ok, Err}
use Rattle.layout.specs.View.{View}
use Rattle.diagram.specs.Level.{Fn}
use Rattle.diagram.specs.Post.{Denotes}
use Rattle.rows.specs.Used.{rows_of}
use Rattle.collect.specs.Lent.{live}
use Rattle.table.specs.declared.Full.{Full}
use Rattle.counting.specs.declared.Taken.{Taken}
use Rattle.table.specs.declared.Full.{Full}
use Rattle.table.specs.Full.{rows_out}
use Rattle.book.specs.Bridge.{fn_of}
use Rattle.book.specs.Run.{needing_all, fit}
use Rattle.book.specs.Held.{Held}
use Rattle.modal.specs.Chain.{Ran}
use Rattle.layers.specs.Next.{uncounted}
use Rattle.layers.specs.Scene.{Scene, Start}
use Rattle.layers.specs.Pass.{Steps}
use Rattle.logs.specs.Runs.{moment_at, existing, sets_of, run_starts, fit_needs, set_needs}
use Rattle.logs.specs.Call.{last_moment}
use Rattle.moments.specs.Fitting.{FittingPre}

-- the logs have as many numbers as one another, two for each of 1 to 1,024 entries
pub record Logs (one two : List ℕ) : Type 0 where
  pub first : length one ≡ 2 * suc (last_moment one)
  pub second : length two ≡ 2 * suc (last_moment one)
  pub few : last_moment one < 1_024

-- what the making of the last set asks: V's arrow, and no other root
pub record LastPre (n N limit : ℕ) (W : View) (v : ℕ) (one two : List ℕ) : Type 0 where
  pub fitting : FittingPre n N limit W [] v
  pub logs : Logs one two

-- whatever functions registers and relations hold, and whatever set V is: the states that exist and fit both last entries, exactly where
-- their needs fit
abbrev pub LastPost : ℕ → ℕ → ℕ → View → View → ℕ → List ℕ → List ℕ → Result Taken Full → Type 0
LastPost n N limit W X v one two o =
    (fs : List Fn) (E : List Bool) → Held (2 * n) (rows_of W) (live W []) fs → Denotes (2 * n) (rows_of W) v (fn_of n E)
    → Ran n N W X (live W []) (fit limit (fit_needs n fs E (moment_at one two (last_moment one))))
    (fn_of n (existing (2 ^ n) E (moment_at one two (last_moment one))))
    (needing_all (uncounted N) (fit_needs n fs E (moment_at one two (last_moment one)))) o

-- set i, with j moments after it, and the needs of making it
abbrev pub set_of : {n : ℕ} {W : View} {t v : ℕ} → Scene n W t v → List ℕ → List ℕ → ℕ → ℕ → List Bool
set_of {n} S one two j i = run_starts (2 ^ n) S.R (sets_of n S.B (moment_at one two)) j i

abbrev pub needs_of : {n : ℕ} {W : View} {t v : ℕ} → Scene n W t v → List ℕ → List ℕ → ℕ → ℕ → List ℕ
needs_of {n} S one two j i = set_needs n S.fs S.R S.B (moment_at one two) j i

-- the words after some steps; x is the arrow of set i, which fits
pub record HasSet (n limit : ℕ) (W X : View) (t v : ℕ) (S : Scene n W t v) (one two : List ℕ) (j i x : ℕ) : Type 0 where
  pub steps : Steps n W X
  pub set_is : Denotes (2 * n) (rows_of X) x (fn_of n (set_of S one two j i))
  pub fits : fit limit (needs_of S one two j i) ≡ true

-- what the making of a set asks
pub record MakePre (n N limit : ℕ) (W : View) (t v : ℕ) (one two : List ℕ) (at : ℕ) : Type 0 where
  pub start : Start n N limit W t v
  pub scene : Scene n W t v
  pub logs : Logs one two
  pub inside : at ≤ last_moment one

-- set i is made, or its needs do not fit
pub data Ends (n limit : ℕ) (W X : View) (t v : ℕ) (S : Scene n W t v) (one two : List ℕ) (j i : ℕ) : Result ℕ Full → Type 0 where
  is_made : {x : ℕ} → HasSet n limit W X t v S one two j i x → Ends n limit W X t v S one two j i (Ok x)
  is-full : Steps n W X → fit limit (needs_of S one two j i) ≡ false → Ends n limit W X t v S one two j i (Err rows_out)

abbrev pub MakePost : ℕ → ℕ → View → View → ℕ → ℕ → List ℕ → List ℕ → ℕ → Result ℕ Full → Type 0
MakePost n limit W X t v one two at o =
    (S : Scene n W t v) → Ends n limit W X t v S one two (last_moment one - at) at o
