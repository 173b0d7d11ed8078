-- The steps from a layer to the next: diamond of it, then OR with B, the layer being live throughout. Assumes nothing.
use Rattle.std.specs.Prelude.{Bool, ℕ, ◌*◌, ◌^◌, Result}
use mathlib.Core.List.{List, [], ◌∷◌, Memᴰ as Mem}
use Rattle.accounts.specs.declared.Count.{Count}
use Rattle.mucalculus.specs.Form.{Pairs}
use Rattle.mucalculus.specs.Means.{union, sometimes}
use Rattle.layout.specs.View.{View}
use Rattle.diagram.specs.Level.{Fn}
use Rattle.diagram.specs.Rows.{Arrow, den}
use Rattle.diagram.specs.Even.{ReadsOn, even}
use Rattle.diagram.specs.Post.{Denotes}
use Rattle.rows.specs.Used.{rows_of}
use Rattle.rows.specs.Filled.{filled}
use Rattle.collect.specs.Lent.{live}
use Rattle.table.specs.declared.Full.{Full}
use Rattle.counting.specs.declared.Taken.{Taken}
use Rattle.book.specs.Bridge.{fn_of, fn_of_pairs}
use Rattle.book.specs.Run.{needing_all, fit}
use Rattle.book.specs.Held.{Held}
use Rattle.modal.specs.Chain.{Base, Ran}
use Rattle.paths.specs.Runs.{layer_needs}

-- a table between steps, a relation t and a set b that are live, and the last layer's arrow x
pub record NextPre (n N limit : ℕ) (W : View) (t b x : ℕ) : Type 0 where
  pub base : Base n N limit W
  pub t_live : Mem t (filled W)
  pub b_live : Mem b (filled W)
  pub operand : Arrow (rows_of W) x
  pub even : ReadsOn even (den (2 * n) (rows_of W) x)

-- a peak that is N already: nothing is counted
abbrev pub uncounted : ℕ → Count
uncounted N = record { rounds = 0; peak = N }

-- whatever functions registers and relations hold, and whatever sets the three arrows stand for: the answer is the next layer's, exactly
-- where its needs fit
abbrev pub NextPost : ℕ → ℕ → ℕ → View → View → ℕ → ℕ → ℕ → Result Taken Full → Type 0
NextPost n N limit W X t b x o =
    (fs : List Fn) (R : Pairs) (B L : List Bool) → Held (2 * n) (rows_of W) (filled W) fs
    → Denotes (2 * n) (rows_of W) t (fn_of_pairs n R) → Denotes (2 * n) (rows_of W) b (fn_of n B)
    → Denotes (2 * n) (rows_of W) x (fn_of n L)
    → Ran n N W X (live W (x ∷ [])) (fit limit (layer_needs n fs R B L)) (fn_of n (union (2 ^ n) B (sometimes (2 ^ n) R L)))
    (needing_all (uncounted N) (layer_needs n fs R B L)) o
