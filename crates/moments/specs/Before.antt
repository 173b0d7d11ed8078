-- The steps from a set to that of the moment before: diamond of it, the states that fit, AND of both. Assumes nothing.
use Rattle.std.specs.Prelude.{Bool, List, [], ◌∷◌, ℕ, ◌*◌, ◌^◌, Result}
use Rattle.mucalculus.specs.Form.{Pairs}
use Rattle.mucalculus.specs.Means.{inter, sometimes}
use Rattle.layout.specs.View.{View}
use Rattle.diagram.specs.Level.{Fn}
use Rattle.diagram.specs.Post.{Denotes}
use Rattle.rows.specs.Used.{rows_of}
use Rattle.rows.specs.Filled.{filled}
use Rattle.collect.specs.Lent.{live}
use Rattle.table.specs.declared.Full.{Full}
use Rattle.counting.specs.declared.Taken.{Taken}
use Rattle.book.specs.Bridge.{fn_of, fn_of_pairs}
use Rattle.book.specs.Run.{needing_all, fit}
use Rattle.book.specs.Held.{Held}
use Rattle.modal.specs.Chain.{Ran}
use Rattle.layers.specs.Next.{uncounted}
use Rattle.logs.specs.Runs.{Moment, existing, before_needs}
use Rattle.moments.specs.Moment.{Joins}

-- whatever functions registers and relations hold, whatever sets and pairs the three arrows stand for, and whatever entries this one
-- stands for: the answer is the set of the moment before, exactly where its needs fit
abbrev pub BeforePost : ℕ → ℕ → ℕ → View → View → ℕ → ℕ → ℕ → ℕ → ℕ → Result Taken Full → Type 0
BeforePost n N limit W X t v x mask value o =
    (fs : List Fn) (R : Pairs) (E L : List Bool) (m : Moment) → Held (2 * n) (rows_of W) (filled W) fs
    → Denotes (2 * n) (rows_of W) t (fn_of_pairs n R) → Denotes (2 * n) (rows_of W) v (fn_of n E)
    → Denotes (2 * n) (rows_of W) x (fn_of n L)
    → Joins m mask value
    → Ran n N W X (live W (x ∷ [])) (fit limit (before_needs n fs R E m L))
    (fn_of n (inter (2 ^ n) (sometimes (2 ^ n) R L) (existing (2 ^ n) E m))) (needing_all (uncounted N) (before_needs n fs R E m L)) o
