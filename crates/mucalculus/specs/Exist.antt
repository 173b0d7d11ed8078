-- Relations whose pairs are pairs of existing states. Assumes nothing.
use Rattle.std.specs.Prelude.{Bool, List, ℕ, ◌<◌, T}
use Rattle.mucalculus.specs.Sets.{mem}
use Rattle.mucalculus.specs.Form.{Pairs}
use Rattle.mucalculus.specs.Runs.{pair}

-- each pair of Q is one of states of E
abbrev pub Inside : ℕ → List Bool → Pairs → Type 0
Inside k E Q = (s u : ℕ) → s < k → u < k → T (pair Q s u) → T (mem E s) × T (mem E u)
