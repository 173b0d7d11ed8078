-- A round of until at the set A: g, or f and the next states as the form wants them in A. Assumes nothing.
use Rattle.std.specs.Prelude.{Bool, true, false, List, ℕ}
use Rattle.mucalculus.specs.Sets.{all_states}
use Rattle.mucalculus.specs.Form.{Pairs}
use Rattle.mucalculus.specs.Means.{inter, union, always, sometimes}

-- the states of which some next state is in A, or with `false` of which every one is and there is one
abbrev pub further : Bool → ℕ → Pairs → List Bool → List Bool
further true k R A = sometimes k R A
further false k R A = inter k (always k R A) (sometimes k R (all_states k))

-- what a round makes of A: g or (f and diamond A), with `false` g or (f and (box A and diamond true))
abbrev pub onward : Bool → ℕ → Pairs → List Bool → List Bool → List Bool → List Bool
onward b k R F G A = union k G (inter k F (further b k R A))
