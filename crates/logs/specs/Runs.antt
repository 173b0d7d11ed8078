-- "Two logs of one evening": which states fit at each moment, runs through them, the sets that are made, the run that is to be written, the
-- steps that are taken and what they come to. Assumes nothing.
use Rattle.std.specs.Prelude.{◌≡◌, Bool, false, ◌&&◌, List, [], ◌∷◌, ◌++◌, ℕ, zero, suc, ◌*◌, ◌^◌, T, eqb, ltb, length, get_or}
use Rattle.std.specs.Int.Bits.{bit_and}
use Rattle.mucalculus.specs.Sets.{mem, table}
use Rattle.mucalculus.specs.Form.{Pairs}
use Rattle.mucalculus.specs.Means.{pair, inter, sometimes}
use Rattle.diagram.specs.Level.{Fn}
use Rattle.diagram.specs.Need.{step_need}
use Rattle.book.specs.Bridge.{fn_of}
use Rattle.book.specs.Ticks.{dia_needs, two_need}
use Rattle.book.specs.Run.{fit}
use Rattle.paths.specs.Runs.{Least, first_of, toward, pass_needs, Outcome, decided}

-- ---- what the logs say

-- "entry i of both for the same moment: a mask and a value": of one log, and of the other
pub record Moment : Type 0 where
  pub mask : ℕ
  pub value : ℕ
  pub mask2 : ℕ
  pub value2 : ℕ

-- "a state fits when its masked bits equal the value"
abbrev pub fits : ℕ → ℕ → ℕ → Bool
fits mask value s = eqb (bit_and s mask) value

-- both entries
abbrev pub fits_both : Moment → ℕ → Bool
fits_both m s = fits m.mask m.value s && fits m.mask2 m.value2 s

-- a log lends its entries one after the other, of each the mask and then the value
abbrev pub moment_at : List ℕ → List ℕ → ℕ → Moment
moment_at one two i = record {
  mask = get_or one (2 * i) 0;
  value = get_or one (suc (2 * i)) 0;
  mask2 = get_or two (2 * i) 0;
  value2 = get_or two (suc (2 * i)) 0;
}

-- of k states those that fit both entries
abbrev pub fitting : ℕ → Moment → List Bool
fitting k m = table k (fits_both m)

-- and exist: "their AND with V"
abbrev pub existing : ℕ → List Bool → Moment → List Bool
existing k E m = inter k (fitting k m) E

-- ---- runs

-- from state s in set i through the states of l, each a next state of the one before and in its own set; j states come after s
abbrev pub through : Pairs → (ℕ → List Bool) → ℕ → ℕ → ℕ → List ℕ → Bool
through R A zero i s [] = mem (A i) s
through R A zero i s (t ∷ l) = false
through R A (suc j) i s [] = false
through R A (suc j) i s (t ∷ l) = mem (A i) s && (pair R s t && through R A j (suc i) t l)

-- l is a run of j + 1 states, the first in set 0
abbrev pub is_through : Pairs → (ℕ → List Bool) → ℕ → List ℕ → Bool
is_through R A j [] = false
is_through R A j (s ∷ l) = through R A j 0 s l

-- such a run, with "its states, the least possible at each place in turn"
pub record LeastThrough (R : Pairs) (A : ℕ → List Bool) (j : ℕ) (l : List ℕ) : Type 0 where
  pub run : T (is_through R A j l)
  pub size : length l ≡ suc j
  pub least : (m : List ℕ) → T (is_through R A j m) → Least l m

-- ---- the sets

-- of k states those of set i from which a run goes on through the j sets after it: "the states fitting both last entries, then for each
-- earlier pair diamond of the later set AND the states fitting it"
abbrev pub run_starts : ℕ → Pairs → (ℕ → List Bool) → ℕ → ℕ → List Bool
run_starts k R A zero i = A i
run_starts k R A (suc j) i = inter k (sometimes k R (run_starts k R A j (suc i))) (A i)

-- ---- the run that is written

-- the least next state of s in the set after set i, then that one's in the next, through j sets
abbrev pub least_rest : ℕ → Pairs → (ℕ → List Bool) → ℕ → ℕ → ℕ → List ℕ
least_rest k R A zero i s = []
least_rest k R A (suc j) i s = let t = toward k R (run_starts k R A j (suc i)) s in t ∷ least_rest k R A j (suc i) t

-- the least state of a set, and k where it has none
abbrev pub least_of : ℕ → List Bool → ℕ
least_of k X = first_of k (λ s. mem X s)

-- from the least state of the first set
abbrev pub run : ℕ → Pairs → (ℕ → List Bool) → ℕ → List ℕ
run k R A j = let X = run_starts k R A j 0 in let s = least_of k X in s ∷ least_rest k R A j 0 s

-- ---- steps, over n state bits

-- "The fitting states of a pair are one step, their AND with V another": E is V
abbrev pub fit_needs : ℕ → List Fn → List Bool → Moment → List ℕ
fit_needs n live E m =
    let F = fitting (2 ^ n) m in step_need (2 * n) live (fn_of n F) ∷ two_need n live (inter (2 ^ n)) F E ∷ []

-- from the later set L to the one before it, left before right; "only the last set is live", until the new one is made
abbrev pub before_needs : ℕ → List Fn → Pairs → List Bool → Moment → List Bool → List ℕ
before_needs n live R E m L =
    let l = fn_of n L ∷ live in
    let D = sometimes (2 ^ n) R L in
    dia_needs n l R L ++ (fit_needs n (fn_of n D ∷ l) E m ++ (two_need n l (inter (2 ^ n)) D (existing (2 ^ n) E m) ∷ []))

-- the states that exist and fit both entries of moment i
abbrev pub sets_of : ℕ → List Bool → (ℕ → Moment) → ℕ → List Bool
sets_of n E M i = existing (2 ^ n) E (M i)

-- of the steps that make set i, j moments before the last one, from that one on
abbrev pub set_needs : ℕ → List Fn → Pairs → List Bool → (ℕ → Moment) → ℕ → ℕ → List ℕ
set_needs n live R E M zero i = fit_needs n live E (M i)
set_needs n live R E M (suc j) i =
    set_needs n live R E M j (suc i) ++ before_needs n live R E (M i) (run_starts (2 ^ n) R (sets_of n E M) j (suc i))

-- "sets are made again": of those after set i the first, then the second, and so on, each from the last on
abbrev pub sets_again_needs : ℕ → List Fn → Pairs → List Bool → (ℕ → Moment) → ℕ → ℕ → List ℕ
sets_again_needs n live R E M zero i = []
sets_again_needs n live R E M (suc j) i = set_needs n live R E M j (suc i) ++ sets_again_needs n live R E M j (suc i)

-- a set has a state
abbrev pub inhabited : ℕ → List Bool → Bool
inhabited k X = ltb (least_of k X) k

-- of all steps of the call: "All k sets are made before 10 is decided", and again where a run is to be written
abbrev pub log_needs : ℕ → List Fn → Pairs → List Bool → (ℕ → Moment) → ℕ → List ℕ
log_needs n live R E M j =
    pass_needs (set_needs n live R E M j 0) (sets_again_needs n live R E M j 0) (inhabited (2 ^ n) (run_starts (2 ^ n) R (sets_of n E M) j 0))

-- ---- the outcome

-- 8 before 10, 10 before 11, as the shortest run has it
abbrev pub log_outcome : ℕ → ℕ → List Fn → Pairs → List Bool → (ℕ → Moment) → ℕ → ℕ → Outcome
log_outcome n N live R E M j room =
    let k = 2 ^ n in
    let A = sets_of n E M in
    decided (fit N (log_needs n live R E M j)) (inhabited k (run_starts k R A j 0)) (run k R A j) room
