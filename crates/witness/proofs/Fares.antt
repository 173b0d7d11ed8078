-- THE CHEAPEST RUN ON CONCRETE WORDS, after the list of QuietList: what the contract gives there, in both tables, and impostors beside the
-- true answers. From register 4 into 3 at p credits a press; relation 0 leads from each state to each. Assumes nothing.
use mathlib.Core.Path.{◌≡◌, refl, sym, ap, ◌∙◌}
use mathlib.Core.List.{List, [], ◌∷◌}
use Prim.Native.Nat.{ℕ, ◌^◌}
use native.Mathlib.Omega.{arith}
use lib.ListN.{get_or, drop}
use Rattle.coins.specs.Post.{FareReply, fare_refused, FareBy, FarePost}
use Rattle.coins.proofs.OneFare.{coins-one}
use Rattle.book.specs.Demand.{book_after}
use Rattle.coin_calls.proofs.Rests.{fare_listed, fare_again}
use Rattle.witness.proofs.Begun.{session}
use Rattle.witness.proofs.Pressed.{priced}
use Rattle.witness.proofs.QuietList.{started, closing, after_run, blank, spare, spare', single, labels, small, large}
use Rattle.witness.proofs.QuietCalls.{to-after, after-sound, pressed, fare_paid, fare_none, fare_short}
use Rattle.witness.proofs.Quiet.{first, second, loose, again_started, zero-started, next, next'}

-- total, charge and number of states of an answer
abbrev pub gives : ℕ → ℕ → ℕ → FareReply
gives t c k = record { number = 0; total = t; charge = c; states = k }

-- the claim that a press for p credits ends in these lists and this answer
abbrev pub Claims : ℕ → List ℕ → List ℕ → FareReply → Type 0
Claims p states relations y = FarePost 4 3 (after_run 2 280) (priced p) spare spare' blank states labels relations y

-- ---- the true answers

-- 11 credits are two coins: states 0 and 1 by relation 0, and the last place of either list is not written
pub eleven : Claims 11 (0 ∷ 1 ∷ 7 ∷ []) (0 ∷ 9 ∷ []) (gives 11 2 2)
eleven = fare_paid small 11

-- for nothing: no coin
pub for_free : Claims 0 (0 ∷ 1 ∷ 7 ∷ []) (0 ∷ 9 ∷ []) (gives 0 0 2)
for_free = fare_paid small 0

-- WHATEVER THE CONTRACT ALLOWS THERE: 11 credits, two coins, two states
pub eleven_is : {v s q : List ℕ} {y : FareReply} → FarePost 4 3 (after_run 2 280) (priced 11) spare v blank s labels q y → y ≡ gives 11 2 2
eleven_is f = (coins-one f eleven).reply

-- 10 from register 1, which has no state, and the lists are kept
pub no-run-is : {v s q : List ℕ} {y : FareReply} → FarePost 1 3 (after_run 2 280) (priced 11) spare v blank s labels q y
    → (y ≡ fare_refused 10) × (s ≡ blank) × (q ≡ labels)
no-run-is f =
    let o = coins-one f (fare_none small 11) in
    let ten = ap (λ (y : FareReply). y.number) o.reply in
    let kept = o.refusal (λ e. let h : ◌≡◌ {A = ℕ} 10 0 = sym ten ∙ e in absurd (omega arith)) in
    (o.reply, kept.0, kept.1)

-- 11 with a place for one state
pub too_short-is : {v s q : List ℕ} {y : FareReply} → FarePost 4 3 (after_run 2 280) (priced 11) spare v single s labels q y
    → y ≡ fare_refused 11
too_short-is f = (coins-one f (fare_short small 11)).reply

-- by the book of the calls before it
pub by-calls : FareBy (book_after 1 2 (started 2 1 1)) 4 3 (priced 11) spare blank (0 ∷ 1 ∷ 7 ∷ []) labels (0 ∷ 9 ∷ []) (gives 11 2 2)
by-calls = fare_listed 1 2 (session 1 2 280 small.sizes (to-after small)) 4 3 eleven refl

-- THE SAME in the larger table
pub eleven_again : {v s q : List ℕ} {y : FareReply} → FarePost 4 3 (after_run 3 300) (priced 11) spare v blank s labels q y
    → y ≡ gives 11 2 2
unfolding first second
eleven_again f =
    sym (fare_again 1 2 3 (omega arith) (omega arith) (started 2 1 1) (closing 2 1 1) (started 5 7 3) (closing 5 7 3) first second loose
    (again_started [] [] tt) (zero-started [] tt) next next' 4 3 eleven f).reply

-- where it is met
pub eleven_large : FarePost 4 3 (after_run 3 300) (priced 11) spare spare' blank (0 ∷ 1 ∷ 7 ∷ []) labels (0 ∷ 9 ∷ []) (gives 11 2 2)
eleven_large = fare_paid large 11

-- ---- impostors

-- a run that costs more: by state 0 again
pub dearer : Claims 11 (0 ∷ 0 ∷ 1 ∷ []) (0 ∷ 0 ∷ []) (gives 22 3 3) → ⊥
dearer f = let e : ◌≡◌ {A = ℕ} 22 11 = ap (λ (y : FareReply). y.total) (eleven_is f) in absurd (omega arith)

-- the cheapest run at another charge: a coin for each ten credits that are full
pub rounded_down : Claims 11 (0 ∷ 1 ∷ 7 ∷ []) (0 ∷ 9 ∷ []) (gives 11 1 2) → ⊥
rounded_down f = let e : ◌≡◌ {A = ℕ} 1 2 = ap (λ (y : FareReply). y.charge) (eleven_is f) in absurd (omega arith)

-- for nothing, with more states
pub longer : Claims 0 (0 ∷ 0 ∷ 1 ∷ []) (0 ∷ 0 ∷ []) (gives 0 0 3) → ⊥
longer f = let e : ◌≡◌ {A = ℕ} 3 2 = ap (λ (y : FareReply). y.states) (coins-one f for_free).reply in absurd (omega arith)

-- for nothing, and a coin
pub coin_for_nothing : Claims 0 (0 ∷ 1 ∷ 7 ∷ []) (0 ∷ 9 ∷ []) (gives 0 1 2) → ⊥
coin_for_nothing f = let e : ◌≡◌ {A = ℕ} 1 0 = ap (λ (y : FareReply). y.charge) (coins-one f for_free).reply in absurd (omega arith)

-- 11 in the place of 10: a list may be too short for no run
pub short_for_none : {v s q : List ℕ} → FarePost 1 3 (after_run 2 280) (priced 11) spare v blank s labels q (fare_refused 11) → ⊥
short_for_none f = let e : ◌≡◌ {A = ℕ} 11 10 = ap (λ (y : FareReply). y.number) (no-run-is f).0 in absurd (omega arith)

-- a place past the run is written
pub past_the_run : Claims 11 (0 ∷ 1 ∷ 8 ∷ []) (0 ∷ 9 ∷ []) (gives 11 2 2) → ⊥
past_the_run f =
    let e : ◌≡◌ {A = List ℕ} (8 ∷ []) (7 ∷ []) = (coins-one f eleven).states-past in
    let h : ◌≡◌ {A = ℕ} 8 7 = ap (λ (l : List ℕ). get_or l 0 0) e in absurd (omega arith)

-- a work word past the states is written
pub past_the_work : {s q : List ℕ} {y : FareReply} → FarePost 4 3 (after_run 2 280) (priced 11) spare (4 ∷ 4 ∷ 9 ∷ []) blank s labels q y → ⊥
past_the_work f =
    let n = (pressed small).bits in
    let e : ◌≡◌ {A = List ℕ} (9 ∷ []) (8 ∷ []) =
    sym (ap (λ (n : ℕ). drop (2 ^ n) (4 ∷ 4 ∷ 9 ∷ [])) n) ∙ f.work_past (after-sound small) ∙ ap (λ (n : ℕ). drop (2 ^ n) spare) n in
    let h : ◌≡◌ {A = ℕ} 9 8 = ap (λ (l : List ℕ). get_or l 0 0) e in absurd (omega arith)
