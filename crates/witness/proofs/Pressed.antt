-- A CHEAPEST RUN OF ONE PRESS by a book of two states: relation 0 alone is filled, and leads from the state of register 4 to that of
-- register 3, at any price; none from register 1, which has no state. Assumes nothing.
use mathlib.Core.Path.{◌≡◌, refl, sym, ap, ◌∙◌, subst, subst₂}
use mathlib.Core.Logic.{◌⊎◌, inl, inr}
use mathlib.Core.Bool.{Bool, true, false, ◌&&◌}
use mathlib.Core.List.{List, [], ◌∷◌}
use mathlib.Core.Option.{Option, none, some}
use Prim.Native.Nat.{ℕ, zero, suc, ◌^◌, ◌≤◌, ◌<◌}
use native.Mathlib.Omega.{arith}
use lib.Dec.{T, ltb, ltb→lt}
use lib.ListN.{length, get_or, replicate}
use Rattle.mucalculus.specs.Form.{Pairs}
use Rattle.mucalculus.specs.Sets.{mem}
use Rattle.mucalculus.proofs.Sets.{and_in, and_out}
use Rattle.book.specs.Book.{Book, relations}
use Rattle.book.proofs.Stored.{some_inj, none-some}
use Rattle.paths.specs.Runs.{written}
use Rattle.coins.specs.Runs.{Transitions, PricedStep, price_of, leads_by, leads_in, is_mixed_run, total, Cheapest}
use Rattle.coins.specs.Post.{FareReply, fare_refused, RunFits, paid, FareTold, told_none, told-short, told-run, BothThere, FareBy}

-- the press
abbrev pub press : PricedStep
press = record { relation = 0; state = 1 }

-- it costs p credits
abbrev pub priced : ℕ → List ℕ
priced p = p ∷ 0 ∷ 0 ∷ 0 ∷ 0 ∷ 0 ∷ 0 ∷ 0 ∷ []

-- register 4 holds state 0
abbrev pub before : List Bool
before = true ∷ false ∷ []

-- and register 3 state 1
abbrev pub after : List Bool
after = false ∷ true ∷ []

-- and register 1 none
abbrev pub nobody : List Bool
nobody = false ∷ false ∷ []

-- such a book
pub record Fares (c : Book) : Type 0 where
  pub bits : c.n ≡ 1
  pub from : c.reg 4 ≡ some before
  pub into : c.reg 3 ≡ some after
  pub without : c.reg 1 ≡ some nobody
  pub leads : T (leads_in c.rel 0 0 1)
  pub empty : (c.rel 1 ∷ c.rel 2 ∷ c.rel 3 ∷ c.rel 4 ∷ c.rel 5 ∷ c.rel 6 ∷ c.rel 7 ∷ []) ≡ replicate 7 none

-- only relation 0 leads anywhere
vacant : (c : Book) → Fares c → (r : ℕ) → r < 7 → c.rel (suc r) ≡ none
vacant c f zero l = ap (λ (m : List (Option Pairs)). get_or m 0 none) f.empty
vacant c f (suc zero) l = ap (λ (m : List (Option Pairs)). get_or m 1 none) f.empty
vacant c f (suc (suc zero)) l = ap (λ (m : List (Option Pairs)). get_or m 2 none) f.empty
vacant c f (suc (suc (suc zero))) l = ap (λ (m : List (Option Pairs)). get_or m 3 none) f.empty
vacant c f (suc (suc (suc (suc zero)))) l = ap (λ (m : List (Option Pairs)). get_or m 4 none) f.empty
vacant c f (suc (suc (suc (suc (suc zero))))) l = ap (λ (m : List (Option Pairs)). get_or m 5 none) f.empty
vacant c f (suc (suc (suc (suc (suc (suc zero)))))) l = ap (λ (m : List (Option Pairs)). get_or m 6 none) f.empty
vacant c f (suc (suc (suc (suc (suc (suc (suc r))))))) l = absurd (omega arith)

only-first : (c : Book) → Fares c → (r s t : ℕ) → T (leads_in c.rel r s t) → r ≡ 0
only-first c f zero s t h = refl
only-first c f (suc r) s t h =
    let (l, y) = and_out (ltb (suc r) relations) (leads_by (c.rel (suc r)) s t) h in
    let i = ltb→lt (suc r) relations l in
    absurd (subst (λ (o : Option Pairs). T (leads_by o s t)) (vacant c f r (omega arith)) y)

-- no state is in register 1
out : (s : ℕ) → T (mem nobody s) → ⊥
out zero a = a
out (suc zero) a = a
out (suc (suc s)) a = a

-- nor in both others
apart : (s : ℕ) → T (mem before s) → T (mem after s) → ⊥
apart zero a b = b
apart (suc zero) a b = a
apart (suc (suc s)) a b = a

module _ (k : ℕ) (leads : Transitions) (only : (r s t : ℕ) → T (leads r s t) → r ≡ 0) (p : ℕ) where
  -- every run has a press, for p credits
  some-press : (s : ℕ) (l : List PricedStep) → T (is_mixed_run k leads (mem before) (mem after) s l)
      → (p ≤ total (priced p) l) × (1 ≤ length l)
  some-press s [] t =
      let (a, r) = and_out (mem before s) (ltb s k && mem after s) t in
      absurd (apart s a (and_out (ltb s k) (mem after s) r).1)
  some-press s (x ∷ l) t =
      let (a, r) = and_out (mem before s) _ t in
      let (b, q) = and_out (ltb s k) _ r in
      let e : price_of (priced p) x.relation ≡ p =
      ap (price_of (priced p)) (only x.relation s x.state (and_out (leads x.relation s x.state) _ q).0) in
      (omega arith, omega arith)

  one-press : T (is_mixed_run k leads (mem before) (mem after) 0 (press ∷ []))
      → Cheapest k leads (mem before) (mem after) (priced p) 0 (press ∷ [])
  one-press t = record {
    run = t;
    least = λ s m h. let e = (some-press s m h).0 in omega arith;
    fewest = λ s m h _. (some-press s m h).1;
  }

cheapest : (c : Book) → Fares c → (p : ℕ)
    → Cheapest (2 ^ c.n) (leads_in c.rel) (mem before) (mem after) (priced p) 0 (press ∷ [])
cheapest c f p = one-press (2 ^ c.n) (leads_in c.rel) (only-first c f) p
    (subst (λ (n : ℕ). T (is_mixed_run (2 ^ n) (leads_in c.rel) (mem before) (mem after) 0 (press ∷ []))) (sym f.bits)
    (and_in (leads_in c.rel 0 0 1) true f.leads tt))

module _ (c : Book) (f : Fares c) (p : ℕ) {work states relations : List ℕ} (w : 2 ≤ length work) where
  -- what is told of two filled registers
  told-by : {a b : ℕ} {A B : List Bool} {s q : List ℕ} {y : FareReply} → BothThere a b → c.reg a ≡ some A → c.reg b ≡ some B
      → FareTold (2 ^ c.n) (leads_in c.rel) (mem A) (mem B) (priced p) states s relations q y
      → FareBy c a b (priced p) work states s relations q y
  told-by {a} {b} {A} {B} {s} {q} {y} there ea eb t = record {
    work_fits = λ l. let e : 2 ^ c.n ≡ 2 = ap (λ (n : ℕ). 2 ^ n) f.bits in absurd (omega arith);
    range = λ _ n. absurd (n there);
    empty = λ _ _ z. absurd (filled z);
    told = λ _ _ X Y ha hb.
        subst₂ (λ (X Y : List Bool). FareTold (2 ^ c.n) (leads_in c.rel) (mem X) (mem Y) (priced p) states s relations q y)
        (some_inj (sym ea ∙ ha)) (some_inj (sym eb ∙ hb)) t;
  }
    where
      filled : (c.reg a ≡ none) ⊎ (c.reg b ≡ none) → ⊥
      filled (inl z) = none-some (sym z ∙ ea)
      filled (inr z) = none-some (sym z ∙ eb)

  -- ANSWERED: the states and the relation of the press are written
  pub fare_by : RunFits (press ∷ []) states relations
      → FareBy c 4 3 (priced p) work states (written (0 ∷ 1 ∷ []) states) relations (written (0 ∷ []) relations)
      (paid (priced p) (press ∷ []))
  fare_by fits = told-by (record { first = omega arith; second = omega arith }) f.from f.into
      (told-run 0 (press ∷ []) (cheapest c f p) fits (record { of_states = refl; of_steps = refl }))

  -- REFUSED: a list is too short for the press
  pub short-by : (RunFits (press ∷ []) states relations → ⊥)
      → FareBy c 4 3 (priced p) work states states relations relations (fare_refused 11)
  short-by n = told-by (record { first = omega arith; second = omega arith }) f.from f.into
      (told-short 0 (press ∷ []) (cheapest c f p) n)

  -- REFUSED: there is no run from no state
  pub none-by : FareBy c 1 3 (priced p) work states states relations relations (fare_refused 10)
  none-by = told-by (record { first = omega arith; second = omega arith }) f.without f.into
      (told_none (λ s l t. out s (and_out (mem nobody s) _ t).0))
