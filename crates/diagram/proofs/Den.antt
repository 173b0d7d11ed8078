-- What an arrow denotes in a well-formed table: how much fuel is enough, which levels are read, and one step of the walk.
-- Assumes nothing.
use mathlib.Core.Path.{◌≡◌, refl, sym, ap, ◌∙◌}
use mathlib.Core.Bool.{Bool, true, false, cond, not}
use Prim.Native.Nat.{ℕ, zero, suc, ◌+◌, ◌≤◌, ◌<◌}
use native.Mathlib.Omega.{arith}
use Rattle.diagram.specs.Level.{Val, turn, upd}
use Rattle.diagram.proofs.Level.{turn-turn, Reads, reads_from, Splits, splits_turn, upd_same, upd_unread}
use Rattle.diagram.specs.Rows.{Rows, marked, target, Leads, row, flip, carry, Arrow, ArrowTo, level_of, level_to, child, follow, den_to}
use Rattle.diagram.specs.Rows.{den, WellFormed}
use Rattle.diagram.proofs.Rows.{row-leads, row_plain, carry-target, carry-marked, leads-is, carry_arrow, carry-level}

-- The constant is nothing.
den_to_constant : (f : ℕ) (rows : Rows) (v : Val) → den_to f rows 0 v ≡ false
unfolding den_to
den_to_constant zero rows v = refl
den_to_constant (suc f) rows v = refl

-- Arrows 0 and 1 denote nothing and everything.
pub den-zero : (f : ℕ) (rows : Rows) (v : Val) → den f rows 0 v ≡ false
unfolding den
den-zero f rows v = den_to_constant f rows v

pub den-one : (f : ℕ) (rows : Rows) (v : Val) → den f rows 1 v ≡ true
unfolding den
den-one f rows v = ap not (den_to_constant f rows v)

-- An arrow to the constant is constant.
pub den_constant : (f : ℕ) (rows : Rows) (a : ℕ) → target a ≡ 0 → (v : Val) → den f rows a v ≡ marked a
unfolding den
den_constant f rows a e v =
    ap (λ k. turn (marked a) (den_to f rows k v)) e ∙ ap (turn (marked a)) (den_to_constant f rows v) ∙ plain (marked a)
  where
    plain : (b : Bool) → turn b false ≡ b
    plain true = refl
    plain false = refl

-- A NOT on an arrow is NOT of what it denotes.
pub den-carry : (f : ℕ) (rows : Rows) (b : Bool) (a : ℕ) (v : Val) → den f rows (carry b a) v ≡ turn b (den f rows a v)
unfolding den
den-carry f rows b a v =
    let e = carry-marked b a in
    let q = carry-target b a in
    let t = turn-turn b (marked a) (den_to f rows (target a) v) in
    cc (e, q, t)

pub den-flip : (f : ℕ) (rows : Rows) (a : ℕ) (v : Val) → den f rows (flip a) v ≡ not (den f rows a v)
den-flip f rows a v = den-carry f rows true a v

-- An arrow that leads to a row denotes what the row does, or its complement.
pub den-leads : (f : ℕ) (rows : Rows) (a i : ℕ) → Leads a i → (v : Val) → den f rows a v ≡ turn (marked a) (den f rows (row i) v)
den-leads f rows a i e v = ap (λ x. den f rows x v) (leads-is a i e) ∙ den-carry f rows (marked a) (row i) v

-- What row i denotes.
den_to_lem : (f : ℕ) (rows : Rows) (i : ℕ) (v : Val) → den f rows (row i) v ≡ den_to f rows (suc i) v
unfolding den
den_to_lem f rows i v =
    let e = row_plain i in
    let q = row-leads i in
    cc (e, q)

module _ {m N : ℕ} {rows : Rows} (wf : WellFormed m N rows) where
  -- Fuel does not matter once it covers the levels from the arrow's on.
  den_to_fuel : (f g k : ℕ) → ArrowTo rows k → m ≤ level_to m rows k + f → m ≤ level_to m rows k + g → (v : Val)
      → den_to f rows k v ≡ den_to g rows k v
  unfolding den_to
  den_to_fuel zero g zero u hf hg v = sym (den_to_constant g rows v)
  den_to_fuel zero g (suc i) u hf hg v = absurd (let o = wf.ok i u in omega arith)
  den_to_fuel (suc f) g zero u hf hg v = sym (den_to_constant g rows v)
  den_to_fuel (suc f) zero (suc i) u hf hg v = absurd (let o = wf.ok i u in omega arith)
  den_to_fuel (suc f) (suc g) (suc i) u hf hg v =
      let o = wf.ok i u in
      let eh = den_to_fuel f g (target (rows.high i)) o.high-arrow (omega arith) (omega arith) v in
      let el = den_to_fuel f g (target (rows.low i)) o.low-arrow (omega arith) (omega arith) v in
      cc (eh, el)

  -- An arrow reads only levels from its own on.
  den_to_reads : (f k : ℕ) → ArrowTo rows k → Reads (level_to m rows k) m (den_to f rows k)
  unfolding den_to
  den_to_reads zero k u v w h = refl
  den_to_reads (suc f) zero u v w h = refl
  den_to_reads (suc f) (suc i) u v w h =
      let o = wf.ok i u in
      let e = h (rows.level i) (omega arith) o.shallow in
      let eh = den_to_reads f (target (rows.high i)) o.high-arrow v w (λ l a b. h l (omega arith) b) in
      let el = den_to_reads f (target (rows.low i)) o.low-arrow v w (λ l a b. h l (omega arith) b) in
      cc (e, eh, el)

  pub den_reads : (f a : ℕ) → Arrow rows a → Reads (level_of m rows a) m (den f rows a)
  unfolding den
  den_reads f a u v w h = ap (turn (marked a)) (den_to_reads f (target a) u v w h)

  -- One step of the walk.
  den_to-step : (k i : ℕ) → m ≤ k → rows.used i ≡ true → (v : Val)
      → den_to k rows (suc i) v ≡ cond (v (rows.level i)) (den k rows (rows.high i) v) (den k rows (rows.low i) v)
  unfolding den den_to
  den_to-step zero i mk u v = absurd (let o = wf.ok i u in omega arith)
  den_to-step (suc k) i mk u v =
      let o = wf.ok i u in
      let eh = den_to_fuel k (suc k) (target (rows.high i)) o.high-arrow (omega arith) (omega arith) v in
      let el = den_to_fuel k (suc k) (target (rows.low i)) o.low-arrow (omega arith) (omega arith) v in
      cc (eh, el)

  pub den-row : (i : ℕ) → rows.used i ≡ true → (v : Val)
      → den m rows (row i) v ≡ cond (v (rows.level i)) (den m rows (rows.high i) v) (den m rows (rows.low i) v)
  den-row i u v = den_to_lem m rows i v ∙ den_to-step m i (omega arith) u v

  -- A row splits at its level into its low and high parts.
  pub row_splits : (i : ℕ) → rows.used i ≡ true
      → Splits m (rows.level i) (den m rows (row i)) (den m rows (rows.low i)) (den m rows (rows.high i))
  row_splits i u =
      let o = wf.ok i u in
      record {
        same = λ v. den-row i u v;
        reads0 = reads_from _ o.low_deeper (den_reads m (rows.low i) o.low-arrow);
        reads1 = reads_from _ o.high_deeper (den_reads m (rows.high i) o.high-arrow);
      }

  -- A row's arrows are arrows and lead further.
  child-arrow : (i : ℕ) (b : Bool) → rows.used i ≡ true → Arrow rows (child rows i b)
  child-arrow i false u = (wf.ok i u).low-arrow
  child-arrow i true u = (wf.ok i u).high-arrow

  child_deeper : (i : ℕ) (b : Bool) → rows.used i ≡ true → rows.level i < level_of m rows (child rows i b)
  child_deeper i false u = (wf.ok i u).low_deeper
  child_deeper i true u = (wf.ok i u).high_deeper

  row_chosen : (i : ℕ) (b : Bool) → rows.used i ≡ true → (v : Val) → v (rows.level i) ≡ b
      → den m rows (row i) v ≡ den m rows (child rows i b) v
  row_chosen i false u v e = den-row i u v ∙ ap (λ c. cond c (den m rows (rows.high i) v) (den m rows (rows.low i) v)) e
  row_chosen i true u v e = den-row i u v ∙ ap (λ c. cond c (den m rows (rows.high i) v) (den m rows (rows.low i) v)) e

  -- The arrows that are followed from an arrow to row i are arrows, lead further, and are what it is where the row's level has their bit.
  module _ (a i : ℕ) (e : Leads a i) where
    pub follow-arrow : (b : Bool) → rows.used i ≡ true → Arrow rows (follow rows a i b)
    follow-arrow b u = carry_arrow rows (marked a) (child rows i b) (child-arrow i b u)

    pub follow_deeper : (b : Bool) → rows.used i ≡ true → rows.level i < level_of m rows (follow rows a i b)
    follow_deeper b u = rw (carry-level m rows (marked a) (child rows i b)) (child_deeper i b u)

    pub den_chosen : (b : Bool) → rows.used i ≡ true → (v : Val) → v (rows.level i) ≡ b
        → den m rows a v ≡ den m rows (follow rows a i b) v
    den_chosen b u v q =
        den-leads m rows a i e v ∙ ap (turn (marked a)) (row_chosen i b u v q) ∙ sym (den-carry m rows (marked a) (child rows i b) v)

    -- An arrow where its row's level is set to b is the arrow that is followed for b.
    pub den-child : (b : Bool) → rows.used i ≡ true → (v : Val) → den m rows a (upd v (rows.level i) b) ≡ den m rows (follow rows a i b) v
    den-child b u v =
        den_chosen b u _ (upd_same v (rows.level i) b)
        ∙ upd_unread v (rows.level i) b (den_reads m (follow rows a i b) (follow-arrow b u)) (follow_deeper b u)

    -- It splits into them.
    pub arrow_splits : rows.used i ≡ true
        → Splits m (rows.level i) (den m rows a) (den m rows (follow rows a i false)) (den m rows (follow rows a i true))
    arrow_splits u =
        let s = splits_turn (row_splits i u) (marked a) in
        record {
          same = λ v.
              let p = den-leads m rows a i e v in
              let q = s.same v in
              let lo = den-carry m rows (marked a) (rows.low i) v in
              let hi = den-carry m rows (marked a) (rows.high i) v in
              cc (p, q, lo, hi);
          reads0 = reads_from _ (follow_deeper false u) (den_reads m (follow rows a i false) (follow-arrow false u));
          reads1 = reads_from _ (follow_deeper true u) (den_reads m (follow rows a i true) (follow-arrow true u));
        }
