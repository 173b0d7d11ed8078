-- What `begin` writes: the marks of what registers and relations reach, and how many these are, counted along the list of used rows.
-- Assumes nothing.
use mathlib.Core.Path.{◌≡◌, refl, sym, ap, ◌∙◌, subst}
use mathlib.Core.Logic.{⊎_elim}
use mathlib.Core.Bool.{Bool, true, false, cond, true≢false}
use mathlib.Core.List.Memᴰ.{head as here}
use mathlib.Core.List.Memᴰ.{tail as there}
use mathlib.Core.List.{List, [], ◌∷◌, ◌++◌, Memᴰ as Mem}
use mathlib.Core.List.Memᴰ.{cases_cons as mem-cases}
use mathlib.Core.List.Memᴰ.{not-nil as mem-nil}
use Prim.Native.Nat.{ℕ, zero, suc, ◌+◌, ◌-◌, ◌≤◌, ◌<◌}
use native.Mathlib.Decide.{ℕ_discrete}
use native.Mathlib.Omega.{arith}
use lib.ListN.{length, get_or, set, take, drop, replicate, length-set, length-replicate}
use lib.Seq.{take_at, take-set-le, get_or-set_same, get_or-set_other, get_or-drop, get_or-append-add, length_front, length-take-le}
use Rattle.diagram.specs.Count.{NoDup}
use Rattle.diagram.specs.Reach.{Reach}
use Rattle.diagram.proofs.Reach.{reach-used}
use Rattle.diagram.specs.Sizes.{Reaches}
use Rattle.layout.specs.Places.{USED, VALID, ROOTS_END, RANK}
use Rattle.layout.specs.View.{View}
use Rattle.rows.specs.Used.{used, Ranked, rows_of}
use Rattle.rows.proofs.Used.{used_in}
use Rattle.rows.specs.Bits.{MARK_WORDS, is_on, On}
use Rattle.rows.proofs.Bits.{zeros, no-marks}
use Rattle.rows.specs.Roots.{Held, MarksAll, RefsPre}
use Rattle.rows.specs.Sound.{Sound}
use Rattle.rows.specs.Filled.{filled}
use Rattle.rows.proofs.Filled.{filled-arrow}
use Rattle.collect.proofs.Lent.{filled-marks, marked-reach, reach-marked}
use Rattle.collect.specs.Counted.{mark_count}
use Rattle.collect.proofs.Answers.{sound-base}
use Rattle.counting.specs.Sizes.{SIZES}
use Rattle.counting.proofs.Sizes.{remembered_none}
use Rattle.counting.specs.Counts.{COUNT_WORDS, NUMBER, marks_of, Blank, BaseOf, CountsOf}

-- the marked rows at the first k places of the list of used rows
unfoldable marked_rows : View → List ℕ → ℕ → List ℕ
marked_rows W m zero = []
marked_rows W m (suc k) = cond (is_on m (W.list k)) (W.list k ∷ marked_rows W m k) (marked_rows W m k)

module _ (W : View) (m : List ℕ) where
  marked-length : (k : ℕ) → length (marked_rows W m k) ≡ mark_count W m k
  unfolding marked_rows mark_count
  marked-length zero = refl
  marked-length (suc k) = go (is_on m (W.list k)) (marked-length k)
    where
      go : (b : Bool) → length (marked_rows W m k) ≡ mark_count W m k
          → length (cond b (W.list k ∷ marked_rows W m k) (marked_rows W m k)) ≡ mark_count W m k + cond b 1 0
      go true e = omega (arith, e)
      go false e = omega (arith, e)

  mem-marked : (k i : ℕ) → Mem i (marked_rows W m k) → On m i × ((j : ℕ) × (j < k) × (W.list j ≡ i))
  unfolding marked_rows
  mem-marked zero i h = absurd (mem-nil h)
  mem-marked (suc k) i h = go (is_on m (W.list k)) refl (mem-marked k i) h
    where
      more : On m i × ((j : ℕ) × (j < k) × (W.list j ≡ i)) → On m i × ((j : ℕ) × (j < suc k) × (W.list j ≡ i))
      more t = (t.0, (t.1.0, omega (arith, t.1.1), t.1.2))

      go : (b : Bool) → is_on m (W.list k) ≡ b → (Mem i (marked_rows W m k) → On m i × ((j : ℕ) × (j < k) × (W.list j ≡ i)))
          → Mem i (cond b (W.list k ∷ marked_rows W m k) (marked_rows W m k)) → On m i × ((j : ℕ) × (j < suc k) × (W.list j ≡ i))
      go true e rest h = ⊎_elim (λ q. (ap (is_on m) q ∙ e, (k, omega arith, sym q))) (λ t. more (rest t)) (mem-cases h)
      go false e rest h = more (rest h)

  marked-mem : (k j : ℕ) → j < k → On m (W.list j) → Mem (W.list j) (marked_rows W m k)
  unfolding marked_rows
  marked-mem zero j l o = absurd (omega arith)
  marked-mem (suc k) j l o = go (is_on m (W.list k)) refl (λ h. marked-mem k j h o)
    where
      go : (b : Bool) → is_on m (W.list k) ≡ b → (j < k → Mem (W.list j) (marked_rows W m k))
          → Mem (W.list j) (cond b (W.list k ∷ marked_rows W m k) (marked_rows W m k))
      go true e rest = elim (ℕ_discrete j k) [ yes q ↦ here (ap W.list q) | no n ↦ there (rest (omega arith)) ]
      go false e rest =
          elim (ℕ_discrete j k)
          [ yes q ↦ absurd (true≢false (sym o ∙ ap (λ (x : ℕ). is_on m (W.list x)) q ∙ e)) | no n ↦ rest (omega arith) ]

  marked-once : Ranked W → (k : ℕ) → k ≤ W.header USED → NoDup (marked_rows W m k)
  unfolding marked_rows
  marked-once r zero l = tt
  marked-once r (suc k) l = go (is_on m (W.list k)) (marked-once r k (omega arith))
    where
      apart : Mem (W.list k) (marked_rows W m k) → ⊥
      apart h =
          let (o, at) = mem-marked k (W.list k) h in
          let (j, lt, e) = at in
          let q : j ≡ k = sym (r.back j (omega arith)) ∙ ap (λ (x : ℕ). W.cell x RANK) e ∙ r.back k (omega arith) in
          omega arith

      go : (b : Bool) → NoDup (marked_rows W m k) → NoDup (cond b (W.list k ∷ marked_rows W m k) (marked_rows W m k))
      go true d = (apart, d)
      go false d = d

  -- where the marked rows are those that some roots reach, they are as many
  pub marked_reaches : {n : ℕ} {roots : List ℕ} → Ranked W → ((i : ℕ) → Reach (rows_of W) roots i → used W i ≡ true)
      → ((i : ℕ) → On m i → Reach (rows_of W) roots i)
      → ((i : ℕ) → Reach (rows_of W) roots i → On m i) → n ≡ mark_count W m (W.header USED) → Reaches (rows_of W) roots n
  marked_reaches r u only all e = record {
    list = marked_rows W m (W.header USED);
    once = marked-once r (W.header USED) (omega arith);
    only = λ i h. only i (mem-marked (W.header USED) i h).0;
    all = λ i t.
        let q = used_in W.rows (W.header USED) (λ x. W.cell x RANK) W.list i (u i t) in
        subst (λ (x : ℕ). Mem x (marked_rows W m (W.header USED))) q.there
        (marked-mem (W.header USED) (W.cell i RANK) q.place (rw q.there (all i t)));
    count = marked-length (W.header USED) ∙ sym e;
  }

take-zeros : (n k : ℕ) → n ≤ k → ◌≡◌ {A = List ℕ} (take n (replicate k 0)) (replicate n 0)
take-zeros zero k h = refl
take-zeros (suc n) zero h = absurd (omega arith)
take-zeros (suc n) (suc k) h = ap (λ (xs : List ℕ). 0 ∷ xs) (take-zeros n k (omega arith))

-- what `begin` asks of the words lent
pub blank-size : {c : List ℕ} → Blank c → length c ≡ COUNT_WORDS
blank-size z = ap length z ∙ length-replicate {A = ℕ} COUNT_WORDS 0

pub blank-marks : {c : List ℕ} → Blank c → MARK_WORDS ≡ length (take MARK_WORDS c)
blank-marks {c} z = let e = blank-size z in sym (length-take-le MARK_WORDS c (omega arith))

pub filled-pre : {W : View} {c : List ℕ} → Sound W → Blank c → RefsPre W (length (take MARK_WORDS c)) VALID ROOTS_END
filled-pre s z = rw (← blank-marks z) (record { base = sound-base s; order = omega arith; within = omega arith; ref = s.refs })

-- and what it writes: the marks of registers and relations, then their number
module _ {W : View} {c m : List ℕ} (s : Sound W) (z : Blank c) (l : length m ≡ length (take MARK_WORDS c))
    (k : MarksAll (rows_of W) (take MARK_WORDS c) m (Held W VALID ROOTS_END)) where
  none : (i : ℕ) → On (take MARK_WORDS c) i → ⊥
  none i o =
      no-marks MARK_WORDS i (subst (λ (xs : List ℕ). On xs i) (ap (take MARK_WORDS) z ∙ take-zeros MARK_WORDS COUNT_WORDS (omega arith)) o)

  pub marked-size : length (m ++ drop MARK_WORDS c) ≡ COUNT_WORDS
  marked-size = length_front c m MARK_WORDS l ∙ blank-size z

  front : take MARK_WORDS (m ++ drop MARK_WORDS c) ≡ m
  front = take_at m (drop MARK_WORDS c) MARK_WORDS (l ∙ sym (blank-marks z))

  pub front_size : MARK_WORDS ≡ length (take MARK_WORDS (m ++ drop MARK_WORDS c))
  front_size = blank-marks z ∙ sym l ∙ sym (ap length front)

  pub written-size : (n : ℕ) → length (set (m ++ drop MARK_WORDS c) NUMBER n) ≡ length c
  written-size n = length-set (m ++ drop MARK_WORDS c) NUMBER n ∙ marked-size ∙ sym (blank-size z)

  -- behind the marks all words are 0
  rest : (n k : ℕ) → SIZES ≤ k → get_or (set (m ++ drop MARK_WORDS c) NUMBER n) k 0 ≡ 0
  rest n k h =
      let j : ℕ = k - MARK_WORDS in
      let ek : k ≡ length m + j = let e = l ∙ sym (blank-marks z) in omega (arith, e, h) in
      let ec : MARK_WORDS + j ≡ k = omega (arith, h) in
      get_or-set_other (m ++ drop MARK_WORDS c) NUMBER k n 0 (omega arith)
      ∙ ap (λ (x : ℕ). get_or (m ++ drop MARK_WORDS c) x 0) ek ∙ get_or-append-add m (drop MARK_WORDS c) j 0 ∙ get_or-drop MARK_WORDS c j 0
      ∙ ap (λ (x : ℕ). get_or c x 0) ec ∙ ap (λ (xs : List ℕ). get_or xs k 0) z ∙ zeros COUNT_WORDS k

  base_begun : {n : ℕ} → n ≡ mark_count W (take MARK_WORDS (m ++ drop MARK_WORDS c)) (W.header USED)
      → BaseOf W (set (m ++ drop MARK_WORDS c) NUMBER n)
  unfolding marks_of
  base_begun {n} e =
      let d : List ℕ = m ++ drop MARK_WORDS c in
      let only : (i : ℕ) → On m i → Reach (rows_of W) (filled W) i = marked-reach none (filled-marks k) in
      let all : (i : ℕ) → Reach (rows_of W) (filled W) i → On m i = reach-marked none (filled-marks k) in
      let marks : take MARK_WORDS (set d NUMBER n) ≡ m = take-set-le MARK_WORDS d NUMBER n (omega arith) ∙ front in
      let number : get_or (set d NUMBER n) NUMBER 0 ≡ n = get_or-set_same d NUMBER n 0 (omega (arith, marked-size)) in
      record {
        size = written-size n ∙ blank-size z;
        only = λ i o. only i (subst (λ (xs : List ℕ). On xs i) marks o);
        all = λ i r. subst (λ (xs : List ℕ). On xs i) (sym marks) (all i r);
        number = subst (λ (x : ℕ). Reaches (rows_of W) (filled W) x) (sym number)
            (marked_reaches W m s.good.ranked (λ i r. reach-used s.good.rows (filled-arrow s) r) only all
            (e ∙ ap (λ (xs : List ℕ). mark_count W xs (W.header USED)) front));
      }

  pub begun : {n : ℕ} → n ≡ mark_count W (take MARK_WORDS (m ++ drop MARK_WORDS c)) (W.header USED)
      → CountsOf W (set (m ++ drop MARK_WORDS c) NUMBER n)
  begun {n} e = record { base = base_begun e; sizes = remembered_none (rest n) }
