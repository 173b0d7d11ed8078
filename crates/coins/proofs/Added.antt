-- Laws of what specs/Added.antt defines. Assumes nothing.
use mathlib.Core.Path.{◌≡◌, refl, sym, ap, ◌∙◌, subst}
use mathlib.Core.Logic.{◌≢◌, by_cases}
use mathlib.Core.Bool.{Bool, true, false, cond}
use mathlib.Core.List.Memᴰ.{of_map as mem-of-map}
use mathlib.Core.List.{map}
use Prim.Native.Nat.{ℕ, suc, ◌≤◌, ◌<◌}
use native.Mathlib.Decide.{ℕ_discrete, dec_lt}
use native.Mathlib.Omega.{arith}
use lib.Dec.{T, ltb, ltb→lt, lt→ltb}
use lib.ListN.{length-map}
use Rattle.diagram.specs.Count.{up_to}
use Rattle.diagram.proofs.Count.{length-up_to, up_to-below, nodup-up_to, nodup-map, pigeonhole}
use Rattle.coins.specs.Marks.{Marks, Listed}
use Rattle.coins.specs.Added.{Added}

-- so many different numbers below k are at most k
pub different_few : (n k : ℕ) (f : ℕ → ℕ) → ((i : ℕ) → i < n → f i < k) → ((i j : ℕ) → i < n → j < n → f i ≡ f j → i ≡ j) → n ≤ k
different_few n k f below apart =
    let once = nodup-map f (up_to n) (λ i j h g e. apart i j (up_to-below n i h) (up_to-below n j g) e) (nodup-up_to n) in
    let p = pigeonhole k (map f (up_to n)) once
    (λ x h. let (i, m, e) = mem-of-map f (up_to n) h in subst (λ (y : ℕ). y < k) e (below i (up_to-below n i m))) in
    let q = length-up_to n in
    let r = length-map (up_to n) f in
    omega arith

module _ {k : ℕ} {M : Marks} (S : Listed k M) (s : ℕ) (l : s < k) (bare : M.mark s ≡ 0) where
  -- a place in the order holds another state
  pub elsewhere : (i : ℕ) → i < M.count → M.at i ≢ s
  elsewhere i h e = let y = (S.listed i h).1 in let z : M.mark (M.at i) ≡ 0 = ap M.mark e ∙ bare in omega arith

  -- there is room for it
  pub room : M.count < k
  room = different_few (suc M.count) k next below apart
    where
      next : ℕ → ℕ
      next i = cond (ltb i M.count) (M.at i) s

      below : (i : ℕ) → i < suc M.count → next i < k
      below i h = go (ltb i M.count) refl
        where
          go : (b : Bool) → ltb i M.count ≡ b → cond b (M.at i) s < k
          go true e = (S.listed i (ltb→lt i M.count (subst T (sym e) tt))).0
          go false e = l

      apart : (i j : ℕ) → i < suc M.count → j < suc M.count → next i ≡ next j → i ≡ j
      apart i j hi hj = go (ltb i M.count) (ltb j M.count) refl refl
        where
          out : (x : ℕ) → ltb x M.count ≡ false → x < suc M.count → x ≡ M.count
          out x e h = by_cases (dec_lt x M.count) (λ y. absurd (subst T e (lt→ltb x M.count y))) (λ n. omega arith)

          go : (b c : Bool) → ltb i M.count ≡ b → ltb j M.count ≡ c → cond b (M.at i) s ≡ cond c (M.at j) s → i ≡ j
          go true true e f q = S.once i j (ltb→lt i M.count (subst T (sym e) tt)) (ltb→lt j M.count (subst T (sym f) tt)) q
          go true false e f q = absurd (elsewhere i (ltb→lt i M.count (subst T (sym e) tt)) q)
          go false true e f q = absurd (elsewhere j (ltb→lt j M.count (subst T (sym f) tt)) (sym q))
          go false false e f q = out i e hi ∙ sym (out j f hj)

  module _ {N : Marks} {m : ℕ} (A : Added M N s m) where
    same-mark : (t : ℕ) → 1 ≤ M.mark t → N.mark t ≡ M.mark t
    same-mark t y = A.others t (λ e. let z : M.mark t ≡ 0 = ap M.mark e ∙ bare in omega arith)

    old_mark : (i : ℕ) → i < M.count → N.mark (N.at i) ≡ M.mark (M.at i)
    old_mark i h = ap N.mark (A.before i h) ∙ same-mark (M.at i) (S.listed i h).1

    new-mark : N.mark (N.at M.count) ≡ m
    new-mark = ap N.mark A.last ∙ A.mark

    -- what holds at the old places and at the new one, holds at all
    places : (P : ℕ → Type 0) → ((i : ℕ) → i < M.count → P i) → P M.count → (i : ℕ) → i < N.count → P i
    places P old new i h = by_cases (dec_lt i M.count) (λ l. old i l)
        (λ n. let c = A.count in let e : M.count ≡ i = omega arith in subst P e new)

    pub added-listed : 1 ≤ m → Listed k N
    added-listed some = record {
      few = S.few;
      counted = let r = room in let c = A.count in omega arith;
      listed = places (λ i. (N.at i < k) × (1 ≤ N.mark (N.at i)))
          (λ i h. (
            subst (λ (x : ℕ). x < k) (sym (A.before i h)) (S.listed i h).0,
            let e = old_mark i h in
                let y = (S.listed i h).1 in omega arith,
          ))
          (subst (λ (x : ℕ). x < k) (sym A.last) l, let e = new-mark in omega arith);
      placed = λ t h y. by_cases (ℕ_discrete t s)
          (λ e. (M.count, (let c = A.count in omega arith), A.last ∙ sym e))
          (λ n. let o = A.others t n in
          let (i, g, e) = S.placed t h (omega arith) in (i, (let c = A.count in omega arith), A.before i g ∙ e));
      once = λ i j hi hj e. places (λ i. N.at i ≡ N.at j → i ≡ j)
          (λ i g. places (λ j. N.at i ≡ N.at j → i ≡ j)
          (λ j h e. S.once i j g h (sym (A.before i g) ∙ e ∙ A.before j h))
          (λ e. absurd (elsewhere i g (sym (A.before i g) ∙ e ∙ A.last))) j hj)
          (places (λ j. N.at M.count ≡ N.at j → M.count ≡ j)
          (λ j h e. absurd (elsewhere j h (sym (A.before j h) ∙ sym e ∙ A.last)))
          (λ e. refl) j hj) i hi e;
    }
