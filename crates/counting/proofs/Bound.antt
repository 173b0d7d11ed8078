-- Laws of what specs/Bound.antt defines. Assumes nothing.
use mathlib.Core.Path.{◌≡◌, sym, ap, ◌∙◌, subst}
use mathlib.Core.Bool.{Bool, true, false, true≢false}
use mathlib.Core.Logic.{⊎_elim}
use mathlib.Core.List.Memᴰ.{cases_cons as mem-cases}
use mathlib.Core.List.Memᴰ.{head as here}
use mathlib.Core.List.Memᴰ.{tail as there}
use mathlib.Core.List.{List, [], ◌∷◌, ◌++◌, map}
use mathlib.Core.List.Memᴰ.{append_cases}
use mathlib.Core.List.Memᴰ.{append_left}
use mathlib.Core.List.Memᴰ.{append_right}
use mathlib.Core.List.Memᴰ.{cast as mem_cast}
use mathlib.Core.List.Memᴰ.{eq_of_singleton as mem-only}
use mathlib.Core.List.Memᴰ.{map as mem-map}
use mathlib.Core.List.Memᴰ.{of_map as mem-of-map}
use Prim.Native.Nat.{ℕ, suc, ◌+◌, ◌*◌, ◌/◌, ◌≤◌, ◌<◌}
use native.Mathlib.Numerals.{add-one}
use native.Mathlib.Omega.{arith}
use lib.ListN.{length, get_or, take}
use lib.Seq.{take-suc, take_all}
use Rattle.diagram.specs.Rows.{Arrow, den}
use Rattle.diagram.specs.Count.{Within}
use Rattle.diagram.proofs.Needed.{need_mono}
use Rattle.diagram.specs.Reach.{Reach}
use Rattle.diagram.proofs.Reach.{ReachedTo}
use Rattle.diagram.specs.Sizes.{Outside}
use Rattle.diagram.proofs.Sizes.{need-outside}
use Rattle.layout.specs.Places.{MAX_ROWS, BITS}
use Rattle.layout.specs.View.{View}
use Rattle.layout.specs.Arrows.{is_row, row_of}
use Rattle.layout.proofs.Arrows.{row_is, no_row-leads}
use Rattle.rows.specs.Used.{rows_of}
use Rattle.rows.proofs.Used.{of_arrow}
use Rattle.rows.specs.Bits.{is_on}
use Rattle.rows.specs.Sound.{Sound}
use Rattle.rows.specs.Filled.{filled}
use Rattle.rows.proofs.Filled.{filled-arrow}
use Rattle.collect.specs.Lent.{live}
use Rattle.counting.specs.Sizes.{place_of, put_size}
use Rattle.counting.proofs.Sizes.{outside-none, outside-base, remembered_seen}
use Rattle.counting.specs.Counts.{NUMBER, need_of, BaseOf, CountsOf}
use Rattle.counting.proofs.CountsLaws.{number-need, mark-read, counts-put}
use Rattle.counting.specs.Bound.{Bound, SizePre, SizePost, SumPost, WithinPost}

-- fewer arrows need no more
pub need-fewer : (W : View) (xs ys : List ℕ) → Within xs ys → need_of W xs ≤ need_of W ys
need-fewer W xs ys w =
    let f = den (2 * W.header BITS) (rows_of W) in
    need_mono (2 * W.header BITS) (map f xs) (map f ys)
    (λ g h. let (a, ma, e) = mem-of-map f xs h in mem_cast (sym e) (mem-map f (w a ma)))

pub bound-base : {W : View} {c : List ℕ} → Sound W → BaseOf W c → Bound W (filled W) (get_or c NUMBER 0)
bound-base s p = record { arrows = filled-arrow s; base = λ a h. h; enough = let e = number-need s p in omega (arith, e) }

bound-more : {W : View} {xs : List ℕ} {a n k : ℕ} → Sound W → Arrow (rows_of W) a → Outside (rows_of W) (filled W) a k → Bound W xs n
    → Bound W (a ∷ xs) (n + k)
bound-more {W} {xs} {a} {n} {k} s u o b = record {
  arrows = λ x h. ⊎_elim (λ e. subst (Arrow (rows_of W)) (sym e) u) (b.arrows x) (mem-cases h);
  base = λ x h. there (b.base x h);
  enough = let l = need-outside s.good.rows xs b.arrows b.base a k u o in let e = b.enough in omega (arith, l, e);
}

bound-same : {W : View} {n : ℕ} (xs ys : List ℕ) → Within ys xs → Within (filled W) ys → Bound W xs n → Bound W ys n
bound-same {W} xs ys w f b =
    record {
      arrows = λ a h. b.arrows a (w a h);
      base = f;
      enough = let l = need-fewer W ys xs w in
          let e = b.enough in omega (arith, l, e);
    }

-- the steps of `size_of`: a constant, an arrow that the base reaches, a size that is remembered, one that is counted
module _ {W : View} {c : List ℕ} {a : ℕ} (p : SizePre W c a) where
  pub size_constant : is_row a ≡ false → SizePost W c a 0
  size_constant h = record { counts = p.counts; size = outside-none (no_row-leads a h) }

  pub size-row : {i : ℕ} → is_row a ≡ true → i ≡ row_of a → i < MAX_ROWS
  size-row h e =
      let l = p.sound.good.rows.bounded _ (of_arrow (rows_of W) a h e p.arrow) in
      let n = p.sound.good.sizes.N-max in
      omega (arith, l, n)

  pub size-base : {i : ℕ} {b : Bool} → is_row a ≡ true → i ≡ row_of a → b ≡ is_on c i → b ≡ true → SizePost W c a 0
  size-base {i} h e q t =
      let r : Reach (rows_of W) (filled W) i = p.counts.base.only i (mark-read c i (size-row h e) ∙ sym q ∙ t) in
      record { counts = p.counts; size = outside-base (subst (ReachedTo (rows_of W) (filled W)) (sym (row_is a h ∙ ap suc (sym e))) r) }

  pub size-seen : {j : ℕ} → j ≡ place_of a → get_or c j 0 ≡ a / 2 → SizePost W c a (get_or c (j + 1) 0)
  size-seen e q = record { counts = p.counts; size = rw e (remembered_seen a p.counts.sizes (rw e at q)) }

  pub size-counted : {d : List ℕ} {n : ℕ} → Outside (rows_of W) (filled W) a n → d ≡ put_size c a n → SizePost W d a n
  size-counted o e = rw e (record { counts = counts-put a _ p.arrow o p.counts; size = o })

-- the sum of the sizes of the first k of a list, and `sum`, which stands for any arrows that need no more
pub record Summed (W : View) (c xs : List ℕ) (sum k total : ℕ) : Type 0 where
  pub counts : CountsOf W c
  pub more : sum ≤ total
  pub bound : (ys : List ℕ) → Bound W ys sum → Bound W (take k xs ++ ys) total

pub summed_none : {W : View} {c xs : List ℕ} {sum : ℕ} → CountsOf W c → Summed W c xs sum 0 sum
summed_none p = record { counts = p; more = omega arith; bound = λ ys b. b }

pub summed_more : {W : View} {c d xs : List ℕ} {sum k total n : ℕ} → Sound W → Arrow (rows_of W) (get_or xs k 0) → k < length xs
    → Summed W c xs sum k total
    → SizePost W d (get_or xs k 0) n → Summed W d xs sum (k + 1) (total + n)
summed_more {W} {xs = xs} {k = k} s u l p q = record {
  counts = q.counts;
  more = let m = p.more in omega (arith, m);
  bound = λ ys b.
      let x : ℕ = get_or xs k 0 in
      let one : List ℕ = x ∷ (take k xs ++ ys) in
      let next : List ℕ = take k xs ++ x ∷ [] ++ ys in
      let within : Within next one = λ a h. ⊎_elim
      (λ t. ⊎_elim (λ f. there (append_left ys f)) (λ g. here (mem-only g)) (append_cases (take k xs) t))
      (λ t. there (append_right (take k xs) t))
      (append_cases (take k xs ++ x ∷ []) h)
      in
      rw (add-one k, take-suc xs k 0 l)
      (bound-same one next within (λ a h. append_right (take k xs ++ x ∷ []) (b.base a h)) (bound-more s u q.size (p.bound ys b)));
}

pub summed_all : {W : View} {c : List ℕ} (xs : List ℕ) {sum most k r : ℕ} → length xs ≤ k → Summed W c xs sum k r
    → SumPost W c xs sum most r
summed_all {W} xs {k = k} {r} l p = record {
  counts = p.counts;
  more = p.more;
  bound = λ ys b h. subst (λ (zs : List ℕ). Bound W (zs ++ ys) r) (take_all k xs l) (p.bound ys b);
}

pub summed_over : {W : View} {c xs : List ℕ} {sum most k r : ℕ} → most < r → Summed W c xs sum k r → SumPost W c xs sum most r
summed_over l p = record { counts = p.counts; more = p.more; bound = λ ys b h. absurd (omega (arith, l, h)) }

pub within-yes : {W : View} {c c₁ c₂ xs ys : List ℕ} {most f t : ℕ} → Sound W → CountsOf W c → SumPost W c₁ xs (get_or c NUMBER 0) most f
    → SumPost W c₂ ys f most t → t ≤ most
    → WithinPost W c₂ xs ys most true
within-yes {W} {xs = xs} {ys} {most} s p q r l = record {
  counts = r.counts;
  fits = λ e.
      let a = r.more in
      let b = r.bound (xs ++ filled W) (q.bound (filled W) (bound-base s p.base) (omega (arith, a, l))) l in
      let n = need-fewer W (live W (xs ++ ys)) (ys ++ (xs ++ filled W)) (λ x h. ⊎_elim
      (λ g. append_right ys (append_right xs g))
      (λ g. ⊎_elim (λ u. append_right ys (append_left (filled W) u)) (λ u. append_left (xs ++ filled W) u) (append_cases xs g))
      (append_cases (filled W) h))
      in
      let k = b.enough in
      omega (arith, n, k, l);
}

pub within-no : {W : View} {c xs ys : List ℕ} {sum most t : ℕ} → SumPost W c ys sum most t → WithinPost W c xs ys most false
within-no r = record { counts = r.counts; fits = λ e. absurd (true≢false (sym e)) }
