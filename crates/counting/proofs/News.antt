-- Laws of what specs/News.antt defines. Assumes nothing.
use mathlib.Core.Path.{◌≡◌, refl, sym, ap, ap₂, ◌∙◌, subst}
use mathlib.Core.Logic.{◌⊎◌, inl, inr, ⊎_elim, by_cases}
use mathlib.Core.Bool.{Bool, true, false, true≢false}
use mathlib.Core.List.Memᴰ.{eq_of_singleton as mem-only}
use mathlib.Core.List.Memᴰ.{head as here}
use mathlib.Core.List.{List, [], ◌∷◌, ◌++◌, Memᴰ as Mem}
use mathlib.Core.List.Memᴰ.{append_cases}
use mathlib.Core.List.Memᴰ.{append_left}
use mathlib.Core.List.Memᴰ.{not-nil as mem-nil}
use mathlib.Core.List.Memᴰ.{append_right}
use Prim.Native.Nat.{ℕ, suc, ◌+◌, ◌≤◌, ◌<◌}
use native.Mathlib.Decide.{ℕ_discrete}
use native.Mathlib.Omega.{arith}
use lib.ListN.{length, get_or, take, drop, length-append, take-append-drop}
use Rattle.diagram.specs.Rows.{Rows, WellFormed}
use Rattle.diagram.proofs.Rows.{leads-used}
use Rattle.diagram.proofs.Count.{nodup_append, pigeonhole}
use Rattle.diagram.specs.Reach.{Reach}
use Rattle.diagram.proofs.Reach.{low-apart, high-apart}
use Rattle.layout.specs.View.{View}
use Rattle.layout.specs.Arrows.{is_row, row_of}
use Rattle.layout.proofs.Arrows.{row_is}
use Rattle.rows.specs.Used.{rows_of}
use Rattle.rows.specs.Bits.{is_on, On, Sets}
use Rattle.rows.specs.Mark.{MarkPre}
use Rattle.rows.proofs.MarkLaws.{marks_constant, marks_again, marks-row, reaches_used}
use Rattle.rows.proofs.Roots.{marks-more}
use Rattle.collect.specs.Lent.{LentPre}
use Rattle.collect.proofs.Lent.{Lent, lent_none, lent-more, lent-all}
use Rattle.counting.specs.News.{News, MarksNew, ListNew}

pub news-none : (m : List ℕ) → News m m 0
news-none m =
    record {
      rows = [];
      once = tt;
      marked = λ i h. absurd (mem-nil h);
      unmarked = λ i h. absurd (mem-nil h);
      all = λ i o. inl o;
      count = refl;
    }

pub news-more : {m₀ m₁ m₂ : List ℕ} {j k : ℕ} → ((i : ℕ) → On m₀ i → On m₁ i) → ((i : ℕ) → On m₁ i → On m₂ i) → News m₀ m₁ j → News m₁ m₂ k
    → News m₀ m₂ (j + k)
news-more f g p q = record {
  rows = p.rows ++ q.rows;
  once = nodup_append p.rows q.rows p.once q.once (λ i h t. q.unmarked i t (p.marked i h));
  marked = λ i h. ⊎_elim (λ x. g i (p.marked i x)) (λ y. q.marked i y) (append_cases p.rows h);
  unmarked = λ i h o. ⊎_elim (λ x. p.unmarked i x o) (λ y. q.unmarked i y (f i o)) (append_cases p.rows h);
  all = λ i o. ⊎_elim
      (λ x. ⊎_elim (λ z. inl z) (λ z. inr (append_left q.rows z)) (p.all i x))
      (λ y. inr (append_right p.rows y))
      (q.all i o);
  count = length-append p.rows q.rows ∙ ap₂ ◌+◌ p.count q.count;
}

-- one row
pub news-one : {m m' : List ℕ} {i : ℕ} → (On m i → ⊥) → Sets m m' i → News m m' 1
news-one {m} {m'} {i} n s = record {
  rows = i ∷ [];
  once = ((λ h. mem-nil h), tt);
  marked = λ j h. subst (On m') (sym (mem-only h)) s.has;
  unmarked = λ j h o. n (subst (On m) (mem-only h) o);
  all = λ j o. by_cases (ℕ_discrete j i) (λ e. inr (here e)) (λ d. inl (sym (s.other j d) ∙ o));
  count = refl;
}

-- arrows 0 and 1, and rows that are marked, mark nothing
pub constant_new : (rows : Rows) (m : List ℕ) (a : ℕ) → is_row a ≡ false → MarksNew rows m m a 0
constant_new rows m a h = record { marks = marks_constant rows m a h; news = news-none m }

pub again_new : {i : ℕ} (rows : Rows) (m : List ℕ) (a : ℕ) → is_row a ≡ true → i ≡ row_of a → On m i → MarksNew rows m m a 0
again_new rows m a h e o = record { marks = marks_again rows m a h e o; news = news-none m }

-- the test that finds a row unmarked
pub still-off : {b : Bool} {i : ℕ} (m : List ℕ) (a : ℕ) → i ≡ row_of a → b ≡ is_on m i → b ≡ false → is_on m (row_of a) ≡ false
still-off m a e q f = ap (is_on m) (sym e) ∙ sym q ∙ f

-- as many rows as the table has, at most, were not marked
bounded : {rows : Rows} {m m' : List ℕ} {n k N : ℕ} → News m m' n → ((i : ℕ) → On m' i → On m i ⊎ (rows.used i ≡ true))
    → WellFormed k N rows → n ≤ N
bounded {N = N} p used wf =
    let l = pigeonhole N p.rows p.once
    (λ i h. wf.bounded i (⊎_elim (λ o. absurd (p.unmarked i h o)) (λ u. u) (used i (p.marked i h)))) in
    let e = p.count in
    omega (arith, l, e)

pub new-le : {w : View} {m m' : List ℕ} {size a n : ℕ} → MarkPre w size a → MarksNew (rows_of w) m m' a n → n ≤ w.rows
new-le p k =
    bounded k.news (λ i o. ⊎_elim (λ x. inl x) (λ r. inr (reaches_used p.base.rows p.arrow r)) (k.marks.only i o))
    p.base.rows

-- a row is marked after its two arrows, which do not reach it
pub row_new : {w : View} {m₀ m₁ m₂ m₃ : List ℕ} {size i x y j k : ℕ} (a : ℕ) → MarkPre w size a → is_row a ≡ true → i ≡ row_of a
    → is_on m₀ (row_of a) ≡ false → Sets m₂ m₃ i
    → MarksNew (rows_of w) m₀ m₁ x j → x ≡ (rows_of w).low i → MarksNew (rows_of w) m₁ m₂ y k → y ≡ (rows_of w).high i
    → MarksNew (rows_of w) m₀ m₃ a (j + k + 1)
row_new {w} {m₀} {m₁} {m₂} {m₃} {i = i} {x} {y} a p h e n s lo ex hi ey =
    let u : (rows_of w).used i ≡ true = leads-used (rows_of w) a i (row_is a h ∙ ap suc (sym e)) p.arrow in
    let off : On m₀ i → ⊥ = λ o. true≢false (sym o ∙ ap (is_on m₀) e ∙ n) in
    let low : Reach (rows_of w) (x ∷ []) i → ⊥ = λ r. low-apart p.base.rows i u (rw ex at r) in
    let high : Reach (rows_of w) (y ∷ []) i → ⊥ = λ r. high-apart p.base.rows i u (rw ey at r) in
    let still : On m₂ i → ⊥ = λ o. ⊎_elim (λ q. ⊎_elim off low (lo.marks.only i q)) high (hi.marks.only i o) in
    let kept : (r : ℕ) → On m₂ r
    → On m₃ r = λ r o. by_cases (ℕ_discrete r i) (λ q. subst (On m₃) (sym q) s.has) (λ d. s.other r d ∙ o) in
    let both = news-more lo.marks.kept hi.marks.kept lo.news hi.news in
    record {
      marks = marks-row a h e s lo.marks ex hi.marks ey;
      news = news-more (λ r o. hi.marks.kept r (lo.marks.kept r o)) kept both (news-one still s);
    }

pub list-more : {rows : Rows} {m₀ m₁ m₂ : List ℕ} {j k : ℕ} (xs ys : List ℕ) → ListNew rows m₀ m₁ xs j → ListNew rows m₁ m₂ ys k
    → ListNew rows m₀ m₂ (xs ++ ys) (j + k)
list-more xs ys p q = record {
  marks = marks-more p.marks q.marks (λ a h. append_left ys h) (λ a h. append_right xs h) (λ a h. append_cases xs h);
  news = news-more p.marks.kept q.marks.kept p.news q.news;
}

mem-take : {a : ℕ} (k : ℕ) (xs : List ℕ) → Mem a (take k xs) → Mem a xs
mem-take {a} k xs h = subst (λ (ys : List ℕ). Mem a ys) (take-append-drop k xs) (append_left (drop k xs) h)

-- the first k of a list, and one more
pub record FirstNew (rows : Rows) (m m' xs : List ℕ) (k n : ℕ) : Type 0 where
  pub lent : Lent rows m m' xs k
  pub news : News m m' n

pub first-none : {rows : Rows} (m xs : List ℕ) → FirstNew rows m m xs 0 0
first-none m xs = record { lent = lent_none m xs; news = news-none m }

pub first_more : {rows : Rows} {m₀ m₁ m₂ xs : List ℕ} {k j n : ℕ} → k < length xs → FirstNew rows m₀ m₁ xs k j
    → MarksNew rows m₁ m₂ (get_or xs k 0) n
    → FirstNew rows m₀ m₂ xs (k + 1) (j + n)
first_more l p q =
    record { lent = lent-more l p.lent q.marks; news = news-more p.lent.marks.kept q.marks.kept p.news q.news }

pub first-le : {w : View} {m m' xs : List ℕ} {size k n : ℕ} → LentPre w size xs → FirstNew (rows_of w) m m' xs k n → n ≤ w.rows
first-le {xs = xs} {k = k} p f =
    bounded f.news
    (λ i o. ⊎_elim (λ x. inl x) (λ t. inr (reaches_used p.base.rows (p.arrow t.0 (mem-take k xs t.1)) t.2))
    (f.lent.marks.only i o)) p.base.rows

pub first-all : {rows : Rows} {m m' : List ℕ} (xs : List ℕ) {k n : ℕ} → length xs ≤ k → FirstNew rows m m' xs k n → ListNew rows m m' xs n
first-all xs {k} l p = record { marks = lent-all xs k l p.lent; news = p.news }
