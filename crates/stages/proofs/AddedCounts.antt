-- Laws of what specs/AddedCounts.antt defines. Assumes nothing.
use mathlib.Core.Path.{◌≡◌, sym, ap, ◌∙◌, subst}
use mathlib.Core.Logic.{inl, inr, ⊎_elim, by_cases}
use mathlib.Core.Bool.{true, false, true≢false}
use mathlib.Core.List.Memᴰ.{cases_cons as mem-cases}
use mathlib.Core.List.Memᴰ.{head as here}
use mathlib.Core.List.Memᴰ.{tail as there}
use mathlib.Core.List.{List, [], ◌∷◌}
use mathlib.Core.List.Memᴰ.{not-nil as mem-nil}
use Prim.Native.Nat.{ℕ, suc, ◌+◌, ◌*◌, ◌≤◌, ◌<◌}
use native.Mathlib.Decide.{ℕ_discrete}
use native.Mathlib.Omega.{arith}
use lib.ListN.{length}
use Rattle.diagram.specs.Rows.{Rows, Arrow, WellFormed}
use Rattle.diagram.proofs.Rows.{leads-used}
use Rattle.diagram.proofs.Count.{pigeonhole}
use Rattle.diagram.specs.Reach.{Reach}
use Rattle.diagram.proofs.Reach.{low-apart, high-apart}
use Rattle.diagram.specs.Survey.{AddedSoFar, Accounted, bump}
use Rattle.diagram.proofs.Survey.{added_none, added_more}
use Rattle.layout.specs.Places.{words_for, CELLS}
use Rattle.layout.specs.View.{View}
use Rattle.layout.specs.Arrows.{is_row, row_of}
use Rattle.layout.proofs.Arrows.{row_is}
use Rattle.rows.specs.Used.{rows_of}
use Rattle.rows.specs.Bits.{is_on, On, Sets}
use Rattle.rows.specs.Mark.{OnTo, OnArrow, MarkPre, Base, depth}
use Rattle.rows.proofs.MarkLaws.{on_arrow_le, Step, step, marks_constant, marks_again, marks-row}
use Rattle.stages.specs.Levels.{LEVELS, MOST, count_of, OneMore}
use Rattle.stages.proofs.Levels.{one-more-le}
use Rattle.stages.specs.AddedCounts.{AddedCounts, MarkAddedPre, MarkAddedPost}

-- the marks are of what the roots reach, and nothing is counted
pub counts-none : {rows : Rows} {roots reached added : List ℕ} → ((i : ℕ) → On reached i → Reach rows roots i)
    → ((l : ℕ) → count_of added l ≡ 0) → AddedCounts rows roots reached added
counts-none {rows} {roots} {reached} {added} only none = record {
  list = [];
  once = tt;
  used = λ i h. absurd (mem-nil h);
  marked = λ i h. absurd (mem-nil h);
  all = λ i o. inl (only i o);
  so_far =
      record {
        closed =
            (added_none {rows = rows} {roots = roots}).closed;
        counted =
            λ l. let s = (added_none {rows = rows} {roots = roots}).counted l in omega (arith, s);
      };
  few = λ l. let e = none l in omega (arith, e);
}

module _ {W : View} {reached added : List ℕ} {b : ℕ} (p : MarkAddedPre W reached added b) where
  pub added-base : Base W (length reached)
  added-base = record {
    words = p.good.sizes.room;
    rows = p.good.rows;
    room = p.room;
  }

  pub added-mark : MarkPre W (length reached) b
  added-mark = record { base = added-base; arrow = p.arrow }

  -- another arrow, and a further one
  pub added-at : {y : ℕ} → Arrow (rows_of W) y → MarkAddedPre W reached added y
  added-at u =
      record { good = p.good; arrow = u; room = p.room; counts-size = p.counts-size; roots = p.roots; added-counts = p.added-counts }

  pub added_next : {reached' added' : List ℕ} {x y : ℕ} → length reached' ≡ length reached → length added' ≡ length added
      → MarkAddedPost (rows_of W) reached reached' added added' x
      → Arrow (rows_of W) y → MarkAddedPre W reached' added' y
  added_next e f q u = record {
    good = p.good;
    arrow = u;
    room = let r = p.room in omega (arith, e, r);
    counts-size = f ∙ p.counts-size;
    roots = p.roots;
    added-counts = q.added-counts p.roots p.added-counts;
  }

-- an arrow to a row: the row has a mark, and its two arrows lie nearer to the last level
module _ {W : View} {reached added : List ℕ} {b : ℕ} (p : MarkAddedPre W reached added b) {i : ℕ} (h : is_row b ≡ true)
    (e : i ≡ row_of b) where
  at_row : Step W (length reached) b i
  at_row = step b (added-mark p) h e

  pub added-get : (f : ℕ) → f < CELLS → (i < W.rows) × (f < CELLS) × (words_for W.rows ≤ W.size)
  added-get f l = (at_row.row, l, p.good.sizes.room)

  pub added_in : i < 32 * length reached
  added_in = let r = at_row.row in let z = p.room in omega (arith, r, z)

  -- the measures are 2 d for the work on a row and 2 d + 1 for any arrow
  pub added-low : {t x : ℕ} → 2 * depth W b ≡ t → x ≡ (rows_of W).low i → (2 * depth W x + 1 < t) × MarkAddedPre W reached added x
  added-low {t} q z =
      let l = at_row.low-less in
      subst (λ (y : ℕ). (2 * depth W y + 1 < t) × MarkAddedPre W reached added y) (sym z)
      (subst (λ (k : ℕ). 2 * depth W ((rows_of W).low i) + 1 < k) q (omega (arith, l)), added-at p at_row.low.arrow)

  pub added-high : {reached' added' : List ℕ} {t x y : ℕ} → 2 * depth W b ≡ t → MarkAddedPost (rows_of W) reached reached' added added' x
      → length reached' ≡ length reached → length added' ≡ length added
      → y ≡ (rows_of W).high i → (2 * depth W y + 1 < t) × MarkAddedPre W reached' added' y
  added-high {reached'} {added'} {t} q lo em ed z =
      let l = at_row.high-less in
      subst (λ (y : ℕ). (2 * depth W y + 1 < t) × MarkAddedPre W reached' added' y) (sym z)
      (subst (λ (k : ℕ). 2 * depth W ((rows_of W).high i) + 1 < k) q (omega (arith, l)), added_next p em ed lo at_row.high.arrow)

-- arrows 0 and 1, and rows that are marked, add nothing
pub added_constant : (rows : Rows) (reached added : List ℕ) (b : ℕ) → is_row b ≡ false → MarkAddedPost rows reached reached added added b
added_constant rows reached added b h = record { marks = marks_constant rows reached b h; added-counts = λ roots s. s }

pub added_again : {i : ℕ} (rows : Rows) (reached added : List ℕ) (b : ℕ) → is_row b ≡ true → i ≡ row_of b → On reached i
    → MarkAddedPost rows reached reached added added b
added_again rows reached added b h e o = record { marks = marks_again rows reached b h e o; added-counts = λ roots s. s }

-- there are at most as many as the table has rows, and fewer where one is not marked
added-room : {m N : ℕ} {rows : Rows} {roots reached added : List ℕ} {i : ℕ} → WellFormed m N rows → AddedCounts rows roots reached added
    → rows.used i ≡ true → (On reached i → ⊥)
    → (l : ℕ) → count_of added l < N
added-room {N = N} {rows} {roots} {reached} {added} {i} wf s u off l =
    let n = pigeonhole N (i ∷ s.list) ((λ h. off (s.marked i h)), s.once)
    (λ j h. ⊎_elim (λ e. wf.bounded j (subst (λ (x : ℕ). rows.used x ≡ true) (sym e) u)) (λ g. wf.bounded j (s.used j g))
    (mem-cases h)) in
    let f = s.few l in
    omega (arith, n, f)

-- an arrow to a marked row is done with
on_accounted : {rows : Rows} {roots reached added : List ℕ} (s : AddedCounts rows roots reached added) (a : ℕ) → OnArrow reached a
    → Accounted rows roots s.list a
on_accounted {reached = reached} s a o j l = s.all j (subst (OnTo reached) l o)

-- one row more, after its two arrows
counts-more : {rows : Rows} {roots m₂ m₃ d₂ d₃ : List ℕ} {i : ℕ} → AddedCounts rows roots m₂ d₂ → rows.used i ≡ true → (On m₂ i → ⊥)
    → OnArrow m₂ (rows.low i) → OnArrow m₂ (rows.high i)
    → Sets m₂ m₃ i → OneMore d₂ d₃ (rows.level i) → AddedCounts rows roots m₃ d₃
counts-more {rows} {roots} {m₂} {m₃} {d₂} {d₃} {i} s u off low high new more = record {
  list = i ∷ s.list;
  once = ((λ h. off (s.marked i h)), s.once);
  used = λ j h. ⊎_elim (λ e. subst (λ (x : ℕ). rows.used x ≡ true) (sym e) u) (λ g. s.used j g) (mem-cases h);
  marked = λ j h. ⊎_elim (λ e. subst (On m₃) (sym e) new.has) (λ g. on j (s.marked j g)) (mem-cases h);
  all = λ j o. by_cases (ℕ_discrete j i) (λ e. inr (here e))
      (λ n. ⊎_elim (λ r. inl r) (λ h. inr (there h)) (s.all j (sym (new.other j n) ∙ o)));
  so_far =
      record { closed = more-so_far.closed; counted = λ l. let e = more.each l in let c = more-so_far.counted l in omega (arith, e, c) };
  few = one-more-le more s.few;
}
  where
    on : (j : ℕ) → On m₂ j → On m₃ j
    on j o = by_cases (ℕ_discrete j i) (λ e. subst (On m₃) (sym e) new.has) (λ n. new.other j n ∙ o)

    more-so_far : AddedSoFar rows roots (i ∷ s.list) (bump (count_of d₂) (rows.level i))
    more-so_far = added_more s.list (count_of d₂) i s.so_far (on_accounted s (rows.low i) low) (on_accounted s (rows.high i) high)

-- a row is marked and counted after its two arrows, which do not reach it
module _ {W : View} {m₀ m₁ m₂ d₀ d₁ d₂ : List ℕ} {x y i : ℕ} (b : ℕ) (p : MarkAddedPre W m₀ d₀ b) (h : is_row b ≡ true) (e : i ≡ row_of b)
    (off : is_on m₀ (row_of b) ≡ false)
    (lo : MarkAddedPost (rows_of W) m₀ m₁ d₀ d₁ x) (ex : x ≡ (rows_of W).low i) (hi : MarkAddedPost (rows_of W) m₁ m₂ d₁ d₂ y)
    (ey : y ≡ (rows_of W).high i) where
  row-used : (rows_of W).used i ≡ true
  row-used = leads-used (rows_of W) b i (row_is b h ∙ ap suc (sym e)) p.arrow

  row-off : On m₂ i → ⊥
  row-off o =
      let first : On m₀ i → ⊥ = λ q. true≢false (sym q ∙ ap (is_on m₀) e ∙ off) in
      let low : Reach (rows_of W) (x ∷ []) i → ⊥ = λ r. low-apart p.good.rows i row-used (rw ex at r) in
      let high : Reach (rows_of W) (y ∷ []) i → ⊥ = λ r. high-apart p.good.rows i row-used (rw ey at r) in
      ⊎_elim (λ q. ⊎_elim first low (lo.marks.only i q)) high (hi.marks.only i o)

  -- its level has a count, which has not reached its end
  pub added-count-asks : {l : ℕ} → l ≡ (rows_of W).level i → length d₂ ≡ LEVELS → (l < length d₂) × (count_of d₂ l < MOST)
  added-count-asks {l} q z =
      let s = (p.good.rows.ok i row-used).shallow in
      let n = p.good.sizes.n_max in
      let r = p.good.sizes.N-max in
      let c = added-room p.good.rows (hi.added-counts p.roots (lo.added-counts p.roots p.added-counts)) row-used row-off l in
      (omega (arith, s, n, z, q), omega (arith, r, c))

  pub added-row : {m₃ d₃ : List ℕ} {l : ℕ} → Sets m₂ m₃ i → l ≡ (rows_of W).level i → OneMore d₂ d₃ l → MarkAddedPost (rows_of W) m₀ m₃ d₀ d₃ b
  added-row {m₃} {d₃} new q more = record {
    marks = marks-row b h e new lo.marks ex hi.marks ey;
    added-counts = λ roots s. counts-more (hi.added-counts roots (lo.added-counts roots s)) row-used row-off
        (on_arrow_le m₁ m₂ hi.marks.kept ((rows_of W).low i) (rw ex at lo).marks.has) (rw ey at hi).marks.has new (rw q at more);
  }
