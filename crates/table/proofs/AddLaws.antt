-- Laws of what specs/Add.antt defines. Assumes nothing.
use mathlib.Core.Path.{◌≡◌, refl, sym, ap, ◌∙◌}
use mathlib.Core.Bool.{true, false, true≢false}
use mathlib.Core.Logic.{◌≢◌, by_cases}
use Prim.Native.Nat.{ℕ, zero, suc, ◌+◌, ◌*◌, ◌<◌}
use native.Mathlib.Omega.{arith}
use native.Mathlib.Decide.{ℕ_discrete}
use borrow.Author.Tests.{eq-eqb, ne_eqb}
use Rattle.layout.specs.Places.{BITS, USED, CURSOR, LOW, HIGH, LEVEL, NEXT, RANK, MEMO_KEY}
use Rattle.diagram.specs.Rows.{marked, Adds}
use Rattle.diagram.proofs.Grow.{adds_well_formed}
use Rattle.layout.specs.View.{View, put_cell, put_header}
use Rattle.rows.specs.Used.{used, rows_of, Ranked}
use Rattle.rows.specs.Index.{key_of, live, Has, Hit, Down, Index}
use Rattle.rows.proofs.Index.{live_link}
use Rattle.rows.proofs.Framed.{hit_frame}
use Rattle.table.specs.Append.{appended}
use Rattle.table.proofs.AppendLaws.{append-used, append-kept, append-only, append-ranked, append-index}
use Rattle.table.proofs.Count.{unused-room}
use Rattle.rows.specs.Lookup.{Room}
use Rattle.rows.specs.Sound.{Good}
use Rattle.table.specs.Find.{Absent}
use Rattle.table.specs.Add.{row_put, Frame, Keys, Fit}

-- row i gets its words, and joins the list and the index; the cursor moves past it
abbrev pub written : View → ℕ → ℕ → ℕ → ℕ → View
written W i l lo hi = row_put (put_header W CURSOR (i + 1)) i l lo hi

abbrev pub row_added : View → ℕ → ℕ → ℕ → ℕ → View
row_added W i l lo hi = appended (written W i l lo hi) i

pub frame_refl : (W : View) → Frame W W
frame_refl W = record { rows = refl; size = refl; header = λ h _ _. refl; memo = λ j k _. refl; slot = refl; beyond = refl }

pub frame_trans : {U Z W : View} → Frame U Z → Frame Z W → Frame U W
frame_trans p q = record {
  rows = q.rows ∙ p.rows;
  size = q.size ∙ p.size;
  header = λ h a b. q.header h a b ∙ p.header h a b;
  memo = λ j k l. q.memo j k l ∙ p.memo j k l;
  slot = q.slot ∙ p.slot;
  beyond = q.beyond ∙ p.beyond;
}

pub frame-append : (W : View) (i : ℕ) → Frame W (appended W i)
frame-append W i = record {
  rows = refl;
  size = refl;
  header = λ h a b. rw (ne_eqb h 3 a);
  memo = λ j k l. rw (ne_eqb k 4 (omega arith), ne_eqb k 3 (omega arith));
  slot = refl;
  beyond = refl;
}

pub frame-written : (W : View) (i l lo hi : ℕ) → Frame W (written W i l lo hi)
frame-written W i l lo hi = record {
  rows = refl;
  size = refl;
  header = λ h a b. rw (ne_eqb h 4 b);
  memo = λ j k g. rw (ne_eqb k 5 (omega arith), ne_eqb k 2 (omega arith), ne_eqb k 1 (omega arith), ne_eqb k 0 (omega arith));
  slot = refl;
  beyond = refl;
}

pub keys_refl : (W : View) → Keys W W
keys_refl W = record { kept = λ j u. refl; fresh = λ j n u. absurd (true≢false (sym u ∙ n)) }

-- an unused row is written: nothing else changes
module _ (W : View) (i l lo hi : ℕ) (g : Good W) (unused : used W i ≡ false) where
  abbrev Z : View
  Z = written W i l lo hi

  apart : (j : ℕ) → used W j ≡ true → j ≢ i
  apart j u e = true≢false (sym u ∙ ap (used W) e ∙ unused)

  ranked-written : Ranked Z
  ranked-written = record { count-le = g.ranked.count-le; within = g.ranked.within; back = g.ranked.back }

  down_written : (k p : ℕ) → Down W k p → Down Z k p
  down_written k zero d = tt
  down_written k (suc j) d = d

  index-written : Index Z
  index-written = record {
    nexts = λ j u. down_written (W.cell j RANK) (W.cell j NEXT) (g.index.nexts j u);
    found = λ j u.
        let r : Hit Z (W.cell j LEVEL) (W.cell j LOW) (W.cell j HIGH) (live (used W) (W.head (key_of W j))) j =
        hit_frame W Z g.index.nexts (λ x v. rw (ne_eqb x i (apart x v))) (λ x v. rw (ne_eqb x i (apart x v)))
        (λ x v. rw (ne_eqb x i (apart x v))) (λ x v. refl)
        (g.index.found j u) (live_link (used W) (W.head (key_of W j))) in
        rw (ne_eqb j i (apart j u)) r;
  }

module _ (W : View) (i l lo hi : ℕ) (g : Good W) (row : i < W.rows) (unused : used W i ≡ false) (absent : Absent W l lo hi) where
  abbrev Y : View
  Y = written W i l lo hi

  abbrev X : View
  X = row_added W i l lo hi

  space : W.header USED < W.rows
  space = unused-room W g.ranked i row unused

  other : (j : ℕ) → used W j ≡ true → j ≢ i
  other j u e = true≢false (sym u ∙ ap (used W) e ∙ unused)

  alone : (j : ℕ) → used Y j ≡ true → Has Y j (Y.cell i LEVEL) (Y.cell i LOW) (Y.cell i HIGH) → ⊥
  alone j u h = absent j u (record {
    level = rw (ne_eqb j i (other j u), eq-eqb i i refl) at h.level;
    low = rw (ne_eqb j i (other j u), eq-eqb i i refl) at h.low;
    high = rw (ne_eqb j i (other j u), eq-eqb i i refl) at h.high;
  })

  pub added-adds : Adds (rows_of W) (rows_of X) i l lo hi
  added-adds = record {
    kept = record {
      used = λ j u. append-kept Y i (ranked-written W i l lo hi g unused) (index-written W i l lo hi g unused) row unused space alone j u;
      level = λ j u. rw (ne_eqb j i (other j u));
      low = λ j u. rw (ne_eqb j i (other j u));
      high = λ j u. rw (ne_eqb j i (other j u));
    };
    only = λ j u n. append-only Y i (ranked-written W i l lo hi g unused) (index-written W i l lo hi g unused) row unused space alone j u n;
    unused = unused;
    used = append-used Y i (ranked-written W i l lo hi g unused) (index-written W i l lo hi g unused) row unused space alone;
    level = rw (eq-eqb i i refl);
    low = rw (eq-eqb i i refl);
    high = rw (eq-eqb i i refl);
  }

  pub added-keys : Keys W X
  added-keys = record {
    kept = λ j u. rw (ne_eqb j i (other j u));
    fresh = λ j n u. by_cases (ℕ_discrete j i) (λ e. rw (eq-eqb j i e)) (λ d. absurd (true≢false (sym (added-adds.only j u d) ∙ n)));
  }

  pub added-good : Fit (2 * W.header BITS) (rows_of W) l lo hi → lo ≢ hi → marked hi ≡ false → Good X
  added-good f ne plain = record {
    sizes = g.sizes;
    rows_is = g.rows_is;
    layout_is = g.layout_is;
    ranked = append-ranked Y i (ranked-written W i l lo hi g unused) (index-written W i l lo hi g unused) row unused space alone;
    rows = adds_well_formed g.rows added-adds row (omega arith) f.shallow f.low-arrow f.high-arrow f.low_deeper
        f.high_deeper ne plain
        (λ j u a b c. absent j u (record { level = a; low = b; high = c }));
    index = append-index Y i (ranked-written W i l lo hi g unused) (index-written W i l lo hi g unused) row unused space alone;
  }

-- the steps of `write_row`
pub put-by : (W : View) (i l lo hi : ℕ) {W₁ W₂ W₃ W₄ : View} → W₁ ≡ put_cell W i LOW lo → W₂ ≡ put_cell W₁ i HIGH hi
    → W₃ ≡ put_cell W₂ i LEVEL l → W₄ ≡ put_cell W₃ i MEMO_KEY 0
    → W₄ ≡ row_put W i l lo hi
put-by W i l lo hi e₁ e₂ e₃ e₄ = rw (e₄, e₃, e₂, e₁)

-- the steps of `add`
pub added-by : (W : View) (i l lo hi : ℕ) {W₁ W₂ W₃ : View} → W₁ ≡ put_header W CURSOR (i + 1) → W₂ ≡ row_put W₁ i l lo hi
    → W₃ ≡ appended W₂ i → W₃ ≡ row_added W i l lo hi
added-by W i l lo hi e₁ e₂ e₃ = rw (e₃, e₂, e₁)

-- what `append` asks of the row that `add` wrote
pub append-pre : (W : View) (i l lo hi : ℕ) → Good W → i < W.rows → used W i ≡ false → {W₁ W₂ : View} → W₁ ≡ put_header W CURSOR (i + 1)
    → W₂ ≡ row_put W₁ i l lo hi → Room W₂ × (W₂.header USED < W.rows)
append-pre W i l lo hi g row unused e₁ e₂ =
    rw (e₂, e₁)
    (record { words = g.sizes.room; count-le = g.ranked.count-le; max = g.sizes.N-max }, unused-room W g.ranked i row unused)
