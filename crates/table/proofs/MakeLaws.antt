-- Laws of what specs/Make.antt defines. Assumes nothing.
use mathlib.Core.Path.{◌≡◌, refl, sym, ap, subst, subst₂}
use mathlib.Core.Bool.{true, false}
use Prim.Native.Nat.{ℕ, ◌*◌, ◌≤◌, ◌<◌}
use native.Mathlib.Omega.{arith}
use Rattle.layout.specs.Places.{BITS, USED, LOW, HIGH, LEVEL}
use Rattle.diagram.specs.Rows.{row, marked, flip}
use Rattle.diagram.proofs.Rows.{marked-odd, even-marked, carry_arrow, carry-level}
use Rattle.diagram.proofs.Grow.{same_refl}
use Rattle.diagram.specs.Post.{at, equal_arrows, found_row, added-row, no_row, as_is, turned}
use Rattle.layout.specs.View.{View}
use Rattle.rows.specs.Used.{used, rows_of}
use Rattle.diagram.specs.Used.{used_count}
use Rattle.diagram.proofs.Used.{used_count-all}
use Rattle.table.proofs.Count.{count-used}
use Rattle.table.specs.Find.{FindPost, UnusedPost}
use Rattle.table.proofs.AddLaws.{keys_refl, added-keys, frame_refl, frame_trans, frame-append, frame-written, written, row_added}
use Rattle.table.proofs.AddLaws.{added-adds, added-good}
use Rattle.table.specs.Full.{rows_out}
use Rattle.std.specs.Prelude.{Some, Result, Ok, Err}
use Rattle.table.specs.declared.Full.{Full}
use Rattle.table.specs.Make.{PlainPost, MakePost, MakePre, PlainPre, AddPre}

module _ (W : View) (limit l lo hi : ℕ) (p : PlainPre W limit l lo hi) where
  pub make_same : lo ≡ hi → PlainPost W W limit l lo hi (Ok lo)
  make_same e =
      record { good = p.make.good; frame = frame_refl W; keys = keys_refl W; made = equal_arrows e (same_refl (rows_of W)) }

  pub make-found : (i : ℕ) → FindPost W l lo hi (Some i) → PlainPost W W limit l lo hi (Ok (row i))
  make-found i f = record {
    good = p.make.good;
    frame = frame_refl W;
    keys = keys_refl W;
    made = found_row i f.0 f.1.level f.1.low f.1.high (same_refl (rows_of W));
  }

module _ (W : View) (limit l lo hi : ℕ) (a : AddPre W limit l lo hi) where
  lost : (j : ℕ) → used W j ≡ true → W.cell j LEVEL ≡ l → W.cell j LOW ≡ lo → W.cell j HIGH ≡ hi → ⊥
  lost j u x y z = a.absent j u (record { level = x; low = y; high = z })

  ran_out : limit ≤ used_count (rows_of W) W.rows → PlainPost W W limit l lo hi (Err rows_out)
  ran_out h = record {
    good = a.pre.make.good;
    frame = frame_refl W;
    keys = keys_refl W;
    made = no_row a.differ h lost (same_refl (rows_of W));
  }

  pub add-full : (i : ℕ) → UnusedPost W i → W.rows ≤ i → PlainPost W W limit l lo hi (Err rows_out)
  add-full i p h = ran_out (let n = used_count-all (rows_of W) W.rows (p.all h) in let m = a.pre.make.limit-le in omega (arith, n, m))

  -- at least `limit` rows are used
  pub add-over : limit ≤ W.header USED → PlainPost W W limit l lo hi (Err rows_out)
  add-over h = ran_out (let e = count-used W a.pre.make.good.ranked in omega (arith, e, h))

  pub add_at : (i : ℕ) → UnusedPost W i → i < W.rows → {X : View} → X ≡ row_added W i l lo hi → PlainPost W X limit l lo hi (Ok (row i))
  add_at i p h e =
      let g = a.pre.make.good in
      let s = added-adds W i l lo hi g h (p.free h) a.absent in
      subst (λ (X : View). PlainPost W X limit l lo hi (Ok (row i))) (sym e)
      (record {
        good = added-good W i l lo hi g h (p.free h) a.absent a.pre.make.fit a.differ a.pre.plain;
        frame = frame_trans (frame-written W i l lo hi) (frame-append (written W i l lo hi) i);
        keys = added-keys W i l lo hi g h (p.free h) a.absent;
        made = added-row i h a.differ s lost;
      })

-- where the high arrow carries no NOT
pub make-as_is : {W X : View} {limit l lo hi : ℕ} {r : Result ℕ Full} → marked hi ≡ false → PlainPost W X limit l lo hi r
    → MakePost W X limit l lo hi r
make-as_is e p = record { good = p.good; frame = p.frame; keys = p.keys; made = as_is e p.made }

-- where it carries one, the row of the complement is made
module _ (W : View) (limit l lo hi : ℕ) (p : MakePre W limit l lo hi) (e : marked hi ≡ true) where
  pub turned-pre : {x y : ℕ} → x ≡ flip lo → y ≡ flip hi → PlainPre W limit l x y
  turned-pre {x} {y} ex ey =
      let f = p.fit in
      let m = 2 * W.header BITS in
      let q : PlainPre W limit l (flip lo) (flip hi) = record {
        make = record {
          good = p.good;
          limit-le = p.limit-le;
          fit = record {
            shallow = f.shallow;
            low-arrow = carry_arrow (rows_of W) true lo f.low-arrow;
            high-arrow = carry_arrow (rows_of W) true hi f.high-arrow;
            low_deeper = subst (λ (k : ℕ). l < k) (sym (carry-level m (rows_of W) true lo)) f.low_deeper;
            high_deeper = subst (λ (k : ℕ). l < k) (sym (carry-level m (rows_of W) true hi)) f.high_deeper;
          };
        };
        plain = let o = marked-odd hi e in even-marked (flip hi) (omega (arith, o));
      } in
      subst₂ (λ (a b : ℕ). PlainPre W limit l a b) (sym ex) (sym ey) q

  pub turned-full : {X : View} {x y : ℕ} {e f : Full} → x ≡ flip lo → y ≡ flip hi → PlainPost W X limit l x y (Err e)
      → MakePost W X limit l lo hi (Err f)
  turned-full {X} {e = z} ex ey q =
      let t : PlainPost W X limit l (flip lo) (flip hi)
      (Err z) = subst₂ (λ (a b : ℕ). PlainPost W X limit l a b (Err z)) ex ey q in
      record { good = t.good; frame = t.frame; keys = t.keys; made = turned e t.made refl }

  pub turned-at : {X : View} {x y r s : ℕ} → x ≡ flip lo → y ≡ flip hi → PlainPost W X limit l x y (Ok r) → s ≡ flip r
      → MakePost W X limit l lo hi (Ok s)
  turned-at {X} {r = r} ex ey q es =
      let t : PlainPost W X limit l (flip lo) (flip hi)
      (Ok r) = subst₂ (λ (a b : ℕ). PlainPost W X limit l a b (Ok r)) ex ey q in
      record { good = t.good; frame = t.frame; keys = t.keys; made = turned e t.made (ap at (sym es)) }
