-- Laws of what specs/Renews.antt defines. Assumes nothing.
use mathlib.Core.Path.{◌≡◌, subst}
use mathlib.Core.Bool.{true}
use mathlib.Core.List.{List}
use Prim.Native.Nat.{ℕ, ◌*◌, ◌≤◌, ◌<◌}
use native.Mathlib.Omega.{arith}
use lib.ListN.{length}
use Rattle.diagram.specs.Rows.{Arrow}
use Rattle.diagram.proofs.Grow.{arrow_extends}
use Rattle.layout.specs.Places.{words_for}
use Rattle.layout.specs.View.{View}
use Rattle.layout.specs.Arrows.{is_row, row_of}
use Rattle.rows.specs.Used.{rows_of}
use Rattle.operations.specs.Work.{Ready}
use Rattle.operations.proofs.Work.{ready-wf}
use Rattle.operations.specs.Open.{RowIs}
use Rattle.operations.proofs.Open.{Opened, depth, row_at, opened, low-falls, high-falls, high-later}
use Rattle.std.specs.Prelude.{Result}
use Rattle.table.specs.declared.Full.{Full}
use Rattle.operations.specs.Odd.{Grown, OddPost}
use Rattle.operations.proofs.Odd.{grown-none, grown_trans, ready-grown}
use Rattle.stages.proofs.Surveys.{arrow_in}
use Rattle.stages.specs.Renews.{RenewPre}

module _ {m N limit : ℕ} {W : View} {seen : List ℕ} {a : ℕ} (p : RenewPre m N limit W seen a) where
  -- the arrow has a bit
  pub renew_in : a < 32 * length seen
  renew_in = arrow_in (length seen) p.ready p.room a p.arrow

  -- nothing is worked out
  pub renew-none : Grown m W W
  renew-none = grown-none p.ready

  -- an arrow to row i, and what is followed from it, each in the table that the one before left
  module _ {i : ℕ} (h : is_row a ≡ true) (ei : i ≡ row_of a) where
    pub renew-row : (i < W.rows) × (words_for W.rows ≤ W.size)
    renew-row = (p.ready.good.rows.bounded i (row_at {rows = rows_of W} a p.arrow h ei).used, p.ready.good.sizes.room)

    module _ {l lo hi t : ℕ} (n : RowIs (rows_of W) a i l lo hi) (q : depth m (rows_of W) a ≡ t) where
      open_at : Opened m (rows_of W) a i l lo hi
      open_at = opened (ready-wf p.ready) (row_at {rows = rows_of W} a p.arrow h ei) n

      pub renew-low : (depth m (rows_of W) lo < t) × RenewPre m N limit W seen lo
      renew-low = (
        subst (λ (k : ℕ). depth m (rows_of W) lo < k) q (low-falls open_at),
        record { ready = p.ready; arrow = open_at.parts.low-arrow; room = p.room },
      )

      pub renew-high : {X : View} {s : List ℕ} → Grown m W X → length s ≡ length seen
          → (depth m (rows_of X) hi < t) × RenewPre m N limit X s hi
      renew-high {X} g e = (
        subst (λ (k : ℕ). depth m (rows_of X) hi < k) q (high-falls open_at g.kept),
        record {
          ready = ready-grown p.ready g;
          arrow = high-later open_at g.kept;
          room = let r = p.room in
              omega (arith, e, r);
        },
      )

  -- last the arrow itself
  module _ {X Y : View} (lo : Grown m W X) (hi : Grown m X Y) where
    pub renew-asks : Ready m N limit Y × Arrow (rows_of Y) a
    renew-asks = let g = grown_trans lo hi in (ready-grown p.ready g, arrow_extends g.kept a p.arrow)

    pub renew-last : {Z : View} {r : Result ℕ Full} → OddPost m Y Z a r → Grown m W Z
    renew-last o = grown_trans (grown_trans lo hi) o.grown
