-- Laws of what specs/Settle.antt defines. Assumes nothing.
use mathlib.Core.Path.{◌≡◌, sym, ap, ◌∙◌}
use mathlib.Core.List.{List}
use Prim.Native.Nat.{ℕ, ◌≤◌, ◌<◌}
use native.Mathlib.Omega.{arith}
use Rattle.diagram.proofs.Grow.{same_refl}
use Rattle.diagram.specs.Used.{used_count}
use Rattle.diagram.specs.Step.{ran_out, few-used, few_reached, many_reached, freed}
use Rattle.layout.specs.Places.{USED}
use Rattle.layout.specs.View.{View}
use Rattle.rows.specs.Used.{rows_of}
use Rattle.table.proofs.Count.{count-used}
use Rattle.std.specs.Prelude.{Result, Ok, Err}
use Rattle.table.specs.declared.Full.{Full}
use Rattle.table.specs.Full.{rows_out}
use Rattle.operations.proofs.Work.{op_refl}
use Rattle.steps.specs.Clean.{CleanPre, Cleaned}
use Rattle.steps.specs.declared.Step.{Step}
use Rattle.steps.specs.Settle.{SettlePre, SettlePost}

module _ {W : View} {roots : List ℕ} {s : Step} {o : Result ℕ Full} (limit : ℕ) (p : SettlePre W roots s o) where
  -- the rows ran out
  pub settle-full : {e f : Full} → o ≡ Err e → SettlePost limit W W roots s o (Err f)
  settle-full q = rw q (record { sound = p.sound; memory = λ m g. g; frame = op_refl W; settled = ran_out (same_refl (rows_of W)) })

  -- few rows are used
  module _ {a : ℕ} (e : o ≡ Ok a) where
    pub settle-few : {c : ℕ} → c ≡ W.header USED → c ≤ limit → SettlePost limit W W roots s o (Ok a)
    settle-few {c} q l =
        let n : used_count (rows_of W) W.rows ≤ limit = let k = count-used W p.sound.good.ranked in omega (arith, k, q, l) in
        rw e (record { sound = p.sound; memory = λ m g. g; frame = op_refl W; settled = few-used n (same_refl (rows_of W)) })

    pub settle-clean : CleanPre W roots s a
    settle-clean = record { sound = p.sound; arrows = p.arrows; operands = p.operands; kept-arrow = rw e at p.answer-arrow }

    -- those that are reached are few, or many
    module _ {X : View} (c : Cleaned W X roots s a) where
      reached : used_count (rows_of X) W.rows ≡ X.header USED
      reached = sym (count-used X c.sound.good.ranked ∙ ap (used_count (rows_of X)) c.frame.rows)

      pub settle_reached : {k : ℕ} → k ≡ X.header USED → k ≤ limit → SettlePost limit W X roots s o (Ok a)
      settle_reached q l =
          let n : used_count (rows_of X) W.rows ≤ limit = let r = reached in omega (arith, r, q, l) in
          rw e (record {
            sound =
                c.sound;
            memory =
                λ m g. c.memory m;
            frame = c.frame;
            settled = few_reached c.collects n (freed (same_refl (rows_of X)));
          })

      pub settle-many : {k : ℕ} → k ≡ X.header USED → limit < k → SettlePost limit W X roots s o (Err rows_out)
      settle-many q l =
          let n : limit < used_count (rows_of X) W.rows = let r = reached in omega (arith, r, q, l) in
          rw e (record {
            sound =
                c.sound;
            memory =
                λ m g. c.memory m;
            frame = c.frame;
            settled = many_reached c.collects n (freed (same_refl (rows_of X)));
          })
