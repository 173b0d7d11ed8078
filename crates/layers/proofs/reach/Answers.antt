-- `reach`: each turn is a layer that shares no state and is greater than the one before. Assumes nothing.
use Rattle.std.proofs.Common.{refl, ◌∙◌, arith}
use Rattle.std.proofs.lemmas.Result.{err_from_is_err_and}
use Rattle.modal.proofs.Chain.{base-bits}
use Rattle.seek.proofs.Search.{power_fits}
use Rattle.layers.proofs.Scene.{next-asks}
use Rattle.layers.proofs.Pass.{pass_starts, pass_walks, pass_meets, pass_full, pass_still, pass_turns, pass_bound, pass_count}
use Rattle.layers.proofs.reach.Goals as goal

pub overflow_shl-states : goal.overflow_shl-states
overflow_shl-states c = omega (arith, base-bits c.requires.0.start.base)

pub loop-limits-init : goal.loop-limits-init
loop-limits-init c = (
  refl,
  refl,
  power_fits c.args.limits.bits (base-bits c.requires.0.start.base),
  c.requires.1,
  λ S A from. pass_starts c.requires.0 S A,
)

pub least_common-s-requires : goal.least_common-s-requires
least_common-s-requires c = pass_walks c.requires.0 c.loop-limits.invariant.4

pub returns-then-s-states : goal.returns-then-s-states
returns-then-s-states c = (
  λ S A from. pass_meets c.requires.0 c.loop-limits.invariant.4 c.least_common-s.ensures S A from
      (omega (arith, c.if-s-states.true, c.loop-limits.invariant.2)),
  c.loop-limits.invariant.3,
)

pub next_layer-requires : goal.next_layer-requires
next_layer-requires c = (
  next-asks c.requires.0.start (c.loop-limits.invariant.4 c.requires.0.scene c.requires.0.A c.requires.0.from).layered,
  c.loop-limits.invariant.3,
)

pub returns-in_err-next : goal.returns-in_err-next
returns-in_err-next c =
    let p = err_from_is_err_and c.from_residual.result c.from_residual.ensures.1 in
    rw p.1 (
      λ S A from. pass_full c.requires.0 c.loop-limits.invariant.4 c.least_common-s.ensures S A from
          (omega (arith, c.if-s-states.false, c.loop-limits.invariant.2)) c.next_layer.ensures.0 c.in_err-next.was,
      c.next_layer.ensures.1,
    )

pub returns-then-next-x : goal.returns-then-next-x
returns-then-next-x c = (
  λ S A from. pass_still c.requires.0 c.loop-limits.invariant.4 c.least_common-s.ensures S A from
      (omega (arith, c.if-s-states.false, c.loop-limits.invariant.2)) c.next_layer.ensures.0 c.in_ok-next.was c.if-next-x.true,
  c.next_layer.ensures.1,
)

pub overflow_add-d : goal.overflow_add-d
overflow_add-d c =
    let h = pass_bound c.requires.0 c.loop-limits.invariant.4 in let k = pass_count c.requires.0 in omega arith

pub loop-limits-smaller : goal.loop-limits-smaller
loop-limits-smaller c = let h = pass_bound c.requires.0 c.loop-limits.invariant.4 in omega arith

pub loop-limits-preserved : goal.loop-limits-preserved
loop-limits-preserved c = (
  c.next_layer.auto.words ∙ c.loop-limits.invariant.0,
  c.next_layer.auto.counts ∙ c.loop-limits.invariant.1,
  c.loop-limits.invariant.2,
  c.next_layer.ensures.1,
  λ S A from. pass_turns c.requires.0 c.loop-limits.invariant.4 c.least_common-s.ensures S A from
      (omega (arith, c.if-s-states.false, c.loop-limits.invariant.2)) c.next_layer.ensures.0 c.in_ok-next.was c.if-next-x.false,
)
