-- `leaf`: a law of `Leaves` for each leaf. Assumes nothing.
use Rattle.std.proofs.Common.{arith}
use Rattle.tokens.specs.declared.Leaf.TheVariants.{False, True, Now, Next, Var, Reg}
use Rattle.evaluator.proofs.Leaves.{leaf-none, leaf-all, bit-asks, bit-confined, leaf-now, leaf-next, var_slot, var_below, leaf_var}
use Rattle.evaluator.proofs.Leaves.{reg-range, reg-some, leaf-reg, as_leaf, leaf_as, leaf-over, now-taken, next-taken, var_taken}
use Rattle.evaluator.proofs.Leaves.{reg-taken}
use Rattle.evaluator.proofs.leaf.Goals as goal

pub live_step-bit-requires : goal.live_step-bit-requires
live_step-bit-requires c = (
  bit-asks c.requires.0.ready _
      (omega (arith, now-taken c.args.limits.bits c.args.grammar c.in-Now.is c.requires.0.taken)),
  c.requires.1,
)

pub confined-requires : goal.confined-requires
confined-requires c = (
  bit-confined c.requires.0.ready _
      (omega (arith, now-taken c.args.limits.bits c.args.grammar c.in-Now.is c.requires.0.taken)) c.live_step-bit.ensures.0,
  c.live_step-bit.ensures.1,
)

pub live_step-requires : goal.live_step-requires
live_step-requires c = (
  bit-asks c.requires.0.ready _
      (omega (arith, (next-taken c.args.limits.bits c.args.grammar c.in-Next.is c.requires.0.taken).0)),
  c.requires.1,
)

pub variable-requires : goal.variable-requires
variable-requires c =
    let h = as_leaf (Var _) c.in-Var.is c.requires.0.named in
    (var_slot c.requires.0.ready h, var_below c.requires.0.ready h)

pub root_arrow-requires : goal.root_arrow-requires
root_arrow-requires c =
    let h = as_leaf (Reg _) c.in-Reg.is c.requires.0.named in (
      omega (arith, reg-range c.requires.0.ready h),
      omega (arith, c.requires.0.ready.base.sound.good.sizes.room),
      reg-some c.requires.0.ready h,
    )

pub returns-in-False : goal.returns-in-False
returns-in-False c = (
  record { answers = λ σ R h. leaf_as False c.in-False.is (rw c.unmoved.ensures (leaf-none R)) },
  c.requires.1,
)

pub returns-in-True : goal.returns-in-True
returns-in-True c = (
  record { answers = λ σ R h. leaf_as True c.in-True.is (rw c.unmoved-in-True.ensures (leaf-all R c.truth.ensures)) },
  c.requires.1,
)

pub returns-in-Now : goal.returns-in-Now
returns-in-Now c = (
  record {
    answers =
        λ σ R h. leaf_as (Now _) c.in-Now.is
        (leaf-now R (now-taken c.args.limits.bits c.args.grammar c.in-Now.is c.requires.0.taken) c.live_step-bit.ensures.0
        c.confined.ensures.0);
  },
  c.confined.ensures.1,
)

pub returns-in-Next : goal.returns-in-Next
returns-in-Next c = (
  record {
    answers =
        λ σ R h. leaf_as (Next _) c.in-Next.is
        (leaf-over (next-taken c.args.limits.bits c.args.grammar c.in-Next.is c.requires.0.taken).1
        (leaf-next R (next-taken c.args.limits.bits c.args.grammar c.in-Next.is c.requires.0.taken).0 c.live_step.ensures.0));
  },
  c.live_step.ensures.1,
)

pub returns-in-Var : goal.returns-in-Var
returns-in-Var c = (
  record {
    answers =
        λ σ R h. leaf_as (Var _) c.in-Var.is
        (rw c.unmoved-in-Var.ensures
        (rw c.variable.ensures
        (leaf-over (var_taken c.args.limits.bits c.args.grammar c.in-Var.is c.requires.0.taken)
        (leaf_var R (as_leaf (Var _) c.in-Var.is h)))));
  },
  c.requires.1,
)

pub returns-in-Reg : goal.returns-in-Reg
returns-in-Reg c = (
  record {
    answers =
        λ σ R h. leaf_as (Reg _) c.in-Reg.is
        (rw c.unmoved-in-Reg.ensures
        (leaf-over (reg-taken c.args.limits.bits c.args.grammar c.in-Reg.is c.requires.0.taken)
        (leaf-reg R (as_leaf (Reg _) c.in-Reg.is h) c.root_arrow.ensures)));
  },
  c.requires.1,
)
