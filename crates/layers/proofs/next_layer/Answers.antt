-- `next_layer`: diamond and OR are one chain of steps, over the roots and the last layer. Assumes nothing.
use Rattle.std.proofs.Common.{arith}
use Rattle.std.proofs.lemmas.Result.{err_from_is_err_and}
use Rattle.modal.proofs.Chain.{base-bits, took}
use Rattle.layers.proofs.Next.{dia_asks, next-full, or-base, or-asks, next-ends}
use Rattle.layers.proofs.next_layer.Goals as goal

pub overflow_mul-levels : goal.overflow_mul-levels
overflow_mul-levels c = omega (arith, base-bits c.requires.0.base)

pub diamond-requires : goal.diamond-requires
diamond-requires c = (dia_asks c.requires.0, c.requires.1)

pub returns-in_err-before : goal.returns-in_err-before
returns-in_err-before c =
    let p = err_from_is_err_and c.from_residual.result c.from_residual.ensures.1 in
    rw p.1
    (next-full c.requires.0 c.diamond.ensures.0 c.in_err-before.was, c.diamond.ensures.1)

pub take-requires : goal.take-requires
take-requires c = (or-asks c.requires.0 c.diamond.ensures.0 c.in_ok-before.was, c.diamond.ensures.1)

pub returns : goal.returns
returns c = (
  next-ends c.requires.0 c.diamond.ensures.0 c.in_ok-before.was
      (took (or-base c.requires.0 c.diamond.ensures.0 c.in_ok-before.was)
      (or-asks c.requires.0 c.diamond.ensures.0 c.in_ok-before.was) c.take.ensures.0 c.take.ensures.2),
  c.take.ensures.1,
)
