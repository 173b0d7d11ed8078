-- `take_counted` meets its contract: rows were only added, or no size is remembered. Assumes nothing.
use native.Mathlib.Omega.{arith}
use Rattle.steps.proofs.Again.{first-pre, again_pre, stepped-first, stepped_again}
use Rattle.counting.proofs.Peak.{counted-few, counted-freed}
use borrow.Author.Rules.{rules}
use Rattle.counting.proofs.take_counted.Statement.{statement}
use Rattle.counting.proofs.take_counted.Tie as tie

pub take_counted_spec : {M : Type 1} → statement M
take_counted_spec =
    tie.close
    (tie.spec
    (λ c κs. (c.requires.0.ready, c.requires.0.fits))
    (λ c. search rules)
    (λ c κs. let z = (first-pre c.requires.0
    c.try_step-made.ensures
    c.in-Ok.is).sound.good.sizes.room in omega arith)
    (λ c. search rules)
    (λ c. counted-few c.requires.0
    c.requires.1
    c.in-Ok.is
    c.try_step-made.ensures c.header_word.ensures
    c.if-header_word-limit.true)
    (λ c κs.
    c.requires.1.base.size)
    (λ c κs. first-pre
    c.requires.0
    c.try_step-made.ensures
    c.in-Ok.is)
    (λ c. search rules)
    (λ c κs. c.requires.1.base.size)
    (λ c κs. again_pre
    c.requires.0
    c.try_step-made.ensures)
    (λ c. search rules)
    (λ c. search rules)
    (λ c. counted-freed
    c.requires.0
    c.requires.1 c.forget_sizes.ensures
    (stepped-first
    c.requires.0
    c.in-Ok.is
    c.try_step-made.ensures c.settle.ensures))
    (λ c. search rules)
    (λ c. search rules)
    (λ c. counted-freed
    c.requires.0
    c.requires.1 c.forget_sizes-in-Err.ensures
    (stepped_again
    c.requires.0 c.in-Err.is
    c.try_step-made.ensures
    c.retry.ensures)))
