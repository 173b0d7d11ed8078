-- `records::write_number` meets its contract: a number is its last digit, or what stands before it and its last digit; the number falls.
-- Assumes nothing.
use borrow.Author.Rules.{rules}
use native.Mathlib.Omega.{arith}
use lib.ListN.{length-set}
use Rattle.records.proofs.TextLaws.{number-last, number_more}
use Prim.Native.Nat.{ℕ, ◌<◌}
use borrow.Fn.Kinds.{In}
use borrow.Fn.PlainCycle.{Measures, is, falls, and}
use Rattle.records.proofs.+write_number.{statement}
use Rattle.records.proofs.+write_number.Tie.{close}
use Rattle.records.proofs.write_number.Reads as write-number
use Rattle.records.proofs.write_number.Kinds as write-number-kinds
use Rattle.records.proofs.+write_number.Lts-write_number as write-number-lts

abbrev μ-write-number : Measures 1 write-number-kinds.ps ℕ
μ-write-number κs a = a.1.1.0

abbrev write_number-at : ℕ → In 1 write-number-kinds.ps
write_number-at t =
    and 1 write-number-kinds.ps (is 1 write-number-kinds.ps μ-write-number t) write-number.Pre

abbrev write_number-below : ℕ → In 1 write-number-kinds.ps
write_number-below t =
    and
    1
    write-number-kinds.ps
    (falls 1 write-number-kinds.ps ◌<◌ μ-write-number t)
    write-number.Pre

pub +write_number_spec : {M : Type 1} → statement M
+write_number_spec = close μ-write-number λ t. write-number-lts.spec (
  write_number-below t,
  write-number.Post,
)
    (write_number-at t)
    write-number.Post
    (λ c. search rules)
    (λ c. search rules)
    (λ c. omega (arith, c.requires.1))
    (λ c. search rules)
    (λ c. search rules)
    (λ c. number-last _ _ c.args.x (omega arith))
    (λ c κs. (omega (arith, c.requires.0), omega (arith, c.requires.1)))
    (λ c. omega arith)
    (λ c. search rules)
    (λ c. omega (
      arith,
      c.requires.1,
      c.write_number-last.ensures.within,
      c.write_number-last.auto.out,
    ))
    (λ c. omega (arith, c.requires.1, c.write_number-last.ensures.within))
    (λ c. simp length-set c.write_number-last.auto.out)
    (λ c. number_more c.args.x (omega arith) (omega arith)
    c.write_number-last.ensures.wrote)
