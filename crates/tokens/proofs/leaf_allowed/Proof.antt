-- `leaf_allowed`: The definition computes at each leaf. Assumes nothing.
use mathlib.Core.Path.{◌≡◌}
use mathlib.Core.Bool.{false}
use Rattle.tokens.specs.Tokens.{only_now}
use borrow.Author.Rules.{rules}
use Rattle.tokens.proofs.leaf_allowed.Statement.{statement}
use Rattle.tokens.proofs.leaf_allowed.Tie as tie

pub leaf_allowed_spec : {M : Type 1} → statement M
leaf_allowed_spec =
    tie.close
    (tie.spec
    (λ c. c.in-False-1.keys1)
    (λ c. c.in-True-1.keys2)
    (λ c. c.in-Now-1.keys3)
    (λ c. c.in-Next-1.keys4)
    (λ c κs. tt)
    (λ c. search rules)
    (λ c. c.in-Var-1.keys5)
    (λ c κs. tt)
    (λ c. c.in-Reg-1.keys6)
    (λ c κs. tt)
    (λ c. search rules)
    (λ c. search rules)
    (λ c. rw c.in-Now.is)
    (λ c. let e : only_now c.args.grammar ≡ false = cc in
    rw (c.in-Next.is, e))
    (λ c. search rules)
    (λ c. search rules))
