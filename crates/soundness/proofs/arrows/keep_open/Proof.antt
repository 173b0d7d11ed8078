-- `keep_open` meets its contract: a known arrow is left out, any other is written. Assumes nothing.
use Rattle.soundness.specs.Lists.{left_out, put}
use borrow.Author.Rules.{rules}
use Rattle.soundness.proofs.arrows.keep_open.Statement.{statement}
use Rattle.soundness.proofs.arrows.keep_open.Tie as tie

pub keep_open_spec : {M : Type 1} → statement M
keep_open_spec =
    tie.close
    (tie.spec (λ c κs. search rules) (λ c. left_out (c.known.ensures c.if-known.true)) (λ c. search rules)
    (λ c. search rules) (λ c. search rules) (λ c. search rules) (λ c. put))
