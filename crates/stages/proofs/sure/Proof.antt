-- `sure` meets its contract: a look, and one more where a result was not remembered. Assumes nothing.
use Rattle.stages.proofs.RestLaws.{sure-yes, sure-no}
use borrow.Author.Rules.{rules}
use Rattle.stages.proofs.sure.Statement.{statement}
use Rattle.stages.proofs.sure.Tie as tie

pub sure_spec : {M : Type 1} → statement M
sure_spec =
    tie.close
    (tie.spec
    (λ c κs. search rules)
    (λ c. search rules)
    (λ c. search rules)
    (λ c. search rules)
    (λ c κs. search rules)
    (λ c. search rules)
    (λ c. sure-yes c.requires.0 c.look-looked.ensures
    c.in-Fits.is)
    (λ c. search rules)
    (λ c. sure-no c.requires.0)
    (λ c. search rules)
    (λ c. search rules))
