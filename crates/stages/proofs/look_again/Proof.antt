-- `look_again` meets its contract: rows were only added, and the look is at the table that is left. Assumes nothing.
use Rattle.stages.proofs.RestLaws.{pre-grown, base-grown, look-asks, sure-yes, sure-no, sure-grown}
use borrow.Author.Rules.{rules}
use Rattle.stages.proofs.look_again.Statement.{statement}
use Rattle.stages.proofs.look_again.Tie as tie

pub look_again_spec : {M : Type 1} → statement M
look_again_spec =
    tie.close
    (tie.spec
    (λ c. search rules)
    (λ c κs. search rules)
    (λ c κs. look-asks
    (pre-grown c.requires.0
    c.renew_all.ensures)
    (base-grown c.requires.0
    c.renew_all.ensures c.requires.1))
    (λ c. search rules)
    (λ c. search rules)
    (λ c. search rules)
    (λ c. search rules)
    (λ c. sure-grown c.requires.0
    c.renew_all.ensures
    (sure-yes
    (pre-grown c.requires.0
    c.renew_all.ensures) c.look-looked.ensures
    c.in-Fits.is))
    (λ c. search rules)
    (λ c. sure-grown c.requires.0
    c.renew_all.ensures
    (sure-no
    (pre-grown c.requires.0
    c.renew_all.ensures)))
    (λ c. search rules)
    (λ c. sure-grown c.requires.0
    c.renew_all.ensures
    (sure-no
    (pre-grown c.requires.0
    c.renew_all.ensures))))
