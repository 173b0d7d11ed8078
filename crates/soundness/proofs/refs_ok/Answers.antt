-- `refs_ok`: what the roots tell, told of all. Assumes nothing.
use Rattle.std.proofs.Common.{ℕ, refl, rules}
use Rattle.std.proofs.lemmas.Iterator.{cases_from_all, YieldsList-from_range}
use Rattle.layout.specs.View.{view, header_of}
use Rattle.rows.specs.Roots.{Ref}
use Rattle.rows.specs.Used.{rows_of}
use Rattle.rows.proofs.Says.{says-no}
use Rattle.soundness.proofs.Alls.{says_all}
use Rattle.soundness.proofs.refs_ok.Goals as goal

pub returns : goal.returns
returns c =
    let p = λ (h : ℕ). Ref (rows_of (view c.args.rows c.args.words.now)) (header_of c.args.words.now h) in
    says_all p c.args.from c.args.to _
    (cases_from_all _ _ _ p (λ h. p h → ⊥) c.all.ensures.ran
    (YieldsList-from_range c.args.from c.args.to _ refl refl) (λ x q d. search rules) (λ x q d. search (rules, says-no)))
