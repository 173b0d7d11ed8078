-- `rows_ok`: what the rows tell, told of all. Assumes nothing.
use Rattle.std.proofs.Common.{ℕ, refl, arith, rules}
use Rattle.std.proofs.lemmas.Iterator.{cases_from_all, YieldsList-from_range}
use Rattle.layout.specs.View.{view, list_of}
use Rattle.rows.proofs.Says.{says_map, says-no}
use Rattle.soundness.specs.Checks.{RowGood}
use Rattle.soundness.proofs.Alls.{says_all}
use Rattle.soundness.proofs.rows_ok.Goals as goal

pub returns : goal.returns
returns c =
    let p = λ (k : ℕ). RowGood (view c.args.rows c.args.words.now) c.args.levels (list_of c.args.rows c.args.words.now k) in
    says_map (λ q k h. q k (omega arith) h) (λ q k _ h. q k h)
    (says_all p 0 c.args.used _
    (cases_from_all _ _ _ p (λ k. p k → ⊥) c.all.ensures.ran
    (YieldsList-from_range 0 c.args.used _ refl refl) (λ x q d. search rules) (λ x q d. search (rules, says-no))))
