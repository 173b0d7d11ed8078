-- `with_place` meets its contract: a store past the places changes nothing. Assumes nothing.
use mathlib.Core.Path.{◌≡◌, sym}
use native.Mathlib.Omega.{arith}
use lib.ListN.{length}
use lib.Seq.{set_out}
use borrow.Author.Rules.{rules}
use Rattle.evaluator.proofs.with_place.Statement.{statement}
use Rattle.evaluator.proofs.with_place.Tie as tie
use Rattle.evaluator.proofs.with_place.Reads as reads
use Rattle.evaluator.proofs.with_place.Lts as lts

pub with_place_spec : {M : Type 1} → statement M
with_place_spec =
    tie.close
    (tie.spec (λ c. search rules) (λ c. search rules) (λ c. search rules)
    (λ c. let h : length c.args.places ≡ 16 = search rules in sym (set_out _ _ _ (omega arith))))
