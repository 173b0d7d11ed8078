-- `node_at` meets its contract: the row's words, its arrows with the NOT of the arrow. Assumes nothing.
use mathlib.Core.Path.{ap, ◌∙◌}
use Rattle.layout.specs.Arrows.{is_marked, carry_arrow}
use borrow.Author.Rules.{rules}
use Rattle.operations.proofs.node_at.Statement.{statement}
use Rattle.operations.proofs.node_at.Tie as tie

pub node_at_spec : {M : Type 1} → statement M
node_at_spec =
    tie.close
    (tie.spec (λ c κs. search rules) (λ c κs. search rules) (λ c κs. search rules) (λ c κs. search rules) (λ c κs. search rules)
    (λ c. record {
      level =
          c.get.ensures;
      low =
          c.carry.ensures
          ∙ ap (carry_arrow (is_marked c.args.a))
          c.get-2.ensures;
      high = c.carry-2.ensures
          ∙ ap (carry_arrow (is_marked c.args.a)) c.get-3.ensures;
    }))
