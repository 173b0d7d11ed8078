-- `or_known` meets its contract: what `known` found of the two with the other mark, turned. Assumes nothing.
use Rattle.layout.specs.View.{view}
use Rattle.operations.proofs.Pairs.{or-by}
use borrow.Author.Rules.{rules}
use Rattle.operations.proofs.or_known.Statement.{statement}
use Rattle.operations.proofs.or_known.Tie as tie

pub or_known_spec : {M : Type 1} → statement M
or_known_spec =
    tie.close
    (tie.spec (λ c κs. search rules) (λ c κs. search rules) (λ c κs. search rules) (λ c κs. search rules)
    (λ c. or-by c.args.lo c.args.hi
    c.flip.ensures c.flip-2.ensures
    (view c.args.rows c.args.words.now)
    c.known-found.result c.known-found.ensures c.carry_found.ensures))
