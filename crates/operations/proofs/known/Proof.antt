-- `known` meets its contract: at once, or as it is remembered. Assumes nothing.
use mathlib.Core.Path.{sym, ◌∙◌}
use Rattle.layout.specs.View.{view}
use Rattle.operations.specs.Pairs.{at_once}
use Rattle.operations.proofs.Pairs.{known-recalled}
use borrow.Author.Rules.{rules}
use Rattle.operations.proofs.known.Statement.{statement}
use Rattle.operations.proofs.known.Tie as tie

pub known_spec : {M : Type 1} → statement M
known_spec =
    tie.close
    (tie.spec (λ c κs. search rules) (λ c. search rules)
    (λ c. at_once (sym c.short-found.ensures ∙ c.in-Some.is)) (λ c. search rules)
    (λ c κs. search rules)
    (λ c. known-recalled
    (view c.args.rows c.args.words.now)
    c.args.lo c.args.hi c.recall.result
    (sym c.short-found.ensures ∙ c.in_default.is) c.recall.ensures))
