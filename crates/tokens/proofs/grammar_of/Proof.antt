-- `grammar_of`: The definition computes at versions 1 and 2; of another nothing is known. Assumes nothing.
use mathlib.Core.Path.{sym, ◌∙◌}
use Rattle.tokens.proofs.Leads.{grammar_first, grammar_second, grammar_unknown}
use Rattle.tokens.proofs.grammar_of.Statement.{statement}
use Rattle.tokens.proofs.grammar_of.Tie as tie

pub grammar_of_spec : {M : Type 1} → statement M
grammar_of_spec =
    tie.close
    (tie.spec
    (λ c κs. tt)
    (λ c. c.first_of.ensures ∙ sym (grammar_first c.args.kind _ c.if-version-eq-VERSION.true))
    (λ c κs. tt)
    (λ c. c.second_of.ensures ∙ sym (grammar_second c.args.kind _ c.if-version-eq-RUNS_VERSION.true))
    (λ c. sym (grammar_unknown c.args.kind _ c.if-version-eq-VERSION.false c.if-version-eq-RUNS_VERSION.false)))
