-- `relation_unchecked`: each test is one check, in order; the rest is `relation_steps`. Assumes nothing.
use Rattle.std.proofs.lemmas.Result.{err_from_is_err_and}
use Rattle.tokens.specs.declared.Kind.TheVariants.{Relation}
use Rattle.formula_calls.proofs.Refused.{checks-told, relation-range, relation-checked}
use Rattle.formula_calls.proofs.relation_unchecked.Goals as goal

pub returns-then-t-ge-RELATIONS : goal.returns-then-t-ge-RELATIONS
returns-then-t-ge-RELATIONS c = relation-range _ c.requires _ _ c.if-t-ge-RELATIONS.true

pub relation_steps-requires : goal.relation_steps-requires
relation_steps-requires c = record {
  sound = c.requires;
  range = c.if-t-ge-RELATIONS.false;
  passed = checks-told _ c.requires Relation _ c.header_word-n.ensures c.check_formula.ensures c.in_ok-check_formula.was;
}

pub returns-in_err-check_formula : goal.returns-in_err-check_formula
returns-in_err-check_formula c =
    let p = err_from_is_err_and c.from_residual.result c.from_residual.ensures.1 in
    rw (p.1, p.2)
    (relation-checked _ c.requires _ _ _ c.if-t-ge-RELATIONS.false
    (checks-told _ c.requires Relation _ c.header_word-n.ensures c.check_formula.ensures c.in_err-check_formula.was))
