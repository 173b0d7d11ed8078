-- `valid_unchecked`: each test is one check, in order; the rest is `valid_steps`. Assumes nothing.
use Rattle.std.proofs.lemmas.Result.{err_from_is_err_and}
use Rattle.tokens.specs.declared.Kind.TheVariants.{Valid}
use Rattle.rows.proofs.Says.{says_pass, says_fail}
use Rattle.formula_calls.proofs.Refused.{checks-told}
use Rattle.formula_calls.proofs.Vacant.{vacant-book, valid-filled, valid-checked}
use Rattle.formula_calls.proofs.valid_unchecked.Goals as goal

pub returns-then-not-unfilled : goal.returns-then-not-unfilled
returns-then-not-unfilled c = valid-filled _ c.requires _ (says_fail c.if-not-unfilled.true-raw c.unfilled.ensures)

pub valid_steps-requires : goal.valid_steps-requires
valid_steps-requires c = record {
  sound = c.requires;
  free = vacant-book _ c.requires (says_pass c.if-not-unfilled.false-raw c.unfilled.ensures);
  passed = checks-told _ c.requires Valid _ c.header_word-n.ensures c.check_formula.ensures c.in_ok-check_formula.was;
}

pub returns-in_err-check_formula : goal.returns-in_err-check_formula
returns-in_err-check_formula c =
    let p = err_from_is_err_and c.from_residual.result c.from_residual.ensures.1 in
    rw (p.1, p.2)
    (valid-checked _ c.requires _ _ (says_pass c.if-not-unfilled.false-raw c.unfilled.ensures)
    (checks-told _ c.requires Valid _ c.header_word-n.ensures c.check_formula.ensures c.in_err-check_formula.was))
