-- `set_unchecked`: each test is one check, in order; the rest is `set_steps`. Assumes nothing.
use Rattle.std.proofs.lemmas.Result.{err_from_is_err_and}
use Rattle.tokens.specs.declared.Kind.TheVariants.{Set}
use Rattle.formula_calls.proofs.Refused.{test_fails, test_named, checks-told, set-range, set_unnamed_lem, set-checked}
use Rattle.formula_calls.proofs.set_unchecked.Goals as goal

pub returns-then-r-ge-REGISTERS : goal.returns-then-r-ge-REGISTERS
returns-then-r-ge-REGISTERS c = set-range _ c.requires _ _ _ _ c.if-r-ge-REGISTERS.true

pub returns-then-not-is_named : goal.returns-then-not-is_named
returns-then-not-is_named c =
    set_unnamed_lem _ c.requires _ _ _ _ c.if-r-ge-REGISTERS.false (test_fails c.if-not-is_named.true-raw c.is_named.ensures)

pub set_steps-requires : goal.set_steps-requires
set_steps-requires c = record {
  sound = c.requires;
  range = c.if-r-ge-REGISTERS.false;
  listed = test_named c.if-not-is_named.false-raw c.is_named.ensures;
  passed = checks-told _ c.requires Set _ c.header_word-n.ensures c.check_formula.ensures c.in_ok-check_formula.was;
}

pub returns-in_err-check_formula : goal.returns-in_err-check_formula
returns-in_err-check_formula c =
    let p = err_from_is_err_and c.from_residual.result c.from_residual.ensures.1 in
    rw (p.1, p.2)
    (set-checked _ c.requires _ _ _ _ _ c.if-r-ge-REGISTERS.false (test_named c.if-not-is_named.false-raw c.is_named.ensures)
    (checks-told _ c.requires Set _ c.header_word-n.ensures c.check_formula.ensures c.in_err-check_formula.was))
