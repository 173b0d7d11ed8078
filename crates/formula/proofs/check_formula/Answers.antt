-- `check_formula`: check 4 is the frame, the grammar, the parse and its end; past it the answer is that of the other checks.
-- Assumes nothing.
use Rattle.formula.proofs.Order.{unknown, unread, unfilled, whole}
use Rattle.formula.proofs.check_formula.Goals as goal

pub returns-in_default : goal.returns-in_default
returns-in_default c =
    unknown _ _ _ _ _ c.grammar_in.ensures c.in_default.is

pub returns-in_default-syntax : goal.returns-in_default-syntax
returns-in_default-syntax c =
    unread _ _ _ _ _ c.grammar_in.ensures c.in-Some.is c.syntax.ensures c.in_default-syntax.is

pub returns-then-whole-bytes : goal.returns-then-whole-bytes
returns-then-whole-bytes c =
    unfilled _ _ _ _ _ c.grammar_in.ensures c.in-Some.is c.syntax.ensures c.in-Some-syntax.is c.if-whole-bytes.true

pub returns : goal.returns
returns c =
    whole _ _ _ _ _ c.grammar_in.ensures c.in-Some.is c.syntax.ensures c.in-Some-syntax.is c.if-whole-bytes.false
    c.check_tree.ensures
