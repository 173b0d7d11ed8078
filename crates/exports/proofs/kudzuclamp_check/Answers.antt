-- `kudzuclamp_check`: on a sound table `check_formula` gives the number of the book's checks. Assumes nothing.
use Rattle.std.proofs.Common.{refl, sym, ◌∙◌}
use Rattle.rows.proofs.Says.{says_pass}
use Rattle.formula_calls.proofs.Refused.{checks-told}
use Rattle.exports.proofs.Check.{check_done}
use Rattle.exports.proofs.kudzuclamp_check.Goals as goal

pub returns : goal.returns
returns c =
    let s = says_pass c.if-not-sound.false-raw c.sound.ensures in
    check_done _ _ s c.kind_of.ensures
    (checks-told _ s _ _ c.header_word-n.ensures c.check_formula.ensures refl ∙ sym c.number_of.ensures.number)
