-- `level_of` meets its contract: an arrow to a row has the row's level. Assumes nothing.
use mathlib.Core.Path.{sym, ◌∙◌}
use native.Mathlib.Omega.{arith}
use Rattle.layout.specs.View.{view}
use Rattle.seek.proofs.Walk.{walk-row}
use Rattle.seek.proofs.ApartLaws.{level-is, level-beyond}
use Rattle.layout.proofs.get.Reads as get-reads
use Rattle.layout.proofs.is_row.Reads as is-row-reads
use Rattle.layout.proofs.row_of.Reads as row-of-reads
use borrow.Author.Rules.{rules}
use Rattle.seek.proofs.level_of.Statement.{statement}
use Rattle.seek.proofs.level_of.Tie as tie
use Rattle.seek.proofs.level_of.Reads as reads
use Rattle.seek.proofs.level_of.Lts as lts

pub level_of_spec : {M : Type 1} → statement M
level_of_spec =
    tie.close
    (tie.spec
    (λ c κs. search rules)
    (λ c κs. sym c.is_row.ensures ∙ c.if-is_row.true)
    (λ c κs. let w = walk-row (view c.args.rows c.args.words.now) _
    c.requires (sym c.is_row.ensures ∙ c.if-is_row.true) c.row_of.ensures in
    let b = c.requires.mark.base in omega arith)
    (λ c. level-is
    (view c.args.rows c.args.words.now) _
    (sym c.is_row.ensures ∙ c.if-is_row.true) c.row_of.ensures c.get.ensures)
    (λ c. level-beyond (view c.args.rows c.args.words.now) _
    (sym c.is_row.ensures ∙ c.if-is_row.false)))
