-- `mark_ref` meets its contract: an empty root marks nothing, another marks what its arrow reaches. Assumes nothing.
use native.Mathlib.Omega.{arith}
use borrow.Author.Rules.{rules}
use Rattle.layout.specs.View.{view}
use Rattle.rows.specs.Used.{rows_of}
use Rattle.rows.proofs.Roots.{marks-none, marks-one, ref-arrow}
use Rattle.rows.proofs.mark_ref.Statement.{statement}
use Rattle.rows.proofs.mark_ref.Tie as tie

pub mark_ref_spec : {M : Type 1} → statement M
mark_ref_spec =
    tie.close
    (tie.spec
    (λ c. let e = c.if-r-eq0.true in marks-none {rows = rows_of (view c.args.rows c.args.words.now)} _ (λ a x. omega arith))
    (λ c. search rules)
    (λ c κs.
    record {
      base = c.requires.base;
      arrow = ref-arrow (rows_of (view c.args.rows c.args.words.now)) _ c.if-r-eq0.false c.requires.ref;
    })
    (λ c. search rules)
    (λ c. let n = c.if-r-eq0.false in
    marks-one {rows = rows_of (view c.args.rows c.args.words.now)} _ c.mark.ensures (omega arith) (λ b x. omega arith)))
