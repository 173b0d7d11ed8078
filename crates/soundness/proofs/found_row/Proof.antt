-- `found_row` meets its contract: the head of the row's bucket names it, or it is the walk from there. Assumes nothing.
use native.Mathlib.Omega.{arith}
use Rattle.layout.specs.View.{view}
use Rattle.rows.proofs.Index.{live_link}
use Rattle.soundness.specs.Walks.{met}
use Rattle.rows.proofs.Lookup.{used_row}
use Rattle.soundness.proofs.Checks.{head_finds}
use borrow.Author.Rules.{rules}
use Rattle.soundness.proofs.found_row.Statement.{statement}
use Rattle.soundness.proofs.found_row.Tie as tie

pub found_row_spec : {M : Type 1} → statement M
found_row_spec =
    tie.close
    (tie.spec
    (λ c κs. let h = used_row (view c.args.rows c.args.words.now) _ c.requires.0 in
    let r = c.requires.1.room in (h, r.max, r.words))
    (λ c κs. search rules)
    (λ c. let h = used_row (view c.args.rows c.args.words.now) _
    c.requires.0 in let r = c.requires.1.room in omega arith)
    (λ c. met
    (head_finds (view c.args.rows c.args.words.now) _
    c.requires.0 (rw c.row_bucket-b.ensures.0 at c.head.ensures)
    c.if-head-i.true))
    (λ c κs. let h = used_row (view c.args.rows c.args.words.now) _
    c.requires.0 in
    let r = c.requires.1.room in (h, omega arith, r.words))
    (λ c κs. let h =
    used_row
    (view c.args.rows c.args.words.now) _
    c.requires.0 in
    let r = c.requires.1.room in (h, omega arith, r.words))
    (λ c κs. let h =
    used_row
    (view c.args.rows
    c.args.words.now) _
    c.requires.0 in
    let r = c.requires.1.room in (h, omega arith, r.words))
    (λ c κs. search rules)
    (λ c κs. (c.requires.1, rw c.first.ensures (live_link _ _)))
    (λ c. rw (
      c.first.ensures,
      c.row_bucket-b.ensures.0,
      c.get-level.ensures,
      c.get-low.ensures,
      c.get-high.ensures,
    ) at
    c.hits.ensures))
