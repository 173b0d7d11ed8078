-- `records::write_end` meets its contract: the two texts are the definition's.
-- Assumes nothing.
use mathlib.Core.Bool.{true, false}
use Rattle.records.proofs.TextLaws.{wrote-end}
use borrow.Author.Rules.{rules}
use Rattle.records.proofs.write_end.Statement.{statement}
use Rattle.records.proofs.write_end.Tie as tie

pub write_end_spec : {M : Type 1} → statement M
write_end_spec =
    tie.close
    (tie.spec
    (λ c κs. search rules)
    (λ c. search rules)
    (λ c. rw c.if-ok.true (wrote-end true c.write_text.ensures))
    (λ c κs. search rules)
    (λ c. search rules)
    (λ c. rw c.if-ok.false (wrote-end false c.write_text-2.ensures)))
