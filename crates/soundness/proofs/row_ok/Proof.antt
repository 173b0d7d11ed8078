-- `row_ok` meets its contract: each test decides one field of `RowGood`. Assumes nothing.
use mathlib.Core.Path.{sym, ◌∙◌}
use native.Mathlib.Omega.{arith}
use borrow.Author.Rules.{rules}
use Rattle.rows.specs.Says.{fails}
use Rattle.rows.proofs.Says.{says_map, says_pass, says_fail}
use Rattle.soundness.proofs.row_ok.Statement.{statement}
use Rattle.soundness.proofs.row_ok.Tie as tie

pub row_ok_spec : {M : Type 1} → statement M
row_ok_spec =
    tie.close
    (tie.spec
    (λ c κs. search rules)
    (λ c. fails (λ q. let l = q.level in let e = c.get-level.ensures in let t = c.if-level-levels.true in omega arith))
    (λ c κs. search rules)
    (λ c κs. search rules)
    (λ c. fails (λ q. q.differ (sym c.get-low.ensures ∙ c.if-low-high.true ∙ c.get-high.ensures)))
    (λ c κs. search rules)
    (λ c. fails
    (λ q. says_fail c.if-not-lead_ok.true-raw c.lead_ok.ensures
    (rw (c.get-level.ensures, c.get-low.ensures) q.low)))
    (λ c κs. search rules)
    (λ c. fails
    (λ q. says_fail c.if-not-high_ok.true-raw c.high_ok.ensures
    (rw (
      c.get-level.ensures,
      c.get-high.ensures,
    ) (q.plain, q.high))))
    (λ c κs. search rules)
    (λ c κs. search rules)
    (λ c κs. search rules)
    (λ c. let e = c.get-level.ensures in
    let e₂ = c.get-low.ensures in
    let e₃ = c.get-high.ensures in
    let t = c.if-level-levels.false in
    says_map
    (λ l. record {
      level = omega arith;
      differ = λ z. c.if-low-high.false (e₂ ∙ z ∙ sym e₃);
      low = rw (e, e₂) at
          (says_pass c.if-not-lead_ok.false-raw
          c.lead_ok.ensures);
      high = rw (e, e₃) at (says_pass c.if-not-high_ok.false-raw c.high_ok.ensures).1;
      plain = rw e₃ at (says_pass c.if-not-high_ok.false-raw c.high_ok.ensures).0;
      next = rw (c.get.ensures, c.get-2.ensures) at l;
    })
    (λ q. rw (c.get.ensures, c.get-2.ensures) q.next)
    c.link_ok.ensures))
