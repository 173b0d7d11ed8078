-- `used_row` meets its contract: the three tests are those of `used_at`. Assumes nothing.
use mathlib.Core.Path.{sym, ◌∙◌}
use native.Mathlib.Omega.{arith}
use borrow.Author.Rules.{rules}
use Rattle.rows.proofs.Used.{used-yes, used-no}
use Rattle.rows.proofs.used_row.Statement.{statement}
use Rattle.rows.proofs.used_row.Tie as tie

pub used_row_spec : {M : Type 1} → statement M
used_row_spec =
    tie.close
    (tie.spec
    (λ c. sym (used-no _ _ _ _ _ (λ p. let l = p.row in let t = c.if-i-rows.true in omega arith)))
    (λ c κs. search rules)
    (λ c κs. search rules)
    (λ c. let e = c.get-k.ensures in
    let h = c.header_word.ensures in let t = c.if-k-header_word.true in sym (used-no _ _ _ _ _ (λ p. let l = p.place in omega arith)))
    (λ c κs. search rules)
    (λ c. let e = c.get-k.ensures in
    let h = c.listed.ensures in sym (used-no _ _ _ _ _ (λ p. c.if-listed-i.true (h ∙ (rw e p.there)))))
    (λ c. let e = c.get-k.ensures in
    let h = c.header_word.ensures in
    let l = c.if-k-header_word.false in
    let q = c.listed.ensures in
    sym (used-yes _ _ _ _ _
    (record {
      row = c.if-i-rows.false;
      place = omega arith;
      there = rw (← e) (sym q ∙ c.if-listed-i.false);
    }))))
