-- `lead_at`: each way through the code is a case of the definition. Assumes nothing.
use Rattle.std.proofs.Common.{sym, ◌∙◌}
use Rattle.tokens.proofs.Leads.{lead_is, lead_refused, lead_bad, lead_past}
use Rattle.tokens.proofs.lead_at.Goals as goal

pub returns-in_err-t : goal.returns-in_err-t
returns-in_err-t c =
    c.from_residual.ensures ∙ sym (lead_bad _ _ _ _ c.if-at-bytes.true (sym c.token_of.ensures ∙ c.in_err-t.was))

pub returns-then-token_allowed : goal.returns-then-token_allowed
returns-then-token_allowed c =
    sym (lead_is _ _ _ _ _ c.if-at-bytes.true (sym c.token_of.ensures ∙ c.in_ok-t.was)
    (sym c.token_allowed.ensures ∙ c.if-token_allowed.true))

pub returns-else-token_allowed : goal.returns-else-token_allowed
returns-else-token_allowed c =
    sym (lead_refused _ _ _ _ c.in_ok-t.t c.if-at-bytes.true (sym c.token_of.ensures ∙ c.in_ok-t.was)
    (sym c.token_allowed.ensures ∙ c.if-token_allowed.false))

pub returns-else-at-bytes : goal.returns-else-at-bytes
returns-else-at-bytes c = sym (lead_past _ _ _ _ c.if-at-bytes.false)
