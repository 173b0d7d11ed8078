-- How many rounds a formula takes: "Every evaluated body, inner ones included, is one round". Assumes nothing.
use Rattle.std.specs.Prelude.{Bool, true, false, cond, List, ℕ, zero, suc, ◌+◌}
use Rattle.mucalculus.specs.Sets.{same}
use Rattle.mucalculus.specs.Order.{start}
use Rattle.mucalculus.specs.Form.{Form, bot, top, neg, conj, disj, now, next, var, reg, box, dia, mu, nu, until, Model, Env, put}
use Rattle.mucalculus.specs.Means.{size, exist, related, means}
use Rattle.mucalculus.specs.Until.{onward}
use Rattle.mucalculus.specs.Binder.{body}

-- the rounds of a binder from the set A on, its body F taking c A rounds of inner binders at the set A; j bounds the binder's own rounds
abbrev pub runs : (List Bool → List Bool) → (List Bool → ℕ) → ℕ → List Bool → ℕ
runs F c zero A = zero
runs F c (suc j) A = suc (c A) + (let more = runs F c j (F A) in cond (same (F A) A) zero more)

-- the rounds of f, inner ones included; a binder has ended after 2^n + 1 rounds, a larger bound gives the same: `rounds_cap`
abbrev pub rounds : Model → Env → Form → ℕ
rounds m e bot = zero
rounds m e top = zero
rounds m e (neg f) = rounds m e f
rounds m e (conj f g) = rounds m e f + rounds m e g
rounds m e (disj f g) = rounds m e f + rounds m e g
rounds m e (now p) = zero
rounds m e (next p) = zero
rounds m e (var P) = zero
rounds m e (reg r) = zero
rounds m e (box t f) = rounds m e f
rounds m e (dia t f) = rounds m e f
rounds m e (mu P f) = runs (body m e P f) (λ A. rounds m (put e P A) f) (suc (size m)) (start true (size m) (exist m))
rounds m e (nu P f) = runs (body m e P f) (λ A. rounds m (put e P A) f) (suc (size m)) (start false (size m) (exist m))
rounds m e (until b t f g) =
    runs (onward b (size m) (related m t) (means m e f) (means m e g)) (λ A. rounds m e g + rounds m e f) (suc (size m))
    (start true (size m) (exist m))
