-- Until written with a binder: "The first form is read as mu X (g or (f and diamond X)), the second as mu X (g or (f and (box X and diamond
-- true))), X a variable of its own". Assumes nothing.
use Rattle.std.specs.Prelude.{Bool, true, false, not, ◌&&◌, ℕ, eqb}
use Rattle.mucalculus.specs.Form.{Form, bot, top, neg, conj, disj, now, next, var, reg, box, dia, mu, nu, until}

-- X stands nowhere in f
abbrev pub absent : ℕ → Form → Bool
absent X bot = true
absent X top = true
absent X (neg f) = absent X f
absent X (conj f g) = absent X f && absent X g
absent X (disj f g) = absent X f && absent X g
absent X (now p) = true
absent X (next p) = true
absent X (var P) = not (eqb P X)
absent X (reg r) = true
absent X (box t f) = absent X f
absent X (dia t f) = absent X f
absent X (mu P f) = not (eqb P X) && absent X f
absent X (nu P f) = not (eqb P X) && absent X f
absent X (until b t f g) = absent X f && absent X g

-- diamond X, or with `false` box X and diamond true
abbrev pub goes : Bool → ℕ → ℕ → Form
goes true t X = dia t (var X)
goes false t X = conj (box t (var X)) (dia t top)

-- until, written with the binder of X
abbrev pub written : Bool → ℕ → ℕ → Form → Form → Form
written b t X f g = mu X (disj g (conj f (goes b t X)))
