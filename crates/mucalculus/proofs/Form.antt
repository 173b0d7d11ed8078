-- Laws of what specs/Form.antt defines. Assumes nothing.
use mathlib.Core.Bool.{Bool, true, false}
use Prim.Native.Nat.{ℕ, suc, max}
use Rattle.mucalculus.specs.Form.{Form, bot, top, neg, conj, disj, now, next, var, reg, box, dia, mu, nu, until}

-- mu with `true`, nu with `false`
abbrev pub bind : Bool → ℕ → Form → Form
bind true P f = mu P f
bind false P f = nu P f

-- ---- conditions on a tree

-- "A leaf has depth 1, an operator one more than its deepest part"
unfoldable pub depth : Form → ℕ
depth bot = 1
depth top = 1
depth (neg f) = suc (depth f)
depth (conj f g) = suc (max (depth f) (depth g))
depth (disj f g) = suc (max (depth f) (depth g))
depth (now p) = 1
depth (next p) = 1
depth (var P) = 1
depth (reg r) = 1
depth (box t f) = suc (depth f)
depth (dia t f) = suc (depth f)
depth (mu P f) = suc (depth f)
depth (nu P f) = suc (depth f)
depth (until b t f g) = suc (max (depth f) (depth g))
