-- Functions that do not read the odd levels from one on, as a product after some stages of EXISTS. Assumes nothing.
use Rattle.std.specs.Prelude.{◌≡◌, Bool, ℕ, suc, ◌*◌, ◌≤◌}
use Rattle.diagram.specs.Level.{Val, Fn, upd}

-- f does not read the odd levels from 2 i + 1 on: a set of states where i is 0.
abbrev pub Blind : ℕ → Fn → Type 0
Blind i f = (x : ℕ) → i ≤ x → (v : Val) (b : Bool) → f (upd v (suc (2 * x)) b) ≡ f v
