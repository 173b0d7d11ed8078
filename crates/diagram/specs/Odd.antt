-- EXISTS at odd levels, one after another, and all at once. Assumes nothing.
use Rattle.std.specs.Prelude.{ℕ, zero, suc, ◌*◌, Bool}
use Rattle.diagram.specs.Level.{Fn}
use Rattle.diagram.specs.Rows.{Rows, Leads, follow, den}
use Rattle.diagram.specs.Steps.{exists_f}
use Rattle.diagram.specs.Post.{Denotes}

-- EXISTS at the d odd levels from 2 (j + d) − 1 down to 2 j + 1
unfoldable pub exists_from : ℕ → ℕ → Fn → Fn
exists_from zero j f = f
exists_from (suc d) j f = exists_f (suc (2 * j)) (exists_from d (suc j) f)

-- EXISTS at every odd level of 32
abbrev pub odd_f : Fn → Fn
odd_f f = exists_from 16 0 f

-- arrow c is followed from arrow a, with the NOTs that are met
pub data Follows (rows : Rows) (a : ℕ) : ℕ → Type 0 where
  self : Follows rows a a
  on : {c i : ℕ} (b : Bool) → Follows rows a c → Leads c i → Follows rows a (follow rows c i b)

-- every arrow that is followed from arrow a has its `odd_f` in the table: of a row that is met with and without a NOT, both
abbrev pub Covered : ℕ → Rows → ℕ → Type 0
Covered m rows a = (c : ℕ) → Follows rows a c → (b : ℕ) × Denotes m rows b (odd_f (den m rows c))
