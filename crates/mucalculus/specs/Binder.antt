-- "mu P: least set A with f(A) = A", "nu P: greatest such set", as statements about a set. Assumes nothing.
use Rattle.std.specs.Prelude.{◌≡◌, Bool, List, ℕ}
use Rattle.mucalculus.specs.Order.{Below}
use Rattle.mucalculus.specs.Form.{Form, Model, Env, put}
use Rattle.mucalculus.specs.Means.{means}

-- the body as a function of the bound variable's set
abbrev pub body : Model → Env → ℕ → Form → List Bool → List Bool
body m e P f A = means m (put e P A) f

-- A is the least set with F A = A
pub record Least (F : List Bool → List Bool) (A : List Bool) : Type 0 where
  pub fixed : F A ≡ A
  pub least : (B : List Bool) → F B ≡ B → Below A B

-- A is the greatest set with F A = A
pub record Greatest (F : List Bool → List Bool) (A : List Bool) : Type 0 where
  pub fixed : F A ≡ A
  pub greatest : (B : List Bool) → F B ≡ B → Below B A
