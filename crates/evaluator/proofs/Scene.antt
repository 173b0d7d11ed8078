-- Laws of what specs/Scene.antt defines. Assumes nothing.
use mathlib.Core.Bool.{Bool, true}
use mathlib.Core.List.{List, ◌∷◌}
use Prim.Native.Nat.{ℕ}
use lib.ListN.{set}
use Rattle.mucalculus.specs.Form.{put}
use Rattle.diagram.specs.Level.{Fn}
use Rattle.book.specs.Bridge.{fn_of}
use Rattle.evaluator.specs.Scene.{Scene}

-- "each value made and not yet used": the function F at the arrow a is live too
abbrev pub pushed : Scene → ℕ → Fn → Scene
pushed σ a F =
    record { valid = σ.valid; reg = σ.reg; rel = σ.rel; scope = σ.scope; env = σ.env; roots = a ∷ σ.roots; fns = F ∷ σ.fns }

-- "the current set of each open binder": A is the set of variable P
abbrev pub opened : ℕ → Scene → ℕ → ℕ → List Bool → Scene
opened n σ P a A =
    record {
      valid =
          σ.valid;
      reg =
          σ.reg;
      rel = σ.rel;
      scope = set σ.scope P true;
      env = put σ.env P A;
      roots = a ∷ σ.roots;
      fns = fn_of n A ∷ σ.fns;
    }
