-- "Diamond of f: SHIFT f, AND with the relation, EXISTS at levels 2n − 1, 2n − 3, down to 1. Box: NOT f, diamond, NOT." Assumes nothing.
use Rattle.std.specs.Prelude.{ℕ, zero, suc, ◌*◌}
use Rattle.diagram.specs.Level.{Fn}
use Rattle.diagram.specs.Steps.{and_f, shift_f, exists_f}

-- EXISTS at levels 2n − 1, 2n − 3, down to 1
unfoldable pub exists_next : ℕ → Fn → Fn
exists_next zero F = F
exists_next (suc n) F = exists_next n (exists_f (suc (2 * n)) F)

-- the steps of diamond: SHIFT, AND with the relation, EXISTS at each next bit
abbrev pub diamond_f : ℕ → Fn → Fn → Fn
diamond_f n relation f = exists_next n (and_f (shift_f f) relation)
