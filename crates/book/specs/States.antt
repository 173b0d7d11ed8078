-- State numbers and levels: "A state is a number 0 to 2^n − 1; bit p has weight 2^p. Current bit p is at level 2p, next bit p at level 2p +
-- 1." Assumes nothing.
use Rattle.std.specs.Prelude.{Bool, true, false, ℕ, zero, suc, ◌+◌, ◌*◌, ◌/◌}
use Rattle.mucalculus.specs.Means.{bit}
use Rattle.diagram.specs.Level.{Val}

-- a bit as a number
abbrev pub one : Bool → ℕ
one true = 1
one false = 0

-- the state that the levels 0, 2, 4, .. of a valuation make, n bits of it
unfoldable pub now_of : ℕ → Val → ℕ
now_of zero v = 0
now_of (suc n) v = one (v 0) + 2 * now_of n (λ l. v (suc (suc l)))

-- the state that the levels 1, 3, 5, .. make
abbrev pub next_of : ℕ → Val → ℕ
next_of n v = now_of n (λ l. v (suc l))

-- the valuation of the pair (s, t): bit p of s at level 2p, bit p of t at level 2p + 1
unfoldable pub pair_val : ℕ → ℕ → Val
pair_val s t zero = bit 0 s
pair_val s t (suc zero) = bit 0 t
pair_val s t (suc (suc l)) = pair_val (s / 2) (t / 2) l
