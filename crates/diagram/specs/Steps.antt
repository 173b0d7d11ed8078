-- What the steps compute, as functions of levels; and an arrow's two halves at a level. Assumes nothing.
use Rattle.std.specs.Prelude.{Bool, true, false, cond, not, ◌&&◌, ◌||◌, ℕ, zero, suc, eqb}
use Rattle.diagram.specs.Level.{Fn, upd}
use Rattle.diagram.specs.Rows.{Rows, target, follow}

-- Level l itself: current bit p at level 2p, next bit p at 2p + 1.
abbrev pub bit_f : ℕ → Fn
bit_f l v = v l

abbrev pub not_f : Fn → Fn
not_f f v = not (f v)

-- An operation on bits, of two functions: AND, OR.
abbrev pub two_f : (Bool → Bool → Bool) → Fn → Fn → Fn
two_f op f g v = op (f v) (g v)

-- AND of two functions
abbrev pub and_f : Fn → Fn → Fn
and_f = two_f ◌&&◌

abbrev pub or_f : Fn → Fn → Fn
or_f = two_f ◌||◌

-- Every level becomes the next one: of a set of states, each current bit becomes its next bit.
abbrev pub shift_f : Fn → Fn
shift_f f v = f (λ l. v (suc l))

-- EXISTS at level x: f holds for some value of it.
abbrev pub exists_f : ℕ → Fn → Fn
exists_f x f v = f (upd v x false) || f (upd v x true)

-- The arrow that is followed from `a` where level l is b: the arrow itself unless it leads to level l.
abbrev pub side_to : Rows → ℕ → ℕ → Bool → ℕ → ℕ
side_to rows l a b zero = a
side_to rows l a b (suc i) = cond (eqb (rows.level i) l) (follow rows a i b) a

unfoldable pub low_at : Rows → ℕ → ℕ → ℕ
low_at rows l a = side_to rows l a false (target a)

unfoldable pub high_at : Rows → ℕ → ℕ → ℕ
high_at rows l a = side_to rows l a true (target a)
