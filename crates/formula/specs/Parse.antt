-- The reading of a formula from bytes in prefix order. Definitions alone.
use Rattle.std.specs.Prelude.{ℕ, zero, suc, ◌+◌, ◌*◌, Bool, true, false, ◌&&◌, cond, List, leb, eqb, length, get_or, Option, Some, None}
use Rattle.mucalculus.specs.Form.{Form, bot, top, neg, conj, disj, now, next, var, reg, box, dia, mu, nu, until}
use Rattle.tokens.specs.declared.Token.{Token}
use Rattle.tokens.specs.Tokens.{grammar_of, lead_at}
use Rattle.tokens.specs.declared.Kind.{Kind}
use Rattle.tokens.specs.declared.Grammar.{Grammar}
use Rattle.tokens.specs.declared.Leaf.{Leaf}
use Rattle.tokens.specs.declared.Leaf.TheVariants.{False, True, Now, Next, Var, Reg}
use Rattle.tokens.specs.declared.Join.{Join}
use Rattle.tokens.specs.declared.Join.TheVariants.{And, Or}
use Rattle.tokens.specs.declared.Mode.{Mode}
use Rattle.tokens.specs.declared.Mode.TheVariants as mode
use Rattle.tokens.specs.declared.Fix.{Fix}
use Rattle.tokens.specs.declared.Fix.TheVariants.{Mu, Nu}
use Rattle.tokens.specs.declared.Two.{Two}
use Rattle.tokens.specs.declared.Two.TheVariants.{Join as Joins, Until}
use Rattle.tokens.specs.declared.Token.TheVariants.{Leaf as LeafToken, Not, Both, Modal, Binder}

-- ---- from a token to the tree

-- the formula of a token that stands alone
abbrev pub leaf_form : Leaf → Form
leaf_form False = bot
leaf_form True = top
leaf_form (Now p) = now p
leaf_form (Next p) = next p
leaf_form (Var P) = var P
leaf_form (Reg r) = reg r

-- AND or OR of two formulas
abbrev pub join_form : Join → Form → Form → Form
join_form And f g = conj f g
join_form Or f g = disj f g

-- until of two formulas, on some run or on every run of relation t
abbrev pub until_form : Mode → ℕ → Form → Form → Form
until_form mode.Some t f g = until true t f g
until_form mode.All t f g = until false t f g

-- the formula of a token with two parts
abbrev pub two_form : Two → Form → Form → Form
two_form (Joins j) f g = join_form j f g
two_form (Until m t) f g = until_form m t f g

-- box or diamond of relation t
abbrev pub modal_form : Mode → ℕ → Form → Form
modal_form mode.All t f = box t f
modal_form mode.Some t f = dia t f

-- mu or nu of variable P
abbrev pub binder_form : Fix → ℕ → Form → Form
binder_form Mu P f = mu P f
binder_form Nu P f = nu P f

-- ---- reading

-- what reading gives: nothing, or a formula and the place after it
pub data Got : Type 0 where
  fails : Got
  got : Form → ℕ → Got

-- whether reading gave a formula
abbrev pub is_formula : Got → Bool
is_formula fails = false
is_formula (got f e) = true

-- the formula that was read
abbrev pub form_of : Got → Form
form_of fails = bot
form_of (got f e) = f

-- an operator over the one part that was read
abbrev pub one : (Form → Form) → Got → Got
one c fails = fails
one c (got f e) = got (c f) e

-- an operator over the part that was read and the part after it
abbrev pub two : (Form → Form → Form) → (ℕ → Got) → Got → Got
two c read fails = fails
two c read (got f e) = one (c f) (read e)

-- the formula that begins with a token, whose parts are read from the place after it;
-- "If the next token cannot be read, reading ends there"
abbrev pub grown : Option Token → ℕ → (ℕ → Got) → Got
grown None after read = fails
grown (Some (LeafToken l)) after read = got (leaf_form l) after
grown (Some Not) after read = one neg (read after)
grown (Some (Both w)) after read = two (two_form w) read (read after)
grown (Some (Modal m t)) after read = one (modal_form m t) (read after)
grown (Some (Binder x P)) after read = one (binder_form x P) (read after)

-- "one formula in prefix order": the formula of depth at most d that stands in the bytes at a place
unfoldable pub parse : ℕ → Grammar → ℕ → List ℕ → ℕ → Got
parse n g zero bs at = fails
parse n g (suc d) bs at = grown (lead_at n g bs at) (at + 1) (parse n g d bs)

-- "depth above 64 gives 4"
abbrev pub depth_limit : ℕ
depth_limit = 64

-- ---- the frame

-- "Two length bytes L, big-endian"
abbrev pub length_of : List ℕ → ℕ
length_of bs = get_or bs 0 0 * 256 + get_or bs 1 0

-- "from 2 to 1,024"; "The slice is exactly 2 + L long"
unfoldable pub framed : List ℕ → Bool
framed bs = (leb 2 (length_of bs) && leb (length_of bs) 1024) && eqb (length bs) (length_of bs + 2)

-- "then L bytes: version 1": the grammar of a framed slice, by the call and the version
abbrev pub grammar_in : Kind → List ℕ → Option Grammar
grammar_in k bs = cond (framed bs) (grammar_of k (get_or bs 2 0)) None

-- "then one formula .., filling them": what was read, if it ends at the end
abbrev pub filling : ℕ → Got → Got
filling end fails = fails
filling end (got f e) = cond (eqb e end) (got f e) fails

-- the formula of a slice that is read by a grammar
abbrev pub formula_by : ℕ → List ℕ → Option Grammar → Got
formula_by n bs None = fails
formula_by n bs (Some g) = filling (length bs) (parse n g depth_limit bs 3)

-- check 4: the formula of a whole slice for a call
unfoldable pub formula_of : Kind → ℕ → List ℕ → Got
formula_of k n bs = formula_by n bs (grammar_in k bs)
