-- The bytes of a formula and what each means, and which tokens a call takes. Definitions alone.
use Rattle.std.specs.Prelude.{ℕ, ◌-◌, Bool, true, false, ◌&&◌, cond, List, [], ◌∷◌, ◌++◌, ltb, leb, eqb, length, get_or, Option, Some, None}
use Rattle.tokens.specs.declared.Kind.{Kind}
use Rattle.tokens.specs.declared.Kind.TheVariants.{Relation, Set, Valid}
use Rattle.tokens.specs.declared.Grammar.{Grammar}
use Rattle.tokens.specs.declared.Grammar.TheVariants.{Pairs, States, Runs, Bits}
use Rattle.tokens.specs.declared.Leaf.{Leaf}
use Rattle.tokens.specs.declared.Leaf.TheVariants.{False, True, Now, Next, Var, Reg}
use Rattle.tokens.specs.declared.Join.TheVariants.{And, Or}
use Rattle.tokens.specs.declared.Mode.TheVariants as mode
use Rattle.tokens.specs.declared.Fix.TheVariants.{Mu, Nu}
use Rattle.tokens.specs.declared.Two.{Two}
use Rattle.tokens.specs.declared.Two.TheVariants.{Join, Until}
use Rattle.tokens.specs.declared.Token.{Token}
use Rattle.tokens.specs.declared.Token.TheVariants.{Leaf as LeafToken, Not, Both, Modal, Binder}

-- a line of the table of bytes: the bytes from `first` to `last`, and the token of each by its number among them
pub record Line : Type 0 where
  pub first : ℕ
  pub last : ℕ
  pub token : ℕ → Token

-- a line of the table, by its parts
abbrev pub line : ℕ → ℕ → (ℕ → Token) → Line
line a b t = record { first = a; last = b; token = t }

-- document 01's table "Byte, Meaning": the words of version 1
abbrev pub first_words : List Line
first_words =
    line 0x00 0x00 (λ k. LeafToken False)
    ∷ line 0x01 0x01 (λ k. LeafToken True)
    ∷ line 0x02 0x02 (λ k. Not)
    ∷ line 0x03 0x03 (λ k. Both (Join And))
    ∷ line 0x04 0x04 (λ k. Both (Join Or))
    ∷ line 0x10 0x1F (λ p. LeafToken (Now p))
    ∷ line 0x20 0x2F (λ p. LeafToken (Next p))
    ∷ line 0x30 0x3F (λ P. LeafToken (Var P))
    ∷ line 0x40 0x5F (λ r. LeafToken (Reg r))
    ∷ line 0x60 0x67 (λ t. Modal mode.All t)
    ∷ line 0x68 0x6F (λ t. Modal mode.Some t)
    ∷ line 0x70 0x7F (λ P. Binder Mu P)
    ∷ line 0x80 0x8F (λ P. Binder Nu P)
    ∷ []

-- "Version 2 formulas … add 90–97 f g (some run of relation t) and 98–9F f g (every run)"
abbrev pub added_words : List Line
added_words =
    line 0x90 0x97 (λ t. Both (Until mode.Some t))
    ∷ line 0x98 0x9F (λ t. Both (Until mode.All t))
    ∷ []

-- the table of bytes, both versions
abbrev pub table : List Line
table = first_words ++ added_words

-- the token of a byte by the first line that has it
unfoldable pub lookup : List Line → ℕ → Option Token
lookup [] b = None
lookup (l ∷ ls) b =
    let others = lookup ls b in
    cond (leb l.first b && leb b l.last) (Some (l.token (b - l.first))) others

-- the meaning of a byte; "any byte outside these rules" has none
unfoldable pub token_of : ℕ → Option Token
token_of b = lookup table b

-- "version 1"
abbrev pub first_of : Kind → Option Grammar
first_of Relation = Some Pairs
first_of Set = Some States
-- "A new call valid takes a formula of 00 to 04 and 10 to 1F"
first_of Valid = Some Bits

-- "Version 2 formulas, for set calls"
abbrev pub second_of : Kind → Option Grammar
second_of Relation = None
second_of Set = Some Runs
second_of Valid = None

-- the grammar of a call's formula, by the version byte
abbrev pub grammar_of : Kind → ℕ → Option Grammar
grammar_of k v = cond (eqb v 1) (first_of k) (cond (eqb v 2) (second_of k) None)

-- formulas speak of states, by variables, registers, relations and binders too
abbrev pub is_states : Grammar → Bool
is_states Pairs = false
is_states States = true
is_states Runs = true
is_states Bits = false

-- formulas speak of one state alone, and of no next one
abbrev pub only_now : Grammar → Bool
only_now Pairs = false
only_now States = true
only_now Runs = true
only_now Bits = true

-- formulas speak of runs
abbrev pub has_runs : Grammar → Bool
has_runs Pairs = false
has_runs States = false
has_runs Runs = true
has_runs Bits = false

-- "p < n", "relation calls only"; "Relation calls take only 00 to 04 and 10 to 2F"
abbrev pub leaf_allowed : Leaf → ℕ → Grammar → Bool
leaf_allowed False n g = true
leaf_allowed True n g = true
leaf_allowed (Now p) n g = ltb p n
leaf_allowed (Next p) n g = cond (only_now g) false (ltb p n)
leaf_allowed (Var P) n g = is_states g
leaf_allowed (Reg r) n g = is_states g

-- whether a token with two parts may stand in a formula of this kind
abbrev pub two_allowed : Two → Grammar → Bool
two_allowed (Join j) g = true
two_allowed (Until m t) g = has_runs g

-- whether a token may stand in a formula of this kind over n bits
abbrev pub allowed : Token → ℕ → Grammar → Bool
allowed (LeafToken l) n g = leaf_allowed l n g
allowed Not n g = true
allowed (Both w) n g = two_allowed w g
allowed (Modal m t) n g = is_states g
allowed (Binder x P) n g = is_states g

-- the token, where the grammar takes it
abbrev pub taken : ℕ → Grammar → Option Token → Option Token
taken n g (Some t) = cond (allowed t n g) (Some t) None
taken n g None = None

-- the token at a place, where there is a byte and the grammar takes its token
unfoldable pub lead_at : ℕ → Grammar → List ℕ → ℕ → Option Token
lead_at n g bs at = cond (ltb at (length bs)) (taken n g (token_of (get_or bs at 0))) None
