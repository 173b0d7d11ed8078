-- The bytes of a formula, from its tree: what the reading undoes. Definitions alone.
use Rattle.std.specs.Prelude.{Some}
use Prim.Native.Nat.{ℕ, ◌+◌, ◌/◌, ◌%◌, ◌≤◌}
use mathlib.Core.Path.{◌≡◌}
use mathlib.Core.Bool.{Bool, true, false, ◌&&◌}
use mathlib.Core.List.{List, [], ◌∷◌, ◌++◌}
use lib.Dec.{ltb}
use lib.ListN.{length}
use Rattle.mucalculus.specs.Form.{Form, bot, top, neg, conj, disj, now, next, var, reg, box, dia, mu, nu, until}
use Rattle.mucalculus.proofs.Form.{depth}
use Rattle.tokens.specs.Tokens.{grammar_of, allowed}
use Rattle.tokens.specs.declared.Kind.{Kind}
use Rattle.tokens.specs.declared.Grammar.{Grammar}
use Rattle.tokens.specs.declared.Leaf.TheVariants.{False, True, Now, Next, Var, Reg}
use Rattle.tokens.specs.declared.Join.TheVariants.{And, Or}
use Rattle.tokens.specs.declared.Mode.TheVariants as mode
use Rattle.tokens.specs.declared.Fix.TheVariants.{Mu, Nu}
use Rattle.tokens.specs.declared.Two.TheVariants.{Join as Joins, Until}
use Rattle.tokens.specs.declared.Token.TheVariants.{Leaf as LeafToken, Not, Both, Modal, Binder}
use Rattle.formula.specs.Parse.{depth_limit}

-- the bytes of a formula in prefix order, by document 01's table
unfoldable pub bytes_of : Form → List ℕ
bytes_of bot = 0x00 ∷ []
bytes_of top = 0x01 ∷ []
bytes_of (neg f) = 0x02 ∷ bytes_of f
bytes_of (conj f g) = 0x03 ∷ (bytes_of f ++ bytes_of g)
bytes_of (disj f g) = 0x04 ∷ (bytes_of f ++ bytes_of g)
bytes_of (now p) = (0x10 + p) ∷ []
bytes_of (next p) = (0x20 + p) ∷ []
bytes_of (var P) = (0x30 + P) ∷ []
bytes_of (reg r) = (0x40 + r) ∷ []
bytes_of (box t f) = (0x60 + t) ∷ bytes_of f
bytes_of (dia t f) = (0x68 + t) ∷ bytes_of f
bytes_of (mu P f) = (0x70 + P) ∷ bytes_of f
bytes_of (nu P f) = (0x80 + P) ∷ bytes_of f
bytes_of (until true t f g) = (0x90 + t) ∷ (bytes_of f ++ bytes_of g)
bytes_of (until false t f g) = (0x98 + t) ∷ (bytes_of f ++ bytes_of g)

-- every token of a formula is one of the table, with its number among its bytes, and the grammar takes it
unfoldable pub takes : ℕ → Grammar → Form → Bool
takes n g bot = allowed (LeafToken False) n g
takes n g top = allowed (LeafToken True) n g
takes n g (neg f) = allowed Not n g && takes n g f
takes n g (conj f h) = allowed (Both (Joins And)) n g && (takes n g f && takes n g h)
takes n g (disj f h) = allowed (Both (Joins Or)) n g && (takes n g f && takes n g h)
takes n g (now p) = ltb p 16 && allowed (LeafToken (Now p)) n g
takes n g (next p) = ltb p 16 && allowed (LeafToken (Next p)) n g
takes n g (var P) = ltb P 16 && allowed (LeafToken (Var P)) n g
takes n g (reg r) = ltb r 32 && allowed (LeafToken (Reg r)) n g
takes n g (box t f) = (ltb t 8 && allowed (Modal mode.All t) n g) && takes n g f
takes n g (dia t f) = (ltb t 8 && allowed (Modal mode.Some t) n g) && takes n g f
takes n g (mu P f) = (ltb P 16 && allowed (Binder Mu P) n g) && takes n g f
takes n g (nu P f) = (ltb P 16 && allowed (Binder Nu P) n g) && takes n g f
takes n g (until true t f h) = (ltb t 8 && allowed (Both (Until mode.Some t)) n g) && (takes n g f && takes n g h)
takes n g (until false t f h) = (ltb t 8 && allowed (Both (Until mode.All t)) n g) && (takes n g f && takes n g h)

-- "Two length bytes L, big-endian ..; then L bytes: version 1, then one formula in prefix order"
abbrev pub frame_of : ℕ → Form → List ℕ
frame_of version f = (1 + length (bytes_of f)) / 256 ∷ (1 + length (bytes_of f)) % 256 ∷ version ∷ bytes_of f

-- the bytes are the frame of a formula that the call takes; L is at least 2 since every formula has a byte (`bytes-some`)
pub record Framing (k : Kind) (n : ℕ) (bs : List ℕ) (f : Form) : Type 0 where
  pub version : ℕ
  pub grammar : Grammar
  pub known : grammar_of k version ≡ Some grammar
  pub is : bs ≡ frame_of version f
  pub deep : depth f ≤ depth_limit
  pub taken : takes n grammar f ≡ true
  pub short : length (bytes_of f) ≤ 1023
