-- The table of bytes read backwards: the byte of a token, and that a byte and its token tell each other. Assumes nothing.
use Rattle.std.specs.Prelude.{Some}
use mathlib.Core.Path.{◌≡◌, refl, ap, subst, ◌∙◌}
use mathlib.Core.Bool.{Bool, true, false, ◌&&◌, cond}
use mathlib.Core.List.{List, [], ◌∷◌}
use Prim.Native.Nat.{ℕ, ◌+◌, ◌-◌, ◌≤◌}
use native.Mathlib.Omega.{arith}
use lib.Dec.{ltb, leb}
use lib.ListN.{take, drop}
use borrow.Author.Tests.{ltb-true, lt-ltb, leb-true}
use Rattle.tokens.specs.Tokens.{Line, table, lookup, token_of}
use Rattle.tokens.specs.declared.Leaf.TheVariants.{False, True, Now, Next, Var, Reg}
use Rattle.tokens.specs.declared.Join.TheVariants.{And, Or}
use Rattle.tokens.specs.declared.Mode.TheVariants as mode
use Rattle.tokens.specs.declared.Fix.TheVariants.{Mu, Nu}
use Rattle.tokens.specs.declared.Two.TheVariants.{Join, Until}
use Rattle.tokens.specs.declared.Token.{Token}
use Rattle.tokens.specs.declared.Token.TheVariants.{Leaf as LeafToken, Not, Both, Modal, Binder}
use Rattle.tokens.proofs.Table.{both_true, end_below, in-line}

abbrev pub byte_of : Token → ℕ
byte_of (LeafToken False) = 0x00
byte_of (LeafToken True) = 0x01
byte_of Not = 0x02
byte_of (Both (Join And)) = 0x03
byte_of (Both (Join Or)) = 0x04
byte_of (LeafToken (Now p)) = 0x10 + p
byte_of (LeafToken (Next p)) = 0x20 + p
byte_of (LeafToken (Var P)) = 0x30 + P
byte_of (LeafToken (Reg r)) = 0x40 + r
byte_of (Modal mode.All t) = 0x60 + t
byte_of (Modal mode.Some t) = 0x68 + t
byte_of (Binder Mu P) = 0x70 + P
byte_of (Binder Nu P) = 0x80 + P
byte_of (Both (Until mode.Some t)) = 0x90 + t
byte_of (Both (Until mode.All t)) = 0x98 + t

-- the token's number is one of its bytes'
abbrev pub fits : Token → Bool
fits (LeafToken False) = true
fits (LeafToken True) = true
fits Not = true
fits (Both (Join j)) = true
fits (LeafToken (Now p)) = ltb p 16
fits (LeafToken (Next p)) = ltb p 16
fits (LeafToken (Var P)) = ltb P 16
fits (LeafToken (Reg r)) = ltb r 32
fits (Modal m t) = ltb t 8
fits (Binder x P) = ltb P 16
fits (Both (Until m t)) = ltb t 8

-- the byte with number p of the table's line after k others
at-line : (k : ℕ) {l : Line} {ls : List Line} → drop k table ≡ l ∷ ls → end_below l.first (take k table) ≡ true → (p : ℕ)
    → l.first + p ≤ l.last → token_of (l.first + p) ≡ Some (l.token p)
at-line k {l} d e p h =
    let same : l.first + p - l.first ≡ p = omega arith in
    in-line (l.first + p) k d e (omega arith) h ∙ ap (λ (x : ℕ). Some (l.token x)) same

-- the byte of a token means it
pub token_byte : (t : Token) → fits t ≡ true → token_of (byte_of t) ≡ Some t
token_byte (LeafToken False) h = at-line 0 refl refl 0 (omega arith)
token_byte (LeafToken True) h = at-line 1 refl refl 0 (omega arith)
token_byte Not h = at-line 2 refl refl 0 (omega arith)
token_byte (Both (Join And)) h = at-line 3 refl refl 0 (omega arith)
token_byte (Both (Join Or)) h = at-line 4 refl refl 0 (omega arith)
token_byte (LeafToken (Now p)) h = at-line 5 refl refl p (omega (arith, ltb-true p 16 h))
token_byte (LeafToken (Next p)) h = at-line 6 refl refl p (omega (arith, ltb-true p 16 h))
token_byte (LeafToken (Var P)) h = at-line 7 refl refl P (omega (arith, ltb-true P 16 h))
token_byte (LeafToken (Reg r)) h = at-line 8 refl refl r (omega (arith, ltb-true r 32 h))
token_byte (Modal mode.All t) h = at-line 9 refl refl t (omega (arith, ltb-true t 8 h))
token_byte (Modal mode.Some t) h = at-line 10 refl refl t (omega (arith, ltb-true t 8 h))
token_byte (Binder Mu P) h = at-line 11 refl refl P (omega (arith, ltb-true P 16 h))
token_byte (Binder Nu P) h = at-line 12 refl refl P (omega (arith, ltb-true P 16 h))
token_byte (Both (Until mode.Some t)) h = at-line 13 refl refl t (omega (arith, ltb-true t 8 h))
token_byte (Both (Until mode.All t)) h = at-line 14 refl refl t (omega (arith, ltb-true t 8 h))

-- what a byte's token says of the byte
pub record Right (b : ℕ) (t : Token) : Type 0 where
  pub byte : byte_of t ≡ b
  pub within : fits t ≡ true

-- the tokens of a line are right
abbrev RightLine : Line → Type 0
RightLine l = (p : ℕ) → l.first + p ≤ l.last → Right (l.first + p) (l.token p)

abbrev RightLines : List Line → Type 0
RightLines [] = Unit {0}
RightLines (l ∷ ls) = RightLine l × RightLines ls

alone : (b : ℕ) (t : Token) → byte_of t ≡ b → fits t ≡ true → (p : ℕ) → b + p ≤ b → Right (b + p) t
alone b t e w p h = record { byte = e ∙ omega arith; within = w }

table-right : RightLines table
table-right = (
  alone 0x00 (LeafToken False) refl refl,
  (
    alone 0x01 (LeafToken True) refl refl,
    (
      alone 0x02 Not refl refl,
      (
        alone 0x03 (Both (Join And)) refl refl,
        (
          alone 0x04 (Both (Join Or)) refl refl,
          (
            λ p h. record { byte = refl; within = lt-ltb p 16 (omega arith) },
            (
              λ p h. record { byte = refl; within = lt-ltb p 16 (omega arith) },
              (
                λ p h. record { byte = refl; within = lt-ltb p 16 (omega arith) },
                (
                  λ r h. record { byte = refl; within = lt-ltb r 32 (omega arith) },
                  (
                    λ t h. record { byte = refl; within = lt-ltb t 8 (omega arith) },
                    (
                      λ t h. record { byte = refl; within = lt-ltb t 8 (omega arith) },
                      (
                        λ p h. record { byte = refl; within = lt-ltb p 16 (omega arith) },
                        (
                          λ p h. record { byte = refl; within = lt-ltb p 16 (omega arith) },
                          (
                            λ t h. record { byte = refl; within = lt-ltb t 8 (omega arith) },
                            (
                              λ t h. record { byte = refl; within = lt-ltb t 8 (omega arith) },
                              tt,
                            ),
                          ),
                        ),
                      ),
                    ),
                  ),
                ),
              ),
            ),
          ),
        ),
      ),
    ),
  ),
)

lookup-right : (ls : List Line) → RightLines ls → (b : ℕ) {t : Token} → lookup ls b ≡ Some t → Right b t
unfolding lookup
lookup-right [] rs b {t} e = absurd (let z : ◌≡◌ {A = ℕ} 0 1 = cc in omega arith)
lookup-right (l ∷ ls) rs b {t} e = in-line-or (leb l.first b && leb b l.last) refl e (λ q. lookup-right ls rs.1 b q)
  where
    in-line-or : (c : Bool) → (leb l.first b && leb b l.last) ≡ c → cond c (Some (l.token (b - l.first))) (lookup ls b) ≡ Some t
        → (lookup ls b ≡ Some t → Right b t) → Right b t
    in-line-or true h q later =
        let p = both_true (leb l.first b) (leb b l.last) h in
        let low = leb-true l.first b p.0 in
        let high = leb-true b l.last p.1 in
        let token : l.token (b - l.first) ≡ t = cc in
        let place : l.first + (b - l.first) ≡ b = omega arith in
        subst (Right b) token (subst (λ (x : ℕ). Right x (l.token (b - l.first))) place (rs.0 (b - l.first) (omega arith)))
    in-line-or false h q later = later q

-- a byte's token has that byte
pub byte_token : (b : ℕ) {t : Token} → token_of b ≡ Some t → Right b t
unfolding token_of
byte_token b e = lookup-right table table-right b e
