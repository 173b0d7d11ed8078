-- What the token reader's definition says in each case. Assumes nothing.
use Rattle.std.specs.Prelude.{None, Option, Some}
use mathlib.Core.Path.{◌≡◌, refl, ap, subst}
use mathlib.Core.Bool.{Bool, true, false, cond}
use mathlib.Core.List.{List}
use Prim.Native.Nat.{ℕ, ◌<◌, ◌≤◌}
use native.Mathlib.Omega.{arith}
use lib.Dec.{ltb}
use lib.ListN.{length, get_or}
use borrow.Author.Tests.{lt-ltb, le-ltb, ltb-true, ne_eqb}
use Rattle.tokens.specs.Tokens.{token_of, first_of, second_of, grammar_of, allowed, taken, lead_at}
use Rattle.tokens.specs.declared.Kind.{Kind}
use Rattle.tokens.specs.declared.Grammar.{Grammar}
use Rattle.tokens.specs.declared.Token.{Token}

pub not_is : {t : Token} → None ≡ Some t → ⊥
not_is z = let y : ◌≡◌ {A = ℕ} 0 1 = cc in omega arith

module _ (n : ℕ) (g : Grammar) (bs : List ℕ) (at : ℕ) where
  pub lead_is : (t : Token) → at < length bs → token_of (get_or bs at 0) ≡ Some t → allowed t n g ≡ true → lead_at n g bs at ≡ Some t
  unfolding lead_at
  lead_is t h e a = rw (lt-ltb at (length bs) h, e, a)

  pub lead_refused : (t : Token) → at < length bs → token_of (get_or bs at 0) ≡ Some t → allowed t n g ≡ false → lead_at n g bs at ≡ None
  unfolding lead_at
  lead_refused t h e a = rw (lt-ltb at (length bs) h, e, a)

  pub lead_bad : at < length bs → token_of (get_or bs at 0) ≡ None → lead_at n g bs at ≡ None
  unfolding lead_at
  lead_bad h e = rw (lt-ltb at (length bs) h, e)

  pub lead_past : length bs ≤ at → lead_at n g bs at ≡ None
  unfolding lead_at
  lead_past h = rw (le-ltb at (length bs) h)

  -- a token that was read is inside the bytes, the byte's own, and taken
  pub record Read (t : Token) : Type 0 where
    pub inside : at < length bs
    pub token : token_of (get_or bs at 0) ≡ Some t
    pub taken-by : allowed t n g ≡ true

  pub lead_read : {t : Token} → lead_at n g bs at ≡ Some t → Read t
  unfolding lead_at
  lead_read {t} e = go (ltb at (length bs)) refl e
    where
      chose : (u : Token) (c : Bool) → at < length bs → token_of (get_or bs at 0) ≡ Some u → allowed u n g ≡ c → cond c (Some u) None ≡ Some t
          → Read t
      chose u true h e a q = let same : u ≡ t = cc in subst (λ (x : Token). Read x) same (record { inside = h; token = e; taken-by = a })
      chose u false h e a q = absurd (not_is q)

      took : (x : Option Token) → at < length bs → token_of (get_or bs at 0) ≡ x → taken n g x ≡ Some t → Read t
      took (Some u) h e q = chose u (allowed u n g) h e refl q
      took None h e q = absurd (not_is q)

      go : (b : Bool) → ltb at (length bs) ≡ b → cond b (taken n g (token_of (get_or bs at 0))) None ≡ Some t → Read t
      go true h q = took (token_of (get_or bs at 0)) (ltb-true at (length bs) h) refl q
      go false h q = absurd (not_is q)

-- of another version nothing is known
pub grammar_unknown : (k : Kind) (v : ℕ) → (v ≡ 1 → ⊥) → (v ≡ 2 → ⊥) → grammar_of k v ≡ None
grammar_unknown k v h i = rw (ne_eqb v 1 h, ne_eqb v 2 i)

pub grammar_first : (k : Kind) (v : ℕ) → v ≡ 1 → grammar_of k v ≡ first_of k
grammar_first k v e = ap (grammar_of k) e

pub grammar_second : (k : Kind) (v : ℕ) → v ≡ 2 → grammar_of k v ≡ second_of k
grammar_second k v e = ap (grammar_of k) e
