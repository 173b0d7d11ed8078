-- "Version 1 keeps its words": its tokens are those of document 01's own table. Assumes nothing.
use Rattle.std.specs.Prelude.{Some, Option, None}
use mathlib.Core.Path.{◌≡◌, refl, ap, ◌∙◌, subst}
use mathlib.Core.Bool.{Bool, true, false, ◌&&◌, cond}
use mathlib.Core.List.{List, [], ◌∷◌, ◌++◌}
use Prim.Native.Nat.{ℕ, ◌-◌}
use lib.Dec.{ltb, leb}
use lib.ListN.{length, get_or}
use Rattle.tokens.specs.declared.Token.{Token}
use Rattle.tokens.specs.Tokens.{Line, first_words, added_words, lookup, token_of, grammar_of, has_runs, taken, lead_at}
use Rattle.tokens.specs.declared.Kind.{Kind}
use Rattle.tokens.specs.declared.Kind.TheVariants.{Relation, Set, Valid}
use Rattle.tokens.specs.declared.Grammar.{Grammar}
use Rattle.tokens.specs.declared.Grammar.TheVariants.{Pairs, States, Bits}
use Rattle.tokens.specs.declared.Mode.{Mode}
use Rattle.tokens.specs.declared.Mode.TheVariants as mode
use Rattle.tokens.specs.declared.Two.TheVariants.{Until}
use Rattle.tokens.specs.declared.Token.TheVariants.{Both}

-- the first lead, or where it is bad the second
abbrev or_else : Option Token → Option Token → Option Token
or_else (Some t) y = Some t
or_else None y = y

lookup-append : (ls ms : List Line) (b : ℕ) → lookup (ls ++ ms) b ≡ or_else (lookup ls b) (lookup ms b)
unfolding lookup
lookup-append [] ms b = refl
lookup-append (l ∷ ls) ms b = go (leb l.first b && leb b l.last) (lookup-append ls ms b)
  where
    go : (c : Bool) → lookup (ls ++ ms) b ≡ or_else (lookup ls b) (lookup ms b)
        → cond c (Some (l.token (b - l.first))) (lookup (ls ++ ms) b)
        ≡ or_else (cond c (Some (l.token (b - l.first))) (lookup ls b)) (lookup ms b)
    go true below = refl
    go false below = below

module _ (n : ℕ) (g : Grammar) (h : has_runs g ≡ false) where
  until-refused : (m : Mode) (t : ℕ) → taken n g (Some (Both (Until m t))) ≡ None
  until-refused m t = ap (λ (c : Bool). cond c (Some (Both (Until m t))) None) h

  added-refused : (b : ℕ) → taken n g (lookup added_words b) ≡ None
  unfolding lookup
  added-refused b = go (leb 0x90 b && leb b 0x97) (leb 0x98 b && leb b 0x9F)
    where
      go : (c d : Bool) → taken n g (cond c (Some (Both (Until mode.Some (b - 0x90)))) (cond d (Some (Both (Until mode.All (b - 0x98)))) None)) ≡ None
      go true d = until-refused mode.Some (b - 0x90)
      go false true = until-refused mode.All (b - 0x98)
      go false false = refl

  first_alone : (b : ℕ) → taken n g (token_of b) ≡ taken n g (lookup first_words b)
  unfolding token_of
  first_alone b = ap (taken n g) (lookup-append first_words added_words b) ∙ go (lookup first_words b)
    where
      go : (x : Option Token) → taken n g (or_else x (lookup added_words b)) ≡ taken n g x
      go (Some t) = refl
      go None = added-refused b

  -- where formulas do not speak of runs, the token at a place is looked up in document 01's table alone
  first-kept : (bs : List ℕ) (at : ℕ) → lead_at n g bs at ≡ cond (ltb at (length bs)) (taken n g (lookup first_words (get_or bs at 0))) None
  unfolding lead_at
  first-kept bs at = ap (λ (x : Option Token). cond (ltb at (length bs)) x None) (first_alone (get_or bs at 0))

no-runs : (k : Kind) (g : Grammar) → grammar_of k 1 ≡ Some g → has_runs g ≡ false
no-runs Relation g e = let same : Pairs ≡ g = cc in subst (λ (x : Grammar). has_runs x ≡ false) same refl
no-runs Set g e = let same : States ≡ g = cc in subst (λ (x : Grammar). has_runs x ≡ false) same refl
no-runs Valid g e = let same : Bits ≡ g = cc in subst (λ (x : Grammar). has_runs x ≡ false) same refl

-- VERSION 1 KEEPS ITS WORDS: in every call the token at a place is looked up in document 01's table alone
pub version_1_kept : (k : Kind) (g : Grammar) → grammar_of k 1 ≡ Some g
    → (n : ℕ) (bs : List ℕ) (at : ℕ) → lead_at n g bs at ≡ cond (ltb at (length bs)) (taken n g (lookup first_words (get_or bs at 0))) None
version_1_kept k g e n = first-kept n g (no-runs k g e)
