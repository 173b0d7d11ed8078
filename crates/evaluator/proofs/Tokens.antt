-- By the token at a place: the formula there and its parts, in either grammar. Assumes nothing.
use Rattle.std.specs.Prelude.{Option, Some, None}
use mathlib.Core.Path.{◌≡◌, refl, sym, ap, ◌∙◌}
use mathlib.Core.Bool.{true, true≢false}
use mathlib.Core.List.{List}
use Prim.Native.Nat.{ℕ, ◌+◌, ◌-◌, ◌<◌}
use native.Mathlib.Omega.{arith}
use lib.ListN.{length}
use Rattle.mucalculus.specs.Form.{Form}
use Rattle.tokens.specs.Tokens.{lead_at, allowed}
use Rattle.tokens.proofs.Leads.{lead_read}
use Rattle.tokens.specs.declared.Grammar.{Grammar}
use Rattle.tokens.specs.declared.Leaf.{Leaf}
use Rattle.tokens.specs.declared.Two.{Two}
use Rattle.tokens.specs.declared.Token.{Token}
use Rattle.tokens.specs.declared.Token.TheVariants.{Leaf as LeafToken, Both}
use Rattle.formula.specs.Parse.{leaf_form, two_form, Got, fails, got, is_formula, form_of, parse}
use Rattle.formula.proofs.Parse.{end_of}
use Rattle.formula.proofs.Steps.{Unary, lead_inside}
use Rattle.evaluator.specs.Scene.{Stands}
use Rattle.formula.proofs.Trees.{TwoParts, some-depth, some-token, tree_leaf, tree_one, tree_both}

is-got : (p : Got) → is_formula p ≡ true → p ≡ got (form_of p) (end_of p)
is-got fails h = absurd (true≢false (sym h))
is-got (got f e) h = refl

module _ {n : ℕ} {g : Grammar} {bs : List ℕ} {at depth : ℕ} {f : Form} {e : ℕ} (r : Stands n g bs at depth f e) where
  whole : is_formula (parse n g depth bs at) ≡ true
  whole = ap is_formula r.reads

  pub read-depth : 0 < depth
  read-depth = let h = some-depth n g depth bs at whole in omega arith

  module _ {ld : Option Token} (found : ld ≡ lead_at n g bs at) where
    pub read-token : ld ≡ None → ⊥
    read-token = some-token n g depth bs at whole found

    module _ {t : Token} (is : ld ≡ Some t) where
      pub read-inside : at < length bs
      read-inside = lead_inside n g bs at (sym found ∙ is)

      pub read-allowed : {u : Token} → t ≡ u → allowed u n g ≡ true
      read-allowed one = (lead_read n g bs at (sym found ∙ is ∙ ap Some one)).taken-by

      -- a leaf
      module _ {l : Leaf} (leaf : t ≡ LeafToken l) where
        leaf-got : got f e ≡ got (leaf_form l) (at + 1)
        leaf-got = sym r.reads ∙ tree_leaf n g depth bs at whole found is leaf

        pub leaf_form_lem : f ≡ leaf_form l
        leaf_form_lem = ap form_of leaf-got

        pub leaf-end : e ≡ at + 1
        leaf-end = ap end_of leaf-got

      -- an operator of one part
      module _ {u : Token} (one : t ≡ u) {c : Form → Form} (op : Unary u c) where
        pub inner : Form
        inner = form_of (parse n g (depth - 1) bs (at + 1))

        pub one_form : f ≡ c inner
        unfolding inner
        one_form = ap form_of (sym r.reads) ∙ (tree_one n g depth bs at whole found is one op).form

        pub one-stands : Stands n g bs (at + 1) (depth - 1) inner e
        unfolding inner
        one-stands =
            let q = tree_one n g depth bs at whole found is one op in
            record { reads = is-got (parse n g (depth - 1) bs (at + 1)) q.read ∙ ap (got inner) (sym q.end ∙ ap end_of r.reads) }

      -- an operator of two parts
      module _ {j : Two} (two : t ≡ Both j) where
        first : Got
        first = parse n g (depth - 1) bs (at + 1)

        second : Got
        second = parse n g (depth - 1) bs (end_of first)

        parts : TwoParts (two_form j) (parse n g depth bs at) first second
        unfolding first second
        parts = tree_both n g depth bs at whole found is two

        pub left : Form
        left = form_of first

        pub right : Form
        right = form_of second

        pub middle : ℕ
        middle = end_of first

        pub both-form : f ≡ two_form j left right
        unfolding left right
        both-form = ap form_of (sym r.reads) ∙ parts.form

        pub left-stands : Stands n g bs (at + 1) (depth - 1) left middle
        unfolding left middle first
        left-stands = record { reads = is-got first parts.read₁ }

        pub right-stands : Stands n g bs middle (depth - 1) right e
        unfolding right middle second
        right-stands = record { reads = is-got second parts.read₂ ∙ ap (got (form_of second)) (sym parts.end ∙ ap end_of r.reads) }
