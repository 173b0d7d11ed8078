-- By the token at a place: the formula there, its parts, and what they have passed. Assumes nothing.
use Rattle.std.specs.Prelude.{Option, Some}
use mathlib.Core.Path.{◌≡◌, refl, sym, ap, ◌∙◌, subst}
use mathlib.Core.Bool.{Bool, true, false, not, ◌&&◌, true≢false}
use mathlib.Core.List.{List}
use Prim.Native.Nat.{ℕ, ◌+◌, ◌-◌}
use lib.ListN.{get_or, set}
use Rattle.mucalculus.specs.Form.{Form, neg, bound}
use Rattle.tokens.specs.Tokens.{lead_at}
use Rattle.tokens.specs.declared.Grammar.{Grammar}
use Rattle.tokens.specs.declared.Leaf.{Leaf}
use Rattle.tokens.specs.declared.Two.{Two}
use Rattle.tokens.specs.declared.Two.TheVariants.{Until}
use Rattle.tokens.specs.declared.Mode.{Mode}
use Rattle.tokens.specs.declared.Fix.{Fix}
use Rattle.tokens.specs.declared.Token.{Token}
use Rattle.tokens.specs.declared.Token.TheVariants.{Leaf as LeafToken, Not, Both, Modal, Binder}
use Rattle.formula.specs.Parse.{leaf_form, two_form, modal_form, binder_form}
use Rattle.formula.specs.Checks.{filled, two_filled}
use Rattle.formula.proofs.Steps.{is-not, is-modal, is_binder}
use Rattle.formula.proofs.Shapes.{bound-neg, bound-join, bound-modal, bound_binder, filled-neg, filled-join, filled-modal, filled_binder}
use Rattle.evaluator.specs.Scene.{Named, Part}
use Rattle.evaluator.proofs.Tokens.{leaf_form_lem, inner, one_form, one-stands, left, right, middle, both-form, left-stands}
use Rattle.evaluator.proofs.Tokens.{right-stands}

pub and_first : (a b : Bool) → (a && b) ≡ true → a ≡ true
and_first true b h = refl
and_first false b h = h

pub and_second : (a b : Bool) → (a && b) ≡ true → b ≡ true
and_second true b h = h
and_second false b h = absurd (true≢false (sym h))

-- ---- what a formula has passed, its parts have

module _ {scope : List Bool} {regs rels : ℕ → Bool} where
  named-neg : {f g : Form} → f ≡ neg g → Named scope regs rels f → Named scope regs rels g
  named-neg {f} {g} e h =
      record {
        is_bound =
            sym (bound-neg scope g) ∙ ap (bound scope) (sym e) ∙ h.is_bound;
        is_filled =
            sym (filled-neg regs rels g) ∙ ap (filled regs rels) (sym e) ∙ h.is_filled;
      }

  module _ {f : Form} (j : Two) (g h : Form) (e : f ≡ two_form j g h) (p : Named scope regs rels f) where
    both-bound : (bound scope g && bound scope h) ≡ true
    both-bound = sym (bound-join scope j g h) ∙ ap (bound scope) (sym e) ∙ p.is_bound

    all_filled_lem : (two_filled rels j && (filled regs rels g && filled regs rels h)) ≡ true
    all_filled_lem = sym (filled-join regs rels j g h) ∙ ap (filled regs rels) (sym e) ∙ p.is_filled

    both-filled : (filled regs rels g && filled regs rels h) ≡ true
    both-filled = and_second (two_filled rels j) _ all_filled_lem

    named-two : two_filled rels j ≡ true
    named-two = and_first _ (filled regs rels g && filled regs rels h) all_filled_lem

    named-left : Named scope regs rels g
    named-left = record { is_bound = and_first _ _ both-bound; is_filled = and_first _ _ both-filled }

    named-right : Named scope regs rels h
    named-right = record { is_bound = and_second (bound scope g) _ both-bound; is_filled = and_second (filled regs rels g) _ both-filled }

  module _ {f : Form} (m : Mode) (t : ℕ) (g : Form) (e : f ≡ modal_form m t g) (p : Named scope regs rels f) where
    modal-filled : (rels t && filled regs rels g) ≡ true
    modal-filled = sym (filled-modal regs rels m t g) ∙ ap (filled regs rels) (sym e) ∙ p.is_filled

    named-relation : rels t ≡ true
    named-relation = and_first _ _ modal-filled

    named-modal : Named scope regs rels g
    named-modal =
        record {
          is_bound = sym (bound-modal scope m t g) ∙ ap (bound scope) (sym e) ∙ p.is_bound;
          is_filled = and_second (rels t) _ modal-filled;
        }

  named_binder : {f : Form} (x : Fix) (P : ℕ) (g : Form) → f ≡ binder_form x P g → Named scope regs rels f
      → Named (set scope P true) regs rels g
  named_binder {f} x P g e p = record {
    is_bound = and_second (not (get_or scope P false)) _ (sym (bound_binder scope x P g) ∙ ap (bound scope) (sym e) ∙ p.is_bound);
    is_filled = sym (filled_binder regs rels x P g) ∙ ap (filled regs rels) (sym e) ∙ p.is_filled;
  }

-- ---- by the token

module _ {g : Grammar} {n : ℕ} {bs : List ℕ} {at depth : ℕ} {scope : List Bool}
    {regs rels : ℕ → Bool} {f : Form} {e : ℕ} (p : Part g n bs at depth scope regs rels f e)
    {ld : Option Token} (found : ld ≡ lead_at n g bs at) {t : Token} (is : ld ≡ Some t) where
  pub leaf-named : {l : Leaf} → t ≡ LeafToken l → Named scope regs rels (leaf_form l)
  leaf-named leaf = subst (Named scope regs rels) (leaf_form_lem p.stands found is leaf) p.named

  pub not-part : (one : t ≡ Not) → Part g n bs (at + 1) (depth - 1) scope regs rels (inner p.stands found is one is-not) e
  not-part one =
      record {
        stands = one-stands p.stands found is one is-not;
        named = named-neg (one_form p.stands found is one is-not) p.named;
      }

  pub modal-part : {m : Mode} {r : ℕ} (one : t ≡ Modal m r)
      → Part g n bs (at + 1) (depth - 1) scope regs rels (inner p.stands found is one (is-modal m r)) e
  modal-part {m} {r} one =
      record {
        stands =
            one-stands p.stands found is one (is-modal m r);
        named =
            named-modal m r _ (one_form p.stands found is one (is-modal m r)) p.named;
      }

  pub modal-relation : {m : Mode} {r : ℕ} (one : t ≡ Modal m r) → rels r ≡ true
  modal-relation {m} {r} one = named-relation m r _ (one_form p.stands found is one (is-modal m r)) p.named

  pub binder_part : {x : Fix} {P : ℕ} (one : t ≡ Binder x P)
      → Part g n bs (at + 1) (depth - 1) (set scope P true) regs rels (inner p.stands found is one (is_binder x P)) e
  binder_part {x} {P} one =
      record {
        stands =
            one-stands p.stands found is one (is_binder x P);
        named =
            named_binder x P _ (one_form p.stands found is one (is_binder x P)) p.named;
      }

  module _ {j : Two} (two : t ≡ Both j) where
    pub left-part : Part g n bs (at + 1) (depth - 1) scope regs rels (left p.stands found is two) (middle p.stands found is two)
    left-part =
        record { stands = left-stands p.stands found is two; named = named-left j _ _ (both-form p.stands found is two) p.named }

    pub right-part : Part g n bs (middle p.stands found is two) (depth - 1) scope regs rels (right p.stands found is two) e
    right-part =
        record { stands = right-stands p.stands found is two; named = named-right j _ _ (both-form p.stands found is two) p.named }

  pub until-relation : {m : Mode} {r : ℕ} (two : t ≡ Both (Until m r)) → rels r ≡ true
  until-relation {m} {r} two = named-two (Until m r) _ _ (both-form p.stands found is two) p.named
