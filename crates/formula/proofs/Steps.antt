-- One step of reading: what `parse` does by the token at a place. Assumes nothing.
use Rattle.std.specs.Prelude.{Option, Some}
use mathlib.Core.Path.{◌≡◌, refl, ap, ◌∙◌}
use mathlib.Core.List.{List}
use Prim.Native.Nat.{ℕ, zero, suc, ◌+◌, ◌-◌, ◌<◌}
use native.Mathlib.Omega.{arith}
use native.Mathlib.Numerals.{sub-one}
use lib.ListN.{length}
use Rattle.mucalculus.specs.Form.{Form, neg}
use Rattle.tokens.specs.Tokens.{lead_at}
use Rattle.tokens.proofs.Leads.{lead_read}
use Rattle.tokens.specs.declared.Grammar.{Grammar}
use Rattle.tokens.specs.declared.Mode.{Mode}
use Rattle.tokens.specs.declared.Fix.{Fix}
use Rattle.tokens.specs.declared.Token.{Token}
use Rattle.tokens.specs.declared.Token.TheVariants.{Not, Modal, Binder}
use Rattle.formula.specs.Parse.{modal_form, binder_form, Got, fails, got, one, grown, parse}

-- an operator of one part: its token, and what it makes of the part
pub data Unary : Token → (Form → Form) → Type 0 where
  is-not : Unary Not neg
  is-modal : (m : Mode) (t : ℕ) → Unary (Modal m t) (modal_form m t)
  is_binder : (x : Fix) (P : ℕ) → Unary (Binder x P) (binder_form x P)

pub not-got : {f : Form} {e : ℕ} → fails ≡ got f e → ⊥
not-got z = let y : ◌≡◌ {A = ℕ} 0 1 = cc in omega arith

module _ (n : ℕ) (g : Grammar) (bs : List ℕ) (at : ℕ) where
  -- a token was read only inside the bytes
  pub lead_inside : {t : Token} → lead_at n g bs at ≡ Some t → at < length bs
  lead_inside e = (lead_read n g bs at e).inside

  module _ (d : ℕ) where
    -- with no depth left nothing is read
    pub parse-zero : d ≡ 0 → parse n g d bs at ≡ fails
    unfolding parse
    parse-zero e = rw e

    pub parse-step : 0 < d → parse n g d bs at ≡ grown (lead_at n g bs at) (at + 1) (parse n g (d - 1) bs)
    unfolding parse
    parse-step = by-depth d
      where
        by-depth : (d : ℕ) → 0 < d → parse n g d bs at ≡ grown (lead_at n g bs at) (at + 1) (parse n g (d - 1) bs)
        by-depth zero h = absurd (omega arith)
        by-depth (suc d) h = rw (sub-one (suc d))

    -- the same by the token that stands there
    pub parse-at : 0 < d → {ld : Option Token} → lead_at n g bs at ≡ ld → parse n g d bs at ≡ grown ld (at + 1) (parse n g (d - 1) bs)
    parse-at some e = parse-step some ∙ ap (λ (x : Option Token). grown x (at + 1) (parse n g (d - 1) bs)) e

pub grown_unary : {t : Token} {c : Form → Form} → Unary t c → (after : ℕ) (read : ℕ → Got) → grown (Some t) after read ≡ one c (read after)
grown_unary is-not after read = refl
grown_unary (is-modal m t) after read = refl
grown_unary (is_binder x P) after read = refl
