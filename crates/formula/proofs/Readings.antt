-- How a formula was read, step by step; and that reading goes on: a formula ends after the place where it begins. Assumes nothing.
use Rattle.std.specs.Prelude.{Option, Some, None}
use mathlib.Core.Path.{ap, ◌≡◌, refl, sym, subst, ◌∙◌}
use mathlib.Core.Bool.{Bool}
use mathlib.Core.List.{List}
use Prim.Native.Nat.{ℕ, zero, suc, ◌+◌, ◌<◌}
use native.Mathlib.Omega.{arith}
use Rattle.mucalculus.specs.Form.{Form}
use Rattle.tokens.specs.Tokens.{lead_at}
use Rattle.tokens.specs.declared.Grammar.{Grammar}
use Rattle.tokens.specs.declared.Leaf.{Leaf}
use Rattle.tokens.specs.declared.Two.{Two}
use Rattle.tokens.specs.declared.Token.{Token}
use Rattle.tokens.specs.declared.Token.TheVariants.{Leaf as LeafToken, Not, Both, Modal, Binder}
use Rattle.formula.specs.Parse.{leaf_form, two_form, Got, fails, got, one, two, grown, parse}
use Rattle.formula.specs.Checks.{pass_at, pass_of}
use Rattle.formula.specs.declared.Pass.{Pass}
use Rattle.formula.proofs.Steps.{Unary, is-not, is-modal, is_binder, not-got}
use Rattle.formula.proofs.Passes.{not-past, place_of}

-- with depth d, at a place, a formula was read to the place e
pub data Reads (n : ℕ) (g : Grammar) (bs : List ℕ) : ℕ → ℕ → Form → ℕ → Type 0 where
  leaf : {d at : ℕ} {l : Leaf} → lead_at n g bs at ≡ Some (LeafToken l) → Reads n g bs (suc d) at (leaf_form l) (at + 1)
  part : {d at e : ℕ} {t : Token} {c : Form → Form} {f : Form} → Unary t c → lead_at n g bs at ≡ Some t → Reads n g bs d (at + 1) f e
      → Reads n g bs (suc d) at (c f) e
  parts : {d at m e : ℕ} {j : Two} {f h : Form} → lead_at n g bs at ≡ Some (Both j) → Reads n g bs d (at + 1) f m → Reads n g bs d m h e
      → Reads n g bs (suc d) at (two_form j f h) e

module _ (n : ℕ) (g : Grammar) (bs : List ℕ) where
  -- what is read from each place was read step by step
  abbrev All : ℕ → (ℕ → Got) → Type 0
  All d read = (b : ℕ) (f : Form) (e : ℕ) → read b ≡ got f e → Reads n g bs d b f e

  made : {d at : ℕ} {f f' : Form} {e e' : ℕ} → got f e ≡ got f' e' → Reads n g bs d at f e → Reads n g bs d at f' e'
  made {d} {at} {f} {f'} {e} {e'} z r =
      let form : f ≡ f' = cc in
      let end : e ≡ e' = cc in
      subst (λ (x : Form). Reads n g bs d at x e') form (subst (λ (x : ℕ). Reads n g bs d at f x) end r)

  one_reads : {d at : ℕ} {t : Token} {c : Form → Form} → Unary t c → lead_at n g bs at ≡ Some t → (p : Got)
      → ((f : Form) (e : ℕ) → p ≡ got f e → Reads n g bs d (at + 1) f e) → (f : Form) (e : ℕ) → one c p ≡ got f e
      → Reads n g bs (suc d) at f e
  one_reads op is fails up f e z = absurd (not-got z)
  one_reads op is (got f' e') up f e z = made z (part op is (up f' e' refl))

  two_reads : {d at : ℕ} {j : Two} → lead_at n g bs at ≡ Some (Both j) → (f₁ : Form) (m : ℕ) → Reads n g bs d (at + 1) f₁ m → (p : Got)
      → ((f : Form) (e : ℕ) → p ≡ got f e → Reads n g bs d m f e) → (f : Form) (e : ℕ) → one (two_form j f₁) p ≡ got f e
      → Reads n g bs (suc d) at f e
  two_reads is f₁ m r₁ fails up f e z = absurd (not-got z)
  two_reads is f₁ m r₁ (got f₂ e₂) up f e z = made z (parts is r₁ (up f₂ e₂ refl))

  both_reads : {d at : ℕ} {j : Two} → lead_at n g bs at ≡ Some (Both j) → (read : ℕ → Got) → All d read → (p : Got)
      → ((f : Form) (e : ℕ) → p ≡ got f e → Reads n g bs d (at + 1) f e) → (f : Form) (e : ℕ) → two (two_form j) read p ≡ got f e
      → Reads n g bs (suc d) at f e
  both_reads is read all fails up f e z = absurd (not-got z)
  both_reads is read all (got f₁ m) up f e z = two_reads is f₁ m (up f₁ m refl) (read m) (all m) f e z

  grown_reads : (d at : ℕ) (ld : Option Token) → lead_at n g bs at ≡ ld → (read : ℕ → Got) → All d read → (f : Form) (e : ℕ)
      → grown ld (at + 1) read ≡ got f e → Reads n g bs (suc d) at f e
  grown_reads d at None is read all f e z = absurd (not-got z)
  grown_reads d at (Some (LeafToken l)) is read all f e z = made z (leaf is)
  grown_reads d at (Some Not) is read all f e z = one_reads is-not is (read (at + 1)) (all (at + 1)) f e z
  grown_reads d at (Some (Both j)) is read all f e z = both_reads is read all (read (at + 1)) (all (at + 1)) f e z
  grown_reads d at (Some (Modal m t)) is read all f e z = one_reads (is-modal m t) is (read (at + 1)) (all (at + 1)) f e z
  grown_reads d at (Some (Binder x P)) is read all f e z = one_reads (is_binder x P) is (read (at + 1)) (all (at + 1)) f e z

  pub parse_reads : (d at : ℕ) (f : Form) (e : ℕ) → parse n g d bs at ≡ got f e → Reads n g bs d at f e
  unfolding parse
  parse_reads zero at f e z = absurd (not-got z)
  parse_reads (suc d) at f e z = grown_reads d at (lead_at n g bs at) refl (parse n g d bs) (λ b f' e' w. parse_reads d b f' e' w) f e z

  -- a formula that was read ends after the place where it begins
  pub reads_ahead : {d at : ℕ} {f : Form} {e : ℕ} → Reads n g bs d at f e → at < e
  reads_ahead (leaf is) = omega arith
  reads_ahead (part op is r) = omega (arith, reads_ahead r)
  reads_ahead (parts is r₁ r₂) = omega (arith, reads_ahead r₁, reads_ahead r₂)

  -- the same of what a pass answers
  pub pass_ahead : (q : Form → Bool) (d at : ℕ) {r : Option Pass} → r ≡ pass_of q (parse n g d bs at) → {e : ℕ} {ok : Bool} → r ≡ Some (pass_at e ok) → at < e
  pass_ahead q d at h {e} {ok} past = go (parse n g d bs at) refl (sym h ∙ past)
    where
      go : (p : Got) → parse n g d bs at ≡ p → pass_of q p ≡ Some (pass_at e ok) → at < e
      go fails w z = absurd (not-past z)
      go (got f e') w z = let same : e' ≡ e = ap place_of z in omega (arith, reads_ahead (parse_reads d at f e' w))
