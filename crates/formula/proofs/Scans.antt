-- What the pass of checks 5 and 12 answers, by the token at its place: an equation for each kind of token. Assumes nothing.
use Rattle.std.specs.Prelude.{Option, Some, None}
use mathlib.Core.Path.{◌≡◌, refl, sym, ap, ap₂, ◌∙◌}
use mathlib.Core.Bool.{Bool, true, false, not, ◌&&◌, ◌||◌, cond, not-not}
use mathlib.Core.List.{List}
use Prim.Native.Nat.{ℕ, ◌+◌, ◌-◌, ◌^◌, ◌<◌}
use native.Mathlib.Omega.{arith}
use lib.Bits.{bit_or, bit_xor}
use lib.Dec.{eqb}
use borrow.Author.Tests.{eqb-true, ltb-true}
use Rattle.mucalculus.specs.Form.{Form, neg, bound, lacks, mentioned}
use Rattle.mucalculus.specs.Means.{bit}
use Rattle.tokens.specs.Tokens.{lead_at}
use Rattle.tokens.proofs.Leads.{lead_read}
use Rattle.tokens.proofs.Bytes.{fits, byte_token}
use Rattle.tokens.specs.declared.Grammar.{Grammar}
use Rattle.tokens.specs.declared.Leaf.{Leaf}
use Rattle.tokens.specs.declared.Leaf.TheVariants.{Var}
use Rattle.tokens.specs.declared.Mode.{Mode}
use Rattle.tokens.specs.declared.Fix.{Fix}
use Rattle.tokens.specs.declared.Two.{Two}
use Rattle.tokens.specs.declared.Token.{Token}
use Rattle.tokens.specs.declared.Token.TheVariants.{Leaf as LeafToken, Both, Binder}
use Rattle.formula.specs.Parse.{leaf_form, two_form, modal_form, binder_form, Got, fails, got, one, two, grown, parse}
use Rattle.formula.specs.Scans.{scanned, bits, mask, free_in, scan_of, joined_of, without, closed_of}
use Rattle.formula.specs.declared.Scan.{Scan}
use Rattle.formula.proofs.Steps.{Unary, parse-zero, parse-at, grown_unary}
use Rattle.formula.proofs.Shapes.{bound-neg, bound-join, bound-modal, bound_binder, mentioned-neg, mentioned-join, mentioned-modal}
use Rattle.formula.proofs.Shapes.{mentioned_binder, lacks-neg, lacks-join, lacks-modal, lacks_binder}
use Rattle.formula.proofs.Masks.{bits-has, bits_with, mask-same, mask-has, mask-or, mask_one, mask-without}

-- ---- the free variables of an operator, by those of its parts

-- a word has the bit of a variable exactly where the variable occurs free
pub free-lacks : (P : ℕ) (f : Form) → P < 16 → bit P (free_in f) ≡ not (lacks P f)
free-lacks P f h = mask-has 16 (λ Q. not (lacks Q f)) P h

not-and : (a b : Bool) → not (a && b) ≡ (not a || not b)
not-and true b = refl
not-and false b = refl

not-or : (a b : Bool) → not (a || b) ≡ (not a && not b)
not-or true b = refl
not-or false b = refl

free-join : (w : Two) (f g : Form) → free_in (two_form w f g) ≡ bit_or (free_in f) (free_in g)
free-join w f g =
    mask-same 16 (λ P. ap not (lacks-join P w f g) ∙ not-and (lacks P f) (lacks P g))
    ∙ sym (mask-or 16 (λ P. not (lacks P f)) (λ P. not (lacks P g)))

free_binder : (x : Fix) (P : ℕ) (f : Form) → P < 16 → free_in (binder_form x P f) ≡ without P (free_in f)
free_binder x P f h = mask-same 16 (λ Q. ap not (lacks_binder Q x P f) ∙ not-or (eqb P Q) (lacks Q f)) ∙ go (lacks P f) refl
  where
    -- what lacks P lacks no more without it
    lacking : lacks P f ≡ true → (Q : ℕ) → (not (eqb P Q) && not (lacks Q f)) ≡ not (lacks Q f)
    lacking e Q = each (eqb P Q) refl
      where
        each : (b : Bool) → eqb P Q ≡ b → (not b && not (lacks Q f)) ≡ not (lacks Q f)
        each true q = sym (ap not (ap (λ (y : ℕ). lacks y f) (sym (eqb-true P Q q)) ∙ e))
        each false q = refl

    go : (b : Bool) → lacks P f ≡ b → mask 16 (λ Q. not (eqb P Q) && not (lacks Q f)) ≡ without P (free_in f)
    go false e =
        sym (ap (λ (c : Bool). cond c (bit_xor (free_in f) (2 ^ P)) (free_in f)) (free-lacks P f h ∙ ap not e)
        ∙ mask-without 16 (λ Q. not (lacks Q f)) P h (ap not e))
    go true e =
        mask-same 16 (lacking e) ∙ sym (ap (λ (c : Bool). cond c (bit_xor (free_in f) (2 ^ P)) (free_in f)) (free-lacks P f h ∙ ap not e))

-- ---- what the pass says of an operator

past_is : {e : ℕ} {b b' m m' : Bool} {w w' : ℕ} → b ≡ b' → m ≡ m' → w ≡ w' → Some (scanned e b m w) ≡ Some (scanned e b' m' w')
past_is {e} hb hm hw = rw (hb, hm, hw)

-- the parts of an answer
abbrev pub place_of : Option Scan → ℕ
place_of None = 0
place_of (Some s) = s.next

abbrev pub bound_of : Option Scan → Bool
bound_of None = false
bound_of (Some s) = s.bound

abbrev pub named_of : Option Scan → Bool
named_of None = false
named_of (Some s) = s.named

abbrev free_of : Option Scan → ℕ
free_of None = 0
free_of (Some s) = s.free

pub not-past : {e : ℕ} {b m : Bool} {w : ℕ} → None ≡ Some (scanned e b m w) → ⊥
not-past z = let y : ◌≡◌ {A = ℕ} 0 1 = cc in omega arith

-- an operator of one part that binds nothing says what its part does
abbrev Alike : (Form → Form) → Type 0
Alike c = (scope : ℕ) (f : Form) (e : ℕ) → scan_of scope (got (c f) e) ≡ scan_of scope (got f e)

pub alike_neg : Alike neg
alike_neg scope f e = past_is (bound-neg _ f) (mentioned-neg f) (mask-same 16 (λ P. ap not (lacks-neg P f)))

pub alike_modal : (m : Mode) (t : ℕ) → Alike (modal_form m t)
alike_modal m t scope f e = past_is (bound-modal _ m t f) (mentioned-modal m t f) (mask-same 16 (λ P. ap not (lacks-modal P m t f)))

scan_one : (c : Form → Form) → Alike c → (scope : ℕ) (p : Got) → scan_of scope (one c p) ≡ scan_of scope p
scan_one c h scope fails = refl
scan_one c h scope (got f e) = h scope f e

-- a binder closes its variable, which is below 16
scan_bind : (x : Fix) (P scope : ℕ) → P < 16 → (p : Got)
    → closed_of (not (bit P scope)) P (scan_of (bit_or scope (2 ^ P)) p) ≡ scan_of scope (one (binder_form x P) p)
scan_bind x P scope h fails = refl
scan_bind x P scope h (got f e) = sym (past_is
    (bound_binder (bits 16 scope) x P f
    ∙ ap₂ (λ (b : Bool) (s : List Bool). not b && bound s f) (bits-has 16 scope P h) (bits_with 16 scope P h))
    (mentioned_binder x P f ∙ ap (λ (b : Bool). b && mentioned f) (sym (free-lacks P f h)))
    (free_binder x P f h))

-- two parts are joined
scan_second : (w : Two) (scope : ℕ) (f : Form) (p : Got)
    → joined_of (bound (bits 16 scope) f) (mentioned f) (free_in f) (scan_of scope p) ≡ scan_of scope (one (two_form w f) p)
scan_second w scope f fails = refl
scan_second w scope f (got g e) = sym (past_is (bound-join _ w f g) (mentioned-join w f g) (free-join w f g))

scan_two : (w : Two) (scope : ℕ) (read : ℕ → Got) {mid : ℕ} {b m : Bool} {v : ℕ} (p : Got) → scan_of scope p ≡ Some (scanned mid b m v)
    → joined_of b m v (scan_of scope (read mid)) ≡ scan_of scope (two (two_form w) read p)
scan_two w scope read fails z = absurd (not-past z)
scan_two w scope read {mid} {b} {m} {v} (got f e) z =
    let place : e ≡ mid = ap place_of z in
    let five : bound (bits 16 scope) f ≡ b = ap bound_of z in
    let twelve : mentioned f ≡ m = ap named_of z in
    let free : free_in f ≡ v = ap free_of z in
    rw (← place, ← five, ← twelve, ← free) (scan_second w scope f (read e))

scan_two_bad : (w : Two) (scope : ℕ) (read : ℕ → Got) (p : Got) → scan_of scope p ≡ None
    → None ≡ scan_of scope (two (two_form w) read p)
scan_two_bad w scope read fails z = refl
scan_two_bad w scope read (got f e) z = absurd (not-past (sym z))

-- ---- what the pass answers

-- the pass at a leaf: a variable is below 16
pub scan_leaf : (scope next : ℕ) {l : Leaf} → ((P : ℕ) → l ≡ Var P → P < 16) → {P : ℕ} → l ≡ Var P → {b : Bool} → b ≡ bit P scope → {w : ℕ}
    → w ≡ 2 ^ P → Some (scanned next b true w) ≡ scan_of scope (got (leaf_form l) next)
unfolding bound mentioned lacks
scan_leaf scope next {l} small {P} e hb hw =
    rw e (past_is (hb ∙ sym (bits-has 16 scope P (small P e))) refl
    (hw ∙ mask_one 16 P (small P e) ∙ mask-same 16 (λ Q. sym (not-not (eqb P Q)))))

-- the answer on a binder of P, by whether P is free in its body
module _ (fresh : Bool) (P : ℕ) {body : Option Scan} {e : ℕ} {b m : Bool} {w : ℕ} (is : body ≡ Some (scanned e b m w)) {h : Bool} (has : h ≡ bit P w) where
  closing : {c : Bool} → h ≡ c → Some (scanned e (fresh && b) (c && m) (cond c (bit_xor w (2 ^ P)) w)) ≡ closed_of fresh P body
  closing {c} k =
      sym (ap (closed_of fresh P) is ∙ ap (λ (x : Bool). Some (scanned e (fresh && b) (x && m) (cond x (bit_xor w (2 ^ P)) w))) (sym has ∙ k))

  pub closed-free : h ≡ true → {v : ℕ} → v ≡ 2 ^ P → Some (scanned e (fresh && b) m (bit_xor w v)) ≡ closed_of fresh P body
  closed-free k hv = ap (λ (x : ℕ). Some (scanned e (fresh && b) m (bit_xor w x))) hv ∙ closing k

  pub closed_vacuous : h ≡ false → Some (scanned e (fresh && b) false w) ≡ closed_of fresh P body
  closed_vacuous k = closing k

-- a variable that was read is below 16
module _ (n : ℕ) (g : Grammar) (bs : List ℕ) (at : ℕ) {ld : Option Token} (found : ld ≡ lead_at n g bs at) {t : Token} (is : ld ≡ Some t) where
  within : fits t ≡ true
  within = (byte_token _ (lead_read n g bs at (sym found ∙ is)).token).within

  pub leaf-small : {l : Leaf} → t ≡ LeafToken l → (P : ℕ) → l ≡ Var P → P < 16
  leaf-small e P q = ltb-true P 16 (ap fits (sym (e ∙ ap LeafToken q)) ∙ within)

  pub binder_small : {x : Fix} {P : ℕ} → t ≡ Binder x P → P < 16
  binder_small {x} {P} e = ltb-true P 16 (ap fits (sym e) ∙ within)

-- with no depth left no formula stands at the place
pub scan_zero : (scope n : ℕ) (g : Grammar) (d : ℕ) (bs : List ℕ) (at : ℕ) → d ≡ 0 → None ≡ scan_of scope (parse n g d bs at)
scan_zero scope n g d bs at e = rw (parse-zero n g bs at d e)

-- Below, the code's own equations: `found`, what the token reader ensures; `is`, the token that it gave; and of each result what its call
-- ensures.
module _ (scope n : ℕ) (g : Grammar) (d : ℕ) (bs : List ℕ) (at : ℕ) (some : d ≡ 0 → ⊥) {ld : Option Token} (found : ld ≡ lead_at n g bs at) where
  here : {x : Option Token} → ld ≡ x → scan_of scope (parse n g d bs at) ≡ scan_of scope (grown x (at + 1) (parse n g (d - 1) bs))
  here e = ap (scan_of scope) (parse-at n g bs at d (omega arith) (sym found ∙ e))

  pub scan_bad : ld ≡ None → None ≡ scan_of scope (parse n g d bs at)
  scan_bad e = sym (here e)

  module _ {t : Token} (is : ld ≡ Some t) where
    pub scan_token : {l : Leaf} → t ≡ LeafToken l → {r : Option Scan} → r ≡ scan_of scope (got (leaf_form l) (at + 1))
        → r ≡ scan_of scope (parse n g d bs at)
    scan_token e h = h ∙ sym (here (is ∙ ap Some e))

    pub scan_alike : {u : Token} → t ≡ u → {c : Form → Form} → Unary u c → Alike c → {r : Option Scan}
        → r ≡ scan_of scope (parse n g (d - 1) bs (at + 1)) → r ≡ scan_of scope (parse n g d bs at)
    scan_alike e {c} op same h =
        h ∙ sym
        (here (is ∙ ap Some e) ∙ ap (scan_of scope) (grown_unary op (at + 1) (parse n g (d - 1) bs))
        ∙ scan_one c same scope (parse n g (d - 1) bs (at + 1)))

    -- `hb`, `hi`: what the code reads of the scope, and what it hands on
    pub scan_binder : {x : Fix} {P : ℕ} → t ≡ Binder x P → {b : Bool} → b ≡ bit P scope → {w inner : ℕ} → w ≡ 2 ^ P → inner ≡ bit_or scope w
        → {r₁ : Option Scan} → r₁ ≡ scan_of inner (parse n g (d - 1) bs (at + 1)) → {r : Option Scan} → r ≡ closed_of (not b) P r₁
        → r ≡ scan_of scope (parse n g d bs at)
    scan_binder {x} {P} e hb hw hi h₁ hr =
        hr ∙ rw (hb, h₁, hi, hw) (scan_bind x P scope (binder_small n g bs at found is e) (parse n g (d - 1) bs (at + 1)))
        ∙ sym (here (is ∙ ap Some e))

    module _ {j : Two} (e : t ≡ Both j) {r₁ : Option Scan} (h₁ : r₁ ≡ scan_of scope (parse n g (d - 1) bs (at + 1))) where
      pub scan_both : {mid : ℕ} {b m : Bool} {v : ℕ} → r₁ ≡ Some (scanned mid b m v) → {r₂ : Option Scan} → r₂ ≡ scan_of scope (parse n g (d - 1) bs mid)
          → {r : Option Scan} → r ≡ joined_of b m v r₂ → r ≡ scan_of scope (parse n g d bs at)
      scan_both {b = b} {m = m} {v = v} past h₂ hr =
          hr ∙ ap (joined_of b m v) h₂ ∙ scan_two j scope (parse n g (d - 1) bs) (parse n g (d - 1) bs (at + 1)) (sym h₁ ∙ past)
          ∙ sym (here (is ∙ ap Some e))

      pub scan_both_bad : r₁ ≡ None → None ≡ scan_of scope (parse n g d bs at)
      scan_both_bad bad =
          scan_two_bad j scope (parse n g (d - 1) bs) (parse n g (d - 1) bs (at + 1)) (sym h₁ ∙ bad) ∙ sym (here (is ∙ ap Some e))
