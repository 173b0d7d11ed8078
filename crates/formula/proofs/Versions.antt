-- Version 2 reads every formula of version 1 as version 1 does; relation calls and valid refuse it; and the 16 variables of the bytes are
-- below 16. Assumes nothing.
use Rattle.std.specs.Prelude.{Option, None, Some}
use mathlib.Core.Path.{◌≡◌, refl, sym, ap, ◌∙◌, subst}
use mathlib.Core.Bool.{Bool, true, false, not, ◌&&◌, cond}
use mathlib.Core.List.{List}
use Prim.Native.Nat.{ℕ, suc, ◌+◌, ◌<◌}
use native.Mathlib.Omega.{arith}
use lib.Dec.{T, ltb, eqb, eqb→eq, not_T}
use lib.ListN.{get_or}
use borrow.Author.Tests.{ltb-true}
use Rattle.mucalculus.proofs.Sets.{and_in}
use Rattle.mucalculus.specs.Form.{Form, bot, top, neg, conj, disj, now, next, var, reg, box, dia, mu, nu, until}
use Rattle.mucalculus.specs.Written.{absent}
use Rattle.tokens.specs.Tokens.{second_of, grammar_of, allowed, lead_at}
use Rattle.tokens.specs.declared.Kind.{Kind}
use Rattle.tokens.specs.declared.Kind.TheVariants.{Relation, Valid}
use Rattle.tokens.specs.declared.Grammar.{Grammar}
use Rattle.tokens.specs.declared.Grammar.TheVariants.{Pairs, States, Runs, Bits}
use Rattle.tokens.specs.declared.Leaf.TheVariants.{False, True, Now, Next, Var, Reg}
use Rattle.tokens.specs.declared.Mode.TheVariants as mode
use Rattle.tokens.specs.declared.Two.TheVariants.{Join as Joins, Until}
use Rattle.tokens.specs.declared.Token.{Token}
use Rattle.tokens.specs.declared.Token.TheVariants.{Leaf as LeafToken, Not, Both, Modal, Binder}
use Rattle.tokens.proofs.Table.{both_true}
use Rattle.tokens.proofs.Leads.{lead_is, lead_read}
use Rattle.formula.specs.Parse.{two_form, got, one, two, grown, parse, framed, formula_by, formula_of}
use Rattle.formula.specs.Checks.{refusal_of, first_refusal}
use Rattle.formula.proofs.Bytes.{takes}
use Rattle.formula.proofs.Steps.{grown_unary}
use Rattle.formula.proofs.Readings.{Reads, leaf, part, parts, parse_reads}

-- ---- version 2 has the words of version 1

allowed-runs : (n : ℕ) (t : Token) → allowed t n States ≡ true → allowed t n Runs ≡ true
allowed-runs n (LeafToken False) h = h
allowed-runs n (LeafToken True) h = h
allowed-runs n (LeafToken (Now p)) h = h
allowed-runs n (LeafToken (Next p)) h = h
allowed-runs n (LeafToken (Var P)) h = h
allowed-runs n (LeafToken (Reg r)) h = h
allowed-runs n Not h = h
allowed-runs n (Both (Joins j)) h = h
allowed-runs n (Both (Until m t)) h = absurd (let z : ◌≡◌ {A = ℕ} 0 1 = cc in omega arith)
allowed-runs n (Modal m t) h = h
allowed-runs n (Binder x P) h = h

-- a relation's formula may have what valid's may
allowed-bits : (n : ℕ) (t : Token) → allowed t n Bits ≡ true → allowed t n Pairs ≡ true
allowed-bits n (LeafToken False) h = h
allowed-bits n (LeafToken True) h = h
allowed-bits n (LeafToken (Now p)) h = h
allowed-bits n (LeafToken (Next p)) h = absurd (let z : ◌≡◌ {A = ℕ} 0 1 = cc in omega arith)
allowed-bits n (LeafToken (Var P)) h = h
allowed-bits n (LeafToken (Reg r)) h = h
allowed-bits n Not h = h
allowed-bits n (Both (Joins j)) h = h
allowed-bits n (Both (Until m t)) h = h
allowed-bits n (Modal m t) h = h
allowed-bits n (Binder x P) h = h

-- a grammar with more tokens reads what one with fewer does
module _ (n : ℕ) (g k : Grammar) (more : (t : Token) → allowed t n g ≡ true → allowed t n k ≡ true) (bs : List ℕ) where
  lead_more : (at : ℕ) {t : Token} → lead_at n g bs at ≡ Some t → lead_at n k bs at ≡ Some t
  lead_more at {t} e = let r = lead_read n g bs at e in lead_is n k bs at t r.inside r.token (more t r.taken-by)

  reads_more : {d at : ℕ} {f : Form} {e : ℕ} → Reads n g bs d at f e → parse n k d bs at ≡ got f e
  unfolding parse
  reads_more (leaf {d = d} {at = at} is) = ap (λ (x : Option Token). grown x (at + 1) (parse n k d bs)) (lead_more at is)
  reads_more (part {d = d} {at = at} {c = c} op is r) =
      ap (λ (x : Option Token). grown x (at + 1) (parse n k d bs)) (lead_more at is) ∙ grown_unary op (at + 1) (parse n k d bs)
      ∙ ap (one c) (reads_more r)
  reads_more (parts {d = d} {at = at} {j = j} {f = f} is r₁ r₂) =
      ap (λ (x : Option Token). grown x (at + 1) (parse n k d bs)) (lead_more at is) ∙ ap (two (two_form j) (parse n k d bs)) (reads_more r₁)
      ∙ ap (one (two_form j f)) (reads_more r₂)

  parse-more : (d at : ℕ) {f : Form} {e : ℕ} → parse n g d bs at ≡ got f e → parse n k d bs at ≡ got f e
  parse-more d at {f} {e} h = reads_more (parse_reads n g bs d at f e h)

-- what version 1 reads, version 2 reads
pub parse-runs : (n : ℕ) (bs : List ℕ) (d at : ℕ) {f : Form} {e : ℕ} → parse n States d bs at ≡ got f e → parse n Runs d bs at ≡ got f e
parse-runs n bs = parse-more n States Runs (allowed-runs n) bs

-- what valid reads, a relation call reads
pub parse-bits : (n : ℕ) (bs : List ℕ) (d at : ℕ) {f : Form} {e : ℕ} → parse n Bits d bs at ≡ got f e → parse n Pairs d bs at ≡ got f e
parse-bits n bs = parse-more n Bits Pairs (allowed-bits n) bs

-- "Version 2 formulas, for set calls": a call of another kind refuses version 2 with 4
version_refused : (k : Kind) → second_of k ≡ None → (n : ℕ) (regs rels : ℕ → Bool) (bs : List ℕ) → get_or bs 2 0 ≡ 2
    → first_refusal k n regs rels bs ≡ 4
unfolding first_refusal formula_of
version_refused k none n regs rels bs two = ap (λ (r : Option Grammar). refusal_of regs rels (formula_by n bs r)) (go (framed bs))
  where
    go : (c : Bool) → cond c (grammar_of k (get_or bs 2 0)) None ≡ None
    go true = ap (grammar_of k) two ∙ none
    go false = refl

pub relation-refused : (n : ℕ) (regs rels : ℕ → Bool) (bs : List ℕ) → get_or bs 2 0 ≡ 2 → first_refusal Relation n regs rels bs ≡ 4
relation-refused = version_refused Relation refl

pub valid-refused : (n : ℕ) (regs rels : ℕ → Bool) (bs : List ℕ) → get_or bs 2 0 ≡ 2 → first_refusal Valid n regs rels bs ≡ 4
valid-refused = version_refused Valid refl

-- ---- variables

below_16 : (P : ℕ) → ltb P 16 ≡ true → T (not (eqb P 16))
below_16 P h = not_T (eqb P 16) (λ t. let e = eqb→eq P 16 t in let l = ltb-true P 16 h in omega arith)

-- a formula of the bytes has no variable 16
pub takes-absent : (n : ℕ) (g : Grammar) (f : Form) → takes n g f ≡ true → T (absent 16 f)
unfolding takes
takes-absent n g bot h = tt
takes-absent n g top h = tt
takes-absent n g (neg f) h = takes-absent n g f h
takes-absent n g (conj f k) h =
    let w = both_true (takes n g f) (takes n g k) h in
    and_in (absent 16 f) (absent 16 k) (takes-absent n g f w.0) (takes-absent n g k w.1)
takes-absent n g (disj f k) h =
    let w = both_true (takes n g f) (takes n g k) h in
    and_in (absent 16 f) (absent 16 k) (takes-absent n g f w.0) (takes-absent n g k w.1)
takes-absent n g (now p) h = tt
takes-absent n g (next p) h = tt
takes-absent n g (var P) h = below_16 P (both_true _ _ h).0
takes-absent n g (reg r) h = tt
takes-absent n g (box t f) h = takes-absent n g f (both_true (ltb t 8 && allowed (Modal mode.All t) n g) (takes n g f) h).1
takes-absent n g (dia t f) h = takes-absent n g f (both_true (ltb t 8 && allowed (Modal mode.Some t) n g) (takes n g f) h).1
takes-absent n g (mu P f) h =
    let w = both_true _ _ h in and_in (not (eqb P 16)) (absent 16 f) (below_16 P (both_true _ _ w.0).0) (takes-absent n g f w.1)
takes-absent n g (nu P f) h =
    let w = both_true _ _ h in and_in (not (eqb P 16)) (absent 16 f) (below_16 P (both_true _ _ w.0).0) (takes-absent n g f w.1)
takes-absent n g (until true t f k) h =
    let w = both_true (takes n g f) (takes n g k)
    (both_true (ltb t 8 && allowed (Both (Until mode.Some t)) n g) (takes n g f && takes n g k) h).1 in
    and_in (absent 16 f) (absent 16 k) (takes-absent n g f w.0) (takes-absent n g k w.1)
takes-absent n g (until false t f k) h =
    let w = both_true (takes n g f) (takes n g k)
    (both_true (ltb t 8 && allowed (Both (Until mode.All t)) n g) (takes n g f && takes n g k) h).1 in
    and_in (absent 16 f) (absent 16 k) (takes-absent n g f w.0) (takes-absent n g k w.1)
