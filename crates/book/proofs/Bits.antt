-- A formula of 00 to 04 and 10 to 1F reads current bits alone: the states in which it holds over all 2^n are the current states of the
-- pairs in which it holds, and the bytes of valid are such a formula. Assumes nothing.
use Rattle.std.specs.Prelude.{Some, None}
use mathlib.Core.Path.{◌≡◌, refl, sym, ap, ap₂, ◌∙◌, subst, fun_ext}
use mathlib.Core.Bool.{Bool, true, false, not, ◌&&◌, ◌||◌, cond}
use mathlib.Core.List.{List}
use Prim.Native.Nat.{ℕ, ◌^◌, ◌<◌}
use lib.Dec.{T, eqb, ltb}
use lib.ListN.{get_or}
use Rattle.mucalculus.specs.Sets.{mem}
use Rattle.mucalculus.proofs.Sets.{and_in, and_out}
use Rattle.mucalculus.specs.Form.{Form, bot, top, neg, conj, disj, now, next, var, reg, box, dia, mu, nu, until, no_env}
use Rattle.mucalculus.specs.Means.{holds, exist, means}
use Rattle.mucalculus.proofs.Laws.{get_or-table}
use Rattle.tokens.specs.Tokens.{grammar_of}
use Rattle.tokens.specs.declared.Kind.TheVariants.{Valid}
use Rattle.tokens.specs.declared.Grammar.{Grammar}
use Rattle.tokens.specs.declared.Grammar.TheVariants.{Bits}
use Rattle.tokens.proofs.Table.{both_true}
use Rattle.formula.specs.Parse.{Got, fails, got, is_formula, form_of, formula_of}
use Rattle.formula.proofs.Bytes.{takes}
use Rattle.formula.proofs.Accepted.{found}
use Rattle.formula.proofs.Readings.{parse_reads}
use Rattle.formula.proofs.Written.{read_taken}
use Rattle.book.specs.States.{now_of, next_of}
use Rattle.book.proofs.States.{now_of-lt}
use Rattle.book.specs.Bridge.{fn_of}
use Rattle.book.proofs.Bridge.{fn_of-holds}
use Rattle.book.specs.Run.{pair_f}
use Rattle.book.specs.Book.{Book, formula_in, everything, states_of}
use Rattle.book.specs.Stored.{Passed}

-- 00 to 04 and 10 to 1F
unfoldable pub bits_only : Form → Bool
bits_only bot = true
bits_only top = true
bits_only (neg f) = bits_only f
bits_only (conj f g) = bits_only f && bits_only g
bits_only (disj f g) = bits_only f && bits_only g
bits_only (now p) = true
bits_only (next p) = false
bits_only (var P) = false
bits_only (reg r) = false
bits_only (box t f) = false
bits_only (dia t f) = false
bits_only (mu P f) = false
bits_only (nu P f) = false
bits_only (until b t f g) = false

module _ (n s t : ℕ) (l : s < 2 ^ n) where
  -- every state exists
  here : mem (exist (everything n)) s ≡ true
  here = get_or-table (2 ^ n) (λ u. mem (everything n).valid u) s false l ∙ get_or-table (2 ^ n) (λ u. true) s false l

  both : (a : Bool) → (a && mem (exist (everything n)) s) ≡ a
  both a = ap (λ (c : Bool). a && c) here ∙ go a
    where
      go : (a : Bool) → (a && true) ≡ a
      go true = refl
      go false = refl

  -- a state is in V exactly where the formula holds in it
  pub states_hold : (f : Form) → T (bits_only f) → mem (means (everything n) no_env f) s ≡ holds f s t
  unfolding bits_only
  states_hold bot h = get_or-table (2 ^ n) (λ u. false) s false l
  states_hold top h = here
  states_hold (neg f) h =
      get_or-table (2 ^ n) _ s false l ∙ both _ ∙ get_or-table (2 ^ n) (λ u. not (mem (means (everything n) no_env f) u)) s false l
      ∙ ap not (states_hold f h)
  states_hold (conj f g) h =
      let w = and_out (bits_only f) (bits_only g) h in
      get_or-table (2 ^ n) (λ u. mem (means (everything n) no_env f) u && mem (means (everything n) no_env g) u) s false l
      ∙ ap₂ ◌&&◌ (states_hold f w.0) (states_hold g w.1)
  states_hold (disj f g) h =
      let w = and_out (bits_only f) (bits_only g) h in
      get_or-table (2 ^ n) (λ u. mem (means (everything n) no_env f) u || mem (means (everything n) no_env g) u) s false l
      ∙ ap₂ ◌||◌ (states_hold f w.0) (states_hold g w.1)
  states_hold (now p) h = get_or-table (2 ^ n) _ s false l ∙ both _ ∙ get_or-table (2 ^ n) _ s false l
  states_hold (next p) h = absurd h
  states_hold (var P) h = absurd h
  states_hold (reg r) h = absurd h
  states_hold (box x f) h = absurd h
  states_hold (dia x f) h = absurd h
  states_hold (mu P f) h = absurd h
  states_hold (nu P f) h = absurd h
  states_hold (until b x f g) h = absurd h

-- V as a function is the formula read as a relation's
pub valid_fn : (n : ℕ) (f : Form) → T (bits_only f) → pair_f n f ≡ fn_of n (states_of n f)
valid_fn n f h = fn_of-holds n f ∙ fun_ext (λ v. sym (states_hold n (now_of n v) (next_of n v) (now_of-lt n v) f h))

-- ---- the bytes

-- what is never true
never : (a c : Bool) → (a && false) ≡ true → T c
never true c z = absurd (subst T (sym z) tt)
never false c z = absurd (subst T (sym z) tt)

never-part : (a c d : Bool) → ((a && false) && c) ≡ true → T d
never-part true c d z = absurd (subst T (sym z) tt)
never-part false c d z = absurd (subst T (sym z) tt)

taken-bits : (n : ℕ) (f : Form) → takes n Bits f ≡ true → T (bits_only f)
unfolding takes bits_only
taken-bits n bot e = tt
taken-bits n top e = tt
taken-bits n (neg f) e = taken-bits n f e
taken-bits n (conj f g) e =
    let w = both_true (takes n Bits f) (takes n Bits g) e in
    and_in (bits_only f) (bits_only g) (taken-bits n f w.0) (taken-bits n g w.1)
taken-bits n (disj f g) e =
    let w = both_true (takes n Bits f) (takes n Bits g) e in
    and_in (bits_only f) (bits_only g) (taken-bits n f w.0) (taken-bits n g w.1)
taken-bits n (now p) e = tt
taken-bits n (next p) e = never (ltb p 16) false e
taken-bits n (var P) e = never (ltb P 16) false e
taken-bits n (reg r) e = never (ltb r 32) false e
taken-bits n (box t f) e = never-part (ltb t 8) (takes n Bits f) false e
taken-bits n (dia t f) e = never-part (ltb t 8) (takes n Bits f) false e
taken-bits n (mu P f) e = never-part (ltb P 16) (takes n Bits f) false e
taken-bits n (nu P f) e = never-part (ltb P 16) (takes n Bits f) false e
taken-bits n (until true t f g) e = never-part (ltb t 8) (takes n Bits f && takes n Bits g) false e
taken-bits n (until false t f g) e = never-part (ltb t 8) (takes n Bits f && takes n Bits g) false e

-- the one grammar of valid
only-bits : (v : ℕ) (g : Grammar) → grammar_of Valid v ≡ Some g → g ≡ Bits
only-bits v g e = go (eqb v 1) (eqb v 2) e
  where
    go : (a c : Bool) → cond a (Some Bits) (cond c None None) ≡ Some g → g ≡ Bits
    go true c z = let q : Bits ≡ g = cc in sym q
    go false true z = let q : ◌≡◌ {A = ℕ} 0 1 = cc in absurd (subst (λ (x : ℕ). T (eqb x 0)) q tt)
    go false false z = let q : ◌≡◌ {A = ℕ} 0 1 = cc in absurd (subst (λ (x : ℕ). T (eqb x 0)) q tt)

-- what valid's checks pass is of 00 to 04 and 10 to 1F
pub valid-bits : (b : Book) (bs : List ℕ) → Passed b Valid bs → T (bits_only (formula_in b Valid bs))
valid-bits b bs p = go (formula_of Valid b.n bs) refl p.is_read
  where
    go : (x : Got) → formula_of Valid b.n bs ≡ x → T (is_formula x) → T (bits_only (form_of x))
    go fails e t = absurd t
    go (got f k) e t =
        let F = found Valid b.n bs f e in
        let taken = read_taken b.n F.grammar bs (parse_reads b.n F.grammar bs _ 3 f k F.parsed) in
        taken-bits b.n f (subst (λ (g : Grammar). takes b.n g f ≡ true) (only-bits (get_or bs 2 0) F.grammar F.known) taken)
