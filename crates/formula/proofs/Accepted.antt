-- Check 4 accepts exactly the frames of formulas: the theorem over the whole slice, both directions. Assumes nothing.
use Rattle.std.specs.Prelude.{Option, Some, None}
use mathlib.Core.Logic.{◌↔◌}
use mathlib.Core.Path.{◌≡◌, refl, sym, ap, ◌∙◌}
use mathlib.Core.Bool.{Bool, true, false, cond}
use mathlib.Core.List.{List, [], ◌∷◌, ◌++◌, append-nil}
use Prim.Native.Nat.{ℕ, ◌+◌, ◌*◌, ◌/◌, ◌%◌, ◌<◌, ◌≤◌}
use native.Mathlib.Nat.{div-add-mod', div-eq_of_lt-le, mod-eq-sub-div-mul}
use native.Mathlib.Omega.{arith}
use lib.Dec.{eqb}
use lib.ListN.{length, get_or, drop, length-drop}
use lib.Seq.{drop-cons, drop-length}
use borrow.Author.Tests.{le-leb, eq-eqb, eqb-true}
use Rattle.mucalculus.specs.Form.{Form}
use Rattle.mucalculus.proofs.Form.{depth}
use Rattle.tokens.specs.Tokens.{grammar_of}
use Rattle.tokens.specs.declared.Kind.{Kind}
use Rattle.tokens.specs.declared.Grammar.{Grammar}
use Rattle.formula.specs.Parse.{Got, fails, got, is_formula, parse, depth_limit, length_of, framed, filling, formula_by, formula_of}
use Rattle.formula.proofs.Bytes.{bytes_of, takes, frame_of, Framing}
use Rattle.formula.proofs.Steps.{not-got}
use Rattle.formula.proofs.Frames.{framed-parts}
use Rattle.formula.proofs.Readings.{parse_reads}
use Rattle.formula.proofs.Written.{tree, read-written, read-deep, read_taken, written_read, bytes-some}

-- ---- what an accepted slice is

-- what check 4 found: a frame, a grammar, and a formula that ends at the end
pub record Found (k : Kind) (n : ℕ) (bs : List ℕ) (f : Form) (e : ℕ) : Type 0 where
  pub grammar : Grammar
  pub in_frame : framed bs ≡ true
  pub known : grammar_of k (get_or bs 2 0) ≡ Some grammar
  pub parsed : parse n grammar depth_limit bs 3 ≡ got f e
  pub full : e ≡ length bs

filling-got : (end : ℕ) (p : Got) {f : Form} {e : ℕ} → filling end p ≡ got f e → (p ≡ got f e) × (e ≡ end)
filling-got end fails z = absurd (not-got z)
filling-got end (got f' e') {f} {e} z = go (eqb e' end) refl z
  where
    go : (c : Bool) → eqb e' end ≡ c → cond c (got f' e') fails ≡ got f e → (got f' e' ≡ got f e) × (e ≡ end)
    go true h q = let same : e' ≡ e = cc in (q, sym same ∙ eqb-true e' end h)
    go false h q = absurd (not-got q)

module _ (k : Kind) (n : ℕ) (bs : List ℕ) (f : Form) where
  pub found : {e : ℕ} → formula_of k n bs ≡ got f e → Found k n bs f e
  unfolding formula_of
  found {e} z = in-frame-or (framed bs) refl z
    where
      by_grammar : (r : Option Grammar) → grammar_of k (get_or bs 2 0) ≡ r → framed bs ≡ true → formula_by n bs r ≡ got f e → Found k n bs f e
      by_grammar None h fr q = absurd (not-got q)
      by_grammar (Some g) h fr q =
          let p = filling-got (length bs) (parse n g depth_limit bs 3) q in
          record { grammar = g; in_frame = fr; known = h; parsed = p.0; full = p.1 }

      in-frame-or : (c : Bool) → framed bs ≡ c → formula_by n bs (cond c (grammar_of k (get_or bs 2 0)) None) ≡ got f e → Found k n bs f e
      in-frame-or true h q = by_grammar (grammar_of k (get_or bs 2 0)) refl h q
      in-frame-or false h q = absurd (not-got q)

  -- an accepted formula ends at the end
  pub ends : {e : ℕ} → formula_of k n bs ≡ got f e → e ≡ length bs
  ends z = (found z).full

-- the two length bytes, from the number that they hold
high_byte : (a b : ℕ) → b < 256 → (a * 256 + b) / 256 ≡ a
high_byte a b h = div-eq_of_lt-le 256 (omega arith) (omega arith)

low_byte : (a b : ℕ) → b < 256 → (a * 256 + b) % 256 ≡ b
low_byte a b h = mod-eq-sub-div-mul (a * 256 + b) 256 ∙ rw (high_byte a b h) (omega arith)

-- four bytes or more are three and the others
first_three : (bs : List ℕ) → 3 < length bs → bs ≡ get_or bs 0 0 ∷ get_or bs 1 0 ∷ get_or bs 2 0 ∷ drop 3 bs
first_three bs h =
    drop-cons bs 0 0 (omega arith)
    ∙ ap (λ (x : List ℕ). get_or bs 0 0 ∷ x) (drop-cons bs 1 0 (omega arith))
    ∙ ap (λ (x : List ℕ). get_or bs 0 0 ∷ get_or bs 1 0 ∷ x) (drop-cons bs 2 0 (omega arith))

module _ (k : Kind) (n : ℕ) (bs : List ℕ) (f : Form) where
  pub framing_of : ((i : ℕ) → get_or bs i 0 < 256) → formula_of k n bs ≡ got f (length bs) → Framing k n bs f
  framing_of small z =
      let F = found k n bs f z in
      let r = parse_reads n F.grammar bs depth_limit 3 f (length bs) F.parsed in
      let p = framed-parts bs F.in_frame in
      let body : drop 3 bs
      ≡ bytes_of f = read-written n F.grammar bs r ∙ ap (λ (x : List ℕ). bytes_of f ++ x) (drop-length bs) ∙ append-nil (bytes_of f) in
      let size : 1 + length (bytes_of f) ≡ length_of bs = omega (arith, ap length body, length-drop 3 bs) in
      let high : get_or bs 0 0 ≡ (1 + length (bytes_of f)) / 256 = rw size (sym (high_byte (get_or bs 0 0) (get_or bs 1 0) (small 1))) in
      let low : get_or bs 1 0 ≡ (1 + length (bytes_of f)) % 256 = rw size (sym (low_byte (get_or bs 0 0) (get_or bs 1 0) (small 1))) in
      record {
        version = get_or bs 2 0;
        grammar = F.grammar;
        known = F.known;
        is = first_three bs (omega arith) ∙ rw (← high, ← low, ← body);
        deep = read-deep n F.grammar bs r;
        taken = read_taken n F.grammar bs r;
        short = omega arith;
      }

-- ---- a frame is accepted

module _ (v : ℕ) (f : Form) where
  frame-size : length_of (frame_of v f) ≡ 1 + length (bytes_of f)
  frame-size = div-add-mod' (1 + length (bytes_of f)) 256

  frame-framed : length (bytes_of f) ≤ 1023 → framed (frame_of v f) ≡ true
  unfolding framed
  frame-framed short =
      rw (
        frame-size,
        le-leb 2 (1 + length (bytes_of f)) (omega (arith, bytes-some (tree f))),
        le-leb (1 + length (bytes_of f)) 1024 (omega arith),
        eq-eqb (length (frame_of v f)) (1 + length (bytes_of f) + 2) (omega arith),
      )

module _ (k : Kind) (n : ℕ) (bs : List ℕ) (f : Form) where
  frame_accepted : (v : ℕ) (g : Grammar) → grammar_of k v ≡ Some g → depth f ≤ depth_limit → takes n g f ≡ true
      → length (bytes_of f) ≤ 1023 → formula_of k n (frame_of v f) ≡ got f (length (frame_of v f))
  unfolding formula_of
  frame_accepted v g known deep taken short =
      let end : 3 + length (bytes_of f) ≡ length (frame_of v f) = omega arith in
      let parsed = written_read n g (frame_of v f) (tree f) depth_limit 3 [] deep taken (sym (append-nil (bytes_of f))) ∙ ap (got f) end in
      rw (frame-framed v f short, known, parsed, eq-eqb (length (frame_of v f)) (length (frame_of v f)) refl)

  pub accepted_of : Framing k n bs f → formula_of k n bs ≡ got f (length bs)
  accepted_of F = rw F.is (frame_accepted F.version F.grammar F.known F.deep F.taken F.short)

  -- "bytes not a formula for this call": a slice of bytes is accepted exactly where it is the frame of a formula that the call takes
  pub accepted : ((i : ℕ) → get_or bs i 0 < 256) → (formula_of k n bs ≡ got f (length bs)) ↔ Framing k n bs f
  accepted small = (framing_of k n bs f small, accepted_of)

-- the same with the formula left open
pub accepts : (k : Kind) (n : ℕ) (bs : List ℕ) → ((i : ℕ) → get_or bs i 0 < 256)
    → (is_formula (formula_of k n bs) ≡ true) ↔ ((f : Form) × Framing k n bs f)
accepts k n bs small = (λ h. go (formula_of k n bs) refl h, λ F. ap is_formula (accepted_of k n bs F.0 F.1))
  where
    go : (p : Got) → formula_of k n bs ≡ p → is_formula p ≡ true → (f : Form) × Framing k n bs f
    go fails e h = absurd (let z : ◌≡◌ {A = ℕ} 0 1 = cc in omega arith)
    go (got f e) q h = (f, framing_of k n bs f small (q ∙ ap (got f) (ends k n bs f q)))
