-- `grammar_in`: Of a framed slice the version byte decides; a frame has it. Assumes nothing.
use mathlib.Core.Path.{◌≡◌, sym, ◌∙◌}
use native.Mathlib.Omega.{arith}
use mathlib.Core.Bool.{true, false}
use Rattle.formula.specs.Parse.{framed}
use Rattle.formula.proofs.Frames.{framed-parts}
use Rattle.formula.proofs.grammar_in.Statement.{statement}
use Rattle.formula.proofs.grammar_in.Tie as tie

pub grammar_in_spec : {M : Type 1} → statement M
grammar_in_spec =
    tie.close
    (tie.spec
    (λ c κs. tt)
    (λ c. let p = framed-parts c.args.bytes.now
    (sym c.is_framed.ensures ∙ c.if-is_framed.true) in omega arith)
    (λ c κs. tt)
    (λ c. let h : framed c.args.bytes.now
    ≡ true = sym c.is_framed.ensures ∙ c.if-is_framed.true in rw h c.grammar_of.ensures)
    (λ c. let h : framed c.args.bytes.now ≡ false = sym c.is_framed.ensures ∙ c.if-is_framed.false in
    rw h))
