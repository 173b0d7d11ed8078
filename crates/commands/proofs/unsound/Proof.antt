-- `unsound` is the outcome of refusal 2. Assumes nothing.
use mathlib.Core.Path.{ap, ◌∙◌}
use Prim.Native.Nat.{ℕ}
use Rattle.commands.specs.Obey.{plain_outcome}
use borrow.Author.Rules.{rules}
use Rattle.commands.proofs.unsound.Statement.{statement}
use Rattle.commands.proofs.unsound.Tie as tie

pub unsound_spec : {M : Type 1} → statement M
unsound_spec =
    tie.close
    (tie.spec
    (λ c κs. search rules)
    (λ c κs. search rules)
    (λ c. c.plain.ensures ∙ ap (λ (k : ℕ). plain_outcome c.args.operation k 0) c.from.ensures))
