-- `look` meets its contract: there are words enough for the marks. Assumes nothing.
use native.Mathlib.Omega.{arith}
use Rattle.counting.proofs.CountsLaws.{few-room, all_room}
use Rattle.stages.proofs.Left.{seen-blank}
use borrow.Author.Rules.{rules}
use Rattle.stages.proofs.look.Statement.{statement}
use Rattle.stages.proofs.look.Tie as tie

pub look_spec : {M : Type 1} → statement M
look_spec =
    tie.close
    (tie.spec
    (λ c. search rules)
    (λ c. search rules)
    (λ c κs. (
      c.requires,
      few-room c.if-rows-le-ROWS.true,
      seen-blank 257 (let l = c.if-rows-le-ROWS.true in omega (arith, l)),
    ))
    (λ c. search rules)
    (λ c. search rules)
    (λ c. search rules)
    (λ c κs. (
      c.requires,
      all_room c.requires.sound,
      seen-blank 3751 (let l = c.requires.sound.good.sizes.N-max in omega (arith, l)),
    ))
    (λ c. search rules))
