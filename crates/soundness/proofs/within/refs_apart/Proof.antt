-- `refs_apart` meets its contract: the walk of the list of all roots' arrows. Assumes nothing.
use Prim.Native.Nat.{ℕ, ◌*◌, ◌-◌}
use mathlib.Core.Path.{ap, ◌∙◌}
use native.Mathlib.Omega.{arith}
use lib.ListN.{length-replicate}
use Rattle.soundness.specs.Lists.{ROOM, FOUND}
use Rattle.soundness.proofs.WalkLaws.{walk-asked, refs-told}
use borrow.Author.Rules.{rules}
use Rattle.soundness.proofs.within.refs_apart.Statement.{statement}
use Rattle.soundness.proofs.within.refs_apart.Tie as tie

pub refs_apart_spec : {M : Type 1} → statement M
refs_apart_spec =
    tie.close
    (tie.spec
    (λ c κs. let w = c.requires.roots.good.sizes.room in (omega arith, omega arith))
    (λ c. let w = c.requires.roots.good.sizes.n_max in let e = c.header_word.ensures in omega arith)
    (λ c κs. search rules)
    (λ c. search rules)
    (λ c. search rules)
    (λ c κs. let c1 = c.before.before.before.before.before.before in let w = c1.requires.roots.good.sizes.room in (
      c1.requires.roots.order,
      c1.requires.roots.some,
      c1.requires.roots.within,
      omega arith,
      length-replicate {A = ℕ} ROOM 0,
      length-replicate {A = ℕ} FOUND 0,
    ))
    (λ c. search rules)
    (λ c. search rules)
    (λ c. search rules)
    (λ c. search rules)
    (λ c κs. let c1 = c.before.before.before.before.before.before.before in let c2 = c1.before.before.before.before in
    let c3 = c2.before.before.before in walk-asked c3.requires (c1.base_of-base.ensures ∙ ap (λ
    (k : ℕ). 2 * k - 10) c2.header_word.ensures) c1.list_refs-stop.ensures (c1.list_refs-stop.auto.list
    ∙ length-replicate {A = ℕ} ROOM 0) (c1.list_refs-stop.auto.found ∙ length-replicate {A = ℕ} FOUND 0))
    (λ c. c.apart.auto.first)
    (λ c. let c1 = c.before.before.before.before.before.before in
    let c2 = c1.before.before.before.before.before.before.before.before in
    refs-told c2.list_refs-stop.ensures c1.apart.ensures))
