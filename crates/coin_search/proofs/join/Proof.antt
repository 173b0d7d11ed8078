-- `join` meets its contract: one store. Assumes nothing.
use mathlib.Core.Path.{refl}
use native.Mathlib.Omega.{arith}
use Rattle.coin_search.proofs.NotesLaws.{half-few, join_is}
use borrow.Author.Rules.{rules}
use Rattle.coin_search.proofs.join.Statement.{statement}
use Rattle.coin_search.proofs.join.Tie as tie
use Rattle.coin_search.proofs.join.Reads as reads
use Rattle.coin_search.proofs.join.Lts as lts

pub join_spec : {M : Type 1} → statement M
join_spec =
    tie.close
    (tie.spec
    (λ c. let l = c.requires.0 in omega arith)
    (λ c. let (e, l) = half-few c.args.p c.requires.0 in let n = c.requires.1 in record { fits = omega arith })
    (λ c. search rules)
    (λ c. search rules)
    (λ c. let (e, l) = half-few c.args.p c.requires.0 in let n = c.requires.1 in let z = c.requires.2 in omega arith)
    (λ c. let (e, l) = half-few c.args.p c.requires.0 in record { fits = omega arith })
    (λ c. let (e, l) = half-few c.args.p c.requires.0 in let n = c.requires.1 in record {
      fits = omega
          arith;
    })
    (λ c. search rules)
    (λ c. search rules)
    (λ c. let (e, l) = half-few c.args.p c.requires.0 in let n = c.requires.1 in
    let z = c.requires.2 in omega arith)
    (λ c. search rules)
    (λ c. let n = c.requires.1 in let z = c.requires.2 in omega arith)
    (λ c. search rules)
    (λ c. join_is c.args.notes.now c.args.node c.args.p (half-few
    c.args.p c.requires.0).0 refl))
