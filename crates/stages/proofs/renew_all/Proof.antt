-- `renew_all` meets its contract: there is a bit for each arrow. Assumes nothing.
use native.Mathlib.Omega.{arith}
use Prim.Native.Nat.{ℕ}
use lib.ListN.{length-replicate}
use borrow.Author.Rules.{rules}
use Rattle.stages.proofs.renew_all.Statement.{statement}
use Rattle.stages.proofs.renew_all.Tie as tie

pub renew_all_spec : {M : Type 1} → statement M
renew_all_spec =
    tie.close
    (tie.spec
    (λ c. search rules)
    (λ c κs.
    record {
      ready =
          c.requires.0;
      arrow =
          c.requires.1;
      room =
          let l = c.if-rows-le-ROWS.true in let e = length-replicate {A = ℕ} 257 0 in omega (arith, l, e);
    })
    (λ c. search rules)
    (λ c. search rules)
    (λ c. search rules)
    (λ c κs.
    record {
      ready =
          c.requires.0;
      arrow =
          c.requires.1;
      room =
          let l = c.requires.0.good.sizes.N-max in
          let e = length-replicate {A = ℕ} 3751 0 in omega (arith, l, e);
    })
    (λ c. search rules)
    (λ c. search rules))
