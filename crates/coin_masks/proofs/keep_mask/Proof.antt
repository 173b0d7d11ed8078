-- `keep_mask` meets its contract: three stores. Assumes nothing.
use Prim.Native.Nat.{◌+◌}
use lib.ListN.{length-set, set}
use native.Mathlib.Omega.{arith}
use borrow.Author.Rules.{rules}
use Rattle.coin_masks.proofs.keep_mask.Statement.{statement}
use Rattle.coin_masks.proofs.keep_mask.Tie as tie
use Rattle.coin_masks.proofs.keep_mask.Reads as reads
use Rattle.coin_masks.proofs.keep_mask.Lts as lts

pub keep_mask_spec : {M : Type 1} → statement M
keep_mask_spec =
    tie.close
    (tie.spec
    (λ c. search rules)
    (λ c. search rules)
    (λ c. search rules)
    (λ c. search rules)
    (λ c. search rules)
    (λ c. search rules)
    (λ c. let e = c.requires.1 in let l = c.requires.0 in let z = length-set c.args.notes.now (6138 + c.args.at) c.args.x
    in omega arith)
    (λ c. search rules)
    (λ c. let e = c.requires.1 in let l = c.requires.0 in let z = length-set c.args.notes.now (6138 + c.args.at) c.args.x
    in let y = length-set (set c.args.notes.now (6138 + c.args.at) c.args.x) (6547 + c.args.at) c.args.goals in
    omega arith)
    (λ c. search rules)
    (λ c. search rules))
