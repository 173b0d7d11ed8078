-- `bucket_of` meets its contract: the three products are taken below 2^32, and the sum times N over 2^32 is below N. Assumes nothing.
use mathlib.Core.Path.{refl}
use Prim.Native.Nat.{◌≤◌, ◌*◌}
use native.Mathlib.Nat.{mul-le-mul}
use native.Mathlib.Omega.{arith}
use borrow.Author.Rules.{rules}
use Rattle.layout.specs.Places.{MAX_ROWS}
use Rattle.rows.specs.Index.{bucket, hash}
use Rattle.rows.proofs.Index.{hash-lt, bucket-lt}
use Rattle.rows.proofs.bucket_of.Statement.{statement}
use Rattle.rows.proofs.bucket_of.Tie as tie

pub bucket_of_spec : {M : Type 1} → statement M
unfolding hash bucket
bucket_of_spec =
    tie.close
    (tie.spec
    (λ c. search rules)
    (λ c. search rules)
    (λ c. search rules)
    (λ c. search rules)
    (λ c. search rules)
    (λ c. let h = hash-lt c.args.level c.args.low c.args.high in
    let p : hash c.args.level c.args.low c.args.high * c.args.rows
    ≤ 4294967296 * MAX_ROWS =
    mul-le-mul (let z : hash c.args.level c.args.low c.args.high ≤ 4294967296 = omega arith in z) c.requires.1 in
    record { fits = omega arith })
    (λ c. let h = bucket-lt c.args.rows c.args.level c.args.low c.args.high c.requires.0 in
    let p = c.requires.1 in record { fits = omega arith })
    (λ c. (refl, bucket-lt _ _ _ _ c.requires.0)))
