-- `choose_bits` meets its contract: XOR of one mask with what differs from it in the column. Assumes nothing.
use mathlib.Core.Path.{ap, ◌∙◌}
use Prim.Native.Nat.{ℕ}
use lib.Bits.{bit_and, bit_xor}
use Rattle.mucalculus.specs.Means.{bit}
use Rattle.coin_masks.proofs.Bits.{bit-choose}
use borrow.Author.Rules.{rules}
use Rattle.coin_masks.proofs.choose_bits.Statement.{statement}
use Rattle.coin_masks.proofs.choose_bits.Tie as tie
use Rattle.coin_masks.proofs.choose_bits.Reads as reads
use Rattle.coin_masks.proofs.choose_bits.Lts as lts
use Rattle.coin_masks.proofs.column.Reads as column-reads

pub choose_bits_spec : {M : Type 1} → statement M
choose_bits_spec = tie.close (tie.spec (λ c κs. search rules) (λ c. record {
  cells = λ j l. ap (λ (z : ℕ). bit j (bit_xor c.args.low (bit_and (bit_xor c.args.low c.args.high) z))) c.column.ensures ∙
      bit-choose _ _ _ j c.requires l;
}))
