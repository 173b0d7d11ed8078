-- Words as sets of small numbers: 32 cells in the low half, 32 in the high half. Assumes nothing.
use Rattle.std.specs.Prelude.{Bool, true, false, ℕ, zero, suc, ◌+◌, ◌*◌, ◌/◌, ◌%◌, ◌^◌, eqb}

-- whether bit k of a word is 1
abbrev pub has : ℕ → ℕ → Bool
has w k = eqb (w / 2 ^ k % 2) 1

-- cells that have bit q 0, and those that have it 1, in both halves; from bit 5 on, all
abbrev pub low_mask : ℕ → ℕ
low_mask zero = 6148914691236517205
low_mask (suc zero) = 3689348814741910323
low_mask (suc (suc zero)) = 1085102592571150095
low_mask (suc (suc (suc zero))) = 71777214294589695
low_mask (suc (suc (suc (suc zero)))) = 281470681808895
low_mask (suc (suc (suc (suc (suc q))))) = 18446744073709551615

abbrev pub high_mask : ℕ → ℕ
high_mask zero = 12297829382473034410
high_mask (suc zero) = 14757395258967641292
high_mask (suc (suc zero)) = 17361641481138401520
high_mask (suc (suc (suc zero))) = 18374966859414961920
high_mask (suc (suc (suc (suc zero)))) = 18446462603027742720
high_mask (suc (suc (suc (suc (suc q))))) = 18446744073709551615

-- the halves exchanged
abbrev pub swapped : ℕ → ℕ
swapped w = w % 4294967296 * 4294967296 + w / 4294967296 % 4294967296

-- the bit of a cell in the low half, or in the high one
abbrev pub bit_of : Bool → ℕ → ℕ
bit_of false c = c
bit_of true c = 32 + c
