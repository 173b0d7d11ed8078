-- Two neighbouring lines of eight bytes: the quotient by 8 tells the line, the remainder the place in it; and the same of the whole table,
-- by one computed test over all 256 bytes. Assumes nothing.
use Rattle.std.specs.Prelude.{Some}
use mathlib.Core.Path.{◌≡◌, refl, ap, ap₂, ◌∙◌}
use mathlib.Core.Bool.{Bool, true, false}
use mathlib.Core.List.{List, [], ◌∷◌, ◌++◌, map}
use Prim.Native.Nat.{ℕ, zero, suc, ◌+◌, ◌*◌, ◌-◌, ◌/◌, ◌%◌, ◌≤◌}
use native.Mathlib.Omega.{arith}
use lib.Dec.{ltb}
use lib.ListN.{get_or, take, drop}
use borrow.Author.Tests.{ltb-true, ltb-false}
use Rattle.tokens.specs.Tokens.{Line, line, table, lookup, token_of, taken}
use Rattle.tokens.specs.declared.Grammar.{Grammar}
use Rattle.tokens.specs.declared.Mode.{Mode}
use Rattle.tokens.specs.declared.Mode.TheVariants as mode
use Rattle.tokens.specs.declared.Token.{Token}
use Rattle.tokens.specs.declared.Two.TheVariants.{Until}
use Rattle.tokens.specs.declared.Token.TheVariants.{Both, Modal}
use Rattle.tokens.proofs.Table.{end_below, in-line}

-- the mode by the quotient, the first eight bytes' being q
abbrev pub mode_at : Mode → Mode → ℕ → ℕ → Mode
mode_at m m' q b = get_or (m ∷ m' ∷ []) (b / 8 - q) mode.All

-- after k lines of the table stand two of eight bytes each
pub in_eights : (b k q : ℕ) (m m' : Mode) (token : Mode → ℕ → Token) {ls : List Line}
    → drop k table ≡ line (8 * q) (8 * q + 7) (token m) ∷ line (8 * q + 8) (8 * q + 15) (token m') ∷ ls
    → drop (suc k) table ≡ line (8 * q + 8) (8 * q + 15) (token m') ∷ ls
    → end_below (8 * q) (take k table) ≡ true → end_below (8 * q + 8) (take (suc k) table) ≡ true
    → 8 * q ≤ b → b ≤ 8 * q + 15 → token_of b ≡ Some (token (mode_at m m' q b) (b % 8))
in_eights b k q m m' token {ls} d d' e e' low high = pick (ltb b (8 * q + 8)) refl
  where
    pick : (t : Bool) → ltb b (8 * q + 8) ≡ t → token_of b ≡ Some (token (mode_at m m' q b) (b % 8))
    pick true t =
        let h = ltb-true b (8 * q + 8) t in
        let i : 0 ≡ b / 8 - q = omega arith in
        let p : b - 8 * q ≡ b % 8 = omega arith in
        in-line b k d e low (omega arith) ∙ ap₂ (λ (j x : ℕ). Some (token (get_or (m ∷ m' ∷ []) j mode.All) x)) i p
    pick false t =
        let h = ltb-false b (8 * q + 8) t in
        let i : 1 ≡ b / 8 - q = omega arith in
        let p : b - (8 * q + 8) ≡ b % 8 = omega arith in
        in-line b (suc k) d' e' h high ∙ ap₂ (λ (j x : ℕ). Some (token (get_or (m ∷ m' ∷ []) j mode.All) x)) i p

-- box and diamond
pub modal-token : (b : ℕ) → 0x60 ≤ b → b ≤ 0x6F → token_of b ≡ Some (Modal (mode_at mode.All mode.Some 12 b) (b % 8))
modal-token b low high = in_eights b 9 12 mode.All mode.Some Modal refl refl refl refl low high

-- until on some and on every run
pub until-token : (b : ℕ) → 0x90 ≤ b → b ≤ 0x9F → token_of b ≡ Some (Both (Until (mode_at mode.Some mode.All 18 b) (b % 8)))
until-token b low high = in_eights b 13 18 mode.Some mode.All (λ m t. Both (Until m t)) refl refl refl refl low high

-- ---- the whole table

-- all bytes
abbrev below : ℕ → List ℕ → List ℕ
below zero l = l
below (suc k) l = below k (k ∷ l)

-- the table with 60 to 6F in one line and 90 to 9F in one, by quotient and remainder of the byte itself
abbrev by_eights : List Line
by_eights =
    take 9 table
    ++ (line 0x60 0x6F (λ p. Modal (mode_at mode.All mode.Some 12 (0x60 + p)) ((0x60 + p) % 8)) ∷ take 2 (drop 11 table))
    ++ (line 0x90 0x9F (λ p. Both (Until (mode_at mode.Some mode.All 18 (0x90 + p)) ((0x90 + p) % 8))) ∷ [])

-- "The reader gives the same tokens as before for all 256 bytes"
pub same_tokens : map token_of (below 256 []) ≡ map (lookup by_eights) (below 256 [])
unfolding token_of lookup
same_tokens = refl

-- and in every grammar
pub same-leads : (n : ℕ) (g : Grammar)
    → map (taken n g) (map token_of (below 256 [])) ≡ map (taken n g) (map (lookup by_eights) (below 256 []))
same-leads n g = ap (map (taken n g)) same_tokens
