-- Laws of what specs/Says.antt defines. Assumes nothing.
use mathlib.Core.Path.{◌≡◌, sym, ◌∙◌}
use mathlib.Core.Bool.{Bool, true, false, not, true≢false}
use borrow.Author.Tests.{not-true, not-false}
use Rattle.rows.specs.Says.{Says, holds, fails}

pub says_map : {P Q : Type 0} {r : Bool} → (P → Q) → (Q → P) → Says P r → Says Q r
says_map f g (holds p) = holds (f p)
says_map f g (fails n) = fails (λ q. n (g q))

pub says_pass : {P : Type 0} {r : Bool} → not r ≡ false → Says P r → P
says_pass e (holds p) = p
says_pass e (fails n) = absurd (true≢false e)

pub says_fail : {P : Type 0} {r : Bool} → not r ≡ true → Says P r → P → ⊥
says_fail e (holds p) = absurd (true≢false (sym e))
says_fail e (fails n) = n

pub says-yes : {P : Type 0} {r : Bool} → r ≡ true → Says P r → P
says-yes e (holds p) = p
says-yes e (fails n) = absurd (true≢false (sym e))

pub says-no : {P : Type 0} {r : Bool} → r ≡ false → Says P r → P → ⊥
says-no e (holds p) = absurd (true≢false e)
says-no e (fails n) = n

-- what a test told is so
pub test_yes : {b r : Bool} → r ≡ b → not r ≡ false → b ≡ true
test_yes {r = r} e t = sym e ∙ not-false r t

pub test_no : {b r : Bool} → r ≡ b → not r ≡ true → b ≡ false
test_no {r = r} e t = sym e ∙ not-true r t

pub says_is : {b r : Bool} → r ≡ b → Says (b ≡ true) r
says_is {b} {r} e = go r e
  where
    go : (x : Bool) → x ≡ b → Says (b ≡ true) x
    go true e = holds (sym e)
    go false e = fails (λ q. true≢false (sym q ∙ sym e))
