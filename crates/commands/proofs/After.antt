-- Laws of what specs/After.antt defines. Assumes nothing.
use mathlib.Core.Path.{◌≡◌, refl, sym, ap, ◌∙◌, subst}
use mathlib.Core.Bool.{Bool, true, false, ◌||◌}
use mathlib.Core.Logic.{◌≢◌}
use mathlib.Core.List.{List}
use Prim.Native.Nat.{ℕ, zero, suc, ◌≤◌}
use native.Mathlib.Omega.{arith}
use lib.Dec.{eqb}
use lib.ListN.{length}
use borrow.Author.Tests.{ne_eqb, eq-eqb}
use Rattle.rows.specs.Says.{Says, holds, fails}
use Rattle.book.specs.Book.{Call, relation, set, valid, clear, collect, fresh_number}
use Rattle.book.specs.Program.{Command, start, call, states}
use Rattle.contract.specs.Seen.{SoundWords}
use Rattle.records.specs.declared.Found.{Found}
use Rattle.records.specs.declared.Found.TheVariants as found
use Rattle.records.specs.Record.{read_record, asked}
use Rattle.commands.specs.declared.Outcome.{Outcome}
use Rattle.commands.specs.declared.Taken.{Taken}
use Rattle.commands.specs.declared.Taken.TheVariants.{Done, End, More, Bad}
use Rattle.commands.specs.Obey.{reply_of, Posted, Obeys, Takes, TakePost}
use Rattle.commands.specs.After.{sound_after}

-- by what became of the bytes at hand
abbrev pub sound_taken : Bool → Taken → Bool
sound_taken b (Done x size) = sound_after b x.number
sound_taken b End = b
sound_taken b More = b
sound_taken b Bad = b

-- the tests of `sound_after`
pub after-answered : (b : Bool) (k : ℕ) → b ≡ false → k ≡ 0 → true ≡ sound_after b k
after-answered b k e z = sym (ap (λ (t : Bool). t || eqb k 0) e ∙ eq-eqb k 0 z)

pub after-refused : (b : Bool) (k : ℕ) → b ≡ false → k ≢ 0 → false ≡ sound_after b k
after-refused b k e n = sym (ap (λ (t : Bool). t || eqb k 0) e ∙ ne_eqb k 0 n)

-- ---- one command

-- "every later call on a sound table leave a sound one"
stays-sound : (c : Command) (old new : List ℕ) (x : Outcome) → SoundWords old → Posted c old new x → SoundWords new
stays-sound (start n N) old new x s p = pick (fresh_number n N (length old) 1) refl
  where
    pick : (k : ℕ) → fresh_number n N (length old) 1 ≡ k → SoundWords new
    pick zero e = (p.0.answers e).1
    pick (suc k) e = subst SoundWords (sym (p.0.refuses k e).1) s
stays-sound (call c) old new x s p = (p.0.performs.served s).0
stays-sound (states r) old new x s p = subst SoundWords (sym p.0) s

-- a number says whether P holds
answered-says : {P : Type 0} (k : ℕ) → k ≡ 0 → P → Says P (eqb k 0)
answered-says {P} k e p = subst (Says P) (sym (eq-eqb k 0 e)) (holds p)

refused_says : {P : Type 0} (k : ℕ) → 1 ≤ k → (P → ⊥) → Says P (eqb k 0)
refused_says {P} k l n = subst (Says P) (sym (ne_eqb k 0 (λ e. absurd (omega arith)))) (fails n)

number_of : (c : Call) (x : Outcome) → (reply_of c x).number ≡ x.number
number_of (relation t bs) x = refl
number_of (set acc r R bs) x = refl
number_of (valid bs) x = refl
number_of (clear r) x = refl
number_of collect x = refl

-- "An answered fresh .. leave a sound one"; "table unsound: 2, all words"
from-unsound : (c : Command) (old new : List ℕ) (x : Outcome) → (SoundWords old → ⊥) → Posted c old new x
    → Says (SoundWords new) (eqb x.number 0)
from-unsound (start n N) old new x u p = pick (fresh_number n N (length old) 1) refl
  where
    pick : (k : ℕ) → fresh_number n N (length old) 1 ≡ k → Says (SoundWords new) (eqb x.number 0)
    pick zero e = answered-says x.number (p.0.answers e).0.0 (p.0.answers e).1
    pick (suc k) e =
        let (y, w) = p.0.refuses k e in
        let i = y.0 in
        refused_says x.number (omega (arith, i)) (λ s. u (subst SoundWords w s))
from-unsound (call c) old new x u p =
    let (y, w) = p.0.performs.unsound u in
    let i = sym (number_of c x) ∙ y.0 in
    refused_says x.number (omega (arith, i)) (λ s. u (subst SoundWords w s))
from-unsound (states r) old new x u p =
    let i = (p.1.unsound u).0 in
    refused_says x.number (omega (arith, i)) (λ s. u (subst SoundWords p.0 s))

pub obeyed-says : (c : Command) (b : Bool) {old new : List ℕ} {x : Outcome} → Says (SoundWords old) b → Obeys c old new x
    → Says (SoundWords new) (sound_after b x.number)
obeyed-says c true (holds s) o = holds (stays-sound c _ _ _ s o.posted)
obeyed-says c false (fails u) o = from-unsound c _ _ _ u o.posted

-- ---- the bytes at hand

pub taken-says : (bs : List ℕ) (ended b : Bool) (old new : List ℕ) {r : Taken} (v : Taken) → TakePost bs ended old new r → r ≡ v
    → Says (SoundWords old) b → Says (SoundWords new) (sound_taken b v)
taken-says bs ended b old new {r} v p i s = subst (λ (t : Taken). Says (SoundWords new) (sound_taken b t)) i (go (read_record bs ended) p)
  where
    -- no word changes
    same : (t : Taken) → sound_taken b t ≡ b → r ≡ t → new ≡ old → Says (SoundWords new) (sound_taken b r)
    same t k e w =
        subst (λ (ws : List ℕ). Says (SoundWords ws) (sound_taken b r)) (sym w)
        (subst (Says (SoundWords old)) (sym (ap (sound_taken b) e ∙ k)) s)

    go : (f : Found) → Takes bs old new f r → Says (SoundWords new) (sound_taken b r)
    go found.End (e, w) = same End refl e w
    go found.More (e, w) = same More refl e w
    go found.Bad (e, w) = same Bad refl e w
    go (found.Record c size) (x, e, o) =
        subst (λ (t : Taken). Says (SoundWords new) (sound_taken b t)) (sym e) (obeyed-says (asked bs size c) b s o)

-- a record was obeyed, and what is so after it was computed
pub obeyed-sound : (bs : List ℕ) (ended b : Bool) (old new : List ℕ) {r : Taken} {x : Outcome} {size : ℕ} {t : Bool}
    → TakePost bs ended old new r → r ≡ Done x size → Says (SoundWords old) b → t ≡ sound_after b x.number → Says (SoundWords new) t
obeyed-sound bs ended b old new {x = x} {size = size} p i s e =
    subst (Says (SoundWords new)) (sym e) (taken-says bs ended b old new (Done x size) p i s)
