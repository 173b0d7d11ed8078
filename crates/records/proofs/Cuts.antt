-- Laws of what specs/Cuts.antt defines. Assumes nothing.
use mathlib.Core.Path.{◌≡◌, refl, sym, ap, ◌∙◌}
use mathlib.Core.Bool.{Bool, true, false, cond}
use mathlib.Core.List.{List, [], ◌∷◌, ◌++◌, append-nil, append_assoc, flatten}
use mathlib.Core.Option.{Option, none, some}
use Prim.Native.Nat.{ℕ, zero, suc, ◌+◌, ◌≤◌, ◌<◌}
use native.Mathlib.Omega.{arith}
use lib.ListN.{length, get_or, drop, length-append, length-drop}
use lib.Seq.{drop-append-le}
use Rattle.book.specs.Book.{Book}
use Rattle.book.specs.Program.{Line, end_bad, obey, record_length, command_at, told, lines, roomrules, text_of, texts_of, written}
use Rattle.book.specs.Program as program
use Rattle.records.specs.declared.Command.{Command}
use Rattle.records.specs.declared.Found.TheVariants.{Record}
use Rattle.records.specs.Record.{command_in, arguments_in, asked}
use Rattle.records.proofs.TextLaws.{text_then}
use Rattle.records.proofs.Reading.{never}
use Rattle.records.proofs.Links.{read_cases, doomed-stays, partial-none}
use Rattle.records.proofs.Promises.{Recorded, found-record}
use Rattle.records.specs.Cuts.{Step, writes, waits, ends, step_on, step}

-- ---- all steps

-- a step's line and what follows, a read, or the end
abbrev pub turned : Step → (Line → Option Book → List ℕ → List Line) → (Unit {0} → List Line) → List Line
turned (writes l o left) go refill = go l o left
turned waits go refill = refill tt
turned (ends l) go refill = l ∷ []

-- the next read brings a part of the input, or shows that it has ended
abbrev pub refilled : (List ℕ → Bool → List (List ℕ) → List Line) → List ℕ → List (List ℕ) → List Line
refilled go bs [] = go bs true []
refilled go bs (x ∷ parts) = go (bs ++ x) false parts

-- the lines for the bytes at hand and the parts that are still to be read
abbrev pub follow : ℕ → Option Book → List ℕ → Bool → List (List ℕ) → List Line
follow zero o bs ended parts = []
follow (suc fuel) o bs ended parts =
    turned (step o bs ended)
    (λ l o' left. let more = follow fuel o' left ended parts in l ∷ more)
    (λ u. refilled (follow fuel o) bs parts)

-- a step for each part, one for the end of the input, and one for each byte are enough
abbrev pub effort : List ℕ → Bool → List (List ℕ) → ℕ
effort bs ended parts = length bs + length (flatten parts) + length parts + cond ended 0 1

-- what the program writes for input that comes in parts
abbrev pub lines_of_parts : List (List ℕ) → List Line
lines_of_parts parts = follow (suc (effort [] false parts)) none [] false parts

-- ---- the book's lines, a record at a time

abbrev pub lines_from : Option Book → List ℕ → List Line
lines_from o bs = lines (length bs) o bs

-- the bytes after a record
abbrev after : List ℕ → List ℕ
after bs = drop (2 + record_length bs) bs

after_shorter : (x : ℕ) (xs : List ℕ) → length (after (x ∷ xs)) ≤ length xs
after_shorter x xs = omega (arith, length-drop (2 + record_length (x ∷ xs)) (x ∷ xs))

-- enough fuel is enough
lines_fuel : (f g : ℕ) (o : Option Book) (bs : List ℕ) → length bs ≤ f → length bs ≤ g → lines f o bs ≡ lines g o bs
lines_fuel zero zero o bs a b = refl
lines_fuel zero (suc g) o [] a b = refl
lines_fuel zero (suc g) o (x ∷ xs) a b = absurd (omega arith)
lines_fuel (suc f) zero o [] a b = refl
lines_fuel (suc f) zero o (x ∷ xs) a b = absurd (omega arith)
lines_fuel (suc f) (suc g) o [] a b = refl
lines_fuel (suc f) (suc g) o (x ∷ xs) a b =
    go (command_at (x ∷ xs))
    (λ o'. lines_fuel f g o' (after (x ∷ xs)) (omega (arith, after_shorter x xs)) (omega (arith, after_shorter x xs)))
  where
    go : (m : Option program.Command) → ((o' : Option Book) → lines f o' (after (x ∷ xs)) ≡ lines g o' (after (x ∷ xs)))
        → told m (λ c. let d = obey o c in d.1 ∷ lines f d.0 (after (x ∷ xs)))
        ≡ told m (λ c. let d = obey o c in d.1 ∷ lines g d.0 (after (x ∷ xs)))
    go none h = refl
    go (some c) h = ap (λ (l : List Line). (obey o c).1 ∷ l) (h (obey o c).0)

lines_bad : (o : Option Book) (bs : List ℕ) → 1 ≤ length bs → command_at bs ≡ none → lines_from o bs ≡ end_bad ∷ []
lines_bad o [] h e = absurd (omega arith)
lines_bad o (x ∷ xs) h e =
    ap (λ (m : Option program.Command). told m (λ c. let d = obey o c in d.1 ∷ lines (length xs) d.0 (after (x ∷ xs)))) e

lines_next : (o : Option Book) (bs : List ℕ) (c : program.Command) → 1 ≤ length bs → command_at bs ≡ some c
    → lines_from o bs ≡ (obey o c).1 ∷ lines_from (obey o c).0 (after bs)
lines_next o [] c h e = absurd (omega arith)
lines_next o (x ∷ xs) c h e =
    ap (λ (m : Option program.Command). told m (λ c. let d = obey o c in d.1 ∷ lines (length xs) d.0 (after (x ∷ xs)))) e
    ∙ ap (λ (l : List Line). (obey o c).1 ∷ l)
    (lines_fuel (length xs) (length (after (x ∷ xs))) (obey o c).0 (after (x ∷ xs)) (after_shorter x xs) (omega arith))

-- ---- a step keeps to the book

-- the book's lines from here on, by what a step did
abbrev pub lines_after : Option Book → List ℕ → List ℕ → Step → List Line
lines_after o bs rest (writes l o' left) = l ∷ lines_from o' (left ++ rest)
lines_after o bs rest waits = lines_from o (bs ++ rest)
lines_after o bs rest (ends l) = l ∷ []

no_bytes : (bs : List ℕ) → length bs ≡ 0 → bs ≡ []
no_bytes [] h = refl
no_bytes (x ∷ xs) h = absurd (omega arith)

-- whatever part of the rest has not been read, and all of it has where the bytes are ended
pub step_follows : (o : Option Book) (bs : List ℕ) (ended : Bool) (rest : List ℕ) → (ended ≡ true → rest ≡ [])
    → lines_from o (bs ++ rest) ≡ lines_after o bs rest (step o bs ended)
step_follows o bs ended rest last =
    read_cases bs (λ f. lines_from o (bs ++ rest) ≡ lines_after o bs rest (step_on o bs f)) ended
    (λ h t. ap (λ (l : List ℕ). lines_from o (l ++ rest)) (no_bytes bs h) ∙ ap (lines_from o) (last t))
    (λ t d s. refl)
    (λ h d. lines_bad o (bs ++ rest) (omega (arith, length-append bs rest)) (doomed-stays bs rest d))
    (λ h t d s. ap (λ (l : List ℕ). lines_from o (bs ++ l)) (last t) ∙ ap (lines_from o) (append-nil bs)
    ∙ lines_bad o bs h (partial-none bs s))
    (λ d s. recorded (command_in (get_or bs 3 0) (arguments_in bs)) (2 + record_length bs) (found-record bs d s))
  where
    recorded : (c : Command) (size : ℕ) → Recorded bs c size → lines_from o (bs ++ rest) ≡ lines_after o bs rest (step_on o bs (Record c size))
    recorded c size r =
        lines_next o (bs ++ rest) (asked bs size c) (omega (arith, length-append bs rest, r.within, r.least)) (r.command-is rest)
        ∙ ap (λ (l : List ℕ). (obey o (asked bs size c)).1 ∷ lines_from (obey o (asked bs size c)).0 l)
        (ap (λ (k : ℕ). drop k (bs ++ rest)) (r.length-is rest) ∙ drop-append-le size bs rest r.within)

-- a step that writes leaves fewer bytes, and a step waits only where more may come
abbrev Lessens : List ℕ → Bool → Step → Type 0
Lessens bs ended (writes l o left) = length left < length bs
Lessens bs ended waits = ended ≡ false
Lessens bs ended (ends l) = Unit {0}

step_lessens : (o : Option Book) (bs : List ℕ) (ended : Bool) → Lessens bs ended (step o bs ended)
step_lessens o bs ended =
    read_cases bs (λ f. Lessens bs ended (step_on o bs f)) ended
    (λ h t. tt)
    (λ t d s. t)
    (λ h d. tt)
    (λ h t d s. tt)
    (λ d s. omega (arith, length-drop (2 + record_length bs) bs))

-- ---- the input in parts

-- what is to be shown of the lines that are written with so much fuel
abbrev Follows : ℕ → Type 0
Follows fuel =
    (o : Option Book) (bs : List ℕ) (ended : Bool) (parts : List (List ℕ)) → (ended ≡ true → parts ≡ []) → effort bs ended parts < fuel
    → follow fuel o bs ended parts ≡ lines_from o (bs ++ flatten parts)

refill_follows : (fuel : ℕ) → Follows fuel → (o : Option Book) (bs : List ℕ) (ended : Bool) (parts : List (List ℕ)) → ended ≡ false
    → effort bs ended parts < suc fuel → refilled (follow fuel o) bs parts ≡ lines_from o (bs ++ flatten parts)
unfolding flatten
refill_follows fuel ih o bs true parts e h = never (cc)
refill_follows fuel ih o bs false [] e h = ih o bs true [] (λ t. refl) (omega arith)
refill_follows fuel ih o bs false (x ∷ parts) e h =
    ih o (bs ++ x) false parts (λ t. never (cc)) (omega (arith, length-append bs x, length-append x (flatten parts)))
    ∙ ap (lines_from o) (append_assoc bs x (flatten parts))

turn_follows : (fuel : ℕ) → Follows fuel → (o : Option Book) (bs : List ℕ) (ended : Bool) (parts : List (List ℕ))
    → (ended ≡ true → parts ≡ [])
    → effort bs ended parts < suc fuel → (s : Step) → Lessens bs ended s
    → turned s (λ l o' left. l ∷ follow fuel o' left ended parts) (λ u. refilled (follow fuel o) bs parts)
    ≡ lines_after o bs (flatten parts) s
turn_follows fuel ih o bs ended parts last h (writes l o' left) less =
    ap (λ (ls : List Line). l ∷ ls) (ih o' left ended parts last (omega arith))
turn_follows fuel ih o bs ended parts last h waits less = refill_follows fuel ih o bs ended parts less h
turn_follows fuel ih o bs ended parts last h (ends l) less = refl

follows : (fuel : ℕ) → Follows fuel
unfolding flatten
follows zero o bs ended parts last h = absurd (omega arith)
follows (suc fuel) o bs ended parts last h =
    turn_follows fuel (follows fuel) o bs ended parts last h (step o bs ended) (step_lessens o bs ended)
    ∙ sym (step_follows o bs ended (flatten parts) (λ t. ap flatten (last t)))

-- however the input is cut into reads, the lines are the book's
pub any-cut : (parts : List (List ℕ)) → lines_of_parts parts ≡ roomrules (flatten parts)
any-cut parts = follows (suc (effort [] false parts)) none [] false parts (λ t. never (cc)) (omega arith)

-- and so is the text
pub any_cut_text : (parts : List (List ℕ)) → texts_of (lines_of_parts parts) ≡ written (flatten parts)
any_cut_text parts = ap texts_of (any-cut parts)

-- ---- the text, a step at a time: what is written so far and `text_from` of what is left stay the book's text

abbrev pub text_from : Option Book → List ℕ → List ℕ
text_from o bs = texts_of (lines_from o bs)

abbrev pub text_after : Option Book → List ℕ → List ℕ → Step → List ℕ
text_after o bs rest (writes l o' left) = text_of l [] ++ text_from o' (left ++ rest)
text_after o bs rest waits = text_from o (bs ++ rest)
text_after o bs rest (ends l) = text_of l []

pub text_starts : (input : List ℕ) → text_from none input ≡ written input
text_starts input = refl

pub text_follows : (o : Option Book) (bs : List ℕ) (ended : Bool) (rest : List ℕ) → (ended ≡ true → rest ≡ [])
    → text_from o (bs ++ rest) ≡ text_after o bs rest (step o bs ended)
text_follows o bs ended rest last = ap texts_of (step_follows o bs ended rest last) ∙ as_text (step o bs ended)
  where
    as_text : (s : Step) → texts_of (lines_after o bs rest s) ≡ text_after o bs rest s
    as_text (writes l o' left) = text_then l (text_from o' (left ++ rest))
    as_text waits = refl
    as_text (ends l) = refl
