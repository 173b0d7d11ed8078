-- What each answer of `read_record` promises: a record is the book's command whatever follows, `Bad` is exactly the book's `end bad`, and
-- more is asked for only where the bytes at hand do not decide. Assumes nothing.
use mathlib.Core.Path.{◌≡◌, refl, sym, ap, ◌∙◌, subst}
use mathlib.Core.Bool.{Bool, true, false, not}
use mathlib.Core.List.{List, [], ◌∷◌, ◌++◌, append-nil, append_assoc}
use mathlib.Core.Option.{none, some}
use Prim.Native.Nat.{ℕ, ◌+◌, ◌-◌, ◌≤◌, ◌<◌}
use native.Mathlib.Nat.{lt_of_not-le}
use native.Mathlib.Omega.{arith}
use lib.Dec.{eqb}
use lib.ListN.{length, get_or, replicate, length-append, length-replicate}
use lib.Seq.{get_or_at}
use borrow.Author.Tests.{leb-true, eqb-true, eqb-false, le-leb}
use Rattle.book.specs.Program.{record_length, command_at}
use Rattle.book.specs.Program as program
use Rattle.records.specs.declared.Command.{Command}
use Rattle.records.specs.declared.Found.TheVariants.{End, More, Bad, Record}
use Rattle.records.specs.Record.{takes, command_in, arguments_in, doomed, read_record, asked, start_of}
use Rattle.records.proofs.Reading.{never, range-within, takes_none, doomed_four, doomed-takes, hopeful_length, hopeful_version}
use Rattle.records.proofs.Reading.{hopeful_takes}
use Rattle.records.proofs.Links.{read_cases, operations, same_byte, same_length, doomed-stays, partial-none, found-whole}
use Rattle.records.proofs.Links.{found-command}

-- ---- a record

-- a formula begins within its record
start-within : (op k : ℕ) (xs : List ℕ) → takes op k ≡ true → start_of (command_in op xs) ≤ 4 + k
start-within op k xs =
    operations (λ (o : ℕ). takes o k ≡ true → start_of (command_in o xs) ≤ 4 + k) op
    (λ e. omega arith)
    (λ e. omega (arith, leb-true 1 k e))
    (λ e. omega (arith, leb-true 5 k e))
    (λ e. omega arith)
    (λ e. omega arith)
    (λ e. omega arith)
    (λ n₁ n₂ n₃ n₄ n₅ n₆ e. let z : true ≡ false = sym e ∙ takes_none op k n₁ n₂ n₃ n₄ n₅ n₆ in never (cc))

-- the record at the front of the bytes, whatever follows them
pub record Recorded (bs : List ℕ) (c : Command) (size : ℕ) : Type 0 where
  pub within : size ≤ length bs
  pub least : 4 ≤ size
  pub most : size ≤ 1_102
  pub starts : start_of c ≤ size
  pub length-is : (rest : List ℕ) → 2 + record_length (bs ++ rest) ≡ size
  pub command-is : (rest : List ℕ) → command_at (bs ++ rest) ≡ some (asked bs size c)

pub found-record : (bs : List ℕ) → doomed bs ≡ false → 2 + record_length bs ≤ length bs
    → Recorded bs (command_in (get_or bs 3 0) (arguments_in bs)) (2 + record_length bs)
found-record bs d s =
    let w = found-whole bs d s in
    record {
      within = s;
      least = omega (arith, w.least);
      most = omega (arith, w.most);
      starts =
          omega (
            arith,
            w.least,
            start-within (get_or bs 3 0) (record_length bs - 2) (arguments_in bs) (hopeful_takes bs d (omega (arith, w.least))),
          );
      length-is = λ rest. ap (λ (k : ℕ). 2 + k) (same_length bs rest w.started);
      command-is = λ rest. found-command bs rest d s;
    }

pub record-read : (bs : List ℕ) (ended : Bool) (c : Command) (size : ℕ) → read_record bs ended ≡ Record c size → Recorded bs c size
record-read bs ended c size =
    read_cases bs (λ f. f ≡ Record c size → Recorded bs c size) ended
    (λ h t e. never (cc))
    (λ t d s e. never (cc))
    (λ h d e. never (cc))
    (λ h t d s e. never (cc))
    (λ d s e.
    let p : command_in (get_or bs 3 0) (arguments_in bs) ≡ c = cc in
    let q : 2 + record_length bs ≡ size = cc in
    subst (Recorded bs c) q (subst (λ (x : Command). Recorded bs x (2 + record_length bs)) p (found-record bs d s)))

-- ---- the end

pub end_read : (bs : List ℕ) (ended : Bool) → read_record bs ended ≡ End → (ended ≡ true) × (length bs ≡ 0)
end_read bs ended =
    read_cases bs (λ f. f ≡ End → (ended ≡ true) × (length bs ≡ 0)) ended
    (λ h t e. (t, h))
    (λ t d s e. never (cc))
    (λ h d e. never (cc))
    (λ h t d s e. never (cc))
    (λ d s e. never (cc))

-- ---- more

-- more bytes are asked for only where more may come, no record is whole, and a buffer of the longest record's length has room
pub more-read : (bs : List ℕ) (ended : Bool) → read_record bs ended ≡ More → (ended ≡ false) × (length bs < 1_102) × (command_at bs ≡ none)
more-read bs ended =
    read_cases bs (λ f. f ≡ More → (ended ≡ false) × (length bs < 1_102) × (command_at bs ≡ none)) ended
    (λ h t e. never (cc))
    (λ t d s e. (t, lt_of_not-le (λ w. let r = hopeful_length bs d (omega arith) in omega arith), partial-none bs s))
    (λ h d e. never (cc))
    (λ h t d s e. never (cc))
    (λ d s e. never (cc))

-- ---- bad

pub bad_read : (bs : List ℕ) (ended : Bool) → read_record bs ended ≡ Bad → (rest : List ℕ) → (ended ≡ true → rest ≡ [])
    → (1 ≤ length bs) × (command_at (bs ++ rest) ≡ none)
bad_read bs ended e rest last =
    read_cases bs (λ f. f ≡ Bad → (1 ≤ length bs) × (command_at (bs ++ rest) ≡ none)) ended
    (λ h t e. never (cc))
    (λ t d s e. never (cc))
    (λ h d e. (h, doomed-stays bs rest d))
    (λ h t d s e. (h, ap (λ (l : List ℕ). command_at (bs ++ l)) (last t) ∙ ap command_at (append-nil bs) ∙ partial-none bs s))
    (λ d s e. never (cc))
    e

-- of ended bytes, exactly where the book has no command
pub bad_ended : (bs : List ℕ) → 1 ≤ length bs → command_at bs ≡ none → read_record bs true ≡ Bad
bad_ended bs h n =
    read_cases bs (λ f. f ≡ Bad) true
    (λ z t. absurd (omega arith))
    (λ t d s. never (cc))
    (λ g d. refl)
    (λ g t d s. refl)
    (λ d s. let k = found-command bs [] d s in never (cc (ap command_at (append-nil bs))))

-- ---- the bytes at hand do not decide

-- a way to go on after which the book has a command
abbrev pub Completes : List ℕ → Type 0
Completes bs = (rest : List ℕ) × (c : program.Command) × (command_at (bs ++ rest) ≡ some c)

-- after one byte more
one_more : (bs : List ℕ) (x : ℕ) → Completes (bs ++ (x ∷ [])) → Completes bs
one_more bs x k = (x ∷ k.0, k.1, ap command_at (sym (append_assoc bs (x ∷ []) k.0)) ∙ k.2)

-- the bytes and one more
module _ (bs : List ℕ) (x : ℕ) where
  one-length : length (bs ++ (x ∷ [])) ≡ length bs + 1
  one-length = length-append bs (x ∷ [])

  one_byte : (i : ℕ) → length bs ≡ i → get_or (bs ++ (x ∷ [])) i 0 ≡ x
  one_byte i h = get_or_at bs x [] 0 i h

-- the operation is there: zeros do
completes_arguments : (bs : List ℕ) → doomed bs ≡ false → 4 ≤ length bs → Completes bs
completes_arguments bs d h =
    let r = hopeful_length bs d (omega arith) in
    let e = same_length bs zeros (omega arith) in
    let n = length-append bs zeros in
    let z = length-replicate {A = ℕ} (2 + record_length bs - length bs) 0 in
    let t = doomed-takes (bs ++ zeros) (omega arith) (same_byte bs zeros 2 (omega arith) ∙ hopeful_version bs d (omega arith))
    (range-within (record_length (bs ++ zeros)) (omega arith) (omega arith))
    ∙ ap (λ (op : ℕ). not (takes op (record_length (bs ++ zeros) - 2))) (same_byte bs zeros 3 (omega arith))
    ∙ ap (λ (k : ℕ). not (takes (get_or bs 3 0) (k - 2))) e
    ∙ ap not (hopeful_takes bs d h) in
    (zeros, _, sym (ap command_at (append-nil (bs ++ zeros))) ∙ found-command (bs ++ zeros) [] t (omega arith))
  where
    zeros : List ℕ
    zeros = replicate (2 + record_length bs - length bs) 0

-- the version is there: any operation that takes what L leaves
completes_with : (bs : List ℕ) → doomed bs ≡ false → length bs ≡ 3 → (op : ℕ) → takes op (record_length bs - 2) ≡ true → Completes bs
completes_with bs d h op t =
    let r = hopeful_length bs d (omega arith) in
    let n = one-length bs op in
    let e = same_length bs (op ∷ []) (omega arith) in
    one_more bs op (completes_arguments (bs ++ (op ∷ []))
    (doomed-takes (bs ++ (op ∷ [])) (omega arith) (same_byte bs (op ∷ []) 2 (omega arith) ∙ hopeful_version bs d (omega arith))
    (range-within (record_length (bs ++ (op ∷ []))) (omega arith) (omega arith))
    ∙ ap (λ (x : ℕ). not (takes x (record_length (bs ++ (op ∷ [])) - 2))) (one_byte bs op 3 h)
    ∙ ap (λ (k : ℕ). not (takes op (k - 2))) e
    ∙ ap not t)
    (omega arith))

-- collect where L leaves nothing, else relation
completes_operation : (bs : List ℕ) → doomed bs ≡ false → length bs ≡ 3 → Completes bs
completes_operation bs d h = go (eqb (record_length bs) 2) refl
  where
    go : (t : Bool) → eqb (record_length bs) 2 ≡ t → Completes bs
    go true q =
        let k : record_length bs - 2 ≡ 0 = omega (arith, eqb-true (record_length bs) 2 q) in
        completes_with bs d h 6 (ap (λ (x : ℕ). takes 6 x) k)
    go false q =
        let r = hopeful_length bs d (omega arith) in
        completes_with bs d h 2 (le-leb 1 (record_length bs - 2) (lt_of_not-le (λ w. eqb-false (record_length bs) 2 q (omega arith))))

-- the length is there: version 1
completes_version : (bs : List ℕ) → doomed bs ≡ false → length bs ≡ 2 → Completes bs
completes_version bs d h =
    let r = hopeful_length bs d (omega arith) in
    let n = one-length bs 1 in
    let e = same_length bs (1 ∷ []) (omega arith) in
    one_more bs 1 (completes_operation (bs ++ (1 ∷ []))
    (doomed_four (bs ++ (1 ∷ [])) (omega arith) (omega arith) (one_byte bs 1 2 h)
    (range-within (record_length (bs ++ (1 ∷ []))) (omega arith) (omega arith)))
    (omega arith))

-- once L is known, bytes that are not doomed can always be completed
pub completes : (bs : List ℕ) → doomed bs ≡ false → 2 ≤ length bs → Completes bs
completes bs d h = go (eqb (length bs) 2) refl
  where
    longer : (t : Bool) → eqb (length bs) 3 ≡ t → (length bs ≡ 2 → ⊥) → Completes bs
    longer true q n = completes_operation bs d (eqb-true (length bs) 3 q)
    longer false q n = completes_arguments bs d (lt_of_not-le (λ w. eqb-false (length bs) 3 q (lt-exact (length bs) h (omega arith) n)))
      where
        lt-exact : (k : ℕ) → 2 ≤ k → k ≤ 3 → (k ≡ 2 → ⊥) → k ≡ 3
        lt-exact k a b c = let g : 2 < k = lt_of_not-le (λ w. c (omega arith)) in omega arith

    go : (t : Bool) → eqb (length bs) 2 ≡ t → Completes bs
    go true q = completes_version bs d (eqb-true (length bs) 2 q)
    go false q = longer (eqb (length bs) 3) refl (eqb-false (length bs) 2 q)

-- so `More` is said only where one way to go on has a command, while the input's end here has none (`more-read`)
pub more_undecided : (bs : List ℕ) (ended : Bool) → read_record bs ended ≡ More → 2 ≤ length bs → Completes bs
more_undecided bs ended e h =
    read_cases bs (λ f. f ≡ More → Completes bs) ended
    (λ z t e. never (cc))
    (λ t d s e. completes bs d h)
    (λ z d e. never (cc))
    (λ z t d s e. never (cc))
    (λ d s e. never (cc))
    e

-- and of bytes that may go on, once L is known, `Bad` is said exactly where no way to go on has a command
pub bad_open : (bs : List ℕ) → 2 ≤ length bs → ((rest : List ℕ) → command_at (bs ++ rest) ≡ none) → read_record bs false ≡ Bad
bad_open bs h n =
    read_cases bs (λ f. f ≡ Bad) false
    (λ z t. absurd (omega arith))
    (λ t d s. let k = completes bs d h in let m = n k.0 in never (cc k.2))
    (λ g d. refl)
    (λ g t d s. refl)
    (λ d s. let k = found-command bs [] d s in let m = n [] in never (cc))
