-- What `read_record` says of every continuation of the bytes at hand, by the book's own reading (`command_at`, `record_length`).
-- Assumes nothing.
use mathlib.Core.Path.{◌≡◌, refl, sym, ap, ◌∙◌, subst}
use mathlib.Core.Bool.{Bool, true, false, cond, ◌&&◌, ◌||◌}
use mathlib.Core.List.{List, [], ◌∷◌, ◌++◌}
use mathlib.Core.Option.{none, some}
use Prim.Native.Nat.{ℕ, zero, suc, ◌+◌, ◌*◌, ◌-◌, ◌≤◌, ◌<◌}
use native.Mathlib.Omega.{arith}
use lib.Dec.{leb, eqb}
use lib.ListN.{length, get_or, take, drop, length-append, length-drop, get_or-append}
use lib.Seq.{take-append-le, drop-append-le, drop-drop, take-nil}
use Rattle.accounts.specs.Terms.{alone}
use borrow.Author.Tests.{leb-true, leb-false, eqb-true, eqb-false, le-leb, eq-eqb, ne_eqb}
use Rattle.tokens.proofs.Table.{both_true}
use Rattle.book.specs.Program.{record_length, whole, command_of, command_at}
use Rattle.book.specs.Program as program
use Rattle.book.specs.Book as book
use Rattle.records.specs.declared.Found.{Found}
use Rattle.records.specs.declared.Found.TheVariants.{End, More, Bad, Record}
use Rattle.records.specs.Record.{in_range, takes, command_in, arguments_in, bad_length, bad_version, bad_arguments, doomed, partial}
use Rattle.records.specs.Record.{read_record, asked}
use Rattle.records.proofs.Reading.{never, fails, range-within, range-parts, arguments_length, doomed-two, read_none, read_bad}
use Rattle.records.proofs.Reading.{read-partial, read_whole, hopeful_length, hopeful_version, hopeful_takes}

-- ---- the ways of reading, for any property of what was found

module _ (bs : List ℕ) (P : Found → Type 0) where
  pub read_cases : (ended : Bool)
      → (length bs ≡ 0 → ended ≡ true → P End)
      → (ended ≡ false → doomed bs ≡ false → length bs < 2 + record_length bs → P More)
      → (1 ≤ length bs → doomed bs ≡ true → P Bad)
      → (1 ≤ length bs → ended ≡ true → doomed bs ≡ false → length bs < 2 + record_length bs → P Bad)
      → (doomed bs ≡ false → 2 + record_length bs ≤ length bs → P (Record (command_in (get_or bs 3 0) (arguments_in bs)) (2 + record_length bs)))
      → P (read_record bs ended)
  read_cases ended at_end more doom cut found = empty (eqb (length bs) 0) refl
    where
      partly : (e : Bool) → e ≡ ended → 1 ≤ length bs → doomed bs ≡ false → length bs < 2 + record_length bs → P (partial e)
      partly true q h d s = cut h (sym q) d s
      partly false q h d s = more (sym q) d s

      here : (w : Bool) → leb (2 + record_length bs) (length bs) ≡ w → 1 ≤ length bs → doomed bs ≡ false → P (read_record bs ended)
      here true q h d = let s = leb-true (2 + record_length bs) (length bs) q in subst P (sym (read_whole bs ended d s)) (found d s)
      here false q h d =
          let s = leb-false (2 + record_length bs) (length bs) q in
          subst P (sym (read-partial bs ended h d s)) (partly ended refl h d s)

      dark : (t : Bool) → doomed bs ≡ t → 1 ≤ length bs → P (read_record bs ended)
      dark true q h = subst P (sym (read_bad bs ended h q)) (doom h q)
      dark false q h = here (leb (2 + record_length bs) (length bs)) refl h q

      nothing : (e : Bool) → e ≡ ended → length bs ≡ 0 → P (cond e End More)
      nothing true q h = at_end h (sym q)
      nothing false q h = more (sym q) (doomed-two bs (omega arith)) (omega arith)

      empty : (t : Bool) → eqb (length bs) 0 ≡ t → P (read_record bs ended)
      empty true q = let h = eqb-true (length bs) 0 q in subst P (sym (read_none bs ended h)) (nothing ended refl h)
      empty false q =
          let n = eqb-false (length bs) 0 q in
          dark (doomed bs) refl (positive (length bs) n)
        where
          positive : (k : ℕ) → (k ≡ 0 → ⊥) → 1 ≤ k
          positive zero z = absurd (z refl)
          positive (suc k) z = omega arith

-- ---- the book's command by the operation

-- an operation is one of six, or none
or_else : (P : ℕ → Type 0) (op n : ℕ) → P n → ((op ≡ n → ⊥) → P op) → P op
or_else P op n p q = go (eqb op n) refl
  where
    go : (t : Bool) → eqb op n ≡ t → P op
    go true e = subst P (sym (eqb-true op n e)) p
    go false e = q (eqb-false op n e)

pub operations : (P : ℕ → Type 0) (op : ℕ) → P 1 → P 2 → P 3 → P 4 → P 5 → P 6
    → ((op ≡ 1 → ⊥) → (op ≡ 2 → ⊥) → (op ≡ 3 → ⊥) → (op ≡ 4 → ⊥) → (op ≡ 5 → ⊥) → (op ≡ 6 → ⊥) → P op) → P op
operations P op p₁ p₂ p₃ p₄ p₅ p₆ q =
    or_else P op 1 p₁ (λ n₁.
    or_else P op 2 p₂ (λ n₂.
    or_else P op 3 p₃ (λ n₃.
    or_else P op 4 p₄ (λ n₄.
    or_else P op 5 p₅ (λ n₅.
    or_else P op 6 p₆ (λ n₆. q n₁ n₂ n₃ n₄ n₅ n₆))))))

drop-take : (m n : ℕ) (l : List ℕ) → drop m (take n l) ≡ take (n - m) (drop m l)
drop-take zero n l = let q : n - 0 ≡ n = omega arith in rw q
drop-take (suc m) zero l = let q : 0 - suc m ≡ 0 = omega arith in rw q
drop-take (suc m) (suc n) [] = sym (take-nil (suc n - suc m))
drop-take (suc m) (suc n) (x ∷ l) = let q : suc n - suc m ≡ n - m = omega arith in rw q (drop-take m n l)

-- "a formula is the rest of its record"
formula_part : (bs : List ℕ) (m : ℕ) → drop m (arguments_in bs) ≡ take (2 + record_length bs - (4 + m)) (drop (4 + m) bs)
formula_part bs m =
    let q : record_length bs - 2 - m ≡ 2 + record_length bs - (4 + m) = omega arith in
    drop-take m (record_length bs - 2) (drop 4 bs) ∙ ap (λ (l : List ℕ). take (record_length bs - 2 - m) l) (drop-drop m 4 bs)
    ∙ ap (λ (k : ℕ). take k (drop (4 + m) bs)) q

-- the book's command is the one that is read, where the operation takes the arguments
command-taken : (bs : List ℕ) (op : ℕ)
    → command_of op (arguments_in bs)
    ≡ cond (takes op (length (arguments_in bs))) (some (asked bs (2 + record_length bs) (command_in op (arguments_in bs)))) none
command-taken bs op =
    operations (λ (o : ℕ). command_of o xs ≡ cond (takes o (length xs)) (some (asked bs (2 + record_length bs) (command_in o xs))) none) op
    refl
    (ap (λ (f : List ℕ). cond (leb 1 (length xs)) (some (program.call (book.relation (get_or xs 0 0) f))) none) (formula_part bs 1))
    (ap (λ (f : List ℕ). cond (leb 5 (length xs))
    (some (program.call (book.set alone (get_or xs 0 0) (((get_or xs 1 0 * 256 + get_or xs 2 0) * 256 + get_or xs 3 0) * 256 + get_or xs 4 0) f)))
    none) (formula_part bs 5))
    refl
    refl
    refl
    (λ n₁ n₂ n₃ n₄ n₅ n₆. rw (ne_eqb op 1 n₁, ne_eqb op 2 n₂, ne_eqb op 3 n₃, ne_eqb op 4 n₄, ne_eqb op 5 n₅, ne_eqb op 6 n₆))
  where
    xs : List ℕ
    xs = arguments_in bs

-- ---- whole records

pub record Wholly (bs : List ℕ) : Type 0 where
  pub started : 2 ≤ length bs
  pub least : 2 ≤ record_length bs
  pub most : record_length bs ≤ 1_100
  pub there : 2 + record_length bs ≤ length bs
  pub version : get_or bs 2 0 ≡ 1

whole_parts : (bs : List ℕ) → whole bs ≡ true → Wholly bs
whole_parts bs e =
    let p = both_true (leb 2 (length bs) && (leb 2 (record_length bs) && leb (record_length bs) 1_100))
    (leb (2 + record_length bs) (length bs) && eqb (get_or bs 2 0) 1) e in
    let q = both_true (leb 2 (length bs)) (leb 2 (record_length bs) && leb (record_length bs) 1_100) p.0 in
    let r = range-parts (record_length bs) q.1 in
    let s = both_true (leb (2 + record_length bs) (length bs)) (eqb (get_or bs 2 0) 1) p.1 in
    record {
      started = leb-true 2 (length bs) q.0;
      least = r.0;
      most = r.1;
      there = leb-true (2 + record_length bs) (length bs) s.0;
      version = eqb-true (get_or bs 2 0) 1 s.1;
    }

whole_is : (bs : List ℕ) → Wholly bs → whole bs ≡ true
whole_is bs w =
    rw (
      le-leb 2 (length bs) w.started,
      le-leb 2 (record_length bs) w.least,
      le-leb (record_length bs) 1_100 w.most,
      le-leb (2 + record_length bs) (length bs) w.there,
      eq-eqb (get_or bs 2 0) 1 w.version,
    )

-- the command of a whole record
pub command-whole : (bs : List ℕ) → Wholly bs → command_at bs ≡ command_of (get_or bs 3 0) (arguments_in bs)
command-whole bs w = ap (λ (t : Bool). cond t (command_of (get_or bs 3 0) (arguments_in bs)) none) (whole_is bs w)

-- no command: the bytes are no whole record, or the operation does not take the arguments
command-none : (bs : List ℕ) → (Wholly bs → takes (get_or bs 3 0) (record_length bs - 2) ≡ false) → command_at bs ≡ none
command-none bs h = go (whole bs) refl
  where
    go : (t : Bool) → whole bs ≡ t → cond t (command_of (get_or bs 3 0) (arguments_in bs)) none ≡ none
    go true e =
        let w = whole_parts bs e in
        command-taken bs (get_or bs 3 0)
        ∙ ap (λ (t : Bool). cond t (some (asked bs (2 + record_length bs) (command_in (get_or bs 3 0) (arguments_in bs)))) none)
        (ap (takes (get_or bs 3 0)) (arguments_length bs w.there) ∙ h w)
    go false e = refl

-- ---- every continuation

module _ (bs rest : List ℕ) where
  pub same_byte : (i : ℕ) → i < length bs → get_or (bs ++ rest) i 0 ≡ get_or bs i 0
  same_byte i h = get_or-append bs rest 0 i h

  pub same_length : 2 ≤ length bs → record_length (bs ++ rest) ≡ record_length bs
  same_length h =
      ap (λ (x : ℕ). x * 256 + get_or (bs ++ rest) 1 0) (same_byte 0 (omega arith))
      ∙ ap (λ (x : ℕ). get_or bs 0 0 * 256 + x) (same_byte 1 (omega arith))

  longer : length bs ≤ length (bs ++ rest)
  longer = omega (arith, length-append bs rest)

  same_arguments : 4 ≤ length bs → 2 + record_length bs ≤ length bs → arguments_in (bs ++ rest) ≡ arguments_in bs
  same_arguments h s =
      ap (λ (k : ℕ). take (k - 2) (drop 4 (bs ++ rest))) (same_length (omega arith))
      ∙ ap (take (record_length bs - 2)) (drop-append-le 4 bs rest h)
      ∙ take-append-le (record_length bs - 2) (drop 4 bs) rest (simp length-drop (omega arith))

  still-whole : Wholly bs → Wholly (bs ++ rest)
  still-whole w =
      let e = same_length w.started in
      let n = longer in
      let v = same_byte 2 (omega (arith, w.there, w.least)) in
      record {
        started = omega (arith, w.started);
        least = omega (arith, w.least);
        most = omega (arith, w.most);
        there = omega (arith, w.there);
        version = v ∙ w.version;
      }

  -- a whole record is the same record whatever follows it
  same-command : Wholly bs → command_at (bs ++ rest) ≡ command_at bs
  same-command w =
      command-whole (bs ++ rest) (still-whole w)
      ∙ ap (λ (op : ℕ). command_of op (arguments_in (bs ++ rest))) (same_byte 3 (omega (arith, w.there, w.least)))
      ∙ ap (command_of (get_or bs 3 0)) (same_arguments (omega (arith, w.there, w.least)) w.there)
      ∙ sym (command-whole bs w)

  -- bytes that are doomed stay so
  pub doomed-stays : doomed bs ≡ true → command_at (bs ++ rest) ≡ none
  unfolding doomed
  doomed-stays d = first (bad_length bs) refl
    where
      third : bad_arguments bs ≡ true → command_at (bs ++ rest) ≡ none
      third q =
          let f = fails (leb 4 (length bs)) (takes (get_or bs 3 0) (record_length bs - 2)) q in
          let h = leb-true 4 (length bs) f.0 in
          command-none (bs ++ rest) (λ w.
          ap (λ (op : ℕ). takes op (record_length (bs ++ rest) - 2)) (same_byte 3 (omega arith))
          ∙ ap (λ (k : ℕ). takes (get_or bs 3 0) (k - 2)) (same_length (omega arith))
          ∙ f.1)

      second : (t : Bool) → bad_version bs ≡ t → (t || bad_arguments bs) ≡ true → command_at (bs ++ rest) ≡ none
      second true q e =
          let f = fails (leb 3 (length bs)) (eqb (get_or bs 2 0) 1) q in
          let h = leb-true 3 (length bs) f.0 in
          command-none (bs ++ rest) (λ w. absurd (eqb-false (get_or bs 2 0) 1 f.1 (sym (same_byte 2 (omega arith)) ∙ w.version)))
      second false q e = third e

      first : (t : Bool) → bad_length bs ≡ t → command_at (bs ++ rest) ≡ none
      first true q =
          let f = fails (leb 2 (length bs)) (in_range (record_length bs)) q in
          let h = leb-true 2 (length bs) f.0 in
          let e = same_length h in
          command-none (bs ++ rest) (λ w.
          let g = range-within (record_length bs) (omega (arith, w.least)) (omega (arith, w.most)) in
          let z : true ≡ false = sym g ∙ f.1 in
          never (cc))
      first false q = second (bad_version bs) refl (ap (λ (t : Bool). t || (bad_version bs || bad_arguments bs)) (sym q) ∙ d)

-- a record that is not whole has no command
pub partial-none : (bs : List ℕ) → length bs < 2 + record_length bs → command_at bs ≡ none
partial-none bs s = command-none bs (λ w. absurd (omega (arith, w.there)))

-- what is read is whole, and the book's command whatever follows
pub found-whole : (bs : List ℕ) → doomed bs ≡ false → 2 + record_length bs ≤ length bs → Wholly bs
found-whole bs d s =
    let r = hopeful_length bs d (omega arith) in
    record { started = omega arith; least = r.0; most = r.1; there = s; version = hopeful_version bs d (omega arith) }

pub found-command : (bs rest : List ℕ) → doomed bs ≡ false → 2 + record_length bs ≤ length bs
    → command_at (bs ++ rest) ≡ some (asked bs (2 + record_length bs) (command_in (get_or bs 3 0) (arguments_in bs)))
found-command bs rest d s =
    let w = found-whole bs d s in
    same-command bs rest w
    ∙ command-whole bs w
    ∙ command-taken bs (get_or bs 3 0)
    ∙ ap (λ (t : Bool). cond t (some (asked bs (2 + record_length bs) (command_in (get_or bs 3 0) (arguments_in bs)))) none)
    (ap (takes (get_or bs 3 0)) (arguments_length bs s) ∙ hopeful_takes bs d (omega (arith, w.least)))
