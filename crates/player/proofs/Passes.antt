-- Reading records one after the other: what was read so far, and what is left. Assumes nothing.
use Rattle.std.specs.Prelude.{Some, None}
use mathlib.Core.Path.{◌≡◌, refl, sym, ap, ◌∙◌, subst}
use mathlib.Core.Bool.{true}
use mathlib.Core.Logic.{◌⊎◌, inl, inr}
use mathlib.Core.List.{List, [], ◌∷◌, ◌++◌, append-nil}
use mathlib.Core.Option.{Option, none, some}
use Prim.Native.Nat.{ℕ, zero, suc, ◌+◌, ◌-◌, ◌≤◌, ◌<◌}
use native.Mathlib.Omega.{arith}
use lib.ListN.{length, take, drop, length-append, length-drop}
use lib.Seq.{drop-drop}
use borrow.Author.Rules.{part_to_end}
use Rattle.book.specs.Program.{Command, record_length, command_at}
use Rattle.records.specs.declared.Command as records
use Rattle.records.specs.declared.Found.{Found}
use Rattle.records.specs.declared.Found.TheVariants.{End, More, Bad, Record}
use Rattle.records.specs.Record.{read_record}
use Rattle.records.proofs.Promises.{record-read, end_read, more-read, bad_read}
use Rattle.player.specs.Play.{added, commands_in, commands, size_in, SizePost, Readable, NextPost}

-- ---- the commands, a record at a time

-- the bytes after the record at the front
abbrev pub after : List ℕ → List ℕ
after bs = drop (2 + record_length bs) bs

after_shorter : (x : ℕ) (xs : List ℕ) → length (after (x ∷ xs)) ≤ length xs
after_shorter x xs = omega (arith, length-drop (2 + record_length (x ∷ xs)) (x ∷ xs))

-- enough fuel is enough
commands_fuel : (f g : ℕ) (bs : List ℕ) → length bs ≤ f → length bs ≤ g → commands_in f bs ≡ commands_in g bs
commands_fuel zero zero bs a b = refl
commands_fuel zero (suc g) [] a b = refl
commands_fuel zero (suc g) (x ∷ xs) a b = absurd (omega arith)
commands_fuel (suc f) zero [] a b = refl
commands_fuel (suc f) zero (x ∷ xs) a b = absurd (omega arith)
commands_fuel (suc f) (suc g) [] a b = refl
commands_fuel (suc f) (suc g) (x ∷ xs) a b =
    ap (added (command_at (x ∷ xs)))
    (commands_fuel f g (after (x ∷ xs)) (omega (arith, after_shorter x xs)) (omega (arith, after_shorter x xs)))

pub commands-next : (bs : List ℕ) → 1 ≤ length bs → commands bs ≡ added (command_at bs) (commands (after bs))
commands-next [] h = absurd (omega arith)
commands-next (x ∷ xs) h =
    ap (added (command_at (x ∷ xs)))
    (commands_fuel (length xs) (length (after (x ∷ xs))) (after (x ∷ xs)) (after_shorter x xs) (omega arith))

pub commands-none : (bs : List ℕ) → length bs ≡ 0 → commands bs ≡ some []
commands-none [] h = refl
commands-none (x ∷ xs) h = absurd (omega arith)

pub none-some : {X : Type 0} {x : X} → none ≡ some x → ⊥
none-some e = let z : ◌≡◌ {A = ℕ} 0 1 = cc in absurd (omega arith)

pub some_inj : {X : Type 0} {x y : X} → some x ≡ some y → x ≡ y
some_inj e = cc

-- bytes of which every record can be read begin with one, and the rest can be read too
pub record Front (bs : List ℕ) (cs : List Command) : Type 0 where
  pub command : Command
  pub others : List Command
  pub read : command_at bs ≡ some command
  pub rest : commands (after bs) ≡ some others
  pub whole : cs ≡ command ∷ others

pub front : (bs : List ℕ) (cs : List Command) → 1 ≤ length bs → commands bs ≡ some cs → Front bs cs
front bs cs h e = go (command_at bs) (commands (after bs)) refl refl (sym (commands-next bs h) ∙ e)
  where
    go : (m : Option Command) (k : Option (List Command)) → command_at bs ≡ m → commands (after bs) ≡ k → added m k ≡ some cs → Front bs cs
    go none k p q i = absurd (none-some i)
    go (some c) none p q i = absurd (none-some i)
    go (some c) (some ds) p q i = record { command = c; others = ds; read = p; rest = q; whole = sym (some_inj i) }

-- ---- what was read, and what is left

-- commands before others, where all can be read
abbrev pub prefixed : List Command → Option (List Command) → Option (List Command)
prefixed [] m = m
prefixed (c ∷ cs) m = added (some c) (prefixed cs m)

prefixed_last : (cs : List Command) (c : Command) (m : Option (List Command)) → prefixed cs (added (some c) m) ≡ prefixed (cs ++ (c ∷ [])) m
prefixed_last [] c m = refl
prefixed_last (d ∷ cs) c m = ap (added (some d)) (prefixed_last cs c m)

prefixed_none : (cs : List Command) → prefixed cs none ≡ none
prefixed_none [] = refl
prefixed_none (c ∷ cs) = ap (added (some c)) (prefixed_none cs)

pub prefixed_some : (cs ds : List Command) → prefixed cs (some ds) ≡ some (cs ++ ds)
prefixed_some [] ds = refl
prefixed_some (c ∷ cs) ds = ap (added (some c)) (prefixed_some cs ds)

-- what is left can be read where all can
pub prefixed_rest : (cs : List Command) (m : Option (List Command)) (all : List Command) → prefixed cs m ≡ some all
    → (ds : List Command) × (m ≡ some ds) × (all ≡ cs ++ ds)
prefixed_rest cs none all e = absurd (none-some (sym (prefixed_none cs) ∙ e))
prefixed_rest cs (some ds) all e = (ds, refl, some_inj (sym e ∙ prefixed_some cs ds))

-- the commands in the first so many bytes, and those left
pub record Passed (bs : List ℕ) (at : ℕ) (cs : List Command) : Type 0 where
  pub within : at ≤ length bs
  pub few : length cs ≤ at
  pub read : commands bs ≡ prefixed cs (commands (drop at bs))

pub passed_none : (bs : List ℕ) → Passed bs 0 []
passed_none bs = record { within = omega arith; few = omega arith; read = refl }

left-some : (bs : List ℕ) (at : ℕ) → at < length bs → 1 ≤ length (drop at bs)
left-some bs at l = omega (arith, length-drop at bs)

-- one record more
pub passed-next : {bs : List ℕ} {at : ℕ} {cs : List Command} (c : Command) (r : ℕ) → Passed bs at cs → at < length bs
    → command_at (drop at bs) ≡ some c
    → r ≡ 2 + record_length (drop at bs) → r ≤ length (drop at bs) → Passed bs (at + r) (cs ++ (c ∷ []))
passed-next {bs} {at} {cs} c r p l e s w = record {
  within = omega (arith, length-drop at bs);
  few = omega (arith, p.few, length-append cs (c ∷ []));
  read =
      p.read
      ∙ ap (prefixed cs)
      (commands-next (drop at bs) (left-some bs at l) ∙ ap (λ (m : Option Command). added m (commands (after (drop at bs)))) e
      ∙ ap (λ (k : List ℕ). added (some c) (commands k)) (ap (λ (k : ℕ). drop k (drop at bs)) (sym s) ∙ drop-drop r at bs))
      ∙ prefixed_last cs c (commands (drop (at + r) bs));
}

-- all of them
pub passed-all : {bs : List ℕ} {at : ℕ} {cs : List Command} → Passed bs at cs → length bs ≤ at → commands bs ≡ some cs
passed-all {bs} {at} {cs} p l =
    p.read ∙ ap (prefixed cs) (commands-none (drop at bs) (omega (arith, length-drop at bs))) ∙ prefixed_some cs []
    ∙ ap some (append-nil cs)

-- a record that cannot be read
pub passed_bad : {bs : List ℕ} {at : ℕ} {cs : List Command} → Passed bs at cs → at < length bs → command_at (drop at bs) ≡ none
    → commands bs ≡ none
passed_bad {bs} {at} {cs} p l e =
    p.read
    ∙ ap (prefixed cs)
    (commands-next (drop at bs) (left-some bs at l) ∙ ap (λ (m : Option Command). added m (commands (after (drop at bs)))) e)
    ∙ prefixed_none cs

-- where all can be read: those left can, and there is one more
pub passed-left : {bs : List ℕ} {at : ℕ} {cs : List Command} (all : List Command) → Passed bs at cs → commands bs ≡ some all
    → at < length bs
    → ((ds : List Command) × (commands (drop at bs) ≡ some ds)) × (length cs + 1 ≤ length all)
passed-left {bs} {at} {cs} all p e l =
    let (ds, i, w) = prefixed_rest cs (commands (drop at bs)) all (sym p.read ∙ e) in
    let f = front (drop at bs) ds (left-some bs at l) i in
    let k : length all ≡ length (cs ++ ds) = ap (λ (x : List Command). length x) w in
    let j : length ds ≡ suc (length f.others) = ap (λ (x : List Command). length x) f.whole in
    ((ds, i), omega (arith, length-append cs ds))

-- ---- the size of a record

pub size-record : (bs : List ℕ) (c : records.Command) (size : ℕ) → read_record bs true ≡ Record c size → SizePost bs (Some size)
size-record bs c size e =
    let r = record-read bs true c size e in
    record {
      is =
          ap Some (sym (length-end (r.length-is [])))
          ∙ sym (ap (λ (m : Option Command). size_in m bs) (at-end (r.command-is [])));
      within = λ k i. let z : size ≡ k = cc in omega (arith, z, r.within);
    }
  where
    at-end : {m : Option Command} → command_at (bs ++ []) ≡ m → command_at bs ≡ m
    at-end i = ap command_at (sym (append-nil bs)) ∙ i

    length-end : {k : ℕ} → 2 + record_length (bs ++ []) ≡ k → 2 + record_length bs ≡ k
    length-end i = ap (λ (l : List ℕ). 2 + record_length l) (sym (append-nil bs)) ∙ i

size_none : (bs : List ℕ) → command_at bs ≡ none → SizePost bs None
size_none bs e = record { is = sym (ap (λ (m : Option Command). size_in m bs) e); within = λ k i. absurd cc }

no_bytes : (bs : List ℕ) → length bs ≡ 0 → command_at bs ≡ none
no_bytes [] h = refl
no_bytes (x ∷ xs) h = absurd (omega arith)

pub size-nothing : (bs : List ℕ) {x : Found} → x ≡ read_record bs true → (x ≡ End) ⊎ ((x ≡ More) ⊎ (x ≡ Bad)) → SizePost bs None
size-nothing bs e (inl i) = size_none bs (no_bytes bs (end_read bs true (sym e ∙ i)).1)
size-nothing bs e (inr (inl i)) = size_none bs (more-read bs true (sym e ∙ i)).2
size-nothing bs e (inr (inr i)) = size_none bs (ap command_at (sym (append-nil bs)) ∙ (bad_read bs true (sym e ∙ i) [] (λ t. refl)).1)

-- a size is a record's
pub record Sized (bs : List ℕ) (r : ℕ) : Type 0 where
  pub command : Command
  pub read : command_at bs ≡ some command
  pub size : r ≡ 2 + record_length bs
  pub within : r ≤ length bs

size-some : (bs : List ℕ) (r : ℕ) → SizePost bs (Some r) → Sized bs r
size-some bs r p = go (command_at bs) refl p.is
  where
    go : (m : Option Command) → command_at bs ≡ m → Some r ≡ size_in m bs → Sized bs r
    go none e i = absurd cc
    go (some c) e i = record { command = c; read = e; size = cc; within = p.within r refl }

no-size : (bs : List ℕ) → SizePost bs None → command_at bs ≡ none
no-size bs p = go (command_at bs) p.is
  where
    go : (m : Option Command) → None ≡ size_in m bs → m ≡ none
    go none i = refl
    go (some c) i = absurd cc

-- ---- the bytes from a place to the end, as a part of the slice

abbrev pub part : List ℕ → ℕ → List ℕ
part bs at = take (length bs - at) (drop at bs)

-- the record read there, and that none was
pub sized-at : (bs : List ℕ) (at : ℕ) {r : ℕ} → SizePost (part bs at) (Some r) → Sized (drop at bs) r
sized-at bs at {r} p = size-some (drop at bs) r (subst (λ (l : List ℕ). SizePost l (Some r)) (part_to_end bs at) p)

pub no-size-at : (bs : List ℕ) (at : ℕ) → SizePost (part bs at) None → command_at (drop at bs) ≡ none
no-size-at bs at p = no-size (drop at bs) (subst (λ (l : List ℕ). SizePost l None) (part_to_end bs at) p)

pub next-at : (bs : List ℕ) (at : ℕ) {w w' l l' : List ℕ} {place r : ℕ} → NextPost (part bs at) w w' l l' place r
    → NextPost (drop at bs) w w' l l' place r
next-at bs at {w} {w'} {l} {l'} {place} {r} = subst (λ (k : List ℕ). NextPost k w w' l l' place r) (part_to_end bs at)

-- what `obey_next` asks for of the bytes left
pub readable_at : {bs : List ℕ} {at : ℕ} {cs : List Command} → Passed bs at cs → Readable bs → at < length bs
    → (1 ≤ length (part bs at)) × Readable (part bs at)
readable_at {bs} {at} p e l =
    subst (λ (k : List ℕ). (1 ≤ length k) × Readable k) (sym (part_to_end bs at)) (left-some bs at l, (passed-left e.0 p e.1 l).0)
