-- What steps that store nothing leave of words: the calls that only ask, a shortest run or an answer to a press, end so. Assumes nothing.
use mathlib.Core.Path.{◌≡◌, sym, ap, ◌∙◌, subst}
use mathlib.Core.List.{List}
use mathlib.Core.Option.{none}
use Prim.Native.Nat.{ℕ, ◌+◌, ◌*◌, ◌<◌}
use lib.Dec.{T, eqb}
use Rattle.layout.specs.Refusals.{keeps_all}
use Rattle.layout.specs.Places.{BITS, ROWS, FIRST_REGISTER, FIRST_RELATION}
use Rattle.layout.specs.View.{View, view, header_of}
use Rattle.layout.proofs.Same.{same-beyond}
use Rattle.diagram.specs.Rows.{den}
use Rattle.diagram.specs.Keep.{Keeps}
use Rattle.diagram.proofs.Keep.{keeps_trans, keeps_within}
use Rattle.diagram.proofs.Collect.{collects_keeps}
use Rattle.rows.specs.Used.{rows_of}
use Rattle.rows.specs.Sound.{Sound, table_of}
use Rattle.rows.specs.Filled.{filled}
use Rattle.collect.specs.Answers.{FreeManyPost, few, many}
use Rattle.operations.specs.Work.{OpFrame}
use Rattle.operations.proofs.Work.{op_trans, op_made}
use Rattle.steps.proofs.Steps.{filled-same}
use Rattle.book.specs.Bridge.{set_of, pairs_of}
use Rattle.book.specs.Book.{Book, registers, relations, collect}
use Rattle.book.proofs.Effects.{in-range}
use Rattle.book.specs.Table.{Reply, Shows, roots_of}
use Rattle.book.specs.BookOf.{book_of, stands_for}
use Rattle.book.proofs.BookOf.{whole-book_of, only-book}
use Rattle.book.proofs.Alike.{alike_shows}
use Rattle.book.proofs.Leaves.{shows-rows}
use Rattle.contract.specs.Seen.{arrow_in, seen_in, seen, SoundWords}
use Rattle.contract.proofs.Seen.{sound-shows-book, sound-table}
use Rattle.contract.specs.Kept.{Kept}
use Rattle.contract.proofs.Roots.{root-filled}
use Rattle.formula_steps.proofs.Evaluated.{Left, left_op, left-none, rows_seen, and_no}

-- ---- steps, and rows freed afterwards or not

pub record After (X Z : View) : Type 0 where
  pub sound : Sound Z
  pub frame : OpFrame X Z
  pub kept : Keeps (rows_of X) (rows_of Z) (filled X)

pub freed : {X Y Z : View} → After X Y → FreeManyPost Y Z → After X Z
freed {X} s (few e) = subst (After X) (sym e) s
freed {X} {Y} {Z} s (many f) = record {
  sound = f.sound;
  frame = op_trans s.frame (op_made f.frame);
  kept = keeps_trans s.kept
      (subst (λ (xs : List ℕ). Keeps (rows_of Y) (rows_of Z) xs) (filled-same s.frame) (collects_keeps f.collects));
}

-- ---- what the words say of registers and relations

module _ (old : List ℕ) where
  abbrev W : View
  W = table_of old

  abbrev bk : Book
  bk = book_of (seen old)

  -- what register r and relation t stand for, by their words
  pub register-is : {r x : ℕ} → r < registers → x ≡ header_of old (FIRST_REGISTER + r)
      → bk.reg r ≡ stands_for (set_of (W.header BITS)) (den (2 * W.header BITS) (rows_of W)) (arrow_in x)
  register-is {r} l e =
      in-range _ none r registers l
      ∙ ap (λ (k : ℕ). stands_for (set_of (W.header BITS)) (den (2 * W.header BITS) (rows_of W)) (arrow_in k)) (sym e)

  pub relation-is : {t x : ℕ} → t < relations → x ≡ header_of old (FIRST_RELATION + t)
      → bk.rel t ≡ stands_for (pairs_of (W.header BITS)) (den (2 * W.header BITS) (rows_of W)) (arrow_in x)
  relation-is {t} l e =
      in-range _ none t relations l
      ∙ ap (λ (k : ℕ). stands_for (pairs_of (W.header BITS)) (den (2 * W.header BITS) (rows_of W)) (arrow_in k)) (sym e)

-- ---- the words afterwards

module _ (old new : List ℕ) (y : Reply) (s : SoundWords old) (ok : Sound (view (header_of old ROWS) new))
    (f : OpFrame (table_of old) (view (header_of old ROWS) new))
    (k : Keeps (rows_of (table_of old)) (rows_of (view (header_of old ROWS) new)) (filled (table_of old))) where
  abbrev Z : View
  Z = view (header_of old ROWS) new

  left : Left collect y (table_of old) Z
  left = left_op collect y (left-none collect y (table_of old)) f

  pub same-table : table_of new ≡ Z
  same-table = ap (λ (k : ℕ). view k new) (left.header ROWS (and_no (eqb y.number 0)))

  pub rows-kept : Keeps (seen old).rows (rows_of Z) (roots_of (seen old))
  rows-kept = keeps_within (root-filled (table_of old) s.valid) k

  pub words-kept : (T (keeps_all y.number) → ⊥) → Kept collect y old new
  words-kept n = record {
    all = λ h. absurd (n h);
    size = left.size;
    header = λ h _ e. left.header h e;
    spare = λ i _. left.spare i;
    beyond = same-beyond (header_of old ROWS) new old left.beyond;
    exact = tt;
  }

  shown : Shows (book_of (seen old)) (seen_in Z)
  shown =
      let e : Z.header BITS ≡ header_of old BITS = left.header BITS (and_no (eqb y.number 0)) in
      alike_shows (rows_seen (table_of old) Z f) (book_of (seen old))
      (shows-rows (book_of (seen old)) (seen old) (sound-shows-book old s) (rows_of Z) (rw (← e) ok.good.rows) rows-kept)

  -- the words stand for the same book
  pub same-book : book_of (seen new) ≡ book_of (seen old)
  same-book =
      ap (λ (v : View). book_of (seen_in v)) same-table
      ∙ sym (only-book (book_of (seen old)) (seen_in Z) (whole-book_of (seen old) (sound-table (table_of old) s)) shown)
