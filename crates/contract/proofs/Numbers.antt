-- "The sameness of numbers covers old sets together with new ones": on any sound words, however their registers were filled, two filled
-- registers have one number exactly where they stand for one set. Assumes nothing.
use mathlib.Core.Path.{◌≡◌}
use mathlib.Core.Logic.{◌↔◌}
use mathlib.Core.Bool.{Bool}
use mathlib.Core.List.{List}
use mathlib.Core.Option.{some}
use Prim.Native.Nat.{ℕ, ◌<◌}
use Rattle.rows.specs.Sound.{table_of}
use Rattle.book.specs.Book.{registers}
use Rattle.book.specs.BookOf.{book_of}
use Rattle.book.proofs.BookOf.{whole-book_of}
use Rattle.book.proofs.Demand.{same_number}
use Rattle.contract.specs.Seen.{seen, SoundWords}
use Rattle.contract.proofs.Seen.{sound-table, sound-shows-book}

-- on sound words two filled registers have one number exactly where they hold one set
pub numbers-agree : (ws : List ℕ) → SoundWords ws → (r q : ℕ) → r < registers → q < registers → (A B : List Bool) (x y : ℕ)
    → (book_of (seen ws)).reg r ≡ some A → (book_of (seen ws)).reg q ≡ some B → (seen ws).reg r ≡ some x → (seen ws).reg q ≡ some y
    → (x ≡ y) ↔ (A ≡ B)
numbers-agree ws s = same_number (book_of (seen ws)) (seen ws) (whole-book_of (seen ws) (sound-table (table_of ws) s)) (sound-shows-book ws s)
