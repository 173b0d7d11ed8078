-- The predicates that stand in the functions' `ensures`, as relations of the lent words before and after: `Demand` speaks of these
-- (`words-demand`). Assumes nothing.
use Rattle.std.specs.Prelude.{◌≡◌, List, ℕ}
use Rattle.book.specs.Book.{Call, Question}
use Rattle.book.specs.Table.{Reply}
use Rattle.book.specs.Contract.{Quiet}
use Rattle.contract.specs.Seen.{seen, SoundWords}
use Rattle.contract.specs.Posts.{FreshPost, CallPost, AskPost}

-- fresh, as a relation of the words before and after
abbrev pub makes : List ℕ → ℕ → ℕ → ℕ → List ℕ → Reply → Type 0
makes old n N count new y = FreshPost n N count old new y

-- a call, as a relation of the words before and after
abbrev pub performs : List ℕ → Call → List ℕ → Reply → Type 0
performs old c new y = CallPost c old new y

-- a call that stores nothing, as a relation of the words before and after
abbrev pub rests : List ℕ → List ℕ → Type 0
rests old new = Quiet SoundWords seen old new

-- a question, as a relation of the words before and after: no word changes
abbrev pub asks : List ℕ → Question → List ℕ → Reply → Type 0
asks old q new y = (new ≡ old) × AskPost q old y
