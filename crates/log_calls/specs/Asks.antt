-- What the search asks of the words and the logs and promises of them and of the list, by name. Assumes nothing.
use Rattle.std.specs.Prelude.{List, ℕ, Result}
use Rattle.layout.specs.declared.Refusal.{Refusal}
use Rattle.modal.specs.declared.Limits.{Limits}
use Rattle.modal.specs.Posts.{view_in}
use Rattle.log_calls.specs.Search.{SearchPre, SearchPost}

-- the words hold a table of these sizes, with the relation and V
abbrev pub SearchAsks : (l : Limits) (words : List ℕ) (relation valid : ℕ) (one two : List ℕ) → Type 0
SearchAsks l words relation valid one two = SearchPre l.bits l.rows l.limit (view_in l words) relation valid one two

-- a run that fits both logs stands in the list, or why none does; `old` is the list before and `new` after
abbrev pub SearchGives : (l : Limits) (before after : List ℕ) (relation valid : ℕ) (one two old new : List ℕ)
    (logged : Result (Unit {0}) Refusal) → Type 0
SearchGives l before after relation valid one two old new logged =
    SearchPost l.bits l.limit (view_in l before) (view_in l after) relation valid one two old new logged
