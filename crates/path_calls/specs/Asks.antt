-- What the search for a run asks of the words and promises of them and of the list, by name. Assumes nothing.
use Rattle.std.specs.Prelude.{List, ℕ, Result}
use Rattle.layout.specs.declared.Refusal.{Refusal}
use Rattle.modal.specs.declared.Limits.{Limits}
use Rattle.modal.specs.Posts.{view_in}
use Rattle.path_calls.specs.Search.{SearchPre, SearchPost}

-- the words hold a table of these sizes, with the relation and the registers a and b
abbrev pub SearchAsks : (l : Limits) (words : List ℕ) (relation a b : ℕ) → Type 0
SearchAsks l words relation a b = SearchPre l.bits l.rows l.limit (view_in l words) relation a b

-- a shortest run from a to b stands in the list, or why none does; `old` is the list before and `new` after
abbrev pub SearchGives : (l : Limits) (before after old new : List ℕ) (relation a b : ℕ) (found : Result ℕ Refusal) → Type 0
SearchGives l before after old new relation a b found =
    SearchPost l.bits l.limit (view_in l before) (view_in l after) relation a b old new found
