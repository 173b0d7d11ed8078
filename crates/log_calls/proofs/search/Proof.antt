-- `search` meets its contract: after forgetting, the table holds the scene of its own book; freeing keeps what registers and relations
-- need. Assumes nothing.
use mathlib.Core.Path.{refl, ◌∙◌}
use Rattle.path_calls.proofs.Opened.{start-base}
use Rattle.log_calls.proofs.Searching.{search-asks, search_frees, search-done}
use borrow.Author.Rules.{rules}
use Rattle.log_calls.proofs.search.Statement.{statement}
use Rattle.log_calls.proofs.search.Tie as tie
use Rattle.log_calls.proofs.search.Reads as reads
use Rattle.log_calls.proofs.search.Lts as lts
use Rattle.collect.proofs.free_many.Reads as free-many-reads
use Rattle.counting.proofs.begin.Reads as begin-reads
use Rattle.memory.proofs.forget.Reads as forget-reads
use Rattle.moments.proofs.find_logged.Reads as find-logged-reads

pub search_spec : {M : Type 1} → statement M
search_spec =
    tie.close
    (tie.spec
    (λ c κs. search rules)
    (λ c. search rules)
    (λ c κs. (
      (start-base c.requires.opens c.forget.ensures).sound,
      refl,
    ))
    (λ c. search rules)
    (λ c κs. (
      search-asks c.requires c.forget.ensures,
      c.begin.ensures,
    ))
    (λ c κs. search_frees c.requires c.forget.ensures c.args.list.now c.find_logged-found.ensures)
    (λ c. search rules)
    (λ c. search rules)
    (λ c. search-done c.requires c.forget.ensures c.args.list.now c.find_logged-found.ensures c.free_many.ensures))
