-- 8, exactly: for each set or relation call that no check refuses, the number is 8 where the peak over the steps within the rounds is above
-- N, and nowhere else. Assumes nothing.
use Rattle.std.specs.Prelude.{◌≡◌, ◌↔◌, ℕ, ◌<◌, T}
use Rattle.mucalculus.specs.Form.{no_env}
use Rattle.tokens.specs.declared.Kind.TheVariants.{Relation, Set, Valid}
use Rattle.accounts.specs.Terms.{named, rows_under, rounds_under}
use Rattle.book.specs.Over.{states, pairs}
use Rattle.book.specs.Ticks.{ticks, relation_ticks, within_rounds, peak}
use Rattle.book.specs.Book.{formula_in, Book, Call, relation, set, valid, clear, collect, unfilled, registers, relations, model_of}
use Rattle.book.specs.Book.{live_of, checks}

-- "refused as full exactly when, at a step of document 01 reached within its rounds, the live sets and that step's result need more rows
-- than the table has": "when its peak, over the steps reached within its rounds, would pass N", and under an account the smaller row
-- figure; the claim for a call and the number k that it returned
abbrev pub EightAt : Book → Call → ℕ → Type 0
EightAt b (relation t bs) k =
    t < relations → checks b Relation bs ≡ 0
    → (k ≡ 8) ↔ (b.N < peak (within_rounds 0 0 (relation_ticks b.n (live_of b) b.valid (formula_in b Relation bs))))
EightAt b (set acc r R bs) k =
    r < registers → T (named acc) → checks b Set bs ≡ 0
    → (k ≡ 8)
    ↔ (rows_under b.N acc
    < peak (within_rounds (rounds_under R acc) 0 (ticks (states (model_of b) no_env) (live_of b) (formula_in b Set bs))))
-- "it is full by the same row rule as a relation call"
EightAt b (valid bs) k =
    T (unfilled b) → checks b Valid bs ≡ 0
    → (k ≡ 8) ↔ (b.N < peak (within_rounds 0 0 (ticks (pairs b.n) (live_of b) (formula_in b Valid bs))))
EightAt b (clear r) k = Unit {0}
EightAt b collect k = Unit {0}
