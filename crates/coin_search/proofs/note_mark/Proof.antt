-- `note_mark` meets its contract: one bit more, and only for a marked state. Assumes nothing.
use Rattle.coin_search.proofs.NotesLaws.{noted-none, noted_one}
use borrow.Author.Rules.{rules}
use Rattle.coin_search.proofs.note_mark.Statement.{statement}
use Rattle.coin_search.proofs.note_mark.Tie as tie
use Rattle.coin_search.proofs.note_mark.Reads as reads
use Rattle.coin_search.proofs.note_mark.Lts as lts
use Rattle.coin_search.proofs.mark_of.Reads as mark-of-reads

pub note_mark_spec : {M : Type 1} → statement M
note_mark_spec =
    tie.close
    (tie.spec
    (λ c κs. search rules)
    (λ c. noted-none _ _ _ _ _)
    (λ c. search rules)
    (λ c. search rules)
    (λ c. search rules)
    (λ c. search rules)
    (λ c. search rules)
    (λ c. search rules)
    (λ c. noted_one _ _ _ _ _ c.requires.1 c.requires.2 c.mark_of.ensures c.if-mark_of-eq0.false))
