-- The two calls of lent words in plain words. Assumes nothing.
use Rattle.std.specs.Prelude.{◌≡◌, Bool, List, ℕ, ◌^◌}
use Rattle.std.proofs.Math.Option.{some}
use Rattle.mucalculus.specs.Form.{inside}
use Rattle.book.specs.BookOf.{book_of}
use Rattle.contract.specs.Seen.{seen}
use Rattle.games.specs.Meaning.{ForcedSet, AnswerIs, NoAnswerTo}

-- after an answered first call register r holds the set of the game that stood in the words
pub record ForceMeant (r goal guest machine : ℕ) (old new : List ℕ) : Type 0 where
  pub set : List Bool
  pub stored : (book_of (seen new)).reg r ≡ some set
  pub is : ForcedSet (2 ^ (book_of (seen old)).n) (inside ((book_of (seen old)).rel guest)) (inside ((book_of (seen old)).rel machine))
      (inside ((book_of (seen old)).reg goal)) set

-- an answered second call names the least answer that enters earlier; 15 says why there is none
pub record ReactMeant (goal guest machine s t : ℕ) (old : List ℕ) (number value : ℕ) : Type 0 where
  pub set : List Bool
  pub is : ForcedSet (2 ^ (book_of (seen old)).n) (inside ((book_of (seen old)).rel guest)) (inside ((book_of (seen old)).rel machine))
      (inside ((book_of (seen old)).reg goal)) set
  pub answered : number ≡ 0
      → AnswerIs (2 ^ (book_of (seen old)).n) (inside ((book_of (seen old)).rel guest)) (inside ((book_of (seen old)).rel machine))
      (inside ((book_of (seen old)).reg goal)) set s t value
  pub no_answer : number ≡ 15
      → NoAnswerTo (inside ((book_of (seen old)).rel guest)) (inside ((book_of (seen old)).reg goal)) set s t
