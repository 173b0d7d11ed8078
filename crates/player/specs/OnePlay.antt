-- ONE ANSWER of a whole list: two plays of the same records on the same words list the same words, node numbers above 1 aside.
-- What is free in the words between two records makes no difference. Assumes nothing.
use Rattle.std.specs.Prelude.{List, [], ◌∷◌, ◌++◌, ℕ, min}
use Rattle.commands.specs.declared.Outcome.{Outcome}
use Rattle.player.specs.Play.{Entry}

-- an outcome's five words; of a node number only whether it is 0, 1 or above
abbrev pub settled_words : Outcome → List ℕ
settled_words x = x.number ∷ min x.node 2 ∷ x.rounds ∷ x.value ∷ x.peak ∷ []

abbrev pub settled_list : List Entry → List ℕ
settled_list [] = []
settled_list (e ∷ l) = settled_words e.outcome ++ settled_list l
