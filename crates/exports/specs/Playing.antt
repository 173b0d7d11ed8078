-- What `kudzuclamp_play` gives its caller: `play`'s answer as a number and a count. Assumes nothing.
use Rattle.std.specs.Prelude.{Result, Ok, Err, ◌≡◌, List, ℕ}
use Rattle.player.specs.Play.{PlayPost}
use Rattle.player.specs.declared.Unplayed.{Unplayed}
use Rattle.player.specs.declared.Unplayed.TheVariants.{Short, Unreadable}

-- 0; 100 where there is no room for the outcomes, 101 where a record cannot be read
abbrev pub play_number : Result ℕ Unplayed → ℕ
play_number (Ok n) = 0
play_number (Err Short) = 100
play_number (Err Unreadable) = 101

-- the records obeyed
abbrev pub play_count : Result ℕ Unplayed → ℕ
play_count (Ok n) = n
play_count (Err Short) = 0
play_count (Err Unreadable) = 0

-- what `kudzuclamp_play` promises: `PlayPost`, with its answer as a number and the records obeyed
abbrev pub PlayGiven : List ℕ → List ℕ → List ℕ → List ℕ → List ℕ → ℕ → ℕ → Type 0
PlayGiven bs w w' l l' k n = (x : Result ℕ Unplayed) × PlayPost bs w w' l l' x × (k ≡ play_number x) × (n ≡ play_count x)
