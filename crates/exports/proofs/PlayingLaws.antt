-- Laws of what specs/Playing.antt defines. Assumes nothing.
use Rattle.std.specs.Prelude.{Result}
use mathlib.Core.Path.{◌≡◌, refl, subst}
use mathlib.Core.List.{List}
use Prim.Native.Nat.{ℕ}
use Rattle.player.specs.Play.{PlayPost}
use Rattle.player.specs.declared.Unplayed.{Unplayed}
use Rattle.exports.specs.Playing.{play_number, play_count, PlayGiven}

-- what was matched
pub play-given : (bs w w' l l' : List ℕ) {x : Result ℕ Unplayed} (y : Result ℕ Unplayed) → PlayPost bs w w' l l' x → x ≡ y
    → PlayGiven bs w w' l l' (play_number y) (play_count y)
play-given bs w w' l l' y p e = (y, subst (PlayPost bs w w' l l') e p, refl, refl)
