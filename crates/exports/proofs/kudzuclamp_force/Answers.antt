-- `kudzuclamp_force` meets its contract: it is a set call of the game's bytes. Assumes nothing.
use Rattle.exports.proofs.Games.{force_from_set}
use Rattle.exports.proofs.kudzuclamp_force.Goals as goal

pub returns : goal.returns
returns c =
    force_from_set c.args.place c.args.r c.args.most c.args.goal c.args.guest c.args.machine
    (rw (c.game_target-target.ensures, c.game_bytes-bytes.ensures) at c.kudzuclamp_set.ensures)
