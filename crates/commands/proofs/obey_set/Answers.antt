-- `obey_set`: an answered set's reply, with the count of what it stored, as an outcome. Assumes nothing.
use Rattle.std.proofs.Common.{refl}
use Rattle.commands.proofs.Obeyed.{termed, set_done}
use Rattle.commands.proofs.obey_set.Goals as goal

pub returns-in-Ok : goal.returns-in-Ok
returns-in-Ok c =
    set_done _ _ _ _ _ _ _ _ (termed _ _ _ _ _ _ c.lone_terms.ensures c.in-Ok.ensures) c.states_in-states.ensures refl
