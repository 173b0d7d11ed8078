-- `goals_of`: the goals among the states below j. Assumes nothing.
use Rattle.coin_search.specs.Gather.{Gathered}
use Rattle.coin_search.proofs.goals_of.Given as goal

abbrev pub invariant-loop-j : goal.invariant-loop-j
invariant-loop-j l = Gathered l.low l.work l.q l.m l.j l.goals
