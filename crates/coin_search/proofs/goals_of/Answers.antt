-- `goals_of`: one state after the other. Assumes nothing.
use Rattle.std.proofs.Common.{arith}
use Rattle.coin_search.proofs.GatherLaws.{upper_is, goal-asks, gathered_next}
use Rattle.coin_search.proofs.goals_of.Goals as goal

pub goal_bit-goals-requires : goal.goal_bit-goals-requires
goal_bit-goals-requires c = goal-asks c.requires c.loop-j.j (let u = upper_is c.requires in omega arith)

pub loop-j-preserved : goal.loop-j-preserved
loop-j-preserved c =
    gathered_next c.requires c.loop-j.j (let u = upper_is c.requires in omega arith) c.loop-j.invariant c.goal_bit-goals.ensures
