use Rattle.std.proofs.Common.{◌-◌, vec_len}
use Rattle.kq_policy_cascade.specs.Steps.{state_of}
use Rattle.kq_policy_cascade.proofs.Cascading.{IsUnderWay}
use Rattle.kq_policy_cascade.proofs.running.cascade.Given as goal

abbrev pub invariant-loop-due : goal.invariant-loop-due
invariant-loop-due g l = IsUnderWay l.limit (g.T.Tables.rules l.tables) (g.T.Tables.gives l.tables) l.dues (record { table = l.table; rows = l.fn.rows; tags = l.fn.tags }) l.asked.items (state_of l.progress)

abbrev pub decreases-loop-due : goal.decreases-loop-due
decreases-loop-due g l = l.limit - vec_len l.asked
