use Rattle.std.proofs.Common.{◌≤◌, ◌-◌, length}
use Rattle.kq_run_groups.specs.Groups.{Lengthens}
use Rattle.kq_run_groups.proofs.gathered.lengthen.Given as goal

abbrev pub invariant-loop-alloc : goal.invariant-loop-alloc
invariant-loop-alloc l = (length l.states.kept ≤ l.count) × Lengthens (length l.states.kept) l.fn.states l.states × (length l.fn.states.kept ≤ length l.states.kept)

abbrev pub decreases-loop-alloc : goal.decreases-loop-alloc
decreases-loop-alloc l = l.count - length l.states.kept
