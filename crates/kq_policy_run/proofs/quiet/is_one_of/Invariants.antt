use Rattle.std.proofs.Common.{◌≡◌, drop}
use Rattle.kq_policy_run.specs.Quiet.{is_one_of}
use Rattle.kq_policy_run.proofs.quiet.is_one_of.Given as goal

abbrev pub invariant-loop-other : goal.invariant-loop-other
invariant-loop-other l = is_one_of l.table (drop l.other-index l.tables) ≡ is_one_of l.table l.tables
