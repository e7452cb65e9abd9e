use Rattle.std.proofs.Common.{◌≡◌, drop}
use Rattle.kq_policy_run.specs.Quiet.{gives_one}
use Rattle.kq_policy_run.proofs.quiet.gives_one.Given as goal

abbrev pub invariant-loop-batch : goal.invariant-loop-batch
invariant-loop-batch l = gives_one l.tables (drop l.batch-index l.batches) ≡ gives_one l.tables l.batches
