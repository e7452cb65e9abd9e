use Rattle.std.proofs.Common.{◌≡◌, ◌++◌, drop}
use Rattle.kq_catalog_journal.specs.History.{log}
use Rattle.kq_policy_run.specs.Quiet.{looked}
use Rattle.kq_policy_run.proofs.lookups.looked.Given as goal

abbrev pub invariant-loop-due : goal.invariant-loop-due
invariant-loop-due l = l.tables.items ++ looked (log l.snapshot.history) (drop l.due-index l.asked) ≡ looked (log l.snapshot.history) l.asked
