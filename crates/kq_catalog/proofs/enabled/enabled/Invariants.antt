use Rattle.std.proofs.Common.{◌≡◌, ◌++◌, drop}
use Rattle.kq_catalog_journal.specs.Enabled.{enabled, enabled_from}
use Rattle.kq_catalog.proofs.enabled.enabled.Given as goal

abbrev pub invariant-loop-target : goal.invariant-loop-target
invariant-loop-target l = enabled l.policies ≡ l.dues.items ++ enabled_from l.target (drop l.target l.policies)
