use Rattle.std.proofs.Common.{◌≡◌, ◌++◌, drop}
use Rattle.kq_catalog_journal.specs.Enabled.{enabled_in}
use Rattle.kq_catalog.proofs.enabled.add_policy.Given as goal

-- what is listed, and what is left to list, is the whole
abbrev pub invariant-loop-place : goal.invariant-loop-place
invariant-loop-place l = l.initial.dues.items ++ enabled_in l.target 0 l.entries ≡ l.dues.items ++ enabled_in l.target l.place (drop l.place l.entries)
