use Rattle.std.proofs.Common.{take}
use Rattle.kq_policy_entries.specs.Search.{AddsSources}
use Rattle.kq_policy_entries.proofs.sources.add_sources.Given as goal

abbrev pub invariant-loop-entry : goal.invariant-loop-entry
invariant-loop-entry l = AddsSources (take l.entry-index l.policy) l.target l.initial.marked.items l.initial.open.items l.marked.items l.open.items
