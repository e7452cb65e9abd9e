use Rattle.std.proofs.Common.{take}
use Rattle.kq_policy_entries.specs.Entries.{AreEntries}
use Rattle.kq_catalog_journal.specs.History.{log}
use Rattle.kq_policy_entries.proofs.read.bind_entries.Given as goal

abbrev pub invariant-loop-i : goal.invariant-loop-i
invariant-loop-i g l = AreEntries (g.N.Names.known l.names) (log l.snapshot.history) l.target (take l.i l.elements) l.entries.items
