use Rattle.std.proofs.Common.{◌≡◌, take}
use Rattle.kq_catalog_indexes.proofs.tag_entry.with_last.Given as goal

abbrev pub invariant-loop-entry : goal.invariant-loop-entry
invariant-loop-entry l = l.all.items ≡ take l.entry-index l.entries
