use Rattle.std.proofs.Common.{◌≡◌, drop}
use Rattle.kq_catalog_indexes.specs.Tags.{cursor_at}
use Rattle.kq_catalog_indexes.proofs.tag_entry.find_among.Given as goal

abbrev pub invariant-loop-entry : goal.invariant-loop-entry
invariant-loop-entry l = cursor_at l.entries l.table l.tag ≡ cursor_at (drop l.entry-index l.entries) l.table l.tag
